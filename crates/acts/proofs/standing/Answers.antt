-- `acts::standing` meets its contract: `Standing` has what the reads need. Assumes nothing.
use mathlib.Core.Path.{ap}
use native.Mathlib.Omega.{arith}
use Rattle.cells.specs.Cells.{cells}
use Rattle.cells.specs.CellsLaws.{length_cells}
use Rattle.moves.specs.Runs.{end_of}
use Rattle.moves.specs.declared.Running.{Running}
use Rattle.acts.specs.Eased.{standing_is}
use Rattle.acts.proofs.standing.Goals as goal

pub open-g-requires : goal.open-g-requires
open-g-requires c = omega (arith, c.requires.inside, length_cells c.args.live.now)

pub end-requires : goal.end-requires
end-requires c = let p = c.requires in omega (arith, p.inside, p.small, ap (λ (g : Running). end_of g) c.open-g.ensures.0)

pub returns : goal.returns
returns c = let a = c.args in
    standing_is (cells a.live.now) a.starts.now a.frames a.store c.open-g.ensures.0 c.end.ensures
