-- `placing::last_frame` meets its contract: `Walks` says where the walk ends. Assumes nothing.
use mathlib.Core.Path.{◌≡◌, ap}
use Prim.Native.Nat.{◌+◌, ◌-◌}
use native.Mathlib.Omega.{arith}
use Rattle.moves.specs.Runs.{end_of}
use Rattle.moves.specs.Objects.{walks_on, walks_fits, walks_done}
use Rattle.moves.specs.declared.Running.{Running}
use borrow.Author.Rules.{rules}
use Rattle.placing.proofs.last_frame.Goals as goal

pub open-requires : goal.open-requires
open-requires c = omega (arith, walks_fits c.loop.invariant (search rules), c.requires.1)

pub end-at-requires : goal.end-at-requires
end-at-requires c = omega (arith, ap (λ (g : Running). end_of g) c.«open».ensures.0, walks_fits c.loop.invariant (search rules), c.requires.1)

pub loop-preserved : goal.loop-preserved
loop-preserved c =
    let e : c.args.count + 1 - c.loop.counter - 1 ≡ c.args.count + 1 - (c.loop.counter + 1) = omega arith in
    rw e at (walks_on c.loop.invariant (search rules) c.«open».ensures.0 c.end-at.ensures)

pub returns : goal.returns
returns c = walks_done c.loop.invariant (search rules)
