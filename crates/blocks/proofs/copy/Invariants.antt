-- `blocks::copy` meets its contract: the loop keeps `Copied`. Assumes nothing.
use lib.ListN.{drop}
use Rattle.cells.specs.Cells.{cells}
use Rattle.blocks.proofs.Copied.{Copied}
use Rattle.blocks.proofs.copy.Given as goal

abbrev pub invariant-loop-copied : goal.invariant-loop-copied
invariant-loop-copied l = Copied l.initial.to l.at (drop l.start (cells l.from)) l.copied l.to
