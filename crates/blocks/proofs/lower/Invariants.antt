-- `blocks::lower` meets its contract: the loop keeps `Copied`. Assumes nothing.
use lib.ListN.{drop}
use Rattle.cells.specs.Cells.{cells}
use Rattle.blocks.proofs.Copied.{Copied}
use Rattle.blocks.proofs.lower.Given as goal

abbrev pub invariant-loop-moved : goal.invariant-loop-moved
invariant-loop-moved l = Copied l.initial.s l.to (drop l.from (cells l.initial.s)) l.moved l.s
