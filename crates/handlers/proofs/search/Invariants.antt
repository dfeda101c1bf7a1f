-- `handlers::search` meets its contract. Assumes nothing.
use Rattle.cells.specs.Cells.{cells}
use Rattle.scan.specs.Tables.{program_of}
use Rattle.handlers.specs.Stacks.{Left}
use Rattle.handlers.proofs.search.Given as goal

abbrev pub invariant-loop-i : goal.invariant-loop-i
invariant-loop-i l = Left (program_of l.program) l.e l.frames (cells l.live) l.starts l.i
