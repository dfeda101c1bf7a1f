-- `answers::distinct` meets its contract: what is kept and what is left come to the whole. Assumes nothing.
use lib.ListN.{length}
use Rattle.cells.specs.Cells.{cells}
use Rattle.scan.specs.Tables.{program_of}
use Rattle.answers.specs.Different.{Sorted}
use Rattle.answers.proofs.distinct.Given as goal

abbrev pub invariant-loop-i : goal.invariant-loop-i
invariant-loop-i l = Sorted (program_of l.program) (cells l.handlers) (length l.initial.kept) l.count l.i l.kept
