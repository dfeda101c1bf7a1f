-- `scan::handlers_fit` meets its contract. Assumes nothing.
use Rattle.scan.specs.Tables.{program_of, cells_of}
use Rattle.scan.specs.Passed.{Handlers}
use Rattle.scan.proofs.handlers_fit.Given as goal

abbrev pub invariant-loop-i : goal.invariant-loop-i
invariant-loop-i l = Handlers (program_of l.program) (cells_of l.objects) l.objects.below l.limit l.x l.from l.n l.i
