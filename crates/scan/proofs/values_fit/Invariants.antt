-- `scan::values_fit` meets its contract. Assumes nothing.
use Rattle.memory.specs.Tests.{value_fits}
use Rattle.scan.specs.Tables.{program_of, cells_of}
use Rattle.scan.specs.Passed.{Passed}
use Rattle.scan.proofs.values_fit.Given as goal

abbrev pub invariant-loop-i : goal.invariant-loop-i
invariant-loop-i l = Passed (value_fits (program_of l.program) (cells_of l.objects) l.objects.below) l.x l.from l.n l.i
