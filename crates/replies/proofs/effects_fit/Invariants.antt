-- `replies::effects_fit` meets its contract. Assumes nothing.
use Rattle.cells.specs.Cells.{cells}
use Rattle.memory.specs.Tests.{effect_fits}
use Rattle.scan.specs.Tables.{program_of}
use Rattle.scan.specs.Passed.{Passed}
use Rattle.replies.proofs.effects_fit.Given as goal

abbrev pub invariant-loop-i : goal.invariant-loop-i
invariant-loop-i l = Passed (effect_fits (program_of l.program) (cells l.store) l.used) l.x 0 l.n l.i
