-- `utf8::past_ascii` meets its contract. The loop carries `Passed`. Assumes nothing.
use Rattle.utf8.specs.Ascii.{Passed}
use Rattle.utf8.proofs.past_ascii.Given as goal

abbrev pub invariant-loop-i : goal.invariant-loop-i
invariant-loop-i l = Passed l.s l.from l.i
