-- `layout::finish` meets its contract. The loop carries `Copying`. Assumes nothing.
use Rattle.layout.specs.Reads.{Copying}
use Rattle.layout.proofs.finish.Given as goal

abbrev pub invariant-loop-i : goal.invariant-loop-i
invariant-loop-i l = Copying l.kept l.numbers l.initial.inner l.i l.inner
