-- `utf8::is_ascii_block` meets its contract. The loop carries `Joined`. Assumes nothing.
use Rattle.utf8.specs.Laws.{Joined}
use Rattle.utf8.proofs.is_ascii_block.Given as goal

abbrev pub invariant-loop-k : goal.invariant-loop-k
invariant-loop-k l = Joined l.s l.i 32 l.joint l.k
