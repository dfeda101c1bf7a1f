-- `blocks::fill` meets its contract: the loop keeps `Copied`. Assumes nothing.
use lib.ListN.{replicate}
use Rattle.blocks.proofs.Copied.{Copied}
use Rattle.blocks.proofs.fill.Given as goal

abbrev pub invariant-loop-filled : goal.invariant-loop-filled
invariant-loop-filled l = Copied l.initial.s l.at (replicate l.n l.c) l.filled l.s
