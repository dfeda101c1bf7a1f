-- `blocks::copy` meets its contract: the loop keeps `Copied`. Assumes nothing.
use Rattle.blocks.proofs.Copied.{copied_none, copied_from, copied_all}
use borrow.Author.Rules.{rules}
use Rattle.blocks.proofs.copy.Goals as goal

pub loop-copied-init : goal.loop-copied-init
loop-copied-init c = copied_none _ _ _

pub loop-copied-preserved : goal.loop-copied-preserved
loop-copied-preserved c = copied_from _ _ _ (search rules) (search rules) c.get-c.ensures.0 c.loop-copied.invariant c.put.ensures

pub returns : goal.returns
returns c = copied_all c.args.n (search rules) c.loop-copied.invariant
