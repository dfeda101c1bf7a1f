-- `blocks::lower` meets its contract: the loop keeps `Copied`. Assumes nothing.
use Rattle.blocks.proofs.Copied.{copied_none, copied_lower, copied_all}
use borrow.Author.Rules.{rules}
use Rattle.blocks.proofs.lower.Goals as goal

pub loop-moved-init : goal.loop-moved-init
loop-moved-init c = copied_none _ _ _

pub loop-moved-preserved : goal.loop-moved-preserved
loop-moved-preserved c = copied_lower _ _ (search rules) (search rules) c.get-c.ensures.0 c.loop-moved.invariant c.put.ensures

pub returns : goal.returns
returns c = copied_all c.args.n (search rules) c.loop-moved.invariant
