-- `blocks::raise` meets its contract: the loop keeps `Copied`, the last cell first. Assumes nothing.
use Rattle.blocks.proofs.Copied.{raised_none, raised_more, raised_all}
use native.Mathlib.Omega.{arith}
use borrow.Author.Rules.{rules}
use Rattle.blocks.proofs.raise.Goals as goal

pub loop-left-init : goal.loop-left-init
loop-left-init c = raised_none _ _ _ _

pub loop-left-preserved : goal.loop-left-preserved
loop-left-preserved c = raised_more _ _ _ _ _ (omega (arith, c.loop-left-test.true)) (search rules) (search rules) (search rules) c.get-c.ensures.0 c.loop-left.invariant c.put.ensures

pub returns : goal.returns
returns c = raised_all _ _ _ _ (search rules) c.loop-left.invariant
