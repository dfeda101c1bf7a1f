-- `answers::distinct` meets its contract: what is kept and what is left come to the whole. Assumes nothing.
use Rattle.answers.specs.Different.{sorted_none, sorted_more, distinct_many, distinct_few}
use Rattle.answers.proofs.distinct.Goals as goal

pub loop-i-init : goal.loop-i-init
loop-i-init c = sorted_none _ _ _

pub returns-in_err-count : goal.returns-in_err-count
returns-in_err-count c = rw c.from_residual.ensures (distinct_many _ c.loop-i.invariant c.room-all.ensures c.loop-i-test.true c.get-e.ensures c.keep.ensures c.in_err-count.was)

pub loop-i-preserved : goal.loop-i-preserved
loop-i-preserved c = sorted_more _ c.loop-i.invariant c.room-all.ensures c.loop-i-test.true c.get-e.ensures c.keep.ensures c.in_ok-count.was c.keep.auto.kept

pub returns : goal.returns
returns c = search distinct_few
