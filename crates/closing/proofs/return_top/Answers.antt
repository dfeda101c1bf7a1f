-- `closing::return_top` meets its contract: laws of ReturnLaws, one for each need and each return. Assumes nothing.
use native.Mathlib.Omega.{arith}
use Rattle.calls.specs.Calling.{return_more}
use Rattle.closing.specs.ReturnLaws.{return_few, return_settles, return_tops, return_below, return_closes}
use Rattle.closing.specs.Results.{closes_as}
use Rattle.closing.proofs.return_top.Goals as goal

pub settle-requires : goal.settle-requires
settle-requires c = search return_settles

pub returns-then-g-eq0 : goal.returns-then-g-eq0
returns-then-g-eq0 c = search return_few

pub top-v-requires : goal.top-v-requires
top-v-requires c = return_tops c.requires c.if-g-eq0.false

pub receive-requires : goal.receive-requires
receive-requires c = return_below (return_more _ c.if-under-ne0.true) c.requires

pub returns-then-under-ne0 : goal.returns-then-under-ne0
returns-then-under-ne0 c P x = closes_as (grind arith) (return_closes (return_more _ c.if-under-ne0.true) c.top-v.ensures c.if-g-eq0.false c.receive.ensures P x)

pub below-requires : goal.below-requires
below-requires c = search return_below

pub returns : goal.returns
returns c P x = closes_as (grind arith) (return_closes c.return_value-plan.ensures c.top-v.ensures c.if-g-eq0.false c.below.ensures P x)
