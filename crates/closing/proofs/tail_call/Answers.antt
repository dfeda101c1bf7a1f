-- `closing::tail_call` meets its contract: laws of CallLaws, with the facts in hand given by their paths. Assumes nothing.
use native.Mathlib.Omega.{arith}
use Rattle.closing.specs.CallLaws.{call_few, call_settles, call_ends, call_tops, call_copies, call_fails, call_failed, tail_calls_lem, tail_below, tail_closes}
use mathlib.Core.Bool.{false}
use Rattle.std.proofs.Common.{ap, not}
use Rattle.closing.specs.Results.{closes_as}
use Rattle.closing.proofs.tail_call.Goals as goal

pub settle-requires : goal.settle-requires
settle-requires c = call_settles false c.requires

pub returns-then-n-g : goal.returns-then-n-g
returns-then-n-g c = call_few false c.if-n-g.true c.settle.ensures

pub top-f-requires : goal.top-f-requires
top-f-requires c = call_tops false c.requires c.if-n-g.false

pub fail-thrown-requires : goal.fail-thrown-requires
fail-thrown-requires c = call_fails false c.if-n-g.false c.top-f.ensures c.callable.ensures (ap not c.if-not-callable.true) c.left_of-left.ensures c.type_of.ensures c.meta_un_operator-error.ensures c.requires

pub returns-then-not-callable : goal.returns-then-not-callable
returns-then-not-callable c = closes_as (grind arith) (call_failed false c.if-n-g.false c.top-f.ensures c.callable.ensures (ap not c.if-not-callable.true) c.left_of-left.ensures c.type_of.ensures c.meta_un_operator-error.ensures c.fail-thrown.ensures)

pub end-requires : goal.end-requires
end-requires c = call_ends false c.requires

pub copy-requires : goal.copy-requires
copy-requires c = call_copies false c.requires c.if-n-g.false c.end.ensures

pub call_function-plan-requires : goal.call_function-plan-requires
call_function-plan-requires c = tail_calls_lem c.if-n-g.false c.top-f.ensures c.callable.ensures c.requires

pub below-requires : goal.below-requires
below-requires c = tail_below c.if-n-g.false c.top-f.ensures c.callable.ensures (ap not c.if-not-callable.false) c.end.ensures c.copy.ensures c.call_function-plan.ensures c.requires

pub returns : goal.returns
returns c = closes_as (grind arith) (tail_closes c.if-n-g.false c.top-f.ensures c.callable.ensures (ap not c.if-not-callable.false) c.end.ensures c.copy.ensures c.call_function-plan.ensures c.below.ensures)
