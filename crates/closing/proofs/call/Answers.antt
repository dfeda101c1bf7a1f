-- `closing::call` meets its contract: laws of CallLaws, with the facts in hand given by their paths. Assumes nothing.
use native.Mathlib.Omega.{arith}
use Rattle.closing.specs.CallLaws.{call_few, call_settles, call_ends, call_tops, call_copies, call_given, call_fails, call_failed, call_calls, call_over_lem, call_closes}
use Rattle.calls.specs.Calling.{call_begins}
use mathlib.Core.Bool.{true}
use Rattle.std.proofs.Common.{ap, not}
use Rattle.closing.specs.Results.{closes_as}
use Rattle.closing.proofs.call.Goals as goal

pub settle-requires : goal.settle-requires
settle-requires c = call_settles true c.requires

pub returns-then-n-g : goal.returns-then-n-g
returns-then-n-g c = call_few true c.if-n-g.true c.settle.ensures

pub top-f-requires : goal.top-f-requires
top-f-requires c = call_tops true c.requires c.if-n-g.false

pub fail-failed-requires : goal.fail-failed-requires
fail-failed-requires c = call_fails true c.if-n-g.false c.top-f.ensures c.callable.ensures (ap not c.if-not-callable.true) c.left_of-left.ensures c.type_of.ensures c.meta_un_operator-error.ensures c.requires

pub returns-then-not-callable : goal.returns-then-not-callable
returns-then-not-callable c = closes_as (grind arith) (call_failed true c.if-n-g.false c.top-f.ensures c.callable.ensures (ap not c.if-not-callable.true) c.left_of-left.ensures c.type_of.ensures c.meta_un_operator-error.ensures c.fail-failed.ensures)

pub end-requires : goal.end-requires
end-requires c = call_ends true c.requires

pub copy-requires : goal.copy-requires
copy-requires c = call_copies true c.requires c.if-n-g.false c.end.ensures

pub frame_of-requires : goal.frame_of-requires
frame_of-requires c = call_calls c.if-n-g.false c.top-f.ensures c.callable.ensures c.left_of-left.ensures c.requires

pub start-requires : goal.start-requires
start-requires c = call_over_lem c.if-n-g.false c.top-f.ensures c.callable.ensures c.left_of-left.ensures (ap not c.if-not-callable.false) c.end.ensures c.copy.ensures c.end-2.ensures (call_begins _ _ _ _ _ _ _ (call_given true c.requires c.if-n-g.false c.copy.ensures) c.frame_of.ensures c.in-Some.is) c.requires

pub returns-in-Some : goal.returns-in-Some
returns-in-Some c = closes_as (grind arith) (call_closes c.if-n-g.false c.top-f.ensures c.callable.ensures c.left_of-left.ensures (ap not c.if-not-callable.false) c.end.ensures c.copy.ensures c.end-2.ensures (call_begins _ _ _ _ _ _ _ (call_given true c.requires c.if-n-g.false c.copy.ensures) c.frame_of.ensures c.in-Some.is) c.start.ensures)

pub call_function-plan-requires : goal.call_function-plan-requires
call_function-plan-requires c = call_calls c.if-n-g.false c.top-f.ensures c.callable.ensures c.left_of-left.ensures c.requires

pub over-requires : goal.over-requires
over-requires c = call_over_lem c.if-n-g.false c.top-f.ensures c.callable.ensures c.left_of-left.ensures (ap not c.if-not-callable.false) c.end.ensures c.copy.ensures c.end-2.ensures c.call_function-plan.ensures c.requires

pub returns : goal.returns
returns c = closes_as (grind arith) (call_closes c.if-n-g.false c.top-f.ensures c.callable.ensures c.left_of-left.ensures (ap not c.if-not-callable.false) c.end.ensures c.copy.ensures c.end-2.ensures c.call_function-plan.ensures c.over.ensures)
