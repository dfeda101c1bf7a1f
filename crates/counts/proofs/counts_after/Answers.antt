-- `counts::counts_after` meets its contract: for each plan a law gives what its numbers need, and one that they are what it leaves. Assumes nothing.
use native.Mathlib.Omega.{arith}
use Rattle.counts.specs.PlanLaws.{starts_needs, resumes_needs, handles_needs, catches_needs, receives_needs, starts_leaves, resumes_leaves, handles_leaves, catches_leaves, unhandled_leaves, fails_leaves, receives_leaves, returns_leaves, stays_leaves}
use borrow.Author.Rules.{rules}
use Rattle.counts.proofs.counts_after.Goals as goal

pub overflow_cast-f : goal.overflow_cast-f
overflow_cast-f c = omega arith

pub started-requires : goal.started-requires
started-requires c = starts_needs c.requires c.in-Starts.is (search rules)

pub resumed-requires : goal.resumed-requires
resumed-requires c = search resumes_needs

pub handled-requires : goal.handled-requires
handled-requires c = handles_needs c.requires c.in-Handles.is

pub handled-requires-in-Catches : goal.handled-requires-in-Catches
handled-requires-in-Catches c = catches_needs c.requires c.in-Catches.is

pub overflow_add-result : goal.overflow_add-result
overflow_add-result c = omega arith

pub received-requires : goal.received-requires
received-requires c = search receives_needs

pub returns-in-Starts : goal.returns-in-Starts
returns-in-Starts c = search starts_leaves

pub returns-in-Resumes : goal.returns-in-Resumes
returns-in-Resumes c = search resumes_leaves

pub returns-in-Handles : goal.returns-in-Handles
returns-in-Handles c = search handles_leaves

pub returns-in-Catches : goal.returns-in-Catches
returns-in-Catches c = search catches_leaves

pub returns-in-Unhandled : goal.returns-in-Unhandled
returns-in-Unhandled c = search unhandled_leaves

pub returns-in-Fails : goal.returns-in-Fails
returns-in-Fails c = search fails_leaves

pub returns-in-Receives : goal.returns-in-Receives
returns-in-Receives c = search receives_leaves

pub returns-in-Returns : goal.returns-in-Returns
returns-in-Returns c = search returns_leaves

pub returns-in-Stays : goal.returns-in-Stays
returns-in-Stays c = search stays_leaves
