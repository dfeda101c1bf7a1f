-- `groups::finish` meets its contract: laws of NeedLaws and EndLaws. Assumes nothing.
use native.Mathlib.Omega.{arith}
use Rattle.groups.specs.NeedLaws.{finish_settles, finish_ends, finish_fails, finish_closes}
use Rattle.groups.specs.EndLaws.{finishes_paused, finishes_spent, finishes_refused, finishes_throws, finishes_closes}
use Rattle.groups.proofs.finish.Goals as goal

pub end-requires : goal.end-requires
end-requires c = finish_ends c.requires

pub settle-requires : goal.settle-requires
settle-requires c = finish_settles c.requires

pub settle-requires-in-Spent : goal.settle-requires-in-Spent
settle-requires-in-Spent c = finish_settles c.requires

pub settle-requires-in-Refused : goal.settle-requires-in-Refused
settle-requires-in-Refused c = finish_settles c.requires

pub fail-thrown-requires : goal.fail-thrown-requires
fail-thrown-requires c = search finish_fails

pub close-a-requires : goal.close-a-requires
close-a-requires c = search finish_closes

pub returns-in-Paused : goal.returns-in-Paused
returns-in-Paused c = search finishes_paused

pub returns-in-Spent : goal.returns-in-Spent
returns-in-Spent c = search finishes_spent

pub returns-in-Refused : goal.returns-in-Refused
returns-in-Refused c = search finishes_refused

pub returns-in-Throws : goal.returns-in-Throws
returns-in-Throws c = finishes_throws c.end.ensures c.in-Throws.is c.fail-thrown.ensures (grind arith) c.acted.ensures

pub returns-in-Closes : goal.returns-in-Closes
returns-in-Closes c = search finishes_closes
