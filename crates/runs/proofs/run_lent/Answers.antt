-- `runs::run_lent` meets its contract: a wait is out of turn, else the groups run and the state block shows what they leave. Assumes nothing.
use Rattle.runs.specs.LentLaws.{lent_starts, lent_live, lent_groupable, lent_leavable, lent_waits, lent_ends, lent_turn}
use Rattle.groups.specs.StandLaws.{waits_host}
use Rattle.groups.specs.Grouped.{code_of}
use mathlib.Core.Path.{ap}
use native.Mathlib.Omega.{arith}
use borrow.Author.Rules.{rules}
use Rattle.runs.proofs.run_lent.Goals as goal

pub starts-end-requires : goal.starts-end-requires
starts-end-requires c = lent_starts c.requires c.frames-frames.ensures

pub overflow_add-c : goal.overflow_add-c
overflow_add-c c = omega (arith, lent_live c.requires c.frames-frames.ensures c.starts-end.ensures c.payload.ensures)

pub returns-then-waits : goal.returns-then-waits
returns-then-waits c = lent_turn c.requires c.waits.ensures c.if-waits.true

pub run-r-requires : goal.run-r-requires
run-r-requires c = lent_groupable c.requires c.frames-frames.ensures c.starts-end.ensures (search rules) c.payload.ensures c.used.ensures c.slice-left.ensures (search rules)

pub leave-requires : goal.leave-requires
leave-requires c = lent_leavable c.requires c.frames-frames.ensures c.starts-end.ensures (search) c.payload.ensures c.used.ensures c.slice-left.ensures c.run-r.ensures

pub returns-in-Host : goal.returns-in-Host
returns-in-Host c = lent_waits c.requires c.frames-frames.ensures c.starts-end.ensures (search) c.payload.ensures c.used.ensures c.slice-left.ensures c.run-r.ensures c.waits.ensures c.if-waits.false (ap code_of c.in-Host.is) c.leave.ensures

pub leave-requires-2 : goal.leave-requires-2
leave-requires-2 c = lent_leavable c.requires c.frames-frames.ensures c.starts-end.ensures (search) c.payload.ensures c.used.ensures c.slice-left.ensures c.run-r.ensures

pub returns : goal.returns
returns c = lent_ends c.requires c.frames-frames.ensures c.starts-end.ensures (search) c.payload.ensures c.used.ensures c.slice-left.ensures c.run-r.ensures c.waits.ensures c.if-waits.false (λ e. c.in_default.not-Host (waits_host _ e)) c.leave-2.ensures
