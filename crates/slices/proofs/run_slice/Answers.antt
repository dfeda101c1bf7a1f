-- `slices::run_slice` meets its contract: the invariant says that what is left of the run, after the opcodes taken, is the whole run; the measure is the ticks left. Assumes nothing.
use mathlib.Core.Path.{ap}
use Rattle.std.proofs.Common.{◌∙◌, Ok}
use native.Mathlib.Omega.{arith}
use Rattle.slices.specs.Looping.{looping_first, some_sliceable, opcode_there, place_low, step_ready, loops_on, loops_jumped, quick_less, loops_quick, ends_spent, ends_throws, ends_refused, ends_closes, ends_paused}
use Rattle.slices.proofs.run_slice.Goals as goal

pub loop-ticks-init : goal.loop-ticks-init
loop-ticks-init c = search looping_first

pub run_quick-q-requires : goal.run_quick-q-requires
run_quick-q-requires c = search some_sliceable

pub returns-then-ticks-eq0 : goal.returns-then-ticks-eq0
returns-then-ticks-eq0 c = ends_paused (loops_quick c.loop-ticks.invariant c.run_quick-q.ensures) (omega (arith, c.if-ticks-eq0.true)) c.sliced.ensures

pub shape_of-state-then-ticks-eq0 : goal.shape_of-state-then-ticks-eq0
shape_of-state-then-ticks-eq0 c = (returns-then-ticks-eq0 c).same_state.len

pub shape_of-live-then-ticks-eq0 : goal.shape_of-live-then-ticks-eq0
shape_of-live-then-ticks-eq0 c = (returns-then-ticks-eq0 c).same_live.len

pub shape_of-store-then-ticks-eq0 : goal.shape_of-store-then-ticks-eq0
shape_of-store-then-ticks-eq0 c = (returns-then-ticks-eq0 c).appends.len

pub opcode-o-requires : goal.opcode-o-requires
opcode-o-requires c = opcode_there (loops_quick c.loop-ticks.invariant c.run_quick-q.ensures)

pub past-requires : goal.past-requires
past-requires c = place_low (loops_quick c.loop-ticks.invariant c.run_quick-q.ensures)

pub step-requires : goal.step-requires
step-requires c = step_ready (loops_quick c.loop-ticks.invariant c.run_quick-q.ensures) c.past.ensures c.opcode-o.ensures

pub returns-then-left-eq0 : goal.returns-then-left-eq0
returns-then-left-eq0 c = ends_spent (loops_quick c.loop-ticks.invariant c.run_quick-q.ensures) c.past.ensures c.opcode-o.ensures (omega (arith, c.if-ticks-eq0.false)) c.step.ensures (c.in-Ok-On.is ∙ ap Ok c.in-Ok-On.field-0-is) c.if-left-eq0.true c.sliced-then-left-eq0.ensures

pub shape_of-state-then-left-eq0 : goal.shape_of-state-then-left-eq0
shape_of-state-then-left-eq0 c = (returns-then-left-eq0 c).same_state.len

pub shape_of-live-then-left-eq0 : goal.shape_of-live-then-left-eq0
shape_of-live-then-left-eq0 c = (returns-then-left-eq0 c).same_live.len

pub shape_of-store-then-left-eq0 : goal.shape_of-store-then-left-eq0
shape_of-store-then-left-eq0 c = (returns-then-left-eq0 c).appends.len

pub loop-ticks-smaller-in-Ok-On : goal.loop-ticks-smaller-in-Ok-On
loop-ticks-smaller-in-Ok-On c = omega (arith, quick_less c.loop-ticks.invariant c.run_quick-q.ensures, c.if-ticks-eq0.false)

pub loop-ticks-preserved-in-Ok-On : goal.loop-ticks-preserved-in-Ok-On
loop-ticks-preserved-in-Ok-On c = loops_on (loops_quick c.loop-ticks.invariant c.run_quick-q.ensures) c.past.ensures c.opcode-o.ensures (omega (arith, c.if-ticks-eq0.false)) c.step.ensures (c.in-Ok-On.is ∙ ap Ok c.in-Ok-On.field-0-is) c.if-left-eq0.false

pub loop-ticks-smaller : goal.loop-ticks-smaller
loop-ticks-smaller c = omega (arith, quick_less c.loop-ticks.invariant c.run_quick-q.ensures, c.if-ticks-eq0.false)

pub loop-ticks-preserved : goal.loop-ticks-preserved
loop-ticks-preserved c = loops_jumped (loops_quick c.loop-ticks.invariant c.run_quick-q.ensures) c.past.ensures c.opcode-o.ensures (omega (arith, c.if-ticks-eq0.false)) c.step.ensures (c.in-Ok-Jumped.is ∙ ap Ok c.in-Ok-Jumped.field-0-is)

pub returns-in-Ok-Throws : goal.returns-in-Ok-Throws
returns-in-Ok-Throws c = ends_throws (loops_quick c.loop-ticks.invariant c.run_quick-q.ensures) c.past.ensures c.opcode-o.ensures (omega (arith, c.if-ticks-eq0.false)) c.step.ensures (c.in-Ok-Throws.is ∙ ap Ok c.in-Ok-Throws.field-0-is) c.sliced-in-Ok-Throws.ensures

pub shape_of-state-in-Ok-Throws : goal.shape_of-state-in-Ok-Throws
shape_of-state-in-Ok-Throws c = (returns-in-Ok-Throws c).same_state.len

pub shape_of-live-in-Ok-Throws : goal.shape_of-live-in-Ok-Throws
shape_of-live-in-Ok-Throws c = (returns-in-Ok-Throws c).same_live.len

pub shape_of-store-in-Ok-Throws : goal.shape_of-store-in-Ok-Throws
shape_of-store-in-Ok-Throws c = (returns-in-Ok-Throws c).appends.len

pub returns-in-Err : goal.returns-in-Err
returns-in-Err c = ends_refused (loops_quick c.loop-ticks.invariant c.run_quick-q.ensures) c.past.ensures c.opcode-o.ensures (omega (arith, c.if-ticks-eq0.false)) c.step.ensures c.in-Err.is c.sliced-in-Err.ensures

pub shape_of-state-in-Err : goal.shape_of-state-in-Err
shape_of-state-in-Err c = (returns-in-Err c).same_state.len

pub shape_of-live-in-Err : goal.shape_of-live-in-Err
shape_of-live-in-Err c = (returns-in-Err c).same_live.len

pub shape_of-store-in-Err : goal.shape_of-store-in-Err
shape_of-store-in-Err c = (returns-in-Err c).appends.len

pub returns-in-Ok-Closing : goal.returns-in-Ok-Closing
returns-in-Ok-Closing c = ends_closes (loops_quick c.loop-ticks.invariant c.run_quick-q.ensures) c.past.ensures c.opcode-o.ensures (omega (arith, c.if-ticks-eq0.false)) c.step.ensures (c.in-Ok-Closing.is ∙ ap Ok c.in-Ok-Closing.field-0-is) c.sliced-in-Ok-Closing.ensures

pub shape_of-state-in-Ok-Closing : goal.shape_of-state-in-Ok-Closing
shape_of-state-in-Ok-Closing c = (returns-in-Ok-Closing c).same_state.len

pub shape_of-live-in-Ok-Closing : goal.shape_of-live-in-Ok-Closing
shape_of-live-in-Ok-Closing c = (returns-in-Ok-Closing c).same_live.len

pub shape_of-store-in-Ok-Closing : goal.shape_of-store-in-Ok-Closing
shape_of-store-in-Ok-Closing c = (returns-in-Ok-Closing c).appends.len

pub returns : goal.returns
returns c = search ends_paused
