-- `slices::run_quick` meets its contract: the invariant is that of `run_slice`, with state block and store as they were; the measure is the ticks left. Assumes nothing.
use borrow.Author.Rules.{rules}
use native.Mathlib.Omega.{arith}
use Rattle.slices.specs.Looping.{code_low, looping_first, opcode_from, place_low, step_ready, loops_goes, loops_jumps, quickens, quickens_other}
use Rattle.slices.proofs.run_quick.Goals as goal

pub loop-ticks-init : goal.loop-ticks-init
loop-ticks-init c = search looping_first

pub returns-then-left-eq0 : goal.returns-then-left-eq0
returns-then-left-eq0 c = search quickens

pub opcode_at-o-requires : goal.opcode_at-o-requires
opcode_at-o-requires c = (search rules, place_low c.loop-ticks.invariant)

pub past-requires : goal.past-requires
past-requires c = search place_low

pub quick_step-requires : goal.quick_step-requires
quick_step-requires c = (step_ready c.loop-ticks.invariant c.past.ensures (opcode_from c.loop-ticks.invariant c.row.ensures c.opcode_at-o.ensures)).0

pub loop-ticks-preserved-in-Goes : goal.loop-ticks-preserved-in-Goes
loop-ticks-preserved-in-Goes c = loops_goes c.loop-ticks.invariant c.past.ensures (opcode_from c.loop-ticks.invariant c.row.ensures c.opcode_at-o.ensures) c.loop-ticks-test.true c.quick_step.ensures c.in-Goes.is c.if-left-eq0.false

pub loop-ticks-preserved : goal.loop-ticks-preserved
loop-ticks-preserved c = loops_jumps c.loop-ticks.invariant c.past.ensures (opcode_from c.loop-ticks.invariant c.row.ensures c.opcode_at-o.ensures) c.loop-ticks-test.true c.quick_step.ensures c.in-Jumps.is

pub returns-in-Other : goal.returns-in-Other
returns-in-Other c = quickens_other c.loop-ticks.invariant c.sliced-in-Other.ensures c.quick_step.ensures c.in-Other.is

pub shape_of-live-in-Other : goal.shape_of-live-in-Other
shape_of-live-in-Other c = (returns-in-Other c).same_live.len

pub returns : goal.returns
returns c = search quickens
