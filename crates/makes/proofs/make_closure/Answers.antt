-- `makes::make_closure` meets its contract: `Closing` says which upvalues are put. Assumes nothing.
use native.Mathlib.Omega.{arith}
use Rattle.makes.specs.Closures.{closable_bounds, closure_no_live, closure_no_store, closing_begun, capturable, closing_more, closure_made}
use Rattle.image.specs.Layout.{flat}
use Rattle.makes.proofs.make_closure.Goals as goal

pub capture_count-n-requires : goal.capture_count-n-requires
capture_count-n-requires c = omega (arith, closable_bounds c.requires)

pub end-requires : goal.end-requires
end-requires c = omega (arith, closable_bounds c.requires)

pub returns-then-end-room : goal.returns-then-end-room
returns-then-end-room c = search closure_no_live

pub overflow_sub-room : goal.overflow_sub-room
overflow_sub-room c = omega (arith, c.room-2.ensures, closable_bounds c.requires)

pub overflow_add-n : goal.overflow_add-n
overflow_add-n c = omega arith

pub returns-then-room-used : goal.returns-then-room-used
returns-then-room-used c = search closure_no_store

pub overflow_cast-code : goal.overflow_cast-code
overflow_cast-code c = omega (arith, closable_bounds c.requires)

pub new_closure-requires : goal.new_closure-requires
new_closure-requires c = omega arith

pub loop-i-init : goal.loop-i-init
loop-i-init c = closing_begun c.args.program.now.image.now (flat c.args.program.now.rows.now) c.args.program.now.constants.now c.args.program.now.inner.now c.args.program.now.codes c.requires c.capture_count-n.ensures c.room-2.ensures c.if-room-used.false c.new_closure.ensures

pub captured-v-requires : goal.captured-v-requires
captured-v-requires c = capturable c.loop-i.invariant c.loop-i-test.true

pub overflow_add-used : goal.overflow_add-used
overflow_add-used c = omega arith

pub overflow_add-used-in-loop-i : goal.overflow_add-used-in-loop-i
overflow_add-used-in-loop-i c = omega arith

pub put-requires : goal.put-requires
put-requires c = omega arith

pub loop-i-preserved : goal.loop-i-preserved
loop-i-preserved c = closing_more c.loop-i.invariant c.loop-i-test.true c.captured-v.ensures c.put.ensures

pub overflow_cast-used : goal.overflow_cast-used
overflow_cast-used c = omega arith

pub push-g-requires : goal.push-g-requires
push-g-requires c = omega arith

pub overflow_add-result : goal.overflow_add-result
overflow_add-result c = omega arith

pub overflow_add-result-2 : goal.overflow_add-result-2
overflow_add-result-2 c = omega arith

pub shape_of-store : goal.shape_of-store
shape_of-store c = omega arith

pub returns : goal.returns
returns c = closure_made c.loop-i.invariant c.new_closure.ensures c.loop-i-test.false c.new.ensures c.push-g.ensures.1
