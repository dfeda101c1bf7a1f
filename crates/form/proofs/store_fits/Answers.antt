-- `form::store_fits` meets its contract: the loop keeps `Walked`. Assumes nothing.
use native.Mathlib.Omega.{arith}
use Rattle.cells.specs.CellsLaws.{length_cells}
use Rattle.form.specs.Objects.{store_long, walked_first, walked_not, walked_ends, walked_next, walked_all}
use Rattle.std.proofs.Common.{ap, not}
use Rattle.form.proofs.store_fits.Goals as goal

pub returns-then-used-room : goal.returns-then-used-room
returns-then-used-room c = store_long _ _ _ (omega (arith, length_cells c.args.store.now))

pub loop-at-init : goal.loop-at-init
loop-at-init c = walked_first _ _ _

pub returns-then-not-object_fits : goal.returns-then-not-object_fits
returns-then-not-object_fits c = walked_not c.loop-at.invariant c.loop-at-test.true c.object_fits.ensures (omega (arith, length_cells c.args.store.now)) (ap not c.if-not-object_fits.true)

pub overflow_add-at : goal.overflow_add-at
overflow_add-at c = omega (arith, walked_ends c.loop-at.invariant c.loop-at-test.true c.object_fits.ensures c.payload.ensures (ap not c.if-not-object_fits.false))

pub overflow_add-at-in-loop-at : goal.overflow_add-at-in-loop-at
overflow_add-at-in-loop-at c = omega (arith, walked_ends c.loop-at.invariant c.loop-at-test.true c.object_fits.ensures c.payload.ensures (ap not c.if-not-object_fits.false))

pub loop-at-smaller : goal.loop-at-smaller
loop-at-smaller c = omega (arith, walked_ends c.loop-at.invariant c.loop-at-test.true c.object_fits.ensures c.payload.ensures (ap not c.if-not-object_fits.false))

pub loop-at-preserved : goal.loop-at-preserved
loop-at-preserved c = walked_next c.loop-at.invariant c.loop-at-test.true c.object_fits.ensures c.payload.ensures (ap not c.if-not-object_fits.false)

pub returns : goal.returns
returns c = walked_all c.loop-at.invariant (omega (arith, length_cells c.args.store.now)) c.loop-at-test.false
