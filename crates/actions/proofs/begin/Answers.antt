-- `actions::begin` meets its contract: the loop keeps `Passed` for the frames that it has passed. Assumes nothing.
use mathlib.Core.Path.{refl}
use native.Mathlib.Omega.{arith}
use Rattle.cells.specs.CellsLaws.{length_cells}
use Rattle.actions.specs.Tables.{passed_none, passed_fits, passed_next, passed_all}
use borrow.Author.Rules.{rules}
use Rattle.actions.proofs.begin.Goals as goal

pub loop-i-init : goal.loop-i-init
loop-i-init c = (passed_none _ _ _ _ _, omega arith)

pub open-requires : goal.open-requires
open-requires c = omega (arith, passed_fits c.loop-i.invariant.0 refl refl c.loop-i-test.true, c.requires.cells, length_cells c.args.store.now)

pub end-next-requires : goal.end-next-requires
end-next-requires c = let p = c.requires in
    omega (arith, passed_fits c.loop-i.invariant.0 c.open.ensures.0 refl c.loop-i-test.true, p.cells, p.small_store)

pub overflow_sub-starts : goal.overflow_sub-starts
overflow_sub-starts c = omega (arith, passed_fits c.loop-i.invariant.0 c.open.ensures.0 c.end-next.ensures c.loop-i-test.true)

pub overflow_add-starts : goal.overflow_add-starts
overflow_add-starts c = let p = c.requires in
    omega (arith, passed_fits c.loop-i.invariant.0 c.open.ensures.0 c.end-next.ensures c.loop-i-test.true, p.small)

pub overflow_cast-starts : goal.overflow_cast-starts
overflow_cast-starts c = let p = c.requires in
    omega (arith, passed_fits c.loop-i.invariant.0 c.open.ensures.0 c.end-next.ensures c.loop-i-test.true, p.small)

pub overflow_add-starts-in-loop-i : goal.overflow_add-starts-in-loop-i
overflow_add-starts-in-loop-i c = omega (arith, c.loop-i-test.true, c.requires.table)

pub offset_bounds-starts-first : goal.offset_bounds-starts-first
offset_bounds-starts-first c = omega arith

pub bounds-starts-first : goal.bounds-starts-first
bounds-starts-first c = omega (arith, c.loop-i.invariant.0.begun.len, c.loop-i-test.true, c.requires.table)

pub loop-i-preserved : goal.loop-i-preserved
loop-i-preserved c = (
  passed_next c.loop-i.invariant.0 c.open.ensures.0 c.end-next.ensures (omega (arith, c.loop-i-test.true, c.requires.table)) refl,
  omega (arith, c.loop-i-test.true),
)

pub shape_of-starts : goal.shape_of-starts
shape_of-starts c = c.loop-i.invariant.0.begun.len

pub returns : goal.returns
returns c = passed_all c.loop-i.invariant.0 c.loop-i.invariant.1 (search rules)
