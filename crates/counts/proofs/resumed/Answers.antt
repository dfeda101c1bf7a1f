-- `counts::resumed` meets its contract: `Resumable` has what each read needs, one after the other. Assumes nothing.
use native.Mathlib.Omega.{arith}
use Rattle.cells.specs.CellsLaws.{length_cells}
use Rattle.counts.specs.ReadLaws.{walk_fits, open_fits, end_fits, resumed_by}
use Rattle.counts.proofs.resumed.Goals as goal

pub number-count-requires : goal.number-count-requires
number-count-requires c = omega (arith, c.requires.there, length_cells c.args.store.now)

pub overflow_cast-count : goal.overflow_cast-count
overflow_cast-count c = omega arith

pub overflow_add-handle : goal.overflow_add-handle
overflow_add-handle c = omega arith

pub last_frame-last-requires : goal.last_frame-last-requires
last_frame-last-requires c = let w = walk_fits c.requires c.number-count.ensures in (w.0, omega (arith, w.1, length_cells c.args.store.now))

pub kept-g-requires : goal.kept-g-requires
kept-g-requires c = omega (arith, open_fits c.requires c.number-count.ensures c.last_frame-last.ensures, length_cells c.args.store.now)

pub overflow_add-result : goal.overflow_add-result
overflow_add-result c = omega arith

pub end-requires : goal.end-requires
end-requires c = omega (arith, end_fits c.requires c.number-count.ensures c.last_frame-last.ensures c.kept-g.ensures.0)

pub overflow_add-result-2 : goal.overflow_add-result-2
overflow_add-result-2 c = omega arith

pub overflow_sub-result : goal.overflow_sub-result
overflow_sub-result c = omega (arith, c.end.ensures, end_fits c.requires c.number-count.ensures c.last_frame-last.ensures c.kept-g.ensures.0)

pub overflow_add-result-3 : goal.overflow_add-result-3
overflow_add-result-3 c = omega (arith, c.end.ensures, c.requires.few, end_fits c.requires c.number-count.ensures c.last_frame-last.ensures c.kept-g.ensures.0)

pub overflow_add-result-4 : goal.overflow_add-result-4
overflow_add-result-4 c = omega (arith, c.end.ensures, c.requires.few, end_fits c.requires c.number-count.ensures c.last_frame-last.ensures c.kept-g.ensures.0)

pub returns : goal.returns
returns c = resumed_by c.requires c.number-count.ensures c.last_frame-last.ensures c.kept-g.ensures.0 c.end.ensures
