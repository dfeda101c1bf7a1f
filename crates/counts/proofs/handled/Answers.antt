-- `counts::handled` meets its contract. Assumes nothing.
use native.Mathlib.Omega.{arith}
use Rattle.cells.specs.CellsLaws.{length_cells}
use Rattle.counts.specs.ReadLaws.{handled_inside, taken_few, listed_few, handled_by}
use Rattle.counts.proofs.handled.Goals as goal

pub offset_bounds-starts-i : goal.offset_bounds-starts-i
offset_bounds-starts-i c = omega arith

pub bounds-starts-i : goal.bounds-starts-i
bounds-starts-i c = omega arith

pub overflow_cast-base : goal.overflow_cast-base
overflow_cast-base c = omega arith

pub kept-g-requires : goal.kept-g-requires
kept-g-requires c = omega (arith, c.requires.0.opens, length_cells c.args.live.now)

pub overflow_add-above : goal.overflow_add-above
overflow_add-above c = omega arith

pub offset_bounds-starts-i-2 : goal.offset_bounds-starts-i-2
offset_bounds-starts-i-2 c = omega arith

pub overflow_cast-above : goal.overflow_cast-above
overflow_cast-above c = omega arith

pub overflow_add-result : goal.overflow_add-result
overflow_add-result c = omega arith

pub overflow_add-result-2 : goal.overflow_add-result-2
overflow_add-result-2 c = omega arith

pub overflow_add-result-3 : goal.overflow_add-result-3
overflow_add-result-3 c = omega (arith, handled_inside c.requires.0 c.kept-g.ensures.0)

pub overflow_add-result-4 : goal.overflow_add-result-4
overflow_add-result-4 c = omega (arith, handled_inside c.requires.0 c.kept-g.ensures.0)

pub overflow_add-result-5 : goal.overflow_add-result-5
overflow_add-result-5 c = omega (arith, handled_inside c.requires.0 c.kept-g.ensures.0)

pub overflow_add-result-6 : goal.overflow_add-result-6
overflow_add-result-6 c = omega (arith, handled_inside c.requires.0 c.kept-g.ensures.0, c.parsed.ensures, taken_few _ _ c.requires.1)

pub overflow_add-result-7 : goal.overflow_add-result-7
overflow_add-result-7 c = omega arith

pub overflow_add-result-8 : goal.overflow_add-result-8
overflow_add-result-8 c = omega arith

pub overflow_add-result-9 : goal.overflow_add-result-9
overflow_add-result-9 c = omega (arith, c.requires.0.few, c.listed.ensures, listed_few c.args.p c.args.n)

pub returns : goal.returns
returns c = search handled_by
