-- `counts::received` meets its contract. Assumes nothing.
use native.Mathlib.Omega.{arith}
use Rattle.cells.specs.CellsLaws.{length_cells}
use Rattle.counts.specs.ReadLaws.{received_inside, received_by}
use Rattle.counts.proofs.received.Goals as goal

pub offset_bounds-starts-c : goal.offset_bounds-starts-c
offset_bounds-starts-c c = omega arith

pub bounds-starts-c : goal.bounds-starts-c
bounds-starts-c c = omega arith

pub overflow_cast-base : goal.overflow_cast-base
overflow_cast-base c = omega arith

pub kept-g-requires : goal.kept-g-requires
kept-g-requires c = omega (arith, c.requires.opens, length_cells c.args.live.now)

pub overflow_add-result : goal.overflow_add-result
overflow_add-result c = omega arith

pub overflow_add-result-2 : goal.overflow_add-result-2
overflow_add-result-2 c = omega (arith, received_inside c.requires c.kept-g.ensures.0)

pub overflow_add-result-3 : goal.overflow_add-result-3
overflow_add-result-3 c = omega (arith, received_inside c.requires c.kept-g.ensures.0)

pub overflow_add-result-4 : goal.overflow_add-result-4
overflow_add-result-4 c = omega (arith, received_inside c.requires c.kept-g.ensures.0)

pub returns : goal.returns
returns c = search received_by
