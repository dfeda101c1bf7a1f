-- `actions::start_frame` meets its contract: `StartFits` has the numbers, `starts_frame` the machine. Assumes nothing.
use native.Mathlib.Omega.{arith}
use Rattle.actions.specs.Moved.{start_fits, pushed_fits, starts_frame}
use Rattle.actions.proofs.start_frame.Goals as goal

pub list_rest-requires : goal.list_rest-requires
list_rest-requires c = let f = start_fits c.requires in (f.cells_store, f.enough)

pub new_frame-requires : goal.new_frame-requires
new_frame-requires c = let f = start_fits c.requires in (omega (arith, f), omega arith)

pub overflow_cast-g : goal.overflow_cast-g
overflow_cast-g c = omega arith

pub push_args-h-requires : goal.push_args-h-requires
push_args-h-requires c = let f = start_fits c.requires in
    (omega (arith, f, c.new_frame.ensures.len), f.enough, omega (arith, f))

pub settle-requires : goal.settle-requires
settle-requires c = let f = start_fits c.requires in
    pushed_fits f c.new_frame.ensures.len c.push_args-h.ensures

pub overflow_cast-starts : goal.overflow_cast-starts
overflow_cast-starts c = omega (arith, start_fits c.requires)

pub offset_bounds-starts-top : goal.offset_bounds-starts-top
offset_bounds-starts-top c = omega (arith, start_fits c.requires)

pub bounds-starts-top : goal.bounds-starts-top
bounds-starts-top c = omega (arith, start_fits c.requires)

pub shape_of-live : goal.shape_of-live
shape_of-live c = omega arith

pub returns : goal.returns
returns c = starts_frame _ (start_fits c.requires).table c.list_rest.ensures (rw c.number.ensures at c.new_frame.ensures) c.push_args-h.ensures c.settle.ensures
