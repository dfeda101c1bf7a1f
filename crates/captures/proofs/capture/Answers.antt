-- `captures::capture` meets its contract: `numbers` has what there is room for, `captures_all` the rest. Assumes nothing.
use native.Mathlib.Omega.{arith}
use Rattle.captures.specs.CaptureLaws.{numbers, capture_enters, captures_all}
use Rattle.captures.proofs.capture.Goals as goal

pub overflow_add-above : goal.overflow_add-above
overflow_add-above c = omega (arith, numbers c.requires)

pub offset_bounds-starts-i : goal.offset_bounds-starts-i
offset_bounds-starts-i c = omega (arith, numbers c.requires)

pub bounds-starts-i : goal.bounds-starts-i
bounds-starts-i c = omega (arith, numbers c.requires)

pub overflow_cast-above : goal.overflow_cast-above
overflow_cast-above c = omega (arith, numbers c.requires)

pub overflow_sub-size : goal.overflow_sub-size
overflow_sub-size c = omega (arith, numbers c.requires)

pub overflow_sub-c : goal.overflow_sub-c
overflow_sub-c c = omega (arith, numbers c.requires)

pub overflow_sub-c-2 : goal.overflow_sub-c-2
overflow_sub-c-2 c = omega (arith, numbers c.requires)

pub overflow_cast-c : goal.overflow_cast-c
overflow_cast-c c = omega (arith, numbers c.requires)

pub new_object-requires : goal.new_object-requires
new_object-requires c = let n = numbers c.requires in
    (omega (arith, n), omega (arith, n))

pub overflow_add-list : goal.overflow_add-list
overflow_add-list c = omega (arith, numbers c.requires)

pub overflow_add-list-2 : goal.overflow_add-list-2
overflow_add-list-2 c = omega (arith, numbers c.requires)

pub list_rest-requires : goal.list_rest-requires
list_rest-requires c = let n = numbers c.requires in
    (omega (arith, n, c.new_object.ensures.len), n.enough)

pub overflow_cast-c-2 : goal.overflow_cast-c-2
overflow_cast-c-2 c = omega (arith, numbers c.requires)

pub offset_bounds-starts-i-2 : goal.offset_bounds-starts-i-2
offset_bounds-starts-i-2 c = omega (arith, numbers c.requires)

pub bounds-starts-i-2 : goal.bounds-starts-i-2
bounds-starts-i-2 c = omega (arith, numbers c.requires)

pub overflow_cast-starts : goal.overflow_cast-starts
overflow_cast-starts c = omega (arith, numbers c.requires)

pub enter-requires : goal.enter-requires
enter-requires c = capture_enters c.requires

pub returns : goal.returns
returns c = captures_all c.requires c.new_object.ensures c.list_rest.ensures (rw c.new-k.ensures at c.enter.ensures)
