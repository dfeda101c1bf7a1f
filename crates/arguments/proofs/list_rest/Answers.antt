-- `arguments::list_rest` meets its contract. Assumes nothing.
use native.Mathlib.Omega.{arith}
use Rattle.arguments.specs.Laws.{rest_fits, lists, lists_none}
use Rattle.arguments.proofs.list_rest.Goals as goal

pub overflow_sub-room : goal.overflow_sub-room
overflow_sub-room c = let e = c.requires in
    (rest_fits _ c.if-p.true e.0 e.1 c.room.ensures).0

pub new_object-requires : goal.new_object-requires
new_object-requires c = let e = c.requires in
    let f = rest_fits _ c.if-p.true e.0 e.1 c.room.ensures in
    (f.1, omega (arith, f))

pub returns-then-p : goal.returns-then-p
returns-then-p c = search lists

pub returns-else-p : goal.returns-else-p
returns-else-p c = search lists_none
