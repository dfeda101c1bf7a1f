-- `jumps::register_handler` meets its contract. Assumes nothing.
use native.Mathlib.Omega.{arith}
use borrow.Author.Rules.{rules}
use Rattle.jumps.specs.Registers.{fewer_fits, register_stops, register_throws, register_sets, register_many, register_short, register_adds}
use Rattle.jumps.proofs.register_handler.Goals as goal

pub returns-then-g-eq0 : goal.returns-then-g-eq0
returns-then-g-eq0 c = search register_stops

pub returns-then-not-is_effect : goal.returns-then-not-is_effect
returns-then-not-is_effect c = search register_throws

pub find_handler-requires : goal.find_handler-requires
find_handler-requires c = search fewer_fits

pub set_handler-requires : goal.set_handler-requires
set_handler-requires c =
    let lt = rw c.in-Some.is at c.find_handler.ensures.within in
    (lt, fewer_fits 1 c.args.g c.args.live.now c.dropped-h.ensures c.requires)

pub returns-in-Some : goal.returns-in-Some
returns-in-Some c =
    let f = rw c.in-Some.is at c.find_handler.ensures.finds in
    let lt = rw c.in-Some.is at c.find_handler.ensures.within in
    register_sets _ _ _ _ c.if-g-eq0.false c.top-e.ensures.0 c.dropped-h.ensures c.is_effect.ensures c.if-not-is_effect.false f lt c.set_handler.ensures

pub returns-then-h-ge16 : goal.returns-then-h-ge16
returns-then-h-ge16 c =
    let f = rw c.in_default.is at c.find_handler.ensures.finds in
    register_many _ _ _ _ c.if-g-eq0.false c.top-e.ensures.0 c.dropped-h.ensures c.is_effect.ensures c.if-not-is_effect.false f (omega arith) c.if-h-ge16.true

pub end-requires : goal.end-requires
end-requires c = omega (arith, fewer_fits 1 c.args.g c.args.live.now c.dropped-h.ensures c.requires)

pub overflow_add-end : goal.overflow_add-end
overflow_add-end c = record { fits = omega (arith, fewer_fits 1 c.args.g c.args.live.now c.dropped-h.ensures c.requires) }

pub returns-then-end-room : goal.returns-then-end-room
returns-then-end-room c =
    let f = rw c.in_default.is at c.find_handler.ensures.finds in
    register_short _ _ _ _ c.if-g-eq0.false c.top-e.ensures.0 c.dropped-h.ensures c.is_effect.ensures c.if-not-is_effect.false f (omega arith) (search rules) c.end.ensures c.room.ensures (search rules)

pub returns : goal.returns
returns c =
    let f = rw c.in_default.is at c.find_handler.ensures.finds in
    register_adds _ _ _ _ c.if-g-eq0.false c.top-e.ensures.0 c.dropped-h.ensures c.is_effect.ensures c.if-not-is_effect.false f (omega arith) c.if-h-ge16.false c.add_handler.ensures.1
