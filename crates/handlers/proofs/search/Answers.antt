-- `handlers::search` meets its contract. Assumes nothing.
use Prim.Native.Nat.{◌-◌}
use native.Mathlib.Omega.{arith}
use borrow.Author.Rules.{rules}
use Rattle.handlers.specs.Stacks.{search_none, left_first, left_fits, left_room, left_found, left_missed, left_none}
use Rattle.handlers.proofs.search.Goals as goal

pub returns-then-frames-eq0 : goal.returns-then-frames-eq0
returns-then-frames-eq0 c = search search_none

pub loop-i-init : goal.loop-i-init
loop-i-init c = search left_first

pub overflow_cast-starts : goal.overflow_cast-starts
overflow_cast-starts c = omega (arith, c.shared_slice_known-in-loop-i-1.given (c.loop-i.i - 1))

pub open-g-requires : goal.open-g-requires
open-g-requires c = search left_fits

pub find_handler-requires : goal.find_handler-requires
find_handler-requires c = search left_room

pub returns-in-Some : goal.returns-in-Some
returns-in-Some c = left_found _ _ c.loop-i.invariant (search rules) c.open-g.ensures c.find_handler.ensures.finds c.in-Some.is c.find_handler.ensures.within

pub loop-i-preserved : goal.loop-i-preserved
loop-i-preserved c = left_missed _ _ c.loop-i.invariant (search rules) c.open-g.ensures c.find_handler.ensures.finds c.in_default.is

pub returns : goal.returns
returns c = search left_none
