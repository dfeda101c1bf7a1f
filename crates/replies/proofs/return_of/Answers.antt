-- `replies::return_of` meets its contract. Assumes nothing.
use mathlib.Core.Path.{refl}
use Rattle.requests.specs.Sent.{kind_of}
use Rattle.replies.specs.KindLaws.{odd_args, odd_handlers, kind_call, kind_handlers, kind_neither, kind_unknown}
use Rattle.replies.proofs.return_of.Goals as goal

pub returns-then-args-ne0 : goal.returns-then-args-ne0
returns-then-args-ne0 c = search odd_args

pub returns-then-handlers-ne0 : goal.returns-then-handlers-ne0
returns-then-handlers-ne0 c = search odd_handlers

pub returns-in-0 : goal.returns-in-0
returns-in-0 c = search kind_call

pub returns-in-1 : goal.returns-in-1
unfolding kind_of
returns-in-1 c = kind_handlers _ _ _ _ c.if-args-ne0.false c.if-handlers-ne0.false 1 c.in-1.is c.room-n.ensures c.with_none.ensures refl

pub returns-in-2 : goal.returns-in-2
unfolding kind_of
returns-in-2 c = kind_handlers _ _ _ _ c.if-args-ne0.false c.if-handlers-ne0.false 2 c.in-2.is c.room-n.ensures c.with_none-in-2.ensures refl

pub returns-in-3 : goal.returns-in-3
unfolding kind_of
returns-in-3 c = kind_handlers _ _ _ _ c.if-args-ne0.false c.if-handlers-ne0.false 3 c.in-3.is c.room-n.ensures c.with_none-in-3.ensures refl

pub returns-in-4 : goal.returns-in-4
unfolding kind_of
returns-in-4 c = kind_neither _ _ _ _ c.if-args-ne0.false c.if-handlers-ne0.false 4 c.in-4.is c.room-n.ensures c.room.ensures c.with_none-in-4.ensures refl

pub returns-in-5 : goal.returns-in-5
unfolding kind_of
returns-in-5 c = kind_neither _ _ _ _ c.if-args-ne0.false c.if-handlers-ne0.false 5 c.in-5.is c.room-n.ensures c.room.ensures c.with_none-in-5.ensures refl

pub returns-in-6 : goal.returns-in-6
unfolding kind_of
returns-in-6 c = kind_neither _ _ _ _ c.if-args-ne0.false c.if-handlers-ne0.false 6 c.in-6.is c.room-n.ensures c.room.ensures c.with_none-in-6.ensures refl

pub returns-in_default : goal.returns-in_default
returns-in_default c = search kind_unknown
