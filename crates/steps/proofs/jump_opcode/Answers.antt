-- `steps::jump_opcode` meets its contract. Assumes nothing.
use mathlib.Core.Path.{refl, ap}
use Rattle.steps.specs.Families.{numbered, does_as, number_does, nop_does}
use Rattle.steps.specs.declared.Jump.TheVariants.{Plain, PopIfNull, PopIf, IfOrPop, RegisterHandler, CheckEffect, Nop}
use Rattle.steps.specs.declared.Family.TheVariants.{Moves}
use Rattle.steps.proofs.jump_opcode.Goals as goal

pub pop_jump_if-requires : goal.pop_jump_if-requires
pop_jump_if-requires c = let w = numbered _ (Moves PopIf) (ap Moves c.in-PopIf.is) c.requires.1 in (c.requires.0, w.0, w.1)

pub jump_if_or_pop-requires : goal.jump_if_or_pop-requires
jump_if_or_pop-requires c = let w = numbered _ (Moves IfOrPop) (ap Moves c.in-IfOrPop.is) c.requires.1 in (c.requires.0, w.0, w.1)

pub returns-in-Plain : goal.returns-in-Plain
returns-in-Plain c = let w = numbered _ (Moves Plain) (ap Moves c.in-Plain.is) c.requires.1 in c.jump.ensures _ _ _ w.0 w.1

pub returns-in-PopIfNull : goal.returns-in-PopIfNull
returns-in-PopIfNull c = number_does (numbered _ (Moves PopIfNull) (ap Moves c.in-PopIfNull.is) c.requires.1) c.jump_pop_if_null.ensures

pub returns-in-PopIf : goal.returns-in-PopIf
returns-in-PopIf c = number_does refl c.pop_jump_if.ensures

pub returns-in-IfOrPop : goal.returns-in-IfOrPop
returns-in-IfOrPop c = number_does refl c.jump_if_or_pop.ensures

pub returns-in-RegisterHandler : goal.returns-in-RegisterHandler
returns-in-RegisterHandler c = does_as (numbered _ (Moves RegisterHandler) (ap Moves c.in-RegisterHandler.is) c.requires.1) c.register_handler.ensures

pub returns-in-CheckEffect : goal.returns-in-CheckEffect
returns-in-CheckEffect c = does_as (numbered _ (Moves CheckEffect) (ap Moves c.in-CheckEffect.is) c.requires.1) c.check_effect.ensures

pub returns-in-Nop : goal.returns-in-Nop
returns-in-Nop c = nop_does (numbered _ (Moves Nop) (ap Moves c.in-Nop.is) c.requires.1) c.nop.ensures
