-- `steps::step` meets its contract. Assumes nothing.
use Rattle.steps.specs.Families.{numbered, named_as, chosen_as, does_as, ready_fits, stays_next, does_next, closes_steps, left_out_steps}
use borrow.Author.Rules.{rules}
use Rattle.steps.proofs.step.Goals as goal

pub stack_opcode-requires : goal.stack_opcode-requires
stack_opcode-requires c = (c.requires.0.ready, numbered _ _ c.in-OnStack.is (chosen_as _ _ c.try_from.ensures c.in-Ok.is c.choose.ensures), c.requires.1)

pub operator_opcode-requires : goal.operator_opcode-requires
operator_opcode-requires c = (ready_fits c.requires.0.ready, numbered _ _ c.in-Computes.is (chosen_as _ _ c.try_from.ensures c.in-Ok.is c.choose.ensures))

pub jump_opcode-requires : goal.jump_opcode-requires
jump_opcode-requires c = (ready_fits c.requires.0.ready, numbered _ _ c.in-Moves.is c.choose.ensures)

pub making_opcode-requires : goal.making_opcode-requires
making_opcode-requires c = (c.requires.0, numbered _ _ c.in-Makes.is (chosen_as _ _ c.try_from.ensures c.in-Ok.is c.choose.ensures), c.requires.1)

pub returns-in-OnStack : goal.returns-in-OnStack
returns-in-OnStack c = stays_next c.stack_opcode.ensures c.from_next.ensures

pub returns-in-Computes : goal.returns-in-Computes
returns-in-Computes c = does_next c.operator_opcode.ensures c.from_next-in-Computes.ensures

pub returns-in-Moves : goal.returns-in-Moves
returns-in-Moves c = does_next (does_as (named_as c.try_from.ensures c.in-Ok.is) c.jump_opcode.ensures) c.from_next-in-Moves.ensures

pub returns-in-Closes : goal.returns-in-Closes
returns-in-Closes c = closes_steps (chosen_as _ _ c.try_from.ensures c.in-Ok.is c.choose.ensures) c.in-Closes.is

pub returns-in_default : goal.returns-in_default
returns-in_default c = search (left_out_steps, rules)
