-- `steps::operator_opcode` meets its contract. Assumes nothing.
use mathlib.Core.Path.{ap}
use Rattle.steps.specs.Families.{numbered, number_does, does_as}
use Rattle.steps.specs.declared.Operator.TheVariants.{Unary, Binary, TypeCheck}
use Rattle.steps.specs.declared.Family.TheVariants.{Computes}
use Rattle.steps.proofs.operator_opcode.Goals as goal

pub returns-in-Unary : goal.returns-in-Unary
returns-in-Unary c = number_does (numbered _ (Computes (Unary _)) (ap Computes c.in-Unary.is) c.requires.1) c.unary.ensures

pub returns-in-Binary : goal.returns-in-Binary
returns-in-Binary c = does_as (numbered _ (Computes (Binary _)) (ap Computes c.in-Binary.is) c.requires.1) c.binary.ensures.lent

pub returns-in-TypeCheck : goal.returns-in-TypeCheck
returns-in-TypeCheck c = number_does (numbered _ (Computes TypeCheck) (ap Computes c.in-TypeCheck.is) c.requires.1) c.type_check.ensures
