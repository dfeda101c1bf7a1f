-- `steps::quick_step` meets its contract. Assumes nothing.
use mathlib.Core.Path.{ap}
use Rattle.std.proofs.Common.{◌∙◌}
use native.Mathlib.Omega.{arith}
use Rattle.image.specs.Kinds.{opcode_number}
use Rattle.steps.specs.Families.{named_as, ready_fits, local_loads, local_stores, const_asks}
use Rattle.steps.specs.Quickly.{quick_by, quick_number, quick_pop, quick_jump, quick_made}
use Rattle.steps.proofs.quick_step.Goals as goal

pub load_local-requires : goal.load_local-requires
load_local-requires c = local_loads c.requires.ready (named_as c.try_from.ensures c.in-Ok.is ∙ ap opcode_number c.in-LoadLocal.is)

pub quick_const-requires : goal.quick_const-requires
quick_const-requires c = const_asks c.requires (named_as c.try_from.ensures c.in-Ok.is ∙ ap opcode_number c.in-LoadConst.is)

pub store_local-requires : goal.store_local-requires
store_local-requires c = local_stores c.requires.ready (named_as c.try_from.ensures c.in-Ok.is ∙ ap opcode_number c.in-StoreLocal.is)

pub returns-in-Pop : goal.returns-in-Pop
returns-in-Pop c = quick_pop c.requires (named_as c.try_from.ensures c.in-Ok.is ∙ ap opcode_number c.in-Pop.is) c.pop.ensures c.quick_next.ensures

pub binary-requires : goal.binary-requires
binary-requires c = ready_fits c.requires.ready

pub returns-in-Add : goal.returns-in-Add
returns-in-Add c = quick_by c.requires (named_as c.try_from.ensures c.in-Ok.is ∙ ap opcode_number c.in-Add.is) c.binary.ensures.lent c.quick_next-in-Add.ensures

pub binary-requires-in-Sub : goal.binary-requires-in-Sub
binary-requires-in-Sub c = ready_fits c.requires.ready

pub returns-in-Sub : goal.returns-in-Sub
returns-in-Sub c = quick_by c.requires (named_as c.try_from.ensures c.in-Ok.is ∙ ap opcode_number c.in-Sub.is) c.binary-in-Sub.ensures.lent c.quick_next-in-Sub.ensures

pub binary-requires-in-Mul : goal.binary-requires-in-Mul
binary-requires-in-Mul c = ready_fits c.requires.ready

pub returns-in-Mul : goal.returns-in-Mul
returns-in-Mul c = quick_by c.requires (named_as c.try_from.ensures c.in-Ok.is ∙ ap opcode_number c.in-Mul.is) c.binary-in-Mul.ensures.lent c.quick_next-in-Mul.ensures

pub binary-requires-in-Gt : goal.binary-requires-in-Gt
binary-requires-in-Gt c = ready_fits c.requires.ready

pub returns-in-Gt : goal.returns-in-Gt
returns-in-Gt c = quick_by c.requires (named_as c.try_from.ensures c.in-Ok.is ∙ ap opcode_number c.in-Gt.is) c.binary-in-Gt.ensures.lent c.quick_next-in-Gt.ensures

pub binary-requires-in-Ge : goal.binary-requires-in-Ge
binary-requires-in-Ge c = ready_fits c.requires.ready

pub returns-in-Ge : goal.returns-in-Ge
returns-in-Ge c = quick_by c.requires (named_as c.try_from.ensures c.in-Ok.is ∙ ap opcode_number c.in-Ge.is) c.binary-in-Ge.ensures.lent c.quick_next-in-Ge.ensures

pub binary-requires-in-Lt : goal.binary-requires-in-Lt
binary-requires-in-Lt c = ready_fits c.requires.ready

pub returns-in-Lt : goal.returns-in-Lt
returns-in-Lt c = quick_by c.requires (named_as c.try_from.ensures c.in-Ok.is ∙ ap opcode_number c.in-Lt.is) c.binary-in-Lt.ensures.lent c.quick_next-in-Lt.ensures

pub binary-requires-in-Le : goal.binary-requires-in-Le
binary-requires-in-Le c = ready_fits c.requires.ready

pub returns-in-Le : goal.returns-in-Le
returns-in-Le c = quick_by c.requires (named_as c.try_from.ensures c.in-Ok.is ∙ ap opcode_number c.in-Le.is) c.binary-in-Le.ensures.lent c.quick_next-in-Le.ensures

pub pop_jump_if-requires : goal.pop_jump_if-requires
pop_jump_if-requires c = (ready_fits c.requires.ready, omega arith, omega arith)

pub returns-in-PopJumpIfTrue : goal.returns-in-PopJumpIfTrue
returns-in-PopJumpIfTrue c = quick_number c.requires (named_as c.try_from.ensures c.in-Ok.is ∙ ap opcode_number c.in-PopJumpIfTrue.is) c.pop_jump_if.ensures c.quick_next-in-PopJumpIfTrue.ensures

pub pop_jump_if-requires-in-PopJumpIfFalse : goal.pop_jump_if-requires-in-PopJumpIfFalse
pop_jump_if-requires-in-PopJumpIfFalse c = (ready_fits c.requires.ready, omega arith, omega arith)

pub returns-in-PopJumpIfFalse : goal.returns-in-PopJumpIfFalse
returns-in-PopJumpIfFalse c = quick_number c.requires (named_as c.try_from.ensures c.in-Ok.is ∙ ap opcode_number c.in-PopJumpIfFalse.is) c.pop_jump_if-in-PopJumpIfFalse.ensures c.quick_next-in-PopJumpIfFalse.ensures

pub returns-in-Jump : goal.returns-in-Jump
returns-in-Jump c = quick_jump c.requires (named_as c.try_from.ensures c.in-Ok.is ∙ ap opcode_number c.in-Jump.is) (omega arith) (omega arith) c.jump.ensures c.quick_next-in-Jump.ensures

pub returns-in-JumpBackEdge : goal.returns-in-JumpBackEdge
returns-in-JumpBackEdge c = quick_jump c.requires (named_as c.try_from.ensures c.in-Ok.is ∙ ap opcode_number c.in-JumpBackEdge.is) (omega arith) (omega arith) c.jump-in-JumpBackEdge.ensures c.quick_next-in-JumpBackEdge.ensures

pub returns-in-LoadLocal : goal.returns-in-LoadLocal
returns-in-LoadLocal c = quick_number c.requires (named_as c.try_from.ensures c.in-Ok.is ∙ ap opcode_number c.in-LoadLocal.is) c.load_local.ensures c.quick_next-in-LoadLocal.ensures

pub returns-in-StoreLocal : goal.returns-in-StoreLocal
returns-in-StoreLocal c = quick_number c.requires (named_as c.try_from.ensures c.in-Ok.is ∙ ap opcode_number c.in-StoreLocal.is) c.store_local.ensures c.quick_next-in-StoreLocal.ensures

pub returns-in-LoadConst : goal.returns-in-LoadConst
returns-in-LoadConst c = quick_made c.requires (named_as c.try_from.ensures c.in-Ok.is ∙ ap opcode_number c.in-LoadConst.is) c.quick_const.ensures
