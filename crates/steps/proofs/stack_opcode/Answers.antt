-- `steps::stack_opcode` meets its contract. Assumes nothing.
use mathlib.Core.Path.{ap}
use mathlib.Core.Logic.{inl}
use Rattle.steps.specs.Families.{numbered, ready_fits, local_loads, local_stores, upvalue_loads, global_looks, global_named, pop_stays, number_stays, load_global_stays, load_upvalue_stays}
use Rattle.steps.specs.declared.Stack.TheVariants.{Pop, Copy, Swap, LoadLocal, LoadGlobal, LoadUpvalue, StoreLocal}
use Rattle.steps.specs.declared.Family.TheVariants.{OnStack}
use Rattle.image.specs.Layout.{flat}
use Rattle.steps.proofs.stack_opcode.Goals as goal

pub copy-requires : goal.copy-requires
copy-requires c = ready_fits c.requires.0

pub swap-requires : goal.swap-requires
swap-requires c = ready_fits c.requires.0

pub load_local-requires : goal.load_local-requires
load_local-requires c = local_loads c.requires.0 (numbered _ (OnStack LoadLocal) (ap OnStack c.in-LoadLocal.is) c.requires.1)

pub global-requires : goal.global-requires
global-requires c = global_looks c.args.program.now.image.now (flat c.args.program.now.rows.now) c.args.program.now.constants.now c.args.program.now.inner.now c.args.program.now.codes c.requires.0 (inl (numbered _ (OnStack LoadGlobal) (ap OnStack c.in-LoadGlobal.is) c.requires.1))

pub load_global-requires : goal.load_global-requires
load_global-requires c = (ready_fits c.requires.0, c.requires.2, global_named c.args.program.now.image.now (flat c.args.program.now.rows.now) c.args.program.now.constants.now c.args.program.now.inner.now c.args.program.now.codes c.requires.0 (inl (numbered _ (OnStack LoadGlobal) (ap OnStack c.in-LoadGlobal.is) c.requires.1)) c.global.ensures)

pub load_upvalue-requires : goal.load_upvalue-requires
load_upvalue-requires c = upvalue_loads c.requires.0 (numbered _ (OnStack LoadUpvalue) (ap OnStack c.in-LoadUpvalue.is) c.requires.1)

pub store_local-requires : goal.store_local-requires
store_local-requires c = local_stores c.requires.0 (numbered _ (OnStack StoreLocal) (ap OnStack c.in-StoreLocal.is) c.requires.1)

pub returns-in-Pop : goal.returns-in-Pop
returns-in-Pop c = pop_stays (numbered _ (OnStack Pop) (ap OnStack c.in-Pop.is) c.requires.1) c.pop.ensures

pub returns-in-Copy : goal.returns-in-Copy
returns-in-Copy c = number_stays (numbered _ (OnStack Copy) (ap OnStack c.in-Copy.is) c.requires.1) c.copy.ensures

pub returns-in-Swap : goal.returns-in-Swap
returns-in-Swap c = number_stays (numbered _ (OnStack Swap) (ap OnStack c.in-Swap.is) c.requires.1) c.swap.ensures

pub returns-in-LoadLocal : goal.returns-in-LoadLocal
returns-in-LoadLocal c = number_stays (numbered _ (OnStack LoadLocal) (ap OnStack c.in-LoadLocal.is) c.requires.1) c.load_local.ensures

pub returns-in-LoadGlobal : goal.returns-in-LoadGlobal
returns-in-LoadGlobal c = load_global_stays c.args.program.now.image.now (flat c.args.program.now.rows.now) c.args.program.now.constants.now c.args.program.now.inner.now c.args.program.now.codes _ _ (numbered _ (OnStack LoadGlobal) (ap OnStack c.in-LoadGlobal.is) c.requires.1) c.global.ensures c.load_global.ensures

pub returns-in-LoadUpvalue : goal.returns-in-LoadUpvalue
returns-in-LoadUpvalue c = load_upvalue_stays (numbered _ (OnStack LoadUpvalue) (ap OnStack c.in-LoadUpvalue.is) c.requires.1) c.load_upvalue.ensures

pub returns-in-StoreLocal : goal.returns-in-StoreLocal
returns-in-StoreLocal c = number_stays (numbered _ (OnStack StoreLocal) (ap OnStack c.in-StoreLocal.is) c.requires.1) c.store_local.ensures
