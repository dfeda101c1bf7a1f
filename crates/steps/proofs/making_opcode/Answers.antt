-- `steps::making_opcode` meets its contract. Assumes nothing.
use mathlib.Core.Path.{ap}
use mathlib.Core.Logic.{inr}
use Rattle.steps.specs.Families.{numbered, ready_fits, const_asks, global_looks, global_named, list_asks, const_made, global_made, list_made}
use Rattle.steps.specs.declared.Making.TheVariants.{LoadConst, StoreGlobal, BuildList}
use Rattle.steps.specs.declared.Family.TheVariants.{Makes}
use Rattle.image.specs.Layout.{flat}
use Rattle.steps.proofs.making_opcode.Goals as goal

pub load_const-requires : goal.load_const-requires
load_const-requires c = const_asks c.requires.0 (numbered _ (Makes LoadConst) (ap Makes c.in-LoadConst.is) c.requires.1)

pub global-requires : goal.global-requires
global-requires c = global_looks c.args.program.now.image.now (flat c.args.program.now.rows.now) c.args.program.now.constants.now c.args.program.now.inner.now c.args.program.now.codes c.requires.0.ready (inr (numbered _ (Makes StoreGlobal) (ap Makes c.in-StoreGlobal.is) c.requires.1))

pub store_global-requires : goal.store_global-requires
store_global-requires c = (ready_fits c.requires.0.ready, c.requires.2, global_named c.args.program.now.image.now (flat c.args.program.now.rows.now) c.args.program.now.constants.now c.args.program.now.inner.now c.args.program.now.codes c.requires.0.ready (inr (numbered _ (Makes StoreGlobal) (ap Makes c.in-StoreGlobal.is) c.requires.1)) c.global.ensures)

pub build_list-requires : goal.build_list-requires
build_list-requires c = list_asks c.requires.0

pub returns-in-LoadConst : goal.returns-in-LoadConst
returns-in-LoadConst c = const_made (numbered _ (Makes LoadConst) (ap Makes c.in-LoadConst.is) c.requires.1) c.load_const.ensures

pub returns-in-StoreGlobal : goal.returns-in-StoreGlobal
returns-in-StoreGlobal c = global_made c.args.program.now.image.now (flat c.args.program.now.rows.now) c.args.program.now.constants.now c.args.program.now.inner.now c.args.program.now.codes (numbered _ (Makes StoreGlobal) (ap Makes c.in-StoreGlobal.is) c.requires.1) c.global.ensures c.store_global.ensures c.from_next.ensures

pub returns-in-BuildList : goal.returns-in-BuildList
returns-in-BuildList c = list_made (numbered _ (Makes BuildList) (ap Makes c.in-BuildList.is) c.requires.1) c.build_list.ensures c.from_made.ensures
