-- `acts::act` meets its contract: a law for each arm; what `carry` needs is given by its path. Assumes nothing.
use native.Mathlib.Omega.{arith}
use Rattle.acts.specs.Eased.{eases_some}
use Rattle.acts.specs.Alike.{act_settles, act_leaves, act_judges, act_refused, act_carries, act_done, act_easy, act_few, act_stands, act_eased}
use Rattle.acts.proofs.act.Goals as goal

pub easy-requires : goal.easy-requires
easy-requires c = act_judges _ c.room-n.ensures c.args.left c.requires

pub settle_left-requires : goal.settle_left-requires
settle_left-requires c = act_leaves _ c.args.left c.requires

pub carry-requires : goal.carry-requires
carry-requires c = act_easy _ c.room-n.ensures (eases_some c.easy.ensures c.in-Some.is) c.args.left c.requires c.settle_left.ensures

pub overflow_add-c : goal.overflow_add-c
overflow_add-c c = omega (arith, act_few _ c.room-n.ensures (eases_some c.easy.ensures c.in-Some.is) c.args.left c.requires c.settle_left.ensures)

pub standing-requires : goal.standing-requires
standing-requires c = act_stands _ c.room-n.ensures (eases_some c.easy.ensures c.in-Some.is) c.carry.ensures c.args.left c.requires c.settle_left.ensures

pub returns-in-Some : goal.returns-in-Some
returns-in-Some c = act_eased _ c.room-n.ensures (eases_some c.easy.ensures c.in-Some.is) c.carry.ensures c.args.left c.requires c.settle_left.ensures c.standing.ensures

pub judge-requires : goal.judge-requires
judge-requires c = act_judges _ c.room-n.ensures c.args.left c.requires

pub settle-requires : goal.settle-requires
settle-requires c = act_settles _ c.args.left c.requires

pub settle_left-requires-in-Ok : goal.settle_left-requires-in-Ok
settle_left-requires-in-Ok c = act_leaves _ c.args.left c.requires

pub carry-requires-in-Ok : goal.carry-requires-in-Ok
carry-requires-in-Ok c = act_carries _ c.room-n.ensures c.judge.ensures c.in-Ok.is c.args.left c.requires c.settle_left-in-Ok.ensures

pub returns-in-Err : goal.returns-in-Err
returns-in-Err c = act_refused _ c.room-n.ensures c.args.left c.judge.ensures c.in-Err.is c.settle.ensures

pub returns-in-Ok : goal.returns-in-Ok
returns-in-Ok c = act_done _ c.room-n.ensures c.judge.ensures c.in-Ok.is c.args.left c.requires c.settle_left-in-Ok.ensures c.carry-in-Ok.ensures
