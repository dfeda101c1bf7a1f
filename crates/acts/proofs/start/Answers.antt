-- `acts::start` meets its contract: the laws of a plan over the running frame, for the plan `Starts`. Assumes nothing.
use Rattle.acts.specs.ActedLaws.{over_settles, over_settles_left}
use Rattle.acts.specs.Started.{start_counts, start_refused, start_needs, start_done}
use Rattle.acts.proofs.start.Goals as goal

pub started-after-requires : goal.started-after-requires
started-after-requires c = start_counts _ c.requires c.room.ensures (search)

pub settle-requires : goal.settle-requires
settle-requires c = search over_settles

pub returns-in-Err : goal.returns-in-Err
returns-in-Err c = search start_refused

pub settle-requires-2 : goal.settle-requires-2
settle-requires-2 c = search over_settles_left

pub start_frame-requires : goal.start_frame-requires
start_frame-requires c = start_needs _ c.requires c.room.ensures c.started-after.ensures c.room-2.ensures c.room-3.ensures c.check.ensures c.in_default.is c.settle-2.ensures

pub returns : goal.returns
returns c = start_done _ c.requires c.room.ensures c.started-after.ensures c.room-2.ensures c.room-3.ensures c.check.ensures c.in_default.is c.settle-2.ensures c.start_frame.ensures
