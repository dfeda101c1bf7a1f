-- `acts::receive` meets its contract: laws of Received, one for each need and each return. Assumes nothing.
use Rattle.acts.specs.ActedLaws.{below_settles}
use Rattle.acts.specs.Received.{receive_counts, receive_refused, receive_needs, receive_done}
use Rattle.acts.proofs.receive.Goals as goal

pub received-after-requires : goal.received-after-requires
received-after-requires c = search receive_counts

pub settle-requires : goal.settle-requires
settle-requires c = search below_settles

pub returns-in-Err : goal.returns-in-Err
returns-in-Err c = search receive_refused

pub receive-requires : goal.receive-requires
receive-requires c = receive_needs c.requires c.received-after.ensures c.room.ensures c.room-2.ensures c.check.ensures c.in_default.is

pub returns : goal.returns
returns c = search receive_done
