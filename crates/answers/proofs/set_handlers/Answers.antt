-- `answers::set_handlers` meets its contract: the first j of the kept effects are its handlers. Assumes nothing.
use Rattle.answers.specs.Frames.{host_fits, open_fits, adding_none, adding_there, adding_fits, adding_more, adding_settles, rehandles}
use Rattle.answers.proofs.set_handlers.Goals as goal

pub open-requires : goal.open-requires
open-requires c = search host_fits

pub clear_handlers-g-requires : goal.clear_handlers-g-requires
clear_handlers-g-requires c = search open_fits

pub loop-j-init : goal.loop-j-init
loop-j-init c = adding_none c.requires c.«open».ensures c.clear_handlers-g.ensures

pub get-requires : goal.get-requires
get-requires c = search adding_there

pub add_handler-g-requires : goal.add_handler-g-requires
add_handler-g-requires c = search adding_fits

pub loop-j-preserved : goal.loop-j-preserved
loop-j-preserved c = adding_more c.loop-j.invariant c.loop-j-test.true c.get.ensures c.add_handler-g.ensures

pub settle-requires : goal.settle-requires
settle-requires c = adding_settles c.loop-j.invariant

pub returns : goal.returns
returns c = rehandles c.loop-j.invariant c.loop-j-test.false c.«open».ensures c.clear_handlers-g.ensures c.settle.ensures
