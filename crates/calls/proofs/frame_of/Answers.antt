-- `calls::frame_of` meets its contract. Assumes nothing.
use Rattle.calls.specs.Calling.{begins_effect, begins_host, begins_none}
use Rattle.calls.proofs.frame_of.Goals as goal

pub returns-in-8 : goal.returns-in-8
returns-in-8 c = search begins_effect

pub returns-in-39 : goal.returns-in-39
returns-in-39 c = search begins_host

pub returns-in_default : goal.returns-in_default
returns-in_default c = search begins_none
