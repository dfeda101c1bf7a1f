-- `calls::handled` meets its contract. Assumes nothing.
use Rattle.calls.specs.Performing.{handling_performed, handling_thrown}
use Rattle.calls.proofs.handled.Goals as goal

pub returns-in-None : goal.returns-in-None
returns-in-None c = search handling_performed

pub returns-in-Some : goal.returns-in-Some
returns-in-Some c = search handling_thrown
