-- `calls::unhandled` meets its contract. Assumes nothing.
use Rattle.calls.specs.Performing.{lacking_performed, lacking_thrown}
use Rattle.calls.proofs.unhandled.Goals as goal

pub returns-in-None : goal.returns-in-None
returns-in-None c = search lacking_performed

pub returns-in-Some : goal.returns-in-Some
returns-in-Some c = search lacking_thrown
