-- `loads::push_value` meets its contract. Assumes nothing.
use Rattle.loads.specs.Loads.{push_goes, push_stops}
use Rattle.loads.proofs.push_value.Goals as goal

pub returns-then-end-room : goal.returns-then-end-room
returns-then-end-room c = search push_goes

pub returns : goal.returns
returns c = search push_stops
