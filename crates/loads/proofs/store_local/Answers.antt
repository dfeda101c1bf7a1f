-- `loads::store_local` meets its contract. Assumes nothing.
use Rattle.loads.specs.Loads.{store_stops, stored_local, stored_parts}
use Rattle.loads.proofs.store_local.Goals as goal

pub returns-then-g-eq0 : goal.returns-then-g-eq0
returns-then-g-eq0 c = search store_stops

pub returns-then-is : goal.returns-then-is
returns-then-is c = search stored_parts

pub returns : goal.returns
returns c = search stored_local
