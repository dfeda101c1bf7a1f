-- `loads::pop` meets its contract. Assumes nothing.
use Rattle.loads.specs.Loads.{pop_stops, pop_goes}
use Rattle.loads.proofs.pop.Goals as goal

pub returns-then-g-eq0 : goal.returns-then-g-eq0
returns-then-g-eq0 c = search pop_stops

pub returns : goal.returns
returns c = search pop_goes
