-- `loads::swap` meets its contract. Assumes nothing.
use Rattle.loads.specs.Loads.{swap_none, swap_past, swaps}
use Rattle.loads.proofs.swap.Goals as goal
use Rattle.loads.proofs.swap.Goals.{then-i-eq0-via-then-i-eq0, then-i-eq0-via-else-i-eq0+then-i-g}

pub returns-then-i-eq0 : goal.returns-then-i-eq0
returns-then-i-eq0 c = elim c.then-i-eq0.branch [ then-i-eq0-via-then-i-eq0 w ↦ search swap_none | then-i-eq0-via-else-i-eq0+then-i-g w ↦ search swap_past ]

pub returns : goal.returns
returns c = search swaps
