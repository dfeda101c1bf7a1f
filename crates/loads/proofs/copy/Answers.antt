-- `loads::copy` meets its contract. Assumes nothing.
use Rattle.loads.specs.Loads.{copy_none, copy_past, copied}
use Rattle.loads.proofs.copy.Goals as goal
use Rattle.loads.proofs.copy.Goals.{then-i-eq0-via-then-i-eq0, then-i-eq0-via-else-i-eq0+then-i-g}

pub returns-then-i-eq0 : goal.returns-then-i-eq0
returns-then-i-eq0 c = elim c.then-i-eq0.branch [ then-i-eq0-via-then-i-eq0 w ↦ search copy_none | then-i-eq0-via-else-i-eq0+then-i-g w ↦ search copy_past ]

pub returns : goal.returns
returns c = search copied
