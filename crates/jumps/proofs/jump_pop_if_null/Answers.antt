-- `jumps::jump_pop_if_null` meets its contract. Assumes nothing.
use Rattle.jumps.specs.Jumps.{null_stops, null_jumps, null_goes}
use Rattle.jumps.proofs.jump_pop_if_null.Goals as goal

pub returns-then-g-eq0 : goal.returns-then-g-eq0
returns-then-g-eq0 c = search null_stops

pub returns-then-is : goal.returns-then-is
returns-then-is c = search null_jumps

pub returns : goal.returns
returns c = λ P. null_goes c.if-g-eq0.false c.top-v.ensures.0 c.is.ensures c.if-is.false
