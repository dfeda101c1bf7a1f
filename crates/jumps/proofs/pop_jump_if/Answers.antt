-- `jumps::pop_jump_if` meets its contract. Assumes nothing.
use Rattle.jumps.specs.Jumps.{pop_stops, pop_throws, pop_jumps, pop_goes}
use Rattle.jumps.proofs.pop_jump_if.Goals as goal

pub returns-then-g-eq0 : goal.returns-then-g-eq0
returns-then-g-eq0 c = search pop_stops

pub returns-then-not-is : goal.returns-then-not-is
returns-then-not-is c = search pop_throws

pub returns-then-v-asked : goal.returns-then-v-asked
returns-then-v-asked c = search pop_jumps

pub returns : goal.returns
returns c = search pop_goes
