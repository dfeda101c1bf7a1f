-- `jumps::jump_if_or_pop` meets its contract. Assumes nothing.
use Rattle.jumps.specs.Jumps.{or_pop_stops, or_pop_throws, or_pop_jumps, or_pop_goes}
use Rattle.jumps.proofs.jump_if_or_pop.Goals as goal

pub returns-then-g-eq0 : goal.returns-then-g-eq0
returns-then-g-eq0 c = search or_pop_stops

pub returns-then-not-is : goal.returns-then-not-is
returns-then-not-is c = search or_pop_throws

pub returns-then-v-asked : goal.returns-then-v-asked
returns-then-v-asked c = search or_pop_jumps

pub returns : goal.returns
returns c = search or_pop_goes
