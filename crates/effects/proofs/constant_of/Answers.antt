-- `effects::constant_of` meets its contract. Assumes nothing.
use Rattle.effects.specs.Effects.{constant_of_past, constant_of_over, constant_of_here}
use Rattle.effects.proofs.constant_of.Goals as goal
use Rattle.effects.proofs.constant_of.Goals.{else-code-program-via-then-code-program+else-v-constant_count, else-code-program-via-else-code-program}

pub returns-then-v-constant_count : goal.returns-then-v-constant_count
returns-then-v-constant_count c = search constant_of_here

pub returns : goal.returns
returns c = elim c.else-code-program.branch [ else-code-program-via-then-code-program+else-v-constant_count w ↦ search constant_of_over | else-code-program-via-else-code-program w ↦ search constant_of_past ]
