-- `jumps::jump` meets its contract. Assumes nothing.
use Rattle.jumps.specs.Jumps.{jump_jumps}
use Rattle.jumps.proofs.jump.Goals as goal

pub returns : goal.returns
returns c = λ P op live a b. jump_jumps a b c.placed.ensures
