-- `jumps::nop` meets its contract. Assumes nothing.
use Rattle.jumps.specs.Jumps.{nop_goes}
use Rattle.jumps.proofs.nop.Goals as goal

pub returns : goal.returns
returns c = search nop_goes
