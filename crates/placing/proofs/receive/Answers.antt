-- `placing::receive` meets its contract. Assumes nothing.
use Rattle.moves.specs.Frames.{receives}
use Rattle.placing.proofs.receive.Goals as goal

pub returns : goal.returns
returns c = search receives
