-- `moves::set_top` meets its contract. Assumes nothing.
use Rattle.moves.specs.Runs.{sets_top}
use Rattle.moves.proofs.set_top.Goals as goal

pub returns : goal.returns
returns c = search sets_top
