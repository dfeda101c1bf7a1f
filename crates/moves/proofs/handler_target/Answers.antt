-- `moves::handler_target` meets its contract. Assumes nothing.
use Rattle.moves.specs.Runs.{target_shows}
use Rattle.moves.proofs.handler_target.Goals as goal

pub returns : goal.returns
returns c = search target_shows
