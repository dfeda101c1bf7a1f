-- `moves::handler` meets its contract. Assumes nothing.
use Rattle.moves.specs.Runs.{handler_shows}
use borrow.Author.Rules.{rules}
use Rattle.moves.proofs.handler.Goals as goal

pub returns : goal.returns
returns c = (search handler_shows, search rules)
