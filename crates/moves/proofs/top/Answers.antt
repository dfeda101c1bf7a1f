-- `moves::top` meets its contract. Assumes nothing.
use Rattle.moves.specs.Runs.{top_shows}
use borrow.Author.Rules.{rules}
use Rattle.moves.proofs.top.Goals as goal

pub returns : goal.returns
returns c = (search top_shows, search rules)
