-- `moves::clear_handlers` meets its contract. Assumes nothing.
use Rattle.moves.specs.Runs.{clears}
use borrow.Author.Rules.{rules}
use Rattle.moves.proofs.clear_handlers.Goals as goal

pub returns : goal.returns
returns c = (search rules, search clears)
