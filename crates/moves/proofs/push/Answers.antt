-- `moves::push` meets its contract. Assumes nothing.
use Rattle.moves.specs.Runs.{pushes}
use borrow.Author.Rules.{rules}
use Rattle.moves.proofs.push.Goals as goal

pub returns : goal.returns
returns c = (search rules, search pushes)
