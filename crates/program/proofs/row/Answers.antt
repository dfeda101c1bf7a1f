-- `program::row` meets its contract. Assumes nothing.
use borrow.Author.Rules.{rules}
use Rattle.program.specs.Looks.{row_of}
use Rattle.program.proofs.row.Goals as goal

pub returns : goal.returns
returns c = row_of _ _ (search rules)
