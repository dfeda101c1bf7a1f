-- `cells::set_number` meets its contract. Assumes nothing.
use Rattle.cells.specs.CellsLaws.{writes_number}
use borrow.Author.Rules.{rules}
use Rattle.cells.proofs.set_number.Goals as goal

pub returns : goal.returns
returns c = rw c.write32.ensures (writes_number _ _ _ (search rules) (search rules))
