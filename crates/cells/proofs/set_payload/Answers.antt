-- `cells::set_payload` meets its contract. Assumes nothing.
use Rattle.cells.specs.CellsLaws.{writes_payload}
use borrow.Author.Rules.{rules}
use Rattle.cells.proofs.set_payload.Goals as goal

pub returns : goal.returns
returns c = rw c.write64.ensures (writes_payload _ _ _ (search rules) (search rules))
