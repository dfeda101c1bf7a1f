-- `cells::put` meets its contract. Assumes nothing.
use Rattle.cells.specs.Cells.{put_cell}
use Rattle.cells.specs.CellsLaws.{writes_put}
use borrow.Author.Rules.{rules}
use Rattle.cells.proofs.put.Goals as goal

pub returns : goal.returns
unfolding put_cell
returns c = rw (c.write64.ensures, c.write32-2.ensures, c.write32.ensures) (writes_put _ _ c.args.c (search rules) (search rules))
