-- `layout::begin_front` meets its contract. Assumes nothing.
use Rattle.image.proofs.RowLaws.{row_within}
use Rattle.std.proofs.Common.{arith}
use Rattle.layout.specs.Tables.{begin_broken, begin_ends, pushed_row}
use Rattle.layout.proofs.begin_front.Goals as goal

pub returns-in_err-to : goal.returns-in_err-to
returns-in_err-to c = rw c.from_residual.ensures (begin_broken _ _ _ _ _ _ c.requires.1 c.parts_of-p.ensures c.read_constants.ensures c.in_err-to.was)

pub returns : goal.returns
returns c = begin_ends _ _ _ _ _ _ c.requires.1 c.parts_of-p.ensures c.read_constants.ensures c.in_ok-to.was (pushed_row _ _ _ (row_within _ _ (omega (arith, c.requires.0.few, c.requires.0.long))))

pub bounds-rows-codes : goal.bounds-rows-codes
bounds-rows-codes c = row_within _ _ (omega (arith, c.requires.0.few, c.requires.0.long))
