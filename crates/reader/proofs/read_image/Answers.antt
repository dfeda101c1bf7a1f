-- `reader::read_image` meets its contract. Assumes nothing.
use Rattle.std.proofs.lemmas.Result.{err_from_is_err_and}
use Rattle.std.proofs.Common.{arith}
use Rattle.image.proofs.RowLaws.{rows_long}
use Rattle.reader.specs.Reads.{reads_accepted, reads_refused, reads_not, fine_of, laid_fits}
use Rattle.reader.proofs.read_image.Goals as goal

pub returns-in_err-held : goal.returns-in_err-held
returns-in_err-held c =
    let p = err_from_is_err_and c.from_residual.result c.from_residual.ensures.1 in
    rw (p.1, p.2) (reads_refused c.read_layout.ensures c.in_err-held.was)

pub returns-then-all_fine : goal.returns-then-all_fine
returns-then-all_fine c = reads_accepted c.read_layout.ensures c.in_ok-held.was (fine_of c.filled.ensures.0 c.filled.ensures.2 c.all_fine.ensures) c.if-all_fine.true

pub returns : goal.returns
returns c = reads_not c.read_layout.ensures c.in_ok-held.was (fine_of c.filled.ensures.0 c.filled.ensures.2 c.all_fine.ensures) c.if-all_fine.false

pub filled-requires : goal.filled-requires
filled-requires c =
    let l = rows_long c.read_layout.new.rows (omega (arith, c.read_layout.auto.rows, c.requires.0)) in
    laid_fits c.read_layout.ensures c.in_ok-held.was l (omega (arith, c.read_layout.auto.constants, c.requires.1)) (omega (arith, c.read_layout.auto.inner, c.requires.2))
