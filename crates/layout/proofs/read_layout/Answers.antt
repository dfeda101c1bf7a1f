-- `layout::read_layout` meets its contract. Assumes nothing.
use Rattle.image.proofs.RowLaws.{rows_long}
use Rattle.layout.specs.RecordsLaws.{whole_of}
use Rattle.layout.specs.Reads.{layout_unsized, layout_not, layout_refused, layout_accepted, layout_over}
use borrow.Author.Rules.{rules}
use Rattle.std.proofs.Common.{ap, not}
use Rattle.std.proofs.lemmas.Result.{err_from_is_err_and}
use Rattle.layout.proofs.read_layout.Goals as goal

pub returns-then-image-lt6 : goal.returns-then-image-lt6
returns-then-image-lt6 c = record { does = layout_unsized _ c.then-image-lt6.either; low = search rules }

pub returns-then-not-is_whole : goal.returns-then-not-is_whole
returns-then-not-is_whole c = record { does = search layout_not; low = search rules }

pub after-end-requires : goal.after-end-requires
after-end-requires c = whole_of _ _ _ c.is_whole.ensures (ap not c.if-not-is_whole.false)

pub returns-then-end-image : goal.returns-then-end-image
returns-then-end-image c = layout_accepted _ c.if-image-lt6.false c.if-image-gt65536.false c.is_whole.ensures (ap not c.if-not-is_whole.false) c.after-end.ensures c.read_code.ensures c.in_ok-held.was c.if-end-image.true

pub returns-in_err-held : goal.returns-in_err-held
returns-in_err-held c =
    let p = err_from_is_err_and c.from_residual.result c.from_residual.ensures.1 in
    rw (p.1, p.2) (layout_refused _ c.if-image-lt6.false c.if-image-gt65536.false c.is_whole.ensures (ap not c.if-not-is_whole.false) c.after-end.ensures c.read_code.ensures c.in_err-held.was)

pub returns : goal.returns
returns c = layout_over _ c.if-image-lt6.false c.if-image-gt65536.false c.is_whole.ensures (ap not c.if-not-is_whole.false) c.after-end.ensures c.read_code.ensures c.in_ok-held.was c.if-end-image.false

pub read_code-requires : goal.read_code-requires
read_code-requires c = let l = rows_long _ c.requires.0 in search rules
