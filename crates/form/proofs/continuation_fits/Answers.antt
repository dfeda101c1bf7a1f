-- `form::continuation_fits` meets its contract. Assumes nothing.
use Rattle.form.specs.Objects.{lent_body, continuation_is}
use Rattle.form.proofs.continuation_fits.Goals as goal

pub returns-then-frames-le256 : goal.returns-then-frames-le256
returns-then-frames-le256 c =
    let a = c.args in
    continuation_is _ _ _ c.number-frames.ensures c.requires.1 c.if-frames-le256.true (lent_body a.store.now a.at a.size c.requires.0) c.frames_fit.ensures c.eq.ensures
