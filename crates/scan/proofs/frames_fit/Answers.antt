-- `scan::frames_fit` meets its contract. Assumes nothing.
use native.Mathlib.Omega.{arith}
use Rattle.std.proofs.Common.{◌∙◌}
use Rattle.scan.specs.Frames.{lent_end, frames_none, frames_bad, frame_inside, frames_more, frames_all}
use Rattle.scan.proofs.frames_fit.Goals as goal

pub loop-init : goal.loop-init
loop-init c = frames_none _ _ _ _ _

pub returns-in_err-size : goal.returns-in_err-size
returns-in_err-size c =
    let fits = rw (lent_end c.args.x.now c.loop.at c.loop.invariant.inside) at c.frame_fits.ensures in
    c.from_residual.ensures ∙ frames_bad c.loop.invariant c.loop-test.true fits c.in_err-size.was

pub overflow_add-at : goal.overflow_add-at
overflow_add-at c =
    let fits = rw (lent_end c.args.x.now c.loop.at c.loop.invariant.inside) at c.frame_fits.ensures in
    omega (arith, frame_inside c.loop.invariant c.loop-test.true fits c.in_ok-size.was)

pub loop-preserved : goal.loop-preserved
loop-preserved c =
    let fits = rw (lent_end c.args.x.now c.loop.at c.loop.invariant.inside) at c.frame_fits.ensures in
    frames_more c.loop.invariant c.loop-test.true fits c.in_ok-size.was

pub returns : goal.returns
returns c = frames_all c.loop.invariant c.loop-test.false
