-- `scan::frame_fits` meets its contract. Assumes nothing.
use borrow.Author.Rules.{rules}
use Rattle.std.proofs.Common.{◌<◌, ◌∙◌}
use Rattle.scan.specs.Frames.{frame_short, frame_spare, frame_kind, frame_handlers, frame_long, frame_body, ended_inside}
use native.Mathlib.Omega.{arith}
use Rattle.scan.proofs.frame_fits.Goals as goal

pub returns-then-room-lt6 : goal.returns-then-room-lt6
returns-then-room-lt6 c = search frame_short

pub returns-then-not-spare_fits : goal.returns-then-not-spare_fits
returns-then-not-spare_fits c = search frame_spare

pub returns-in_err-limit : goal.returns-in_err-limit
returns-in_err-limit c = c.from_residual.ensures ∙ search (frame_kind, c.in_err-limit.was)

pub returns-then-payload-gt16 : goal.returns-then-payload-gt16
returns-then-payload-gt16 c = let h : 16 < c.payload.result = search rules in search (frame_handlers, c.in_ok-limit.was)

pub returns-in_err-end : goal.returns-in_err-end
returns-in_err-end c = c.from_residual-in_err-end.ensures ∙ search (frame_long, c.in_ok-limit.was, c.in_err-end.was)

pub body_fits-requires : goal.body_fits-requires
body_fits-requires c = (ended_inside c.args.x.now c.frame_end.ensures c.in_ok-end.was, grind arith)

pub returns : goal.returns
returns c = search (frame_body, c.in_ok-limit.was, c.in_ok-end.was)
