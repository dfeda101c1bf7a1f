-- `requests::start` meets its contract. Assumes nothing.
use Rattle.requests.specs.StartLaws.{start_frames, start_result, start_odd, used_within, start_unfit, startable}
use Rattle.std.proofs.Common.{ap, not}
use Rattle.requests.proofs.start.Goals as goal

pub returns-then-frames-ne0 : goal.returns-then-frames-ne0
returns-then-frames-ne0 c = start_frames _ _ _ _ _ _ c.frames.ensures c.if-frames-ne0.true

pub returns-then-has_result : goal.returns-then-has_result
returns-then-has_result c = start_result _ _ _ _ _ _ c.frames.ensures c.if-frames-ne0.false c.has_result.ensures c.if-has_result.true

pub returns-then-args-ne0 : goal.returns-then-args-ne0
returns-then-args-ne0 c = search start_odd

pub called_fits-requires : goal.called_fits-requires
called_fits-requires c = used_within c.requires c.used-used.ensures

pub returns-then-not-called_fits : goal.returns-then-not-called_fits
returns-then-not-called_fits c = search start_unfit

pub begin-requires : goal.begin-requires
begin-requires c = startable _ _ _ _ _ _ c.frames.ensures c.if-frames-ne0.false c.has_result.ensures c.if-has_result.false c.if-args-ne0.false c.used-used.ensures c.called_fits.ensures c.requires (ap not c.if-not-called_fits.false)
