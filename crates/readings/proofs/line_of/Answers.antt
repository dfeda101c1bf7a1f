-- `readings::line_of` meets its contract: the loop keeps `Seeking`. Assumes nothing.
use Rattle.std.proofs.Common.{◌∙◌}
use Rattle.readings.specs.Lines.{seeking_first, seeking_none, seeking_next, seeking_found}
use Rattle.readings.proofs.line_of.Goals as goal

pub loop-init : goal.loop-init
loop-init c = seeking_first _ _

pub returns-in_err-start : goal.returns-in_err-start
returns-in_err-start c = c.from_residual.ensures ∙ seeking_none c.loop.invariant c.before_feed.ensures c.in_err-start.was

pub loop-preserved : goal.loop-preserved
loop-preserved c = seeking_next c.loop.invariant c.before_feed.ensures c.in_ok-start.was c.loop-test.true

pub returns-in_err-size : goal.returns-in_err-size
returns-in_err-size c = c.from_residual-in_err-size.ensures ∙ seeking_none c.loop.invariant c.before_feed-2.ensures c.in_err-size.was

pub returns : goal.returns
returns c = seeking_found c.loop.invariant c.before_feed-2.ensures c.in_ok-size.was c.loop-test.false
