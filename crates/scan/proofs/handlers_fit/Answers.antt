-- `scan::handlers_fit` meets its contract. Assumes nothing.
use Rattle.scan.specs.Passed.{handlers_none, handlers_effect, handlers_target, handlers_more, handlers_all}
use Rattle.scan.proofs.handlers_fit.Goals as goal

pub loop-i-init : goal.loop-i-init
loop-i-init c = handlers_none _ _ _ _ _ _ _

pub returns-then-not-effect_fits : goal.returns-then-not-effect_fits
returns-then-not-effect_fits c = search handlers_effect

pub returns-then-not-target_fits : goal.returns-then-not-target_fits
returns-then-not-target_fits c = search handlers_target

pub loop-i-preserved : goal.loop-i-preserved
loop-i-preserved c = search handlers_more

pub returns : goal.returns
returns c = search handlers_all
