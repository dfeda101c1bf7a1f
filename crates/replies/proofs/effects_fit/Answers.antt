-- `replies::effects_fit` meets its contract. Assumes nothing.
use Rattle.scan.specs.Passed.{passed_none}
use Rattle.replies.specs.FitLaws.{cells_not, cells_more, cells_all}
use Rattle.replies.proofs.effects_fit.Goals as goal

pub loop-i-init : goal.loop-i-init
loop-i-init c = passed_none _ _ _ _

pub returns-then-not-effect_fits : goal.returns-then-not-effect_fits
returns-then-not-effect_fits c = search cells_not

pub loop-i-preserved : goal.loop-i-preserved
loop-i-preserved c = search cells_more

pub returns : goal.returns
returns c = search cells_all
