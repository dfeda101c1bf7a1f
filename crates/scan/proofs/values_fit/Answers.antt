-- `scan::values_fit` meets its contract. Assumes nothing.
use borrow.Author.Rules.{rules}
use mathlib.Core.Path.{refl}
use Rattle.scan.specs.Values.{told, plain_fits}
use Rattle.scan.specs.Passed.{passed_none, passed_not, passed_more, passed_all}
use Rattle.std.proofs.Common.{ap, not}
use Rattle.scan.proofs.values_fit.Goals as goal
use Rattle.scan.proofs.values_fit.Goals.{then-not-is_plain+else-not-value_fits, else-not-is_plain}

pub loop-i-init : goal.loop-i-init
loop-i-init c = passed_none _ _ _ _

pub returns-then-not-value_fits : goal.returns-then-not-value_fits
returns-then-not-value_fits c = search passed_not

pub loop-i-preserved : goal.loop-i-preserved
loop-i-preserved c = passed_more c.loop-i.invariant (search rules) (search rules) c.get-v.ensures
    (elim c.if-not-is_plain.branch [ then-not-is_plain+else-not-value_fits w ↦ told _ _ _ _ w.value_fits.ensures (ap not w.if-not-value_fits.false) | else-not-is_plain w ↦ plain_fits _ _ _ _ c.is_plain.ensures (ap not w.if-not-is_plain.false) ])
    refl

pub returns : goal.returns
returns c = search passed_all
