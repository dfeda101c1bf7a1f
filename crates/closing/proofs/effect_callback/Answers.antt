-- `closing::effect_callback` meets its contract: laws of CallbackLaws, with the facts in hand given by their paths. Assumes nothing.
use native.Mathlib.Omega.{arith}
use Rattle.closing.specs.CallbackLaws.{back_opens, back_gets, back_ends, back_copies, back_fits, back_lent, back_lends, back_lies, back_below, back_performs}
use Rattle.closing.specs.Results.{performs_as}
use Rattle.closing.proofs.effect_callback.Goals as goal

pub open-g-requires : goal.open-g-requires
open-g-requires c = search back_opens

pub end-requires : goal.end-requires
end-requires c = search back_ends

pub copy-requires : goal.copy-requires
copy-requires c = back_copies c.requires c.open-g.ensures c.end.ensures

pub get-requires : goal.get-requires
get-requires c = search back_gets

pub perform_effect_with-plan-requires : goal.perform_effect_with-plan-requires
perform_effect_with-plan-requires c = search back_lies

pub overflow_mul-n : goal.overflow_mul-n
overflow_mul-n c = omega (arith, back_fits c.requires c.open-g.ensures)

pub slice_bounds-below-end : goal.slice_bounds-below-end
slice_bounds-below-end c = back_lent c.requires c.open-g.ensures c.copy.ensures

pub slice_bounds-below-end-2 : goal.slice_bounds-below-end-2
slice_bounds-below-end-2 c = back_lends c.requires c.open-g.ensures c.copy.ensures

pub below-requires : goal.below-requires
below-requires c = back_below c.open-g.ensures c.end.ensures c.copy.ensures c.get.ensures c.perform_effect_with-plan.ensures c.requires

pub returns : goal.returns
returns c = performs_as (grind arith) (back_performs c.open-g.ensures c.end.ensures c.copy.ensures c.get.ensures c.perform_effect_with-plan.ensures c.below.ensures)
