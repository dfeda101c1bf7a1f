-- What memory shows of an error: the number of its kind, which is 3 or more, and no arguments.
use Rattle.std.specs.Prelude.{◌≡◌, refl, [], ◌≤◌}
use Rattle.std.proofs.Common.{arith}
use Rattle.machine.specs.Values.{Error, call_arguments, un_operator, bin_operator, meta_un_operator, meta_bin_operator, zero_divisor, lucia_error, lucia_panic}
use Rattle.memory.specs.Layout.{error_shown}
use Rattle.plan.specs.Kinds.{kind_of}
use Rattle.results.specs.Results.{kind_number}

pub shown_is : (x : Error) → (kind_number (kind_of x) ≡ (error_shown x).kind) × (3 ≤ (error_shown x).kind) × ((error_shown x).args ≡ [])
unfolding kind_of error_shown
shown_is (call_arguments start unbounded given) = (refl, omega arith, refl)
shown_is (un_operator o x t) = (refl, omega arith, refl)
shown_is (bin_operator o x t u) = (refl, omega arith, refl)
shown_is (meta_un_operator n t) = (refl, omega arith, refl)
shown_is (meta_bin_operator n t u) = (refl, omega arith, refl)
shown_is zero_divisor = (refl, omega arith, refl)
shown_is (lucia_error c) = (refl, omega arith, refl)
shown_is (lucia_panic c) = (refl, omega arith, refl)
