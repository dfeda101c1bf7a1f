-- The measure: the throws left, twice, and one more for a perform.
use Rattle.std.proofs.Common.{◌+◌, ◌*◌}
use Rattle.calls.proofs.+perform_effect_with_throw_error.Given as goal

abbrev pub decreases-perform_effect_with : goal.decreases-perform_effect_with
decreases-perform_effect_with l = l.throws * 2 + 1

abbrev pub decreases-throw_error : goal.decreases-throw_error
decreases-throw_error l = l.throws * 2
