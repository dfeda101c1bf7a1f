-- No refusal has the number 0, which is that of what was accepted, and none has one above 16.
use Rattle.std.specs.Prelude.{◌≡◌, ◌<◌, ◌≤◌}
use Rattle.std.proofs.Common.{arith}
use Rattle.refusals.specs.declared.Refusal.{Refusal}
use Rattle.refusals.specs.Refusals.{number}

pub number_above : (r : Refusal) → 0 < number r
number_above r = grind arith

pub number_not_zero : (r : Refusal) → number r ≡ 0 → ⊥
number_not_zero r = grind arith

pub number_most : (r : Refusal) → number r ≤ 16
number_most r = grind arith
