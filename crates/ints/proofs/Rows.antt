-- Rows of the test board and of the ends of 64 bits, by the definitions.
use Rattle.std.specs.Prelude.{◌≡◌, ℕ, ◌+◌, ◌-◌, true, false, refl, Some, None}
use Rattle.std.proofs.Math.Bool.{xor}
use Rattle.std.specs.Int.{w64}
use Rattle.std.proofs.Common.{to_z}
use Rattle.ints.specs.Ints.{half, signed, wrap, quotient, divided, with_sign, neg, add, sub, mul, div, rem, lt, le, gt, ge}

-- the integer of a pattern is what the machine's signed operations read of the bits
pub machine : (a : ℕ) → signed half a ≡ to_z w64 a
unfolding signed
machine a = refl

-- the least Int, the greatest, and -n
abbrev least : ℕ
least = half

abbrev greatest : ℕ
greatest = half - 1

abbrev minus : ℕ → ℕ
minus n = half + half - n

-- P11: -7 `Div` 2 is -3, `Rem` -1
pub p11 : (div half (minus 7) 2 ≡ Some (minus 3)) × (rem half (minus 7) 2 ≡ Some (minus 1))
unfolding signed wrap quotient divided with_sign xor
p11 = (refl, refl)

-- the sign of the divisor counts for `Div` alone
pub divisor_sign : (div half 7 (minus 2) ≡ Some (minus 3)) × (rem half 7 (minus 2) ≡ Some 1) × (div half (minus 7) (minus 2) ≡ Some 3)
unfolding signed wrap quotient divided with_sign xor
divisor_sign = (refl, refl, refl)

-- the least Int by -1 gives itself, remainder 0; its opposite is itself; the greatest and 1 make it, and without 1 it is the greatest
pub least_by_minus_one : (div half least (minus 1) ≡ Some least) × (rem half least (minus 1) ≡ Some 0)
unfolding signed wrap quotient divided with_sign xor
least_by_minus_one = (refl, refl)

pub ends : (neg half least ≡ least) × (add half greatest 1 ≡ least) × (sub half least 1 ≡ greatest)
unfolding signed wrap
ends = (refl, refl, refl)

-- a zero divisor throws, whatever is divided
pub zero_divisor_lem : (a : ℕ) → (div half a 0 ≡ None) × (rem half a 0 ≡ None)
unfolding divided
zero_divisor_lem a = (refl, refl)

-- -1 times -1, and 2^32 times itself
pub products : (mul half (minus 1) (minus 1) ≡ 1) × (mul half 4294967296 4294967296 ≡ 0)
unfolding signed wrap
products = (refl, refl)

-- order goes by the sign, not by the pattern
pub order : (lt half (minus 1) 0 ≡ true) × (gt half 0 (minus 1) ≡ true) × (le half greatest least ≡ false) × (ge half least least ≡ true) × (lt half least least ≡ false)
unfolding signed
order = (refl, refl, refl, refl, refl)
