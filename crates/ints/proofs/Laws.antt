-- Each operation as the code finds it: what std's method computes is what its definition says. Sums, opposites and products go at any width.
use Rattle.std.proofs.Common.{◌≡◌, ℕ, zero, suc, ◌+◌, ◌-◌, ◌*◌, ◌/◌, ◌%◌, ◌<◌, ◌≤◌, Some, None, ℤ, pos, negsuc, neg_ℤ, sym, refl, ap, ◌∙◌, le_trans, mod-eq_of_lt, arith}
use native.Mathlib.Decide.{dec_lt}
use Rattle.std.proofs.Math.Nat.{add-mod-mod, div-le_self, mod-le}
use Rattle.std.specs.Prelude.{unsigned_abs as unsigned_abs_of, int_div, int_rem, ◌^◌}
use lib.Signed.{lt_z, le_z}
use Rattle.std.specs.Int.{w64, int_wrapping_div}
use Rattle.std.proofs.lemmas.Int.{of_z-to_z}
use Rattle.std.proofs.Common.{to_z, of_z}
use Rattle.ints.specs.Ints.{half, signed, wrap, divided, neg, add, sub, mul, div, rem, lt, le}
use Rattle.ints.specs.Modulo.{opposite}
use Rattle.ints.proofs.Modulo.{is_opposite}
use Rattle.ints.proofs.IntLaws.{wrap_neg, wrap_sum, wrap_difference, wrap_product, signed_low, signed_high, wrap_signed, div_truncates, rem_sign}

module _ (h : ℕ) where
  abbrev m : ℕ
  m = h + h

  pub neg_is : {r a : ℕ} → r < m → a < m → (r + a) % m ≡ 0 → r ≡ neg h a
  neg_is {r} {a} f k e =
      sym (mod-eq_of_lt f) ∙ is_opposite m (omega arith) r a e ∙ sym (wrap_neg h (omega arith) (signed h a) ∙ ap (opposite m) (wrap_signed h k))

  pub add_is : {r a b : ℕ} → a < m → b < m → r ≡ (a + b) % m → r ≡ add h a b
  add_is {r} {a} {b} k l e = e ∙ sym (wrap_sum h (omega arith) (signed h a) (signed h b) ∙ (λ i. (wrap_signed h k i + wrap_signed h l i) % m))

  pub sub_is : {r a b : ℕ} → a < m → b < m → r ≡ (a + (m - b)) % m → r ≡ sub h a b
  unfolding opposite
  sub_is {r} {a} {b} k l e =
      e ∙ sym (add-mod-mod a (m - b) m) ∙ ap (λ (n : ℕ). (a + (m - n) % m) % m) (sym (mod-eq_of_lt l))
      ∙ sym (wrap_difference h (omega arith) (signed h a) (signed h b) ∙ (λ i. (wrap_signed h k i + opposite m (wrap_signed h l i)) % m))

  pub mul_is : {r a b : ℕ} → a < m → b < m → r ≡ (a * b) % m → r ≡ mul h a b
  mul_is {r} {a} {b} k l e = e ∙ sym (wrap_product h (omega arith) (signed h a) (signed h b) ∙ (λ i. wrap_signed h k i * wrap_signed h l i % m))

-- ---- At 64 bits: std's `to_z w64` is the integer of a pattern, and `of_z w64` the pattern of an integer
-- the magnitude of an Int
signed_most : {a : ℕ} → a < 2 ^ 64 → unsigned_abs_of (signed half a) ≤ half
signed_most {a} k = by (dec_lt a half)
  where
    by : Dec (a < half) → unsigned_abs_of (signed half a) ≤ half
    by (yes l) = omega (arith, ap unsigned_abs_of (signed_low half l))
    by (no l) = omega (arith, ap unsigned_abs_of (signed_high half {a = a} (omega arith)))

-- an integer down to the least Int, and its pattern
of_z_fits : (z : ℤ) → unsigned_abs_of z ≤ half → of_z w64 z < 2 ^ 64
of_z_fits (pos n) l = omega arith
of_z_fits (negsuc n) l = omega arith

of_z_wrap : (z : ℤ) → unsigned_abs_of z ≤ half → of_z w64 z ≡ wrap half z
unfolding wrap
of_z_wrap (pos n) l = sym (mod-eq_of_lt (omega arith))
of_z_wrap (negsuc n) l =
    let e : n % (half + half) ≡ n = mod-eq_of_lt (omega arith) in
    omega arith

-- a number with a sign has its own magnitude
neg_abs : (n : ℕ) → unsigned_abs_of (neg_ℤ (pos n)) ≡ n
neg_abs zero = refl
neg_abs (suc n) = refl

-- a quotient and a remainder are no greater than what is divided
div_less : (x y : ℤ) → unsigned_abs_of (int_div x y) ≤ unsigned_abs_of x
div_less (pos a) (pos b) = div-le_self a b
div_less (pos a) (negsuc b) = omega (arith, neg_abs (a / suc b), div-le_self a (suc b))
div_less (negsuc a) (pos b) = omega (arith, neg_abs (suc a / b), div-le_self (suc a) b)
div_less (negsuc a) (negsuc b) = div-le_self (suc a) (suc b)

rem_less : (x y : ℤ) → unsigned_abs_of (int_rem x y) ≤ unsigned_abs_of x
rem_less (pos a) y = mod-le a (unsigned_abs_of y)
rem_less (negsuc a) y = omega (arith, neg_abs (suc a % unsigned_abs_of y), mod-le (suc a) (unsigned_abs_of y))

-- the number that a call takes for a pattern
back : (a : ℕ) {x : ℤ} → a < 2 ^ 64 → x ≡ to_z w64 a → to_z w64 (of_z w64 x) ≡ signed half a
unfolding signed
back a k e = ap (λ (z : ℤ). to_z w64 (of_z w64 z)) e ∙ ap (to_z w64) (of_z-to_z w64 a k)

-- ---- division and remainder: by 0, and by another number
pub div_none : (a b : ℕ) → b ≡ 0 → None ≡ div half a b
unfolding divided
div_none a b e = sym (ap (div half a) e)

pub rem_none : (a b : ℕ) → b ≡ 0 → None ≡ rem half a b
unfolding divided
rem_none a b e = sym (ap (rem half a) e)

pub div_some : (a b : ℕ) {r : ℕ} {x y z : ℤ} → a < 2 ^ 64 → b < 2 ^ 64 → (b ≡ 0 → ⊥) → x ≡ to_z w64 a → y ≡ to_z w64 b
    → z ≡ int_wrapping_div w64 (to_z w64 (of_z w64 x)) (to_z w64 (of_z w64 y)) → r ≡ of_z w64 (to_z w64 (of_z w64 z)) → Some r ≡ div half a b
div_some a zero k l n d e f g = absurd (n refl)
div_some a (suc b) k l n d e f g =
    let q : ℤ = int_div (signed half a) (signed half (suc b)) in
    let t : unsigned_abs_of q ≤ half = le_trans (div_less (signed half a) (signed half (suc b))) (signed_most k) in
    let w : of_z w64 (to_z w64 (of_z w64 q)) ≡ of_z w64 q = of_z-to_z w64 _ (of_z_fits q t) in
    ap Some (g ∙ ap (λ (z : ℤ). of_z w64 (to_z w64 (of_z w64 z))) (f ∙ (λ i. int_wrapping_div w64 (back a k d i) (back (suc b) l e i)))
    ∙ ap (λ (n : ℕ). of_z w64 (to_z w64 n)) w ∙ w ∙ of_z_wrap q t) ∙ sym (div_truncates half a b)

pub rem_some : (a b : ℕ) {r : ℕ} {x y z : ℤ} → a < 2 ^ 64 → b < 2 ^ 64 → (b ≡ 0 → ⊥) → x ≡ to_z w64 a → y ≡ to_z w64 b
    → z ≡ int_rem (to_z w64 (of_z w64 x)) (to_z w64 (of_z w64 y)) → r ≡ of_z w64 (to_z w64 (of_z w64 z)) → Some r ≡ rem half a b
rem_some a zero k l n d e f g = absurd (n refl)
rem_some a (suc b) k l n d e f g =
    let q : ℤ = int_rem (signed half a) (signed half (suc b)) in
    let t : unsigned_abs_of q ≤ half = le_trans (rem_less (signed half a) (signed half (suc b))) (signed_most k) in
    ap Some (g ∙ ap (λ (z : ℤ). of_z w64 (to_z w64 (of_z w64 z))) (f ∙ (λ i. int_rem (back a k d i) (back (suc b) l e i)))
    ∙ of_z-to_z w64 _ (of_z_fits q t) ∙ of_z_wrap q t) ∙ sym (rem_sign half a b)

-- ---- order
pub lt_cast : (a b : ℕ) {x y : ℤ} → a < 2 ^ 64 → b < 2 ^ 64 → x ≡ to_z w64 a → y ≡ to_z w64 b → lt_z (to_z w64 (of_z w64 x)) (to_z w64 (of_z w64 y)) ≡ lt half a b
lt_cast a b k l d e i = lt_z (back a k d i) (back b l e i)

pub le_cast : (a b : ℕ) {x y : ℤ} → a < 2 ^ 64 → b < 2 ^ 64 → x ≡ to_z w64 a → y ≡ to_z w64 b → le_z (to_z w64 (of_z w64 x)) (to_z w64 (of_z w64 y)) ≡ le half a b
le_cast a b k l d e i = le_z (back a k d i) (back b l e i)
