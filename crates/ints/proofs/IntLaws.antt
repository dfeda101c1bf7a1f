-- Laws of Ints at any width: wrapping goes through sums, opposites and products and undoes `signed`; division and remainder are those of the integers.
use Rattle.std.specs.Prelude.{◌≡◌, ℕ, zero, suc, ◌+◌, ◌-◌, ◌*◌, ◌/◌, ◌%◌, ◌<◌, ◌≤◌, Bool, true, false, cond, not, Some, ℤ, pos, negsuc, ◌+ℤ◌, ◌-ℤ◌, ◌*ℤ◌, neg_ℤ, int_div, int_rem, nat_lt, unsigned_abs}
use Rattle.std.proofs.Math.Path.{refl, sym, ap}
use Rattle.std.proofs.Common.{◌∙◌, mul_comm}
use Rattle.std.proofs.Math.Bool.{xor}
use Rattle.std.proofs.Math.Nat.{add-mod, mod-add-mod, add-mod-mod, mod-lt, mod-eq_of_lt, zero-mod, mod-add-div, mul-mod_right}
use Rattle.std.proofs.Math.Decide.{dec_lt}
use native.Mathlib.Omega.{arith}
use borrow.Author.Tests.{lt-ltb, le-ltb, ltb-true, ltb-false}
use Rattle.std.proofs.Math.IntN.{sub_ℕ}
use Rattle.std.specs.Int.Signed.{mag, non_neg}
use Rattle.std.proofs.lemmas.Nat.{mul-mod_first, mul-mod_second}
use Rattle.ints.specs.Ints.{signed, wrap, quotient, divided, with_sign, div, rem}
use Rattle.ints.specs.Modulo.{opposite}
use Rattle.ints.proofs.Modulo.{none_plus, opposite_none, is_opposite, opposite_mod, opposite_opposite, opposite_plus, opposite_times}

module _ (h : ℕ) (some : 0 < h) where
  abbrev m : ℕ
  m = h + h

  more : 0 < m
  more = omega arith

  -- a pattern is below m
  pub wrap_fits : (x : ℤ) → wrap h x < m
  unfolding wrap
  wrap_fits (pos n) = mod-lt n more
  wrap_fits (negsuc n) = omega (arith, mod-lt n more)

  wrap_negsuc : (n : ℕ) → wrap h (negsuc n) ≡ opposite m (suc n)
  unfolding wrap
  wrap_negsuc n =
      let l : n % m < m = mod-lt n more in
      let d : n % m + m * (n / m) ≡ n = mod-add-div n m in
      let e : m - suc (n % m) + suc n ≡ m * (n / m + 1) = omega arith in
      sym (mod-eq_of_lt (omega arith)) ∙ is_opposite m more (m - suc (n % m)) (suc n) (ap (λ (k : ℕ). k % m) e ∙ mul-mod_right m (n / m + 1))

  wrap_subℕ : (a b : ℕ) → wrap h (sub_ℕ a b) ≡ (a + opposite m b) % m
  unfolding wrap
  wrap_subℕ a b = by (nat_lt a b) refl
    where
      by : (t : Bool) → nat_lt a b ≡ t → wrap h (cond t (negsuc (b - suc a)) (pos (a - b))) ≡ (a + opposite m b) % m
      by true e =
          let l : a < b = ltb-true a b e in
          wrap_negsuc (b - suc a) ∙ sym (is_opposite m more (a + opposite m b) (suc (b - suc a)) (ap (λ (k : ℕ). k % m) (omega arith) ∙ opposite_none m more b))
      by false e =
          let l : b ≤ a = ltb-false a b e in
          sym (none_plus m (a - b) (b + opposite m b) (opposite_none m more b)) ∙ ap (λ (k : ℕ). k % m) (omega arith)

  pub wrap_neg : (x : ℤ) → wrap h (neg_ℤ x) ≡ opposite m (wrap h x)
  unfolding wrap
  wrap_neg (pos zero) = is_opposite m more 0 (0 % m) (add-mod-mod 0 0 m ∙ zero-mod m)
  wrap_neg (pos (suc n)) = wrap_negsuc n ∙ sym (opposite_mod m more (suc n))
  wrap_neg (negsuc n) = sym (ap (opposite m) (wrap_negsuc n) ∙ opposite_opposite m more (suc n))

  pub wrap_sum : (x y : ℤ) → wrap h (x +ℤ y) ≡ (wrap h x + wrap h y) % m
  unfolding wrap
  wrap_sum (pos a) (pos b) = add-mod a b m
  wrap_sum (pos a) (negsuc b) = wrap_subℕ a (suc b) ∙ sym (ap (λ (k : ℕ). (a % m + k) % m) (wrap_negsuc b) ∙ mod-add-mod a m (opposite m (suc b)))
  wrap_sum (negsuc a) (pos b) =
      wrap_subℕ b (suc a)
      ∙ sym (ap (λ (k : ℕ). (k + b % m) % m) (wrap_negsuc a) ∙ add-mod-mod (opposite m (suc a)) b m ∙ ap (λ (k : ℕ). k % m) (omega arith))
  wrap_sum (negsuc a) (negsuc b) =
      wrap_negsuc (suc (a + b)) ∙ ap (opposite m) (omega arith) ∙ sym ((λ i. (wrap_negsuc a i + wrap_negsuc b i) % m) ∙ opposite_plus m more (suc a) (suc b))

  pub wrap_difference : (x y : ℤ) → wrap h (x -ℤ y) ≡ (wrap h x + opposite m (wrap h y)) % m
  wrap_difference x y = wrap_sum x (neg_ℤ y) ∙ ap (λ (k : ℕ). (wrap h x + k) % m) (wrap_neg y)

  -- the product of a negative number and one that is not
  wrap_crossed : (a b : ℕ) → wrap h (neg_ℤ (pos (suc a * b))) ≡ wrap h (negsuc a) * wrap h (pos b) % m
  unfolding wrap
  wrap_crossed a b =
      wrap_neg (pos (suc a * b)) ∙ opposite_mod m more (suc a * b) ∙ sym (opposite_times m more (suc a) b)
      ∙ sym (ap (λ (k : ℕ). k * (b % m) % m) (wrap_negsuc a) ∙ mul-mod_second (opposite m (suc a)) b m)

  pub wrap_product : (x y : ℤ) → wrap h (x *ℤ y) ≡ wrap h x * wrap h y % m
  unfolding wrap
  wrap_product (pos a) (pos b) = sym (mul-mod_first a (b % m) m ∙ mul-mod_second a b m)
  wrap_product (pos a) (negsuc b) =
      ap (λ (k : ℕ). wrap h (neg_ℤ (pos k))) (mul_comm a (suc b)) ∙ wrap_crossed b a ∙ ap (λ (k : ℕ). k % m) (mul_comm (wrap h (negsuc b)) (a % m))
  wrap_product (negsuc a) (pos b) = wrap_crossed a b
  wrap_product (negsuc a) (negsuc b) =
      sym (opposite_opposite m more (suc a * suc b))
      ∙ ap (opposite m) (ap (opposite m) (mul_comm (suc a) (suc b)) ∙ sym (opposite_times m more (suc b) (suc a)))
      ∙ opposite_mod m more (opposite m (suc b) * suc a) ∙ ap (opposite m) (mul_comm (opposite m (suc b)) (suc a)) ∙ sym (opposite_times m more (suc a) (opposite m (suc b)))
      ∙ sym (λ i. wrap_negsuc a i * wrap_negsuc b i % m)

module _ (h : ℕ) where
  pub signed_low : {a : ℕ} → a < h → signed h a ≡ pos a
  unfolding signed
  signed_low {a} l = simp (lt-ltb a h l)

  pub signed_high : {a : ℕ} → h ≤ a → signed h a ≡ negsuc (h + h - suc a)
  unfolding signed
  signed_high {a} l = simp (le-ltb a h l)

  -- the pattern of a pattern's integer
  pub wrap_signed : {a : ℕ} → a < h + h → wrap h (signed h a) ≡ a
  unfolding wrap
  wrap_signed {a} k = by (dec_lt a h)
    where
      by : Dec (a < h) → wrap h (signed h a) ≡ a
      by (yes l) = ap (wrap h) (signed_low l) ∙ mod-eq_of_lt k
      by (no l) =
          let e : (h + h - suc a) % (h + h) ≡ h + h - suc a = mod-eq_of_lt (omega arith) in
          ap (wrap h) (signed_high {a = a} (omega arith)) ∙ omega arith

  -- the integer of an integer's pattern: itself, if it is in range
  pub signed_wrap : (x : ℤ) → mag x < h → signed h (wrap h x) ≡ x
  unfolding wrap
  signed_wrap (pos n) l =
      let e : n % (h + h) ≡ n = mod-eq_of_lt (omega arith) in
      signed_low (omega arith) ∙ ap pos e
  signed_wrap (negsuc n) l =
      let e : n % (h + h) ≡ n = mod-eq_of_lt (omega arith) in
      signed_high (omega arith) ∙ ap negsuc (omega arith)

  -- two Ints of one integer are one
  pub signed_one : {a b : ℕ} → a < h + h → b < h + h → signed h a ≡ signed h b → a ≡ b
  signed_one k l e = sym (wrap_signed k) ∙ ap (wrap h) e ∙ wrap_signed l

  -- `Div` truncates toward zero
  quotient_truncates : (x y : ℤ) → with_sign h (xor (not (non_neg x)) (not (non_neg y))) (quotient (unsigned_abs x) (unsigned_abs y)) ≡ wrap h (int_div x y)
  unfolding with_sign xor quotient
  quotient_truncates (pos a) (pos b) = refl
  quotient_truncates (pos a) (negsuc b) = refl
  quotient_truncates (negsuc a) (pos b) = refl
  quotient_truncates (negsuc a) (negsuc b) = refl

  pub div_truncates : (a b : ℕ) → div h a (suc b) ≡ Some (wrap h (int_div (signed h a) (signed h (suc b))))
  unfolding divided
  div_truncates a b = ap Some (quotient_truncates (signed h a) (signed h (suc b)))

  -- `Rem` takes the dividend's sign
  remainder_sign : (x y : ℤ) → with_sign h (not (non_neg x)) (unsigned_abs x % unsigned_abs y) ≡ wrap h (int_rem x y)
  unfolding with_sign
  remainder_sign (pos a) y = refl
  remainder_sign (negsuc a) y = refl

  pub rem_sign : (a b : ℕ) → rem h a (suc b) ≡ Some (wrap h (int_rem (signed h a) (signed h (suc b))))
  unfolding divided
  rem_sign a b = ap Some (remainder_sign (signed h a) (signed h (suc b)))
