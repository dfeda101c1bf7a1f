-- Numbers modulo any m: opposites, and a product by halves.
use Rattle.std.specs.Prelude.{◌≡◌, ℕ, ◌+◌, ◌-◌, ◌*◌, ◌/◌, ◌%◌, ◌<◌}
use Rattle.std.proofs.Common.{sym, ◌∙◌}
use Rattle.std.proofs.Math.Path.{ap}
use Rattle.std.proofs.Math.Nat.{add-mod, mod-add-mod, add-mod-mod, mod-mod, mod-lt, zero-mod, mod-add-div, add-mul-mod_self_left, mul-mod_right}
use Rattle.std.proofs.lemmas.Nat.{mul-mod_first}
use native.Mathlib.Omega.{arith}
use Rattle.ints.specs.Modulo.{opposite}

-- two numbers that differ by multiples of m
pub same : (m x y t u : ℕ) → x + m * t ≡ y + m * u → x % m ≡ y % m
same m x y t u e = sym (add-mul-mod_self_left x m t) ∙ ap (λ (n : ℕ). n % m) e ∙ add-mul-mod_self_left y m u

-- multiples of m
none_times : (m n b : ℕ) → n % m ≡ 0 → n * b % m ≡ 0
none_times m n b e = sym (mul-mod_first n b m) ∙ ap (λ (k : ℕ). k * b % m) e ∙ ap (λ (k : ℕ). k % m) (omega arith) ∙ zero-mod m

pub none_plus : (m x n : ℕ) → n % m ≡ 0 → (x + n) % m ≡ x % m
none_plus m x n e = sym (add-mod-mod x n m) ∙ ap (λ (k : ℕ). (x + k) % m) e ∙ ap (λ (k : ℕ). k % m) (omega arith)

module _ (m : ℕ) (some : 0 < m) where
  pub opposite_none : (n : ℕ) → (n + opposite m n) % m ≡ 0
  unfolding opposite
  opposite_none n =
      let l : n % m < m = mod-lt n some in
      let d : n % m + m * (n / m) ≡ n = mod-add-div n m in
      let e : n + (m - n % m) ≡ m * (n / m + 1) = omega arith in
      add-mod-mod n (m - n % m) m ∙ ap (λ (k : ℕ). k % m) e ∙ mul-mod_right m (n / m + 1)

  -- what with y makes a multiple of m is the opposite of y
  pub is_opposite : (x y : ℕ) → (x + y) % m ≡ 0 → x % m ≡ opposite m y
  unfolding opposite
  is_opposite x y z =
      let l : y % m < m = mod-lt y some in
      let d : y % m + m * (y / m) ≡ y = mod-add-div y m in
      let e : (x + y) % m + m * ((x + y) / m) ≡ x + y = mod-add-div (x + y) m in
      same m x (m - y % m) (y / m + 1) ((x + y) / m) (omega arith)

  pub opposite_mod : (n : ℕ) → opposite m (n % m) ≡ opposite m n
  unfolding opposite
  opposite_mod n = ap (λ (k : ℕ). (m - k) % m) (mod-mod n m)

  pub opposite_opposite : (n : ℕ) → opposite m (opposite m n) ≡ n % m
  opposite_opposite n = sym (is_opposite n (opposite m n) (opposite_none n))

  pub opposite_plus : (a b : ℕ) → (opposite m a + opposite m b) % m ≡ opposite m (a + b)
  opposite_plus a b =
      is_opposite (opposite m a + opposite m b) (a + b)
      (ap (λ (k : ℕ). k % m) (omega arith) ∙ none_plus m (a + opposite m a) (b + opposite m b) (opposite_none b) ∙ opposite_none a)

  pub opposite_times : (a b : ℕ) → opposite m a * b % m ≡ opposite m (a * b)
  opposite_times a b =
      is_opposite (opposite m a * b) (a * b) (ap (λ (k : ℕ). k % m) (omega arith) ∙ none_times m (a + opposite m a) b (opposite_none a))

  -- what with b makes a is their difference
  pub is_difference : (r a b : ℕ) → (r + b) % m ≡ a → r % m ≡ (a + opposite m b) % m
  is_difference r a b e =
      sym (none_plus m r (b + opposite m b) (opposite_none b))
      ∙ ap (λ (k : ℕ). k % m) (omega arith) ∙ sym (mod-add-mod (r + b) m (opposite m b)) ∙ ap (λ (k : ℕ). (k + opposite m b) % m) e

-- a product by halves, w being the number of patterns of a half
pub by_halves : (w a b : ℕ) → a * b % (w * w) ≡ ((a % w) * (b % w) + ((a / w) * (b % w) % w + (a % w) * (b / w) % w) % w * w) % (w * w)
by_halves w a b =
    let s : ℕ = (a / w) * (b % w) + (a % w) * (b / w) in
    let c : ((a / w) * (b % w) % w + (a % w) * (b / w) % w) % w ≡ s % w = sym (add-mod ((a / w) * (b % w)) ((a % w) * (b / w)) w) in
    let e : (a % w + w * (a / w)) * (b % w + w * (b / w)) ≡ a * b = λ i. mod-add-div a w i * mod-add-div b w i in
    let d : (s % w + w * (s / w)) * w ≡ s * w = ap (λ (n : ℕ). n * w) (mod-add-div s w) in
    same (w * w) (a * b) ((a % w) * (b % w) + s % w * w) 0 (s / w + (a / w) * (b / w)) (omega (arith, e, d))
    ∙ ap (λ (n : ℕ). ((a % w) * (b % w) + n * w) % (w * w)) (sym c)
