-- Little-endian numbers of k bytes in a list of bytes: reading, writing, and their laws, once for every width.
use Rattle.std.specs.Prelude.{◌≡◌, refl, List, ◌⊎◌, ℕ, zero, suc, ◌+◌, ◌*◌, ◌/◌, ◌%◌, ◌<◌, ◌≤◌, length, get_or, set, take, drop}
use Rattle.std.proofs.Common.{sym, ap, ◌∙◌, inl, inr, ⊎_elim, zero-add, add-zero, suc-add, mul_comm, mul_assoc, div-one, arith, length-set, get_or-set_same, get_or-set_other, get_or-take, get_or-drop}
use Rattle.std.proofs.Math.Nat.{div-div-eq-div-mul}
use Rattle.std.proofs.Math.Arith.{mod-mul}
use Rattle.std.proofs.lemmas.List.{set-get_or}

-- the number of the k bytes at `at`, the lowest byte first
unfoldable pub le_at : ℕ → List ℕ → ℕ → ℕ
le_at zero s at = 0
le_at (suc k) s at = get_or s at 0 + 256 * le_at k s (at + 1)

-- the list with the k lowest bytes of x at `at`
unfoldable pub put_at : ℕ → List ℕ → ℕ → ℕ → List ℕ
put_at zero s at x = s
put_at (suc k) s at x = put_at k (set s at (x % 256)) (at + 1) (x / 256)

-- 256 ^ k: the numbers of k bytes are those below it
unfoldable pub limit : ℕ → ℕ
limit zero = 1
limit (suc k) = limit k * 256

-- every number of the list is a byte; of a lent slice the checker's `slice-known` gives it
pub record Bytes (s : List ℕ) : Type 0 where
  pub below : (i : ℕ) → get_or s i 0 < 256

pub length_put : (k : ℕ) (s : List ℕ) (at x : ℕ) → length (put_at k s at x) ≡ length s
unfolding put_at
length_put zero s at x = refl
length_put (suc k) s at x = length_put k (set s at (x % 256)) (at + 1) (x / 256) ∙ length-set s at (x % 256)

-- a byte outside the k that are written
pub get_or_put : (k : ℕ) (s : List ℕ) (at x i : ℕ) → (i < at) ⊎ (at + k ≤ i) → get_or (put_at k s at x) i 0 ≡ get_or s i 0
unfolding put_at
get_or_put zero s at x i h = refl
get_or_put (suc k) s at x i h =
    get_or_put k (set s at (x % 256)) (at + 1) (x / 256) i (⊎_elim (λ w. inl (omega arith)) (λ w. inr (omega arith)) h)
    ∙ get_or-set_other s at i (x % 256) 0 (λ e. ⊎_elim (λ w. omega arith) (λ w. omega arith) h)

-- equal bytes, equal numbers
pub le_same : (k : ℕ) (s t : List ℕ) (a b : ℕ) → ((j : ℕ) → j < k → get_or s (a + j) 0 ≡ get_or t (b + j) 0) → le_at k s a ≡ le_at k t b
unfolding le_at
le_same zero s t a b h = refl
le_same (suc k) s t a b h =
    let e : get_or s a 0 ≡ get_or t b 0 = rw (add-zero, add-zero) at (h 0 (omega arith)) in
    let r : le_at k s (a + 1) ≡ le_at k t (b + 1) = le_same k s t (a + 1) (b + 1) (λ j l. shift a s j ∙ h (suc j) (omega arith) ∙ sym (shift b t j)) in
    omega arith
  where
    shift : (c : ℕ) (l : List ℕ) (j : ℕ) → get_or l (c + 1 + j) 0 ≡ get_or l (c + suc j) 0
    shift c l j = ap (λ (n : ℕ). get_or l n 0) (omega arith)

-- equal numbers, equal bytes
pub le_one : (k : ℕ) (s t : List ℕ) (a b : ℕ) → Bytes s → Bytes t → le_at k s a ≡ le_at k t b → (j : ℕ) → j < k → get_or s (a + j) 0 ≡ get_or t (b + j) 0
unfolding le_at
le_one zero s t a b p q e j l = absurd (omega arith)
le_one (suc k) s t a b p q e zero l = rw (add-zero, add-zero) (omega (arith, p.below a, q.below b))
le_one (suc k) s t a b p q e (suc j) l =
    let r : le_at k s (a + 1) ≡ le_at k t (b + 1) = omega (arith, p.below a, q.below b) in
    ap (λ (n : ℕ). get_or s n 0) (omega arith) ∙ le_one k s t (a + 1) (b + 1) p q r j (omega arith) ∙ ap (λ (n : ℕ). get_or t n 0) (omega arith)

-- a number in a part of the list
pub le_part : (k : ℕ) (s : List ℕ) (d m at : ℕ) → at + k ≤ m → le_at k (take m (drop d s)) at ≡ le_at k s (d + at)
le_part k s d m at h =
    le_same k (take m (drop d s)) s at (d + at) (λ j l. get_or-take m (drop d s) (at + j) 0 (omega arith) ∙ get_or-drop d s (at + j) 0 ∙ ap (λ (n : ℕ). get_or s n 0) (omega arith))

-- a number that lies apart from the one written
pub le_put_other : (j k : ℕ) (s : List ℕ) (at x from : ℕ) → (from + j ≤ at) ⊎ (at + k ≤ from) → le_at j (put_at k s at x) from ≡ le_at j s from
le_put_other j k s at x from h =
    le_same j (put_at k s at x) s from from (λ i l. get_or_put k s at x (from + i) (⊎_elim (λ w. inl (omega arith)) (λ w. inr (omega arith)) h))

-- what was written is read
pub le_put_same : (k : ℕ) (s : List ℕ) (at x : ℕ) → at + k ≤ length s → x < limit k → le_at k (put_at k s at x) at ≡ x
unfolding le_at put_at limit
le_put_same zero s at x h lt = omega arith
le_put_same (suc k) s at x h lt =
    let t = set s at (x % 256) in
    let a : get_or (put_at k t (at + 1) (x / 256)) at 0 ≡ x % 256 = get_or_put k t (at + 1) (x / 256) at (inl (omega arith)) ∙ get_or-set_same s at (x % 256) 0 (omega arith) in
    let b : le_at k (put_at k t (at + 1) (x / 256)) (at + 1) ≡ x / 256 = le_put_same k t (at + 1) (x / 256) (simp length-set (omega arith)) (omega arith) in
    omega arith

-- what is read, written back, changes nothing
pub put_le : (k : ℕ) (s : List ℕ) (at : ℕ) → Bytes s → put_at k s at (le_at k s at) ≡ s
unfolding le_at put_at
put_le zero s at p = refl
put_le (suc k) s at p =
    let low : (get_or s at 0 + 256 * le_at k s (at + 1)) % 256 ≡ get_or s at 0 = omega (arith, p.below at) in
    let high : (get_or s at 0 + 256 * le_at k s (at + 1)) / 256 ≡ le_at k s (at + 1) = omega (arith, p.below at) in
    rw (low, high, set-get_or s at 0) (put_le k s (at + 1) p)

-- a number of k bytes is below the limit
pub le_bound : (k : ℕ) (s : List ℕ) (at : ℕ) → Bytes s → le_at k s at < limit k
unfolding le_at limit
le_bound zero s at p = omega arith
le_bound (suc k) s at p = omega (arith, p.below at, le_bound k s (at + 1) p)

-- two numbers side by side are one
pub le_join : (j k : ℕ) (s : List ℕ) (at : ℕ) → le_at (j + k) s at ≡ le_at j s at + limit j * le_at k s (at + j)
unfolding le_at limit
le_join zero k s at = rw (zero-add, add-zero) (omega arith)
le_join (suc j) k s at =
    let e : at + suc j ≡ at + 1 + j = omega arith in
    let m : limit j * 256 * le_at k s (at + 1 + j) ≡ 256 * (limit j * le_at k s (at + 1 + j)) =
    ap (λ (n : ℕ). n * le_at k s (at + 1 + j)) (mul_comm (limit j) 256) ∙ mul_assoc 256 (limit j) (le_at k s (at + 1 + j)) in
    rw (suc-add, e) (omega (arith, le_join j k s (at + 1)))

pub limit_pos : (k : ℕ) → 0 < limit k
unfolding limit
limit_pos zero = omega arith
limit_pos (suc k) = omega (arith, limit_pos k)

-- only the lowest k bytes of x are written
pub put_low : (k : ℕ) (s : List ℕ) (at x : ℕ) → put_at k s at (x % limit k) ≡ put_at k s at x
unfolding put_at limit
put_low zero s at x = refl
put_low (suc k) s at x =
    let e : x % (limit k * 256) ≡ (x / 256 % limit k) * 256 + x % 256 = mod-mul x (limit_pos k) (omega arith) in
    let a : x % (limit k * 256) % 256 ≡ x % 256 = omega arith in
    let b : x % (limit k * 256) / 256 ≡ x / 256 % limit k = omega arith in
    rw (a, b) (put_low k (set s at (x % 256)) (at + 1) (x / 256))

-- two numbers written side by side are one
pub put_join : (j k : ℕ) (s : List ℕ) (at x : ℕ) → put_at (j + k) s at x ≡ put_at k (put_at j s at x) (at + j) (x / limit j)
unfolding put_at limit
put_join zero k s at x = rw (zero-add, add-zero, div-one)
put_join (suc j) k s at x =
    let e : at + suc j ≡ at + 1 + j = omega arith in
    rw (suc-add, e, mul_comm (limit j) 256, ← div-div-eq-div-mul) (put_join j k (set s at (x % 256)) (at + 1) (x / 256))
