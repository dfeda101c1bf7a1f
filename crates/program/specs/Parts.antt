-- Numbers and parts that are read at any place: what lies past the end counts 0, and a part ends where the list ends.
use Rattle.std.specs.Prelude.{◌≡◌, refl, List, ℕ, zero, suc, ◌+◌, ◌-◌, ◌*◌, ◌<◌, ◌≤◌, length, get_or, take, drop}
use Rattle.std.proofs.Common.{sym, ap, ◌∙◌, arith, add-zero, drop_of_length-le, length-drop, take_all}
use Rattle.std.proofs.Math.ListN.{get_or-eq_default}
use Rattle.std.proofs.Math.Seq.{take-nil}
use Rattle.cells.specs.Le.{le_at, le_join, limit}
use Rattle.image.specs.Program.{tab}
use Rattle.image.proofs.Parts.{length_tab}

-- a number of a table
pub record Entry (t : List ℕ) (i r : ℕ) : Type 0 where
  pub is : r ≡ get_or t i 0
  pub fits : r < 4294967296

-- a list by number has no item past its last
pub tab_past : {A : Type 0} (n : ℕ) (f : ℕ → A) (i : ℕ) (d : A) → n ≤ i → get_or (tab n f) i d ≡ d
tab_past n f i d h = get_or-eq_default (tab n f) d (omega (arith, length_tab n f))

-- a number of k bytes past the end
pub le_past : (k : ℕ) (s : List ℕ) (at : ℕ) → length s ≤ at → 0 ≡ le_at k s at
unfolding le_at
le_past zero s at h = refl
le_past (suc k) s at h = omega (arith, get_or-eq_default s 0 h, le_past k s (at + 1) (omega arith))

-- its last byte alone is there
pub le_last : (s : List ℕ) (at : ℕ) → length s ≤ at + 1 → get_or s at 0 ≡ le_at 2 s at
unfolding le_at
le_last s at h = omega (arith, le_past 1 s (at + 1) h)

-- two halves
pub le_halves : (s : List ℕ) (at : ℕ) {a b : ℕ} → a ≡ le_at 2 s at → b ≡ le_at 2 s (at + 2) → a + b * 65536 ≡ le_at 4 s at
unfolding limit
le_halves s at e f = omega (arith, le_join 2 2 s at)

-- a part: past the end, up to the end, inside
module _ (s : List ℕ) (at n : ℕ) where
  pub part_past : length s ≤ at → take 0 (drop 0 s) ≡ take n (drop at s)
  part_past h = sym (ap (take n) (drop_of_length-le s h) ∙ take-nil n)

  pub part_end : length s - at ≤ n → take (length s - at) (drop at s) ≡ take n (drop at s)
  part_end h = take_all (length s - at) (drop at s) (simp length-drop (omega arith)) ∙ sym (take_all n (drop at s) (simp length-drop (omega arith)))

  pub part_inside : take (at + n - at) (drop at s) ≡ take n (drop at s)
  part_inside = let e : at + n - at ≡ n = omega arith in rw e
