-- A block of cells is moved: `paste d to x n` of lib.Seq is d with the first n of x in the place of those at `to`.
-- What it is, and what stands where in it.
use Rattle.std.specs.Prelude.{◌≡◌, List, ◌++◌, ℕ, ◌+◌, ◌-◌, ◌<◌, ◌≤◌, length, get_or, take, drop}
use Rattle.std.proofs.Common.{sym, ap, ◌∙◌, append_assoc, arith, take_at, drop_at, drop-drop, get_or-drop, get_or-take, get_or-append-add, length-take-le}
use Rattle.std.proofs.Math.ListN.{get_or-append}
use Rattle.std.proofs.Math.Seq.{paste}
use Rattle.std.proofs.lemmas.List.Edits.{drop-paste}
use Rattle.cells.specs.Cells.{null}
use Rattle.cells.specs.declared.Cell.{Cell}

module _ (d : List Cell) (to : ℕ) (x : List Cell) (n : ℕ) where
  pub paste_is : paste d to x n ≡ take to d ++ (take n x ++ drop (to + n) d)
  paste_is = append_assoc (take to d) (take n x) (drop (to + n) d)

  pub paste_below : (k : ℕ) → to ≤ length d → k < to → get_or (paste d to x n) k null ≡ get_or d k null
  paste_below k h lt =
      let l : k < length (take to d) = rw (length-take-le to d h) lt in
      rw paste_is (get_or-append (take to d) _ null k l ∙ get_or-take to d k null lt)

  pub paste_inside : (k : ℕ) → to ≤ length d → n ≤ length x → k < n → get_or (paste d to x n) (to + k) null ≡ get_or x k null
  paste_inside k h l lt =
      let t : length (take to d) ≡ to = length-take-le to d h in
      let m : k < length (take n x) = rw (length-take-le n x l) lt in
      rw paste_is
      (ap (λ (i : ℕ). get_or (take to d ++ (take n x ++ drop (to + n) d)) (i + k) null) (sym t) ∙ get_or-append-add (take to d) _ k null
      ∙ get_or-append (take n x) _ null k m ∙ get_or-take n x k null lt)

  pub paste_above : (k : ℕ) → to ≤ length d → n ≤ length x → to + n ≤ k → get_or (paste d to x n) k null ≡ get_or d k null
  paste_above k h l le =
      let e : k ≡ to + n + (k - (to + n)) = omega arith in
      rw (e, ← get_or-drop, drop-paste d to x n h l, get_or-drop)

-- the block b between a and c makes place for the first n of x
pub paste_at : (a b c x : List Cell) (to n : ℕ) → length a ≡ to → length b ≡ n → paste (a ++ (b ++ c)) to x n ≡ a ++ (take n x ++ c)
paste_at a b c x to n e f =
    let t : take to (a ++ (b ++ c)) ≡ a = take_at a (b ++ c) to e in
    let d : drop (to + n) (a ++ (b ++ c)) ≡ c = sym (drop-drop n to (a ++ (b ++ c))) ∙ ap (drop n) (drop_at a (b ++ c) to e) ∙ drop_at b c n f in
    paste_is (a ++ (b ++ c)) to x n ∙ rw (t, d)
