-- What the loops of copy, lower, raise and fill keep, and the laws of a turn. Assumes nothing.
use mathlib.Core.Path.{◌≡◌, refl, sym, ap, ◌∙◌}
use mathlib.Core.List.{List, ◌++◌}
use Prim.Native.Nat.{ℕ, suc, ◌+◌, ◌-◌, ◌<◌, ◌≤◌}
use native.Mathlib.Omega.{arith}
use lib.ListN.{length, get_or, set, take, drop, replicate, length-drop, length-append, length-replicate, get_or-replicate}
use lib.Seq.{paste, paste-zero, get_or-drop, length-take-le, set-append_left, take-set-lt, take-suc-set, append_snoc, drop-cons}
use Rattle.std.proofs.lemmas.List.Edits.{paste_more}
use Rattle.cells.specs.Cells.{null, room, cells, Writes}
use Rattle.cells.specs.CellsLaws.{length_cells, writes_two}
use Rattle.cells.specs.Moves.{paste_below, paste_above}
use Rattle.cells.specs.declared.Cell.{Cell}

-- one more at the front
paste_front : (d : List Cell) (a : ℕ) (x : List Cell) (b m : ℕ) → a < length d → b < length x
    → set (paste d (suc a) (drop (suc b) x) m) a (get_or x b null) ≡ paste d a (drop b x) (suc m)
paste_front d a x b m h l =
    let v : Cell = get_or x b null in
    let t : List Cell = take m (drop (suc b) x) in
    let n : a < length (take (suc a) d) = rw (length-take-le (suc a) d h) (omega arith) in
    let e : suc a + m ≡ a + suc m = omega arith in
    set-append_left (take (suc a) d ++ t) _ a v (omega (arith, length-append (take (suc a) d) t))
    ∙ ap (λ (y : List Cell). y ++ drop (suc a + m) d)
    (set-append_left (take (suc a) d) t a v n ∙ ap (λ (y : List Cell). y ++ t) (sym (take-set-lt (suc a) d a v (omega arith)) ∙ take-suc-set d a v h)
    ∙ append_snoc (take a d) v t)
    ∙ rw (e, drop-cons x b null l)

-- the first n of x stand in d₀ at `to`: what the loops keep
pub record Copied (d₀ : List ℕ) (to : ℕ) (x : List Cell) (n : ℕ) (d : List ℕ) : Type 0 where
  pub is : Writes d₀ (paste (cells d₀) to x n) d

pub copied_none : (d : List ℕ) (to : ℕ) (x : List Cell) → Copied d to x 0 d
copied_none d to x = record { is = record { cells = paste-zero (cells d) to x; rest = refl; len = refl } }

-- at the end of a loop
pub copied_all : {d₀ d : List ℕ} {to j : ℕ} {x : List Cell} (n : ℕ) → j ≡ n → Copied d₀ to x j d → Writes d₀ (paste (cells d₀) to x n) d
copied_all n e i = rw e at i.is

module _ {d₀ d d' : List ℕ} {to j : ℕ} (v : Cell) where
  -- one more is written behind those that are there
  pub copied_more : {x : List Cell} → to + j < room d₀ → j < length x → v ≡ get_or x j null
      → Copied d₀ to x j d → Writes d (set (cells d) (to + j) v) d' → Copied d₀ to x (j + 1) d'
  copied_more {x} h l e i w =
      let t : set (paste (cells d₀) to x j) (to + j) v ≡ paste (cells d₀) to x (j + 1) =
      rw e (paste_more (cells d₀) to x j null (rw length_cells h) l) in
      record { is = rw t at (writes_two (λ (y : List Cell). set y (to + j) v) i.is w) }

  -- of one cell
  pub copied_same : (n : ℕ) → to + j < room d₀ → j < n → Copied d₀ to (replicate n v) j d
      → Writes d (set (cells d) (to + j) v) d' → Copied d₀ to (replicate n v) (j + 1) d'
  copied_same n h l i w = copied_more h (rw length-replicate l) (sym (get_or-replicate n j v null l)) i w

  -- of another slice
  pub copied_from : (s : List ℕ) (from : ℕ) → to + j < room d₀ → from + j < room s → v ≡ get_or (cells s) (from + j) null
      → Copied d₀ to (drop from (cells s)) j d → Writes d (set (cells d) (to + j) v) d' → Copied d₀ to (drop from (cells s)) (j + 1) d'
  copied_from s from h l e i w = copied_more h (simp (length-drop, length_cells) (omega arith)) (e ∙ sym (get_or-drop from (cells s) j null)) i w

  -- of the slice itself, from above
  pub copied_lower : (from : ℕ) → to ≤ from → from + j < room d₀ → v ≡ get_or (cells d) (from + j) null
      → Copied d₀ to (drop from (cells d₀)) j d → Writes d (set (cells d) (to + j) v) d' → Copied d₀ to (drop from (cells d₀)) (j + 1) d'
  copied_lower from le h e i w =
      let n : length (cells d₀) ≡ room d₀ = length_cells d₀ in
      let k : get_or (cells d) (from + j) null ≡ get_or (cells d₀) (from + j) null =
      rw i.is.cells (paste_above (cells d₀) to (drop from (cells d₀)) j (from + j) (omega arith) (simp length-drop (omega arith)) (omega arith)) in
      copied_from d₀ from (omega arith) h (e ∙ k) i w

-- ---- the last cell first: those from j on stand already
pub raised_none : (s : List ℕ) (to from n : ℕ) → Copied s (to + n) (drop (from + n) (cells s)) (n - n) s
raised_none s to from n = let e : n - n ≡ 0 = omega arith in rw e (copied_none s _ _)

pub raised_all : {d₀ d : List ℕ} (to from n j : ℕ) → j ≡ 0 → Copied d₀ (to + j) (drop (from + j) (cells d₀)) (n - j) d
    → Writes d₀ (paste (cells d₀) to (drop from (cells d₀)) n) d
raised_all to from n j e i =
    let a : to + j ≡ to = omega arith in
    let b : from + j ≡ from = omega arith in
    let m : n - j ≡ n = omega arith in
    rw (a, b, m) at i.is

-- one more is written before those that are there, of the slice itself, from below
pub raised_more : {d₀ d d' : List ℕ} {v : Cell} (to from n k j : ℕ) → j ≡ k + 1 → j ≤ n → from ≤ to → to + n ≤ room d₀
    → v ≡ get_or (cells d) (from + k) null
    → Copied d₀ (to + j) (drop (from + j) (cells d₀)) (n - j) d → Writes d (set (cells d) (to + k) v) d'
    → Copied d₀ (to + k) (drop (from + k) (cells d₀)) (n - k) d'
raised_more {d₀} {d} {d'} {v} to from n k j p lt le h e i w =
    let r : length (cells d₀) ≡ room d₀ = length_cells d₀ in
    let a : to + j ≡ suc (to + k) = omega arith in
    let b : from + j ≡ suc (from + k) = omega arith in
    let m : n - k ≡ suc (n - j) = omega arith in
    let f : Writes d₀ (paste (cells d₀) (suc (to + k)) (drop (suc (from + k)) (cells d₀)) (n - j)) d = rw (a, b) at i.is in
    let g : v ≡ get_or (cells d₀) (from + k) null = e ∙ rw f.cells (paste_below (cells d₀) (suc (to + k)) _ (n - j) (from + k) (omega arith) (omega arith)) in
    let t : set (paste (cells d₀) (suc (to + k)) (drop (suc (from + k)) (cells d₀)) (n - j)) (to + k) v ≡ paste (cells d₀) (to + k) (drop (from + k) (cells d₀)) (n - k) =
    rw (g, m) (paste_front (cells d₀) (to + k) (cells d₀) (from + k) (n - j) (omega arith) (omega arith)) in
    record { is = rw t at (writes_two (λ (y : List Cell). set y (to + k) v) f w) }
