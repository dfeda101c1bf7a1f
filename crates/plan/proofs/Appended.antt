-- A store that grows: what is written behind the cells used changes nothing behind what is used then.
use Rattle.std.specs.Prelude.{◌≡◌, refl, List, ◌++◌, ℕ, ◌+◌, ◌-◌, ◌/◌, ◌<◌, ◌≤◌, length, set, take, drop}
use Rattle.std.proofs.Common.{sym, ap, ◌∙◌, arith, length-append, length-drop, length-take, length-set, drop-drop, drop-set-lt}
use Rattle.std.proofs.Math.Seq.{paste}
use Rattle.std.proofs.lemmas.List.Edits.{drop-paste}
use Rattle.cells.specs.Cells.{cells, room, Writes}
use Rattle.cells.specs.CellsLaws.{length_cells}
use Rattle.cells.specs.Moves.{paste_is}
use Rattle.cells.specs.declared.Cell.{Cell}
use Rattle.machine.specs.Values.{cell}
use Rattle.moves.specs.Objects.{made}
use Rattle.plan.specs.Rest.{Same, Appends}

pub appends_none : {u u' : ℕ} (s : List ℕ) → u ≤ u' → Appends u u' s s
appends_none s le = record { rest = refl; len = refl; grows = le; free = refl }

pub appends_refl : (u : ℕ) (s : List ℕ) → Appends u u s s
appends_refl u s = appends_none s (omega arith)

pub appends_same : {u u' : ℕ} {a b : List ℕ} → Appends u u' a b → Same a b
appends_same s = record { rest = s.rest; len = s.len }

-- what is behind some cells is behind more
behind_more : {v w : ℕ} (a b : List Cell) → v ≤ w → drop v b ≡ drop v a → drop w b ≡ drop w a
behind_more {v} {w} a b le e =
    let k : v + (w - v) ≡ w = omega arith in
    ap (λ (n : ℕ). drop n b) (sym k) ∙ sym (drop-drop (w - v) v b) ∙ ap (drop (w - v)) e ∙ drop-drop (w - v) v a ∙ ap (λ (n : ℕ). drop n a) k

pub appends_two : {u v w : ℕ} {a b c : List ℕ} → Appends u v a b → Appends v w b c → Appends u w a c
appends_two {a = a} {b} s t = record { rest = t.rest ∙ s.rest; len = t.len ∙ s.len; grows = omega (arith, s.grows, t.grows); free = t.free ∙ behind_more (cells a) (cells b) t.grows s.free }

-- the same room is written twice
pub appends_again : {u w : ℕ} {a b c : List ℕ} → Appends u w a b → Appends u w b c → Appends u w a c
appends_again s t = record { rest = t.rest ∙ s.rest; len = t.len ∙ s.len; grows = s.grows; free = t.free ∙ s.free }

-- one cell of a new object
pub appends_set : {u w : ℕ} (i : ℕ) (v : Cell) {a b : List ℕ} → u ≤ w → i < w → Writes a (set (cells a) i v) b → Appends u w a b
appends_set {u} {w} i v {a} le lt t = record { rest = t.rest; len = t.len; grows = le; free = ap (drop w) t.cells ∙ drop-set-lt w (cells a) i v lt }

-- a copy that leaves the length has enough to copy
paste_enough : (d : List Cell) (at : ℕ) (s : List Cell) (n : ℕ) → at + n ≤ length d → length (paste d at s n) ≡ length d → n ≤ length s
paste_enough d at s n h e =
    let k = ap length (paste_is d at s n) ∙ length-append (take at d) (take n s ++ drop (at + n) d) in
    omega (arith, k, length-append (take n s) (drop (at + n) d), length-take at d, length-take n s, length-drop (at + n) d)

-- a whole one
pub appends_made : (u kind number from n : ℕ) (L : List Cell) {a b : List ℕ} → u + 1 + n ≤ room a → Writes a (made (cells a) u kind number L from n) b → Appends u (u + 1 + n) a b
unfolding made
appends_made u kind number from n L {a} {b} h t =
    let d : List Cell = set (cells a) u (cell kind number n) in
    let x : List Cell = drop from L in
    let l : length d ≡ length (cells a) = length-set (cells a) u (cell kind number n) in
    let m : length (paste d (u + 1) x n) ≡ length d = sym (ap length t.cells) ∙ length_cells b ∙ ap (λ (k : ℕ). k / 16) t.len ∙ sym (length_cells a) ∙ sym l in
    let e : n ≤ length x = paste_enough d (u + 1) x n (omega (arith, l, length_cells a)) m in
    record {
      rest = t.rest;
      len = t.len;
      grows = omega arith;
      free = ap (drop (u + 1 + n)) t.cells ∙ drop-paste d (u + 1) x n (omega (arith, l, length_cells a)) e ∙ drop-set-lt (u + 1 + n) (cells a) u (cell kind number n) (omega arith);
    }
