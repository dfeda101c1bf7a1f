-- The bytes of a block of cells are copied as they stand. Assumes nothing.
use Rattle.std.specs.Prelude.{◌≡◌, List, [], ◌++◌, ℕ, ◌+◌, ◌*◌, ◌≤◌, length, take, drop}
use Rattle.std.proofs.Common.{sym, ap, subst, ◌∙◌, arith, append_assoc, drop-drop, length-drop, length-take-le}
use Rattle.std.proofs.Math.ListN.{drop_of_length-le}
use Rattle.std.proofs.Math.Seq.{paste}
use borrow.Rule.Slice.PartMut.{put_mid}
use Rattle.cells.specs.Cells.{room, cells, rest, Writes}
use Rattle.cells.specs.Parts.{cells_part, writes_part}
use Rattle.cells.specs.Moves.{paste_is}

-- of n whole cells no byte is left
no_rest : (s : List ℕ) (n : ℕ) → length s ≡ 16 * n → rest s ≡ []
unfolding rest
no_rest s n e = drop_of_length-le s (omega arith)

-- the n cells of x from `start` on, in the place of those of s at `at`
pub writes_block : (s x : List ℕ) (at start n : ℕ) → at + n ≤ room s → start + n ≤ room x
    → Writes s (paste (cells s) at (drop start (cells x)) n) (put_mid (16 * at) (16 * n) s (take (16 * n) (drop (16 * start) x)))
writes_block s x at start n h l =
    let t : List ℕ = take (16 * n) (drop (16 * start) x) in
    let p : List ℕ = take (16 * n) (drop (16 * at) s) in
    let e : length t ≡ 16 * n = length-take-le (16 * n) (drop (16 * start) x) (rw length-drop (omega arith)) in
    let f : length p ≡ 16 * n = length-take-le (16 * n) (drop (16 * at) s) (rw length-drop (omega arith)) in
    let w : Writes p (take n (drop start (cells x))) t =
    record { cells = cells_part x start n l; rest = no_rest t n e ∙ sym (no_rest p n f); len = e ∙ sym f } in
    rw (paste_is (cells s) at (drop start (cells x)) n) (writes_part s t (take n (drop start (cells x))) at n h w)

-- what `s[16 * at..16 * (at + n)].copy_from_slice(&x[16 * start..16 * (start + n)])` leaves
pub copied_bytes : (s x t : List ℕ) (at start n m k : ℕ) → m ≡ 16 * n → k ≡ 16 * n → at + n ≤ room s → start + n ≤ room x
    → t ≡ take k (drop (16 * start) x) → Writes s (paste (cells s) at (drop start (cells x)) n) (put_mid (16 * at) m s t)
copied_bytes s x t at start n m k e f h l g = rw (g, e, f) (writes_block s x at start n h l)

-- what `s.copy_within(16 * from..16 * (from + n), 16 * to)` leaves
pub moved_bytes : (s t : List ℕ) (to from n k : ℕ) → k ≡ 16 * n → to + n ≤ room s → from + n ≤ room s → t ≡ paste s (16 * to) (drop (16 * from) s) k
    → Writes s (paste (cells s) to (drop from (cells s)) n) t
moved_bytes s t to from n k e h l g =
    let x : List ℕ = take (16 * n) (drop (16 * from) s) in
    let q : put_mid (16 * to) (16 * n) s x ≡ paste s (16 * to) (drop (16 * from) s) (16 * n) =
    ap (λ (y : List ℕ). take (16 * to) s ++ (x ++ y)) (drop-drop (16 * n) (16 * to) s) ∙ sym (append_assoc (take (16 * to) s) x (drop (16 * to + 16 * n) s)) in
    rw (g, e) (subst (Writes s (paste (cells s) to (drop from (cells s)) n)) q (writes_block s s to from n h l))
