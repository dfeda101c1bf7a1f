-- Parts of a slice that are cut at cells: what cells they have, and what a write in a lent part does to the whole.
use Rattle.std.specs.Prelude.{◌≡◌, List, ◌++◌, ℕ, ◌+◌, ◌*◌, ◌/◌, ◌-◌, ◌<◌, ◌≤◌, get_or, take, drop}
use Rattle.std.proofs.Common.{sym, ap, ◌∙◌, arith, length-drop, take-append-drop, take_at, drop_at, take_all, drop-drop, get_or-append-add, length-take-le}
use Rattle.std.proofs.Math.Decide.{dec_lt}
use Rattle.std.proofs.Math.ListN.{length, length-append, get_or-append}
use Rattle.std.proofs.Math.Seq.{drop-append-add}
use Rattle.cells.specs.Cells.{null, room, cell_at, cells, rest, Writes}
use Rattle.cells.specs.CellsLaws.{length_cells, cells_get, cells_are, cell_same}
use Rattle.cells.specs.declared.Cell.{Cell}

-- an element behind p
get_or_behind : {A : Type 0} (p q : List A) (a j : ℕ) (d : A) → length p ≡ a → get_or (p ++ q) (a + j) d ≡ get_or q j d
get_or_behind p q a j d e = rw (← e) (get_or-append-add p q j d)

-- whole cells, and more bytes behind them
module _ (p q : List ℕ) (a : ℕ) (e : length p ≡ 16 * a) where
  pub cells_append : cells (p ++ q) ≡ cells p ++ cells q
  cells_append =
      cells_are (p ++ q) (cells p ++ cells q) (simp (length-append, length_cells) (omega arith))
      (λ i lt. by i (rw length-append at lt) (dec_lt i a))
    where
      n : length (cells p) ≡ a
      n = length_cells p ∙ omega arith

      by : (i : ℕ) → i < (length p + length q) / 16 → Dec (i < a) → cell_at (p ++ q) i ≡ get_or (cells p ++ cells q) i null
      by i lt (yes h) =
          cell_same (p ++ q) p i i (λ j l. get_or-append p q 0 (16 * i + j) (omega arith))
          ∙ sym (get_or-append (cells p) (cells q) null i (rw n h) ∙ cells_get p i (omega arith))
      by i lt (no h) =
          let f : a + (i - a) ≡ i = omega arith in
          cell_same (p ++ q) q i (i - a) (λ j l. ap (λ (k : ℕ). get_or (p ++ q) k 0) (omega arith) ∙ get_or_behind p q (16 * a) (16 * (i - a) + j) 0 e)
          ∙ sym (rw f at (get_or_behind (cells p) (cells q) a (i - a) null n) ∙ cells_get q (i - a) (omega arith))

  pub rest_append : rest (p ++ q) ≡ rest q
  unfolding rest
  rest_append =
      let f : 16 * (length (p ++ q) / 16) ≡ length p + 16 * room q = simp length-append (omega arith) in
      rw f (drop-append-add p q (16 * room q))

-- a slice is cut at cell a
module _ (s : List ℕ) (a : ℕ) (h : a ≤ room s) where
  length_front : length (take (16 * a) s) ≡ 16 * a
  length_front = length-take-le (16 * a) s (omega arith)

  both : cells s ≡ cells (take (16 * a) s) ++ cells (drop (16 * a) s)
  both = ap cells (sym (take-append-drop (16 * a) s)) ∙ cells_append (take (16 * a) s) (drop (16 * a) s) a length_front

  length_first : length (cells (take (16 * a) s)) ≡ a
  length_first = length_cells (take (16 * a) s) ∙ rw length_front (omega arith)

  pub cells_front : cells (take (16 * a) s) ≡ take a (cells s)
  cells_front = sym (ap (take a) both ∙ take_at (cells (take (16 * a) s)) (cells (drop (16 * a) s)) a length_first)

  pub cells_end : cells (drop (16 * a) s) ≡ drop a (cells s)
  cells_end = sym (ap (drop a) both ∙ drop_at (cells (take (16 * a) s)) (cells (drop (16 * a) s)) a length_first)

  pub rest_end : rest (drop (16 * a) s) ≡ rest s
  rest_end = sym (rest_append (take (16 * a) s) (drop (16 * a) s) a length_front) ∙ ap rest (take-append-drop (16 * a) s)

-- what the code lends as `s[b..]`
pub part_end : (s : List ℕ) (b : ℕ) → take (length s - b) (drop b s) ≡ drop b s
part_end s b = take_all (length s - b) (drop b s) (simp length-drop (omega arith))

-- what it lends as `s[16 * a..16 * (a + n)]`
pub cells_part : (s : List ℕ) (a n : ℕ) → a + n ≤ room s → cells (take (16 * n) (drop (16 * a) s)) ≡ take n (drop a (cells s))
cells_part s a n h = cells_front (drop (16 * a) s) n (simp length-drop (omega arith)) ∙ ap (take n) (cells_end s a (omega arith))

-- what it lends as `s[..16 * n]`, or all of a slice that is shorter
pub cells_lent : (s : List ℕ) (n : ℕ) → cells (take (16 * n) s) ≡ take n (cells s)
cells_lent s n = by (dec_lt (room s) n)
  where
    by : Dec (room s < n) → cells (take (16 * n) s) ≡ take n (cells s)
    by (yes h) = ap cells (take_all (16 * n) s (omega arith)) ∙ sym (take_all n (cells s) (omega (arith, length_cells s)))
    by (no h) = cells_front s n (omega arith)

-- a lent part comes back: from the front, to the end, from the middle
module _ (s t : List ℕ) (l : List Cell) where
  pub writes_front : (n : ℕ) → n ≤ room s → Writes (take (16 * n) s) l t → Writes s (l ++ drop n (cells s)) (t ++ drop (16 * n) s)
  writes_front n h w =
      let f : length t ≡ 16 * n = w.len ∙ length_front s n h in
      record {
        cells = cells_append t (drop (16 * n) s) n f ∙ rw (cells_end s n h, w.cells);
        rest = rest_append t (drop (16 * n) s) n f ∙ rest_end s n h;
        len = simp (length-append, length-drop) (omega arith);
      }

  pub writes_end : (a : ℕ) → a ≤ room s → Writes (drop (16 * a) s) l t → Writes s (take a (cells s) ++ l) (take (16 * a) s ++ t)
  writes_end a h w =
      let f : length (take (16 * a) s) ≡ 16 * a = length_front s a h in
      let d : length (drop (16 * a) s) ≡ length s - 16 * a = length-drop (16 * a) s in
      record {
        cells = cells_append (take (16 * a) s) t a f ∙ rw (cells_front s a h, w.cells);
        rest = rest_append (take (16 * a) s) t a f ∙ w.rest ∙ rest_end s a h;
        len = rw length-append (omega (arith, w.len));
      }

pub writes_part : (s t : List ℕ) (l : List Cell) (a n : ℕ) → a + n ≤ room s → Writes (take (16 * n) (drop (16 * a) s)) l t
    → Writes s (take a (cells s) ++ (l ++ drop (a + n) (cells s))) (take (16 * a) s ++ (t ++ drop (16 * n) (drop (16 * a) s)))
writes_part s t l a n h w =
    let u : List ℕ = drop (16 * a) s in
    let e : drop n (cells u) ≡ drop (a + n) (cells s) = ap (drop n) (cells_end s a (omega arith)) ∙ drop-drop n a (cells s) in
    rw e at (writes_end s _ _ a (omega arith) (writes_front u t l n (simp length-drop (omega arith)) w))
