-- The laws of cells: what is read, what a write leaves, and when two slices are equal. Behind these laws nobody needs to see a byte.
use Rattle.std.specs.Prelude.{◌≡◌, refl, List, ◌⊎◌, ℕ, zero, suc, ◌+◌, ◌*◌, ◌/◌, ◌%◌, ◌-◌, ◌^◌, ◌<◌, ◌≤◌, length, get_or, set, drop}
use Rattle.std.proofs.Common.{sym, ap, ◌∙◌, inl, inr, ⊎_elim, zero-add, arith, length-set, length-drop, ext_get_or, get_or-set_same, get_or-set_other, get_or-drop}
use Rattle.std.proofs.Math.Decide.{dec_lt}
use Rattle.std.proofs.Math.ListN.{get_or-eq_default}
use Rattle.std.proofs.lemmas.Bool.{cases_order}
use Rattle.cells.specs.Le.{le_at, put_at, limit, Bytes, length_put, get_or_put, le_same, le_one, le_put_same, le_put_other, le_bound, le_join}
use Rattle.cells.specs.Cells.{null, room, cell_at, put_cell, cells_from, cells, rest, Sound, Writes, set_tag, set_number, set_payload}
use Rattle.cells.specs.declared.Cell.{Cell}

-- ---- the list of cells
length_from : (s : List ℕ) (i n : ℕ) → length (cells_from s i n) ≡ n
unfolding cells_from
length_from s i zero = refl
length_from s i (suc n) = ap suc (length_from s (i + 1) n)

get_or_from : (s : List ℕ) (i n j : ℕ) → j < n → get_or (cells_from s i n) j null ≡ cell_at s (i + j)
unfolding cells_from
get_or_from s i zero j h = absurd (omega arith)
get_or_from s i (suc n) zero h = ap (cell_at s) (omega arith)
get_or_from s i (suc n) (suc j) h = get_or_from s (i + 1) n j (omega arith) ∙ ap (cell_at s) (omega arith)

pub length_cells : (s : List ℕ) → length (cells s) ≡ room s
unfolding cells
length_cells s = length_from s 0 (room s)

-- slices of one length have as many cells
pub same_cells : (s t : List ℕ) → length t ≡ length s → length (cells t) ≡ length (cells s)
same_cells s t e = length_cells t ∙ ap (λ (n : ℕ). n / 16) e ∙ sym (length_cells s)

pub cells_get : (s : List ℕ) (i : ℕ) → i < room s → get_or (cells s) i null ≡ cell_at s i
unfolding cells
cells_get s i h = get_or_from s 0 (room s) i h ∙ ap (cell_at s) (zero-add i)

-- the fields of cell i
pub cells_tag : (s : List ℕ) (i : ℕ) → i < room s → (get_or (cells s) i null).tag ≡ le_at 4 s (16 * i)
unfolding cell_at
cells_tag s i h = ap (λ (c : Cell). c.tag) (cells_get s i h)

pub cells_number : (s : List ℕ) (i : ℕ) → i < room s → (get_or (cells s) i null).number ≡ le_at 4 s (16 * i + 4)
unfolding cell_at
cells_number s i h = ap (λ (c : Cell). c.number) (cells_get s i h)

pub cells_payload : (s : List ℕ) (i : ℕ) → i < room s → (get_or (cells s) i null).payload ≡ le_at 8 s (16 * i + 8)
unfolding cell_at
cells_payload s i h = ap (λ (c : Cell). c.payload) (cells_get s i h)

-- what `get` puts together
pub cells_got : (s : List ℕ) (i : ℕ) {t n p : ℕ} → i < room s → t ≡ le_at 4 s (16 * i) → n ≡ le_at 4 s (16 * i + 4) → p ≡ le_at 8 s (16 * i + 8)
    → ◌≡◌ {A = Cell} (record { tag = t; number = n; payload = p }) (get_or (cells s) i null)
unfolding cell_at
cells_got s i h a b e = (λ j. record { tag = a j; number = b j; payload = e j }) ∙ sym (cells_get s i h)

-- a list that has each cell of s is that of its cells
pub cells_are : (s : List ℕ) (l : List Cell) → length l ≡ room s → ((i : ℕ) → i < room s → cell_at s i ≡ get_or l i null) → cells s ≡ l
cells_are s l e h = ext_get_or null (cells s) l (length_cells s ∙ sym e) (λ i lt. let r : i < room s = rw length_cells at lt in cells_get s i r ∙ h i r)

-- bytes that are equal from the last whole cell on
pub rest_same : (s t : List ℕ) → length t ≡ length s → ((j : ℕ) → 16 * room s ≤ j → get_or t j 0 ≡ get_or s j 0) → rest t ≡ rest s
unfolding rest
rest_same s t e h =
    ap (λ (n : ℕ). drop (16 * (n / 16)) t) e
    ∙ ext_get_or 0 (drop (16 * room s) t) (drop (16 * room s) s) (rw (length-drop, length-drop, e))
    (λ j lt. get_or-drop (16 * room s) t j 0 ∙ h (16 * room s + j) (omega arith) ∙ sym (get_or-drop (16 * room s) s j 0))

-- equal bytes, equal cells
pub cell_same : (s t : List ℕ) (a b : ℕ) → ((j : ℕ) → j < 16 → get_or s (16 * a + j) 0 ≡ get_or t (16 * b + j) 0) → cell_at s a ≡ cell_at t b
unfolding cell_at
cell_same s t a b h =
    let at : (l : List ℕ) (i d j : ℕ) → get_or l (16 * i + d + j) 0 ≡ get_or l (16 * i + (d + j)) 0 = λ l i d j. ap (λ (n : ℕ). get_or l n 0) (omega arith) in
    let f : (k d : ℕ) → d + k ≤ 16 → le_at k s (16 * a + d) ≡ le_at k t (16 * b + d) =
    λ k d le. le_same k s t (16 * a + d) (16 * b + d) (λ j lt. at s a d j ∙ h (d + j) (omega arith) ∙ sym (at t b d j)) in
    λ j. record { tag = le_same 4 s t (16 * a) (16 * b) (λ i lt. h i (omega arith)) j; number = f 4 4 (omega arith) j; payload = f 8 8 (omega arith) j }

-- ---- one cell is written
-- only bytes of cell i have changed, and it is c now
pub writes_cell : (s t : List ℕ) (i : ℕ) (c : Cell) → length t ≡ length s → i < room s
    → ((j : ℕ) → (j < 16 * i) ⊎ (16 * i + 16 ≤ j) → get_or t j 0 ≡ get_or s j 0) → cell_at t i ≡ c → Writes s (set (cells s) i c) t
writes_cell s t i c len h other e =
    record {
      cells = cells_are t (set (cells s) i c) (length-set (cells s) i c ∙ length_cells s ∙ ap (λ (n : ℕ). n / 16) (sym len))
          (λ k lt. at k (rw len at lt) (cases_order k i));
      rest = rest_same s t len (λ j le. other j (inr (omega arith)));
      len = len;
    }
  where
    at : (k : ℕ) → k < room s → (k ≡ i) ⊎ ((k < i) ⊎ (i < k)) → cell_at t k ≡ get_or (set (cells s) i c) k null
    at k lt (inl p) = rw p (e ∙ sym (get_or-set_same (cells s) i c null (rw length_cells h)))
    at k lt (inr p) =
        cell_same t s k k (λ j l. other (16 * k + j) (⊎_elim (λ q. inl (omega arith)) (λ q. inr (omega arith)) p))
        ∙ sym (get_or-set_other (cells s) i k c null (λ q. ⊎_elim (λ r. omega arith) (λ r. omega arith) p) ∙ cells_get s k lt)

-- what a cell is after one of its fields is written
module _ (s : List ℕ) (i x : ℕ) (h : i < room s) where
  tag_put : x < 2 ^ 32 → cell_at (put_at 4 s (16 * i) x) i ≡ set_tag (cell_at s i) x
  unfolding cell_at limit
  tag_put lt = λ j. record {
    tag = le_put_same 4 s (16 * i) x (omega arith) lt j;
    number = le_put_other 4 4 s (16 * i) x (16 * i + 4) (inr (omega arith)) j;
    payload = le_put_other 8 4 s (16 * i) x (16 * i + 8) (inr (omega arith)) j;
  }

  number_put : x < 2 ^ 32 → cell_at (put_at 4 s (16 * i + 4) x) i ≡ set_number (cell_at s i) x
  unfolding cell_at limit
  number_put lt = λ j. record {
    tag = le_put_other 4 4 s (16 * i + 4) x (16 * i) (inl (omega arith)) j;
    number = le_put_same 4 s (16 * i + 4) x (omega arith) lt j;
    payload = le_put_other 8 4 s (16 * i + 4) x (16 * i + 8) (inr (omega arith)) j;
  }

  payload_put : x < 2 ^ 64 → cell_at (put_at 8 s (16 * i + 8) x) i ≡ set_payload (cell_at s i) x
  unfolding cell_at limit
  payload_put lt = λ j. record {
    tag = le_put_other 4 8 s (16 * i + 8) x (16 * i) (inl (omega arith)) j;
    number = le_put_other 4 8 s (16 * i + 8) x (16 * i + 4) (inl (omega arith)) j;
    payload = le_put_same 8 s (16 * i + 8) x (omega arith) lt j;
  }

  -- a number is written in cell i
  writes_field : (k at : ℕ) (f : Cell → Cell) → 16 * i ≤ at → at + k ≤ 16 * i + 16 → cell_at (put_at k s at x) i ≡ f (cell_at s i)
      → Writes s (set (cells s) i (f (get_or (cells s) i null))) (put_at k s at x)
  writes_field k at f a b e =
      writes_cell s (put_at k s at x) i (f (get_or (cells s) i null)) (length_put k s at x) h
      (λ j o. get_or_put k s at x j (⊎_elim (λ l. inl (omega arith)) (λ l. inr (omega arith)) o)) (e ∙ ap f (sym (cells_get s i h)))

  pub writes_tag : x < 2 ^ 32 → Writes s (set (cells s) i (set_tag (get_or (cells s) i null) x)) (put_at 4 s (16 * i) x)
  writes_tag lt = writes_field 4 (16 * i) (λ c. set_tag c x) (omega arith) (omega arith) (tag_put lt)

  pub writes_number : x < 2 ^ 32 → Writes s (set (cells s) i (set_number (get_or (cells s) i null) x)) (put_at 4 s (16 * i + 4) x)
  writes_number lt = writes_field 4 (16 * i + 4) (λ c. set_number c x) (omega arith) (omega arith) (number_put lt)

  pub writes_payload : x < 2 ^ 64 → Writes s (set (cells s) i (set_payload (get_or (cells s) i null) x)) (put_at 8 s (16 * i + 8) x)
  writes_payload lt = writes_field 8 (16 * i + 8) (λ c. set_payload c x) (omega arith) (omega arith) (payload_put lt)

-- two writes, one after the other
pub writes_two : {a b c : List ℕ} {l : List Cell} (f : List Cell → List Cell) → Writes a l b → Writes b (f (cells b)) c → Writes a (f l) c
writes_two f v w = record { cells = w.cells ∙ ap f v.cells; rest = w.rest ∙ v.rest; len = w.len ∙ v.len }

-- a whole cell is written
pub writes_put : (s : List ℕ) (i : ℕ) (c : Cell) → i < room s → Sound c → Writes s (set (cells s) i c) (put_cell s i c)
unfolding put_cell
writes_put s i c h ok =
    let a : List ℕ = put_at 4 s (16 * i) c.tag in
    let b : List ℕ = put_at 4 a (16 * i + 4) c.number in
    let ha : i < room a = rw length_put h in
    let hb : i < room b = rw length_put ha in
    let out : (k : ℕ) (l : List ℕ) (d x j : ℕ) → d + k ≤ 16 → (j < 16 * i) ⊎ (16 * i + 16 ≤ j) → get_or (put_at k l (16 * i + d) x) j 0 ≡ get_or l j 0 =
    λ k l d x j le o. get_or_put k l (16 * i + d) x j (⊎_elim (λ w. inl (omega arith)) (λ w. inr (omega arith)) o) in
    writes_cell s (put_cell s i c) i c (simp length_put) h
    (λ j o. out 8 b 8 c.payload j (omega arith) o ∙ out 4 a 4 c.number j (omega arith) o
    ∙ get_or_put 4 s (16 * i) c.tag j (⊎_elim (λ w. inl w) (λ w. inr (omega arith)) o))
    (payload_put b i c.payload hb ok.payload ∙ ap (λ (d : Cell). set_payload d c.payload)
    (number_put a i c.number ha ok.number ∙ ap (λ (d : Cell). set_number d c.number) (tag_put s i c.tag h ok.tag)))

-- ---- after a write of one cell
module _ {s t : List ℕ} (i : ℕ) (c : Cell) (h : i < room s) (w : Writes s (set (cells s) i c) t) where
  pub reads_same : get_or (cells t) i null ≡ c
  reads_same = rw w.cells (get_or-set_same (cells s) i c null (rw length_cells h))

  pub reads_other : (k : ℕ) → (k ≡ i → ⊥) → get_or (cells t) k null ≡ get_or (cells s) k null
  reads_other k ne = rw w.cells (get_or-set_other (cells s) i k c null ne)

-- ---- what any write leaves
pub writes_none : (s : List ℕ) → Writes s (cells s) s
writes_none s = record { cells = refl; rest = refl; len = refl }

pub writes_length : {s t : List ℕ} {l : List Cell} → Writes s l t → length l ≡ room s
writes_length {s} {t} w = ap length (sym w.cells) ∙ length_cells t ∙ ap (λ (n : ℕ). n / 16) w.len

-- ---- every cell of bytes is sound
sound_null : Sound null
sound_null = record { tag = omega arith; number = omega arith; payload = omega arith }

pub sound_at : (s : List ℕ) (i : ℕ) → Bytes s → Sound (cell_at s i)
unfolding cell_at limit
sound_at s i p = record { tag = le_bound 4 s (16 * i) p; number = le_bound 4 s (16 * i + 4) p; payload = le_bound 8 s (16 * i + 8) p }

pub sound_cells : (s : List ℕ) (i : ℕ) → Bytes s → Sound (get_or (cells s) i null)
sound_cells s i p = by (dec_lt i (room s))
  where
    by : Dec (i < room s) → Sound (get_or (cells s) i null)
    by (yes h) = rw (cells_get s i h) (sound_at s i p)
    by (no h) = rw (get_or-eq_default (cells s) null {n = i} (rw length_cells (omega arith))) sound_null

-- ---- equal cells and equal rest, equal bytes
-- a cell as one number
whole : Cell → ℕ
whole c = c.tag + limit 4 * (c.number + limit 4 * c.payload)

le_whole : (s : List ℕ) (i : ℕ) → le_at 16 s (16 * i) ≡ whole (cell_at s i)
unfolding whole cell_at
le_whole s i =
    let e : 16 * i + 4 + 4 ≡ 16 * i + 8 = omega arith in
    le_join 4 12 s (16 * i) ∙ ap (λ (n : ℕ). le_at 4 s (16 * i) + limit 4 * n) (le_join 4 8 s (16 * i + 4) ∙ rw e)

pub same_bytes : (s t : List ℕ) → Bytes s → Bytes t → length s ≡ length t → cells s ≡ cells t → rest s ≡ rest t → s ≡ t
unfolding rest
same_bytes s t p q len e r = ext_get_or 0 s t len (λ j lt. by j lt (dec_lt j (16 * room s)))
  where
    by : (j : ℕ) → j < length s → Dec (j < 16 * room s) → get_or s j 0 ≡ get_or t j 0
    by j lt (yes h) =
        let i : j / 16 < room t = rw (← len) (omega arith) in
        let c : cell_at s (j / 16) ≡ cell_at t (j / 16) =
        sym (cells_get s (j / 16) (omega arith)) ∙ ap (λ (l : List Cell). get_or l (j / 16) null) e ∙ cells_get t (j / 16) i in
        let d : 16 * (j / 16) + j % 16 ≡ j = omega arith in
        rw d at (le_one 16 s t (16 * (j / 16)) (16 * (j / 16)) p q (le_whole s (j / 16) ∙ ap whole c ∙ sym (le_whole t (j / 16))) (j % 16) (omega arith))
    by j lt (no h) =
        let d : 16 * room s + (j - 16 * room s) ≡ j = omega arith in
        let f : drop (16 * room s) s ≡ drop (16 * room s) t = r ∙ ap (λ (n : ℕ). drop (16 * (n / 16)) t) (sym len) in
        rw d at (sym (get_or-drop (16 * room s) s (j - 16 * room s) 0) ∙ ap (λ (l : List ℕ). get_or l (j - 16 * room s) 0) f
        ∙ get_or-drop (16 * room s) t (j - 16 * room s) 0)

-- the cells are as they were, so the bytes are
pub writes_same : {s t : List ℕ} → Bytes s → Bytes t → Writes s (cells s) t → t ≡ s
writes_same {s} {t} p q w = same_bytes t s q p w.len w.cells w.rest
