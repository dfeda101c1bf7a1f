-- Where frames begin: a table with the start of each, filled by one walk over their heads.
use Rattle.std.specs.Prelude.{◌≡◌, refl, List, ◌++◌, ℕ, zero, suc, ◌+◌, ◌-◌, ◌<◌, ◌≤◌, length, get_or, set, take, drop}
use Rattle.std.proofs.Common.{sym, ap, subst, ◌∙◌, append_assoc, add-one, arith, length-set, length-drop, take-append-drop, drop-drop, drop-set-lt, get_or-set_same, get_or-set_other}
use Rattle.std.proofs.Math.Decide.{dec_lt}
use Rattle.cells.specs.declared.Cell.{Cell}
use Rattle.machine.specs.Machine.{Frame, frames_cost}
use Rattle.memory.specs.Layout.{flat}
use Rattle.memory.specs.View.{frame_size, frames_size}
use Rattle.memory.proofs.Lists.{length_flat, flat_append}
use Rattle.moves.specs.Runs.{end_of, opened}
use Rattle.moves.specs.Frames.{Live}
use Rattle.moves.specs.Objects.{end_opened, sizes}
use Rattle.moves.specs.declared.Running.{Running}

-- the table has the start of each of the n frames at the front of x, and r cells are theirs
pub record Starting (x : List Cell) (n : ℕ) (old : List ℕ) (r : ℕ) (new : List ℕ) : Type 0 where
  pub used : r ≡ frames_size n x
  pub at : (i : ℕ) → i < n → get_or new i 0 ≡ frames_size i x
  pub rest : drop n new ≡ drop n old
  pub len : length new ≡ length old

-- ---- One frame more
pub frames_last : (i : ℕ) (x : List Cell) → frames_size (suc i) x ≡ frames_size i x + frame_size (drop (frames_size i x) x)
unfolding frames_size
frames_last zero x = omega arith
frames_last (suc i) x =
    let y : List Cell = drop (frame_size x) x in
    omega (arith, frames_last i y, ap (λ (l : List Cell). frame_size l) (drop-drop (frames_size i y) (frame_size x) x))

pub frames_up : (i n : ℕ) (x : List Cell) → i ≤ n → frames_size i x ≤ frames_size n x
unfolding frames_size
frames_up zero n x h = omega arith
frames_up (suc i) zero x h = absurd (omega arith)
frames_up (suc i) (suc n) x h = omega (arith, frames_up i n (drop (frame_size x) x) (omega arith))

-- ---- The loop: i starts are in the table, the next frame begins at `at` and ends at `next`
module _ {x : List Cell} {i at next : ℕ} {old new : List ℕ} {g : Running} (s : Starting x i old at new) (e : g ≡ opened x at) (q : next ≡ end_of g) where
  next_opened : next ≡ end_of (opened x at)
  next_opened = q ∙ ap (λ (k : Running). end_of k) e

  next_start : next ≡ frames_size (suc i) x
  next_start = next_opened ∙ end_opened x at ∙ ap (λ (k : ℕ). k + frame_size (drop k x)) s.used ∙ sym (frames_last i x)

  pub starting_fits : {n : ℕ} → i < n → (at + 6 ≤ next) × (next ≤ frames_size n x)
  starting_fits {n} lt = (omega (arith, next_opened), omega (arith, next_start, frames_up (suc i) n x (omega arith)))

  pub starting_next : i < length old → Starting x (i + 1) old next (set new i at)
  starting_next lt = record {
    used = next_start ∙ ap (λ (k : ℕ). frames_size k x) (sym (add-one i));
    at = λ j h. by j h (dec_lt j i);
    rest = drop-set-lt (i + 1) new i at (omega arith) ∙ sym (drop-drop 1 i new) ∙ ap (drop 1) s.rest ∙ drop-drop 1 i old;
    len = length-set new i at ∙ s.len;
  }
    where
      by : (j : ℕ) → j < i + 1 → Dec (j < i) → get_or (set new i at) j 0 ≡ frames_size j x
      by j h (yes p) = get_or-set_other new i j at 0 (λ k. omega arith) ∙ s.at j p
      by j h (no p) = let e : j ≡ i = omega arith in rw e (get_or-set_same new i at 0 (omega (arith, s.len)) ∙ s.used)

pub starting_none : (x : List Cell) (table : List ℕ) → Starting x 0 table 0 table
unfolding frames_size
starting_none x table = record { used = refl; at = λ j h. absurd (omega arith); rest = refl; len = refl }

pub starting_all : {x : List Cell} {i n at : ℕ} {old new : List ℕ} → Starting x i old at new → i ≤ n → n ≤ i → Starting x n old at new
starting_all {x} {i} {n} {at} {old} {new} s le ge = let e : i ≡ n = omega arith in subst (λ (k : ℕ). Starting x k old at new) e s

-- ---- What the starts are: the cells of the frames below
-- the i frames at the bottom
abbrev pub lower : ℕ → List Frame → List Frame
lower i fs = drop (length fs - i) fs

pub frames_lower : {fs : List Frame} {x : List Cell} (i : ℕ) → Live fs x → i ≤ length fs → frames_size i x ≡ length (flat (lower i fs))
unfolding frames_size
frames_lower {fs} {x} i o le =
    let k : ℕ = length fs - i in
    let after : List Cell = flat (take k fs) ++ o.free in
    let n : i ≡ length (drop k fs) + 0 = omega (arith, length-drop k fs) in
    let c : x ≡ flat (drop k fs) ++ after =
    o.is ∙ ap (λ (l : List Frame). flat l ++ o.free) (sym (take-append-drop k fs)) ∙ ap (λ (l : List Cell). l ++ o.free) (flat_append (take k fs) (drop k fs)) ∙ append_assoc (flat (drop k fs)) (flat (take k fs)) o.free in
    (λ j. frames_size (n j) (c j)) ∙ sizes (drop k fs) 0 after ∙ omega arith

module _ {fs : List Frame} {x : List Cell} {r : ℕ} {old new : List ℕ} (s : Starting x (length fs) old r new) (o : Live fs x) where
  pub starting_lower : (i : ℕ) → i < length fs → get_or new i 0 ≡ length (flat (lower i fs))
  starting_lower i lt = s.at i lt ∙ frames_lower i o (omega arith)

  pub starting_used : r ≡ frames_cost fs
  starting_used =
      let z : length fs - length fs ≡ 0 = omega arith in
      s.used ∙ frames_lower (length fs) o (omega arith) ∙ ap (λ (k : ℕ). length (flat (drop k fs))) z ∙ length_flat fs
