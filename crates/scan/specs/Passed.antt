-- The loops of `values_fit` and `handlers_fit`: what is left to be tested is what was to be tested.
use Rattle.std.specs.Prelude.{◌≡◌, List, Bool, true, false, not, get_or, take, drop}
use Rattle.std.proofs.Math.Path.{sym}
use Rattle.std.proofs.Common.{◌∙◌}
use Prim.Native.Nat.{ℕ, suc, ◌+◌, ◌-◌, ◌*◌, ◌<◌, ◌≤◌}
use native.Mathlib.Omega.{arith}
use Rattle.std.proofs.Math.Nat.{add-zero}
use Rattle.std.proofs.Math.Seq.{get_or-drop, drop-drop, drop-cons}
use borrow.Author.Tests.{not-true, not-false}
use Rattle.cells.specs.Cells.{null, room, cells, Sound}
use Rattle.cells.specs.CellsLaws.{length_cells}
use Rattle.cells.specs.declared.Cell.{Cell}
use Rattle.image.specs.Records.{both}
use Rattle.image.specs.Program.{all}
use Rattle.machine.specs.Values.{Program}
use Rattle.memory.specs.Tests.{target_fits, effect_fits, handlers_fit}

-- ---- n cells of s, of which i are passed
pub record Passed (p : Cell → Bool) (s : List ℕ) (from n i : ℕ) : Type 0 where
  pub less : i ≤ n
  pub same : all p (take n (drop from (cells s))) ≡ all p (take (n - i) (drop (from + i) (cells s)))

pub passed_none : (p : Cell → Bool) (s : List ℕ) (from n : ℕ) → Passed p s from n 0
passed_none p s from n =
    let a : n - 0 ≡ n = omega arith in
    let b : from + 0 ≡ from = omega arith in
    record { less = omega arith; same = rw (a, b) }

module _ {p : Cell → Bool} {s : List ℕ} {from n i : ℕ} (w : Passed p s from n i) where
  module _ (le : from + n ≤ room s) (lt : i < n) {c : Cell} (q : (c ≡ get_or (cells s) (from + i) null) × Sound c) {t : Bool} (e : t ≡ p c) where
    turn : all p (take (n - i) (drop (from + i) (cells s))) ≡ both t (all p (take (n - (i + 1)) (drop (from + (i + 1)) (cells s))))
    unfolding all
    turn =
        let a : n - i ≡ suc (n - (i + 1)) = omega arith in
        let b : from + (i + 1) ≡ suc (from + i) = omega arith in
        rw (a, b, drop-cons (cells s) (from + i) null (rw length_cells (omega arith)), ← q.0, ← e)

    pub passed_not : not t ≡ true → false ≡ all p (take n (drop from (cells s)))
    unfolding both
    passed_not f = sym (w.same ∙ turn ∙ rw (not-true t f))

    pub passed_more : not t ≡ false → Passed p s from n (i + 1)
    unfolding both
    passed_more f = record { less = omega arith; same = w.same ∙ turn ∙ rw (not-false t f) }

  pub passed_all : n ≤ i → true ≡ all p (take n (drop from (cells s)))
  unfolding all
  passed_all ge = let z : n - i ≡ 0 = omega arith in sym (rw z at w.same)

-- ---- n handlers in s, of which i are passed
pub record Handlers (P : Program) (S : List Cell) (b limit : ℕ) (s : List ℕ) (from n i : ℕ) : Type 0 where
  pub less : i ≤ n
  pub same : handlers_fit P S b limit n (drop from (cells s)) ≡ handlers_fit P S b limit (n - i) (drop (from + 2 * i) (cells s))

pub handlers_none : (P : Program) (S : List Cell) (b limit : ℕ) (s : List ℕ) (from n : ℕ) → Handlers P S b limit s from n 0
handlers_none P S b limit s from n =
    let a : n - 0 ≡ n = omega arith in
    let b : from + 2 * 0 ≡ from = omega arith in
    record { less = omega arith; same = rw (a, b) }

module _ {P : Program} {S : List Cell} {b limit : ℕ} {s : List ℕ} {from n i : ℕ} (w : Handlers P S b limit s from n i) where
  module _ (lt : i < n) {c : Cell} (q : (c ≡ get_or (cells s) (from + 2 * i) null) × Sound c) {t : Bool} (e : t ≡ effect_fits P S b c) where
    next : handlers_fit P S b limit (n - i) (drop (from + 2 * i) (cells s))
        ≡ both (both t (target_fits limit (get_or (cells s) (from + 2 * i + 1) null))) (handlers_fit P S b limit (n - (i + 1)) (drop (from + 2 * (i + 1)) (cells s)))
    unfolding handlers_fit
    next =
        let a : n - i ≡ suc (n - (i + 1)) = omega arith in
        let d : from + 2 * (i + 1) ≡ from + 2 * i + 2 = omega arith in
        rw (a, d, get_or-drop (from + 2 * i) (cells s) 0 null, get_or-drop (from + 2 * i) (cells s) 1 null, drop-drop 2 (from + 2 * i) (cells s), add-zero, ← q.0, ← e)

    pub handlers_effect : not t ≡ true → false ≡ handlers_fit P S b limit n (drop from (cells s))
    unfolding both
    handlers_effect f = sym (w.same ∙ next ∙ rw (not-true t f))

    module _ (f : not t ≡ false) {d : Cell} (r : (d ≡ get_or (cells s) (from + 2 * i + 1) null) × Sound d) {u : Bool} (k : u ≡ target_fits limit d) where
      pub handlers_target : not u ≡ true → false ≡ handlers_fit P S b limit n (drop from (cells s))
      unfolding both
      handlers_target g = sym (w.same ∙ next ∙ rw (not-false t f, ← r.0, ← k, not-true u g))

      pub handlers_more : not u ≡ false → Handlers P S b limit s from n (i + 1)
      unfolding both
      handlers_more g = record { less = omega arith; same = w.same ∙ next ∙ rw (not-false t f, ← r.0, ← k, not-false u g) }

  pub handlers_all : n ≤ i → true ≡ handlers_fit P S b limit n (drop from (cells s))
  unfolding handlers_fit
  handlers_all ge = let z : n - i ≡ 0 = omega arith in sym (rw z at w.same)
