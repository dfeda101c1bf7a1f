-- Objects in form, as the code tests them.
use Rattle.std.specs.Prelude.{◌≡◌, refl, List, Bool, Option, Some, not, length, get_or, take, drop, ltb}
use Rattle.std.proofs.Math.Path.{sym, ap}
use Rattle.std.proofs.Common.{◌∙◌}
use Rattle.std.proofs.Math.Bool.{true, false}
use Prim.Native.Nat.{ℕ, zero, suc, ◌+◌, ◌-◌, ◌*◌, ◌<◌, ◌≤◌}
use native.Mathlib.Omega.{arith}
use Rattle.std.proofs.Math.Dec.{eqb, leb}
use borrow.Author.Tests.{lt-ltb, le-ltb, le-leb, lt-leb, eq-eqb, leb-true, not-true, not-false}
use Rattle.cells.specs.Cells.{null, room, cells}
use Rattle.cells.specs.Parts.{cells_part}
use Rattle.cells.specs.declared.Cell.{Cell}
use Rattle.std.specs.Bool.{then_some}
use Rattle.std.specs.Option.{option_eq}
use Rattle.image.specs.Records.{both}
use Rattle.image.specs.Program.{Code}
use Rattle.image.proofs.Parts.{first, length_tab}
use Rattle.image.specs.Layout.{field, code_at}
use Rattle.machine.specs.Values.{Program, code_of}
use Rattle.memory.specs.View.{frames_size}
use Rattle.memory.specs.Tests.{frames_fit, continuation_fits, object_fits, objects_fit, store_fits}
use Rattle.scan.specs.Tables.{program_in}
use Rattle.scan.specs.Values.{code_in}

-- ---- a closure: its code is there, and captures as many values as it has
module _ (image rows constants inner : List ℕ) (codes : ℕ) (S : List Cell) (at : ℕ) {n size : ℕ} (number : n ≡ (get_or S at null).number) (sized : size ≡ (get_or S at null).payload) where
  pub known : {t : Bool} → ltb n codes ≡ t → ltb (get_or S at null).number (length (program_in image rows constants inner codes).codes) ≡ t
  known h = rw (length_tab codes (code_at image rows constants inner)) (rw number at h)

  module _ (h : n < codes) {f : ℕ} (captured : f ≡ field rows n 5) where
    pub captures : length (code_of (program_in image rows constants inner codes) (get_or S at null).number).captures ≡ f
    captures =
        ap (λ (c : Code). length c.captures) (ap (code_of (program_in image rows constants inner codes)) (sym number) ∙ code_in image rows constants inner codes n h)
        ∙ length_tab _ _ ∙ sym captured

-- ---- a continuation: as many frames as its number says, in exactly its cells
pub lent_body : (s : List ℕ) (at size : ℕ) → at + 1 + size ≤ room s → cells (take (16 * (at + 1 + size) - 16 * (at + 1)) (drop (16 * (at + 1)) s)) ≡ take size (drop (at + 1) (cells s))
lent_body s at size h = let e : 16 * (at + 1 + size) - 16 * (at + 1) ≡ 16 * size = omega arith in rw e (cells_part s (at + 1) size h)

module _ (P : Program) (S : List Cell) (at : ℕ) {n size : ℕ} (number : n ≡ (get_or S at null).number) (sized : size ≡ (get_or S at null).payload) where
  counted : {t : Bool} → both (leb 1 n) (leb n 256) ≡ t → both (leb 1 (get_or S at null).number) (leb (get_or S at null).number 256) ≡ t
  counted h = rw number at h

  -- they are in form and end at its size
  ends_at : (t : Bool) (e : ℕ) → option_eq eqb (then_some t e) (Some size) ≡ both t (eqb e size)
  unfolding both
  ends_at true e = refl
  ends_at false e = refl

  pub continuation_is : {X : List Cell} {r : Option ℕ} {t : Bool} → (1 ≤ n) × (n ≤ 256) → X ≡ take size (drop (at + 1) S) → r ≡ then_some (frames_fit P S at n X) (frames_size n X) → t ≡ option_eq eqb r (Some size)
      → t ≡ continuation_fits P S at
  unfolding continuation_fits both
  continuation_is h x w q =
      q ∙ ap (λ (o : Option ℕ). option_eq eqb o (Some size)) w ∙ ends_at _ _
      ∙ sym (rw (counted {t = true} (rw (le-leb 1 n h.0) (le-leb n 256 h.1)), sym number, sym sized, sym x))

-- ---- the store: what is left of it from `at` on is the whole
pub record Walked (P : Program) (S : List Cell) (used at : ℕ) : Type 0 where
  pub turns : ℕ
  pub left : objects_fit P S used turns at ≡ objects_fit P S used used 0
  pub enough : used ≤ at + turns
  pub inside : at ≤ used

pub store_long : (P : Program) (S : List Cell) (used : ℕ) → length S < used → false ≡ store_fits P S used
unfolding store_fits both
store_long P S used h = rw (lt-leb used (length S) h)

pub walked_first : (P : Program) (S : List Cell) (used : ℕ) → Walked P S used 0
walked_first P S used = record { turns = used; left = refl; enough = omega arith; inside = omega arith }

module _ {P : Program} {S : List Cell} {used at : ℕ} (s : Walked P S used at) where
  store_is_lem : used ≤ length S → store_fits P S used ≡ objects_fit P S used s.turns at
  unfolding store_fits both
  store_is_lem h = rw (le-leb used (length S) h) (sym s.left)

  -- one turn
  more : (n : ℕ) → at < used → used ≤ at + n → objects_fit P S used n at ≡ both (object_fits P S used at) (objects_fit P S used (n - 1) (at + 1 + (get_or S at null).payload))
  unfolding objects_fit
  more zero h k = absurd (omega arith)
  more (suc n) h k = let e : suc n - 1 ≡ n = omega arith in rw (e, lt-ltb at used h)

  object_ends : object_fits P S used at ≡ true → (get_or S at null).payload ≤ used - at - 1
  unfolding object_fits
  object_ends e = leb-true _ _ (first _ _ e)

  module _ (h : at < used) {t : Bool} (w : t ≡ object_fits P S used at) where
    pub walked_not : used ≤ length S → not t ≡ true → false ≡ store_fits P S used
    unfolding both
    walked_not l e = sym (store_is_lem l ∙ more s.turns h s.enough ∙ rw (sym w ∙ not-true t e))

    pub walked_ends : {n : ℕ} → n ≡ (get_or S at null).payload → not t ≡ false → at + (1 + n) ≤ used
    walked_ends {n} q e = let k : n ≤ used - at - 1 = rw q (object_ends (sym w ∙ not-false t e)) in omega arith

    pub walked_next : {n : ℕ} → n ≡ (get_or S at null).payload → not t ≡ false → Walked P S used (at + (1 + n))
    unfolding both
    walked_next {n} q e =
        let f : at + (1 + n) ≡ at + 1 + (get_or S at null).payload = omega arith in
        let o : object_fits P S used at ≡ true = sym w ∙ not-false t e in
        record {
          turns = s.turns - 1;
          left = rw f (sym (rw o at (more s.turns h s.enough)) ∙ s.left);
          enough = omega (arith, s.enough);
          inside = walked_ends q e;
        }

  pub walked_all : used ≤ length S → used ≤ at → true ≡ store_fits P S used
  unfolding objects_fit
  walked_all l h = sym (store_is_lem l ∙ by s.turns)
    where
      e : at ≡ used
      e = omega (arith, s.inside)

      by : (n : ℕ) → objects_fit P S used n at ≡ true
      by zero = eq-eqb at used e
      by (suc n) = rw (le-ltb at used h) (eq-eqb at used e)
