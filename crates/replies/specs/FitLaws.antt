-- What refusal 5 asks of an answer: one law for each return of `effects_fit`, `call_fits`, `perform_fits` and `fits`.
use Rattle.std.specs.Prelude.{◌≡◌, Bool, true, false, not, ◌⊎◌, ℕ, ◌+◌, ◌<◌, ◌≤◌, get_or, take, drop}
use Rattle.std.proofs.Math.Path.{refl, sym, ap}
use Rattle.std.proofs.Common.{◌∙◌, inl, inr, arith, take_all}
use mathlib.Core.List.{List, [], ◌∷◌}
use Rattle.std.proofs.Math.ListN.{length}
use borrow.Author.Tests.{not-true, not-false, le-leb, lt-leb}
use Rattle.cells.specs.Cells.{null, room, cells, Sound}
use Rattle.cells.specs.CellsLaws.{length_cells}
use Rattle.cells.specs.declared.Cell.{Cell}
use Rattle.image.specs.Records.{both}
use Rattle.image.proofs.Parts.{both_true, both_false, both_swap}
use Rattle.image.specs.Program.{all}
use Rattle.machine.specs.Values.{Program, is_effect}
use Rattle.machine.specs.Machine.{Object}
use Rattle.machine.specs.Calls.{is_value, are_values, are_effects}
use Rattle.memory.specs.Reads.{Reads}
use Rattle.memory.specs.Tests.{value_fits, effect_fits}
use Rattle.memory.proofs.FrameLaws.{value_is_lem, values_are}
use Rattle.scan.specs.Passed.{Passed, passed_not, passed_more, passed_all}
use Rattle.requests.specs.Returned.{return_fits, called_fits}
use Rattle.requests.specs.Asked.{CalledFits}
use Rattle.requests.specs.FitLaws.{reads_at}
use Rattle.replies.specs.Replied.{ReturnFits}
use Rattle.replies.specs.Pieces.{PerformedFits}
use Rattle.replies.specs.declared.CallbackReturn.{CallbackReturn}
use Rattle.replies.specs.declared.CallbackReturn.TheVariants.{Call, Perform, TailCall, TailPerform, ReturnValue, Error, Panic}

-- ---- Effects
both_across : (a b c d : Bool) → both (both a b) (both c d) ≡ both (both b c) (both a d)
unfolding both
both_across true true c d = refl
both_across true false c d = refl
both_across false true true d = refl
both_across false true false d = refl
both_across false false c d = refl

module _ (P : Program) (s : List Object) (S : List Cell) (u : ℕ) (k : Reads s S u) where
  effect_is : (e : Cell) → effect_fits P S u e ≡ both (is_value P s e) (is_effect e)
  unfolding effect_fits
  effect_is e = both_swap (is_effect e) (value_fits P S u e) ∙ ap (λ (t : Bool). both t (is_effect e)) (value_is_lem P s S u k e)

  effects_are : (es : List Cell) → all (effect_fits P S u) es ≡ both (are_values P s es) (are_effects es)
  unfolding all are_values are_effects effect_fits both
  effects_are [] = refl
  effects_are (e ∷ es) = rw (effects_are es, value_is_lem P s S u k e) (both_across (is_effect e) (is_value P s e) (are_values P s es) (are_effects es))

-- all the cells of a slice
all_cells : (x : List ℕ) {n : ℕ} → n ≡ room x → take n (drop 0 (cells x)) ≡ cells x
all_cells x {n} e = take_all n (cells x) (omega (arith, length_cells x))

module _ {p : Cell → Bool} {x : List ℕ} {n i : ℕ} (w : Passed p x 0 n i) (l : n ≡ room x) where
  module _ (lt : i < n) {c : Cell} (q : (c ≡ get_or (cells x) i null) × Sound c) {t : Bool} (e : t ≡ p c) where
    got : (c ≡ get_or (cells x) (0 + i) null) × Sound c
    got = let z : i ≡ 0 + i = omega arith in (q.0 ∙ ap (λ (j : ℕ). get_or (cells x) j null) z, q.1)

    pub cells_not : not t ≡ true → false ≡ all p (cells x)
    cells_not f = passed_not w (omega arith) lt got e f ∙ ap (all p) (all_cells x l)

    pub cells_more : not t ≡ false → Passed p x 0 n (i + 1)
    cells_more f = passed_more w (omega arith) lt got e f

  pub cells_all : n ≤ i → true ≡ all p (cells x)
  cells_all ge = passed_all w ge ∙ ap (all p) (all_cells x l)

-- ---- An answered call
module _ {P : Program} {u : ℕ} {f : Cell} {args S : List Cell} (handlers : List ℕ) {n : ℕ} (l : n ≡ room handlers) where
  pub handlers_many : 4096 < n → ReturnFits P u (Call f) args (cells handlers) false S
  unfolding return_fits both
  handlers_many lt = record { is = λ s h w e. rw (lt-leb (length args + length (cells handlers)) 4096 (omega (arith, length_cells handlers)), both_false, both_false) refl }

  module _ {t : Bool} (k : CalledFits P u f args n t S) where
    pub called_not : not t ≡ true → ReturnFits P u (Call f) args (cells handlers) false S
    unfolding return_fits both
    called_not ne = record { is = λ s h w e. rw (ap (called_fits P s f args) (length_cells handlers ∙ sym l) ∙ sym (k.is s h w e) ∙ not-true t ne) refl }

    pub called_with : {b : Bool} → not t ≡ false → b ≡ all (effect_fits P S u) (cells handlers) → ReturnFits P u (Call f) args (cells handlers) b S
    unfolding return_fits both
    called_with y q = record {
      is = λ s h w e.
          rw (ap (called_fits P s f args) (length_cells handlers ∙ sym l) ∙ sym (k.is s h w e) ∙ not-false t y) (q ∙ effects_are P s S u (reads_at P S u s h w e) (cells handlers));
    }

-- ---- An answered perform
module _ (P : Program) (u : ℕ) (e : Cell) (S : List Cell) where
  pub performed_many : (args : List ℕ) {n : ℕ} → n ≡ room args → 4096 < n → PerformedFits P u e (cells args) false S
  performed_many args l lt = record { is = λ s h w q. rw (lt-leb (length (cells args) + 0) 4096 (omega (arith, length_cells args)), both_false, both_false) refl }

  module _ {t : Bool} (k : t ≡ effect_fits P S u e) where
    effect_at : (s : List Object) → Reads s S u → both (is_value P s e) (is_effect e) ≡ t
    effect_at s r = sym (k ∙ effect_is P s S u r e)

    pub performed_not : {args : List Cell} → not t ≡ true → PerformedFits P u e args false S
    unfolding both
    performed_not ne = record { is = λ s h w q. rw (effect_at s (reads_at P S u s h w q) ∙ not-true t ne) refl }

    pub performed_with : (args : List ℕ) {n : ℕ} {b : Bool} → not t ≡ false → n ≡ room args → n ≤ 4096 → b ≡ all (value_fits P S u) (take n (drop 0 (cells args))) → PerformedFits P u e (cells args) b S
    unfolding both
    performed_with args y l le b = record {
      is = λ s h w q.
          let r = reads_at P S u s h w q in
          rw (effect_at s r ∙ not-false t y, le-leb (length (cells args) + 0) 4096 (omega (arith, length_cells args)), both_true) (b ∙ ap (all (value_fits P S u)) (all_cells args l) ∙ values_are P s S u r (cells args));
    }

-- ---- By what the answer is
module _ {P : Program} {u : ℕ} {r : CallbackReturn} {args handlers S : List Cell} {b : Bool} where
  pub fits_call : {f : Cell} → r ≡ Call f → ReturnFits P u (Call f) args handlers b S → ReturnFits P u r args handlers b S
  fits_call q w = rw q w

  pub fits_tail : {f : Cell} → r ≡ TailCall f → CalledFits P u f args 0 b S → ReturnFits P u r args handlers b S
  unfolding return_fits
  fits_tail q w = record { is = λ s h o e. rw q (w.is s h o e) }

  pub fits_perform : {e : Cell} → (r ≡ Perform e) ⊎ (r ≡ TailPerform e) → PerformedFits P u e args b S → ReturnFits P u r args handlers b S
  unfolding return_fits
  fits_perform (inl q) w = record { is = λ s h o e. rw q (w.is s h o e) }
  fits_perform (inr q) w = record { is = λ s h o e. rw q (w.is s h o e) }

  pub fits_value : {v : Cell} → (r ≡ ReturnValue v) ⊎ ((r ≡ Error v) ⊎ (r ≡ Panic v)) → b ≡ value_fits P S u v → ReturnFits P u r args handlers b S
  unfolding return_fits
  fits_value {v} (inl q) w = record { is = λ s h o e. rw q (w ∙ value_is_lem P s S u (reads_at P S u s h o e) v) }
  fits_value {v} (inr (inl q)) w = record { is = λ s h o e. rw q (w ∙ value_is_lem P s S u (reads_at P S u s h o e) v) }
  fits_value {v} (inr (inr q)) w = record { is = λ s h o e. rw q (w ∙ value_is_lem P s S u (reads_at P S u s h o e) v) }
