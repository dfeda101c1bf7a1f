-- The state block's part of the form test: a result's cells, and a wait and a slice beside the frame that runs next.
use Rattle.std.specs.Prelude.{◌≡◌, Bool, ℕ, zero, suc, ◌<◌, ◌≤◌, length, leb, ltb}
use Rattle.std.proofs.Math.Path.{refl, sym}
use Rattle.std.proofs.Common.{ap, ◌∙◌}
use mathlib.Core.List.{List, [], ◌∷◌, ◌++◌, append_assoc}
use Rattle.std.proofs.Math.Bool.{true, false}
use native.Mathlib.Omega.{arith}
use Rattle.std.proofs.lemmas.List.{nil_from_length}
use Rattle.std.proofs.Math.Seq.{get_or_at}
use Rattle.std.proofs.Math.Dec.{eqb}
use Rattle.std.proofs.Math.Arith.{lt_of_le-ne}
use borrow.Author.Tests.{ltb-true, leb-true, eqb-true, eqb-false, lt-ltb, le-leb, eq-eqb}
use Rattle.cells.specs.Cells.{null}
use Rattle.cells.specs.declared.Cell.{Cell}
use Rattle.image.specs.Records.{if?, both}
use Rattle.image.proofs.Parts.{first, second}
use Rattle.machine.specs.Values.{Program, cell, is_effect, Error, call_arguments, un_operator, bin_operator, meta_un_operator, meta_bin_operator, zero_divisor, lucia_error, lucia_panic}
use Rattle.machine.specs.Machine.{Frame, lucia, host, effect_callback, Object, Result, running, returned, failed, unhandled, frames_cost, result_cost}
use Rattle.machine.specs.Calls.{is_value, are_values, are_effects}
use Rattle.machine.specs.Demand.{All}
use Rattle.machine.proofs.StepLaws.{if_cases}
use Rattle.machine.specs.Form.{FrameFits, ErrorFits, ResultFits, Top, of_lucia, of_host, of_effect, of_none, top_of, TurnFits}
use Rattle.memory.specs.Layout.{written, frame_cells, flat, Shown, bit, error_shown, result_shown}
use Rattle.memory.specs.View.{bit_of, read_error, read_result}
use Rattle.memory.specs.Tests.{is_null_cell, value_fits, effect_fits, top_kind, turn_fits, error_fits, result_fits}
use Rattle.memory.specs.Reads.{Reads}
use Rattle.memory.proofs.Lists.{length_flat}
use Rattle.memory.proofs.FrameTests.{is_null_lem}
use Rattle.memory.proofs.FrameLaws.{value_is_lem, frames_out}
use Rattle.memory.specs.StateLaws.{top_number, Shows, ResultOut}

-- ---- Bits and choices
bit_of_lem : (n : ℕ) → n ≤ 1 → bit (bit_of n) ≡ n
bit_of_lem zero h = refl
bit_of_lem (suc zero) h = refl
bit_of_lem (suc (suc n)) h = absurd (omega arith)

pub of_bit : (u : Bool) → bit_of (bit u) ≡ u
of_bit true = refl
of_bit false = refl

pub bit_true : (u : Bool) → (bit u ≡ 0 → ⊥) → u ≡ true
bit_true true h = refl
bit_true false h = absurd (h refl)

pub bit_false : (u : Bool) → bit u ≡ 0 → u ≡ false
bit_false true h = absurd (omega (arith, h))
bit_false false h = refl

bit_small : (u : Bool) → leb (bit u) 1 ≡ true
bit_small true = refl
bit_small false = refl

-- two choices by one test
if_both : {A : Type 0} (Q : A → Type 0) (t f g : Bool) (x y : A) → (t ≡ true → f ≡ true → Q x) → (t ≡ false → g ≡ true → Q y) → if? t f g ≡ true → Q (if? t x y)
if_both Q true f g x y h k e = h refl e
if_both Q false f g x y h k e = k refl e

no_wait : (n : ℕ) → eqb n 0 ≡ true → (bit_of n ≡ false) × (bit (bit_of n) ≡ n)
no_wait n e = let z : n ≡ 0 = eqb-true n 0 e in (ap bit_of z, bit_of_lem n (omega arith))

pub turn_in : (t : Top) (wait slice : ℕ) → turn_fits (top_number t) wait slice ≡ true → TurnFits t (bit_of wait) slice × (bit (bit_of wait) ≡ wait)
unfolding turn_fits
turn_in of_lucia wait slice f = let z = no_wait wait (first _ _ f) in ((z.0, leb-true slice 64 (second _ _ f)), z.1)
turn_in of_host wait slice f = (eqb-true slice 64 (second _ _ f), bit_of_lem wait (leb-true wait 1 (first _ _ f)))
turn_in of_effect wait slice f = let z = no_wait wait (first _ _ f) in ((z.0, eqb-true slice 64 (second _ _ f)), z.1)
turn_in of_none wait slice f = let z = no_wait wait (first _ _ f) in ((z.0, eqb-true slice 64 (second _ _ f)), z.1)

pub turn_out : (t : Top) (u : Bool) (slice : ℕ) → TurnFits t u slice → turn_fits (top_number t) (bit u) slice ≡ true
unfolding turn_fits both
turn_out of_lucia u slice w = rw w.0 (le-leb slice 64 w.1)
turn_out of_host u slice w = rw (bit_small u) (eq-eqb slice 64 w)
turn_out of_effect u slice w = rw w.0 (eq-eqb slice 64 w.1)
turn_out of_none u slice w = rw w.0 (eq-eqb slice 64 w.1)

-- ---- Results
-- no error has a kind of 0, 1 or 2
error_kind : (e : Error) → (eqb (error_shown e).kind 0 ≡ false) × (eqb (error_shown e).kind 1 ≡ false) × (eqb (error_shown e).kind 2 ≡ false)
unfolding error_shown
error_kind (call_arguments start u given) = (refl, refl, refl)
error_kind (un_operator o x t) = (refl, refl, refl)
error_kind (bin_operator o x t u) = (refl, refl, refl)
error_kind (meta_un_operator n t) = (refl, refl, refl)
error_kind (meta_bin_operator n t u) = (refl, refl, refl)
error_kind zero_divisor = (refl, refl, refl)
error_kind (lucia_error v) = (refl, refl, refl)
error_kind (lucia_panic v) = (refl, refl, refl)

record ShowsError (P : Program) (s : List Object) (x : Shown) (e : Error) : Type 0 where
  is : error_shown e ≡ x
  fits : ErrorFits P s e

-- the cells x pass the test, and e or r is read off them
record ErrorOut (P : Program) (S : List Cell) (b : ℕ) (e : Error) (x : Shown) : Type 0 where
  fits : error_fits P S b x.kind x.value x.second ≡ true
  read : read_error x ≡ e
  bare : x.args ≡ []

abbrev shown_as : ℕ → Cell → ℕ → List Cell → Shown
shown_as kind v u args = record { kind = kind; value = v; second = u; args = args }

shown_same : {i j : ℕ} {v w : Cell} {t u : ℕ} {l m : List Cell} → i ≡ j → v ≡ w → t ≡ u → l ≡ m → shown_as i v t l ≡ shown_as j w u m
shown_same p q r e = λ d. record { kind = p d; value = q d; second = r d; args = e d }

number_set : (v : Cell) (n : ℕ) → v.number ≡ n → cell v.tag n v.payload ≡ v
number_set v n e = λ j. record { tag = v.tag; number = sym e j; payload = v.payload }

module _ (P : Program) (s : List Object) (S : List Cell) (b : ℕ) (k : Reads s S b) where
  value_in : (v : Cell) → value_fits P S b v ≡ true → is_value P s v ≡ true
  value_in v f = sym (value_is_lem P s S b k v) ∙ f

  effect_in : (v : Cell) (args : List Cell) → effect_fits P S b v ≡ true → are_values P s args ≡ true → ResultFits P s (unhandled v args)
  unfolding effect_fits are_values are_effects both
  effect_in v args f w = (rw (value_in v (second (is_effect v) (value_fits P S b v) f)) w, rw (first (is_effect v) (value_fits P S b v) f))

  -- ---- What the test accepts is a result
  module _ (kind u : ℕ) (v : Cell) where
    abbrev Error-is : Error → Type 0
    Error-is e = ShowsError P s (shown_as kind v u []) e

    arguments_in : kind ≡ 3 → both (both (leb v.tag 32) (leb v.number 1)) (both (leb v.payload 4096) (eqb u 0)) ≡ true → Error-is (call_arguments v.tag (bit_of v.number) v.payload)
    unfolding error_shown
    arguments_in i f =
        let l = first _ _ f in
        let r = second _ _ f in
        record {
          is = shown_same (sym i) (number_set v _ (sym (bit_of_lem v.number (leb-true _ 1 (second _ _ l))))) (sym (eqb-true u 0 (second _ _ r))) refl;
          fits = (leb-true _ 32 (first _ _ l), leb-true _ 4096 (first _ _ r));
        }

    operator_in : kind ≡ 4 → both (both (ltb v.tag 52) (ltb v.payload 10)) (eqb u 0) ≡ true → Error-is (un_operator v.tag v.number v.payload)
    unfolding error_shown
    operator_in i f = record {
      is = shown_same (sym i) refl (sym (eqb-true u 0 (second _ _ f))) refl;
      fits = (ltb-true _ 52 (first _ _ (first _ _ f)), ltb-true _ 10 (second _ _ (first _ _ f)));
    }

    operators_in : kind ≡ 5 → both (both (ltb v.tag 52) (ltb v.payload 10)) (ltb u 10) ≡ true → Error-is (bin_operator v.tag v.number v.payload u)
    unfolding error_shown
    operators_in i f = record {
      is = shown_same (sym i) refl refl refl;
      fits = (ltb-true _ 52 (first _ _ (first _ _ f)), ltb-true _ 10 (second _ _ (first _ _ f)), ltb-true u 10 (second _ _ f));
    }

    -- the name and the type of a metamethod that is missing
    named_in : both (both (ltb v.tag 24) (eqb v.number 0)) (ltb v.payload 10) ≡ true → (cell v.tag 0 v.payload ≡ v) × (v.tag < 24) × (v.payload < 10)
    named_in f = (number_set v 0 (eqb-true _ 0 (second _ _ (first _ _ f))), ltb-true _ 24 (first _ _ (first _ _ f)), ltb-true _ 10 (second _ _ f))

    named_one_in : kind ≡ 6 → both (both (both (ltb v.tag 24) (eqb v.number 0)) (ltb v.payload 10)) (eqb u 0) ≡ true → Error-is (meta_un_operator v.tag v.payload)
    unfolding error_shown
    named_one_in i f = let w = named_in (first _ _ f) in record { is = shown_same (sym i) w.0 (sym (eqb-true u 0 (second _ _ f))) refl; fits = (w.1, w.2) }

    named_two_in : kind ≡ 7 → both (both (both (ltb v.tag 24) (eqb v.number 0)) (ltb v.payload 10)) (ltb u 10) ≡ true → Error-is (meta_bin_operator v.tag v.payload u)
    unfolding error_shown
    named_two_in i f = let w = named_in (first _ _ f) in record { is = shown_same (sym i) w.0 refl refl; fits = (w.1, w.2, ltb-true u 10 (second _ _ f)) }

    zero_in : kind ≡ 8 → both (is_null_cell v) (eqb u 0) ≡ true → Error-is zero_divisor
    unfolding error_shown
    zero_in i f = record { is = shown_same (sym i) (sym (is_null_lem v (first _ _ f))) (sym (eqb-true u 0 (second _ _ f))) refl; fits = tt }

    thrown_in : both (both (leb 9 kind) (leb kind 10)) (both (value_fits P S b v) (eqb u 0)) ≡ true → Error-is (if? (eqb kind 9) (lucia_error v) (lucia_panic v))
    unfolding error_shown
    thrown_in f =
        let l : 9 ≤ kind = leb-true 9 kind (first _ _ (first _ _ f)) in
        let m : kind ≤ 10 = leb-true kind 10 (second _ _ (first _ _ f)) in
        let w : is_value P s v ≡ true = value_in v (first _ _ (second _ _ f)) in
        let z : 0 ≡ u = sym (eqb-true u 0 (second _ _ (second _ _ f))) in
        if_cases Error-is (eqb kind 9) _ _
        (λ p. record { is = shown_same (sym (eqb-true kind 9 p)) refl z refl; fits = w })
        (λ p.
        let n : 9 < kind = lt_of_le-ne l (λ e. eqb-false kind 9 p (sym e)) in
        let ten : 10 ≡ kind = omega arith in
        record { is = shown_same ten refl z refl; fits = w })

    error_in : error_fits P S b kind v u ≡ true → Error-is (read_error (shown_as kind v u []))
    unfolding error_fits read_error
    error_in f =
        if_both Error-is (eqb kind 3) _ _ _ _ (λ p. arguments_in (eqb-true kind 3 p))
        (λ _. if_both Error-is (eqb kind 4) _ _ _ _ (λ p. operator_in (eqb-true kind 4 p))
        (λ _. if_both Error-is (eqb kind 5) _ _ _ _ (λ p. operators_in (eqb-true kind 5 p))
        (λ _. if_both Error-is (eqb kind 6) _ _ _ _ (λ p. named_one_in (eqb-true kind 6 p))
        (λ _. if_both Error-is (eqb kind 7) _ _ _ _ (λ p. named_two_in (eqb-true kind 7 p))
        (λ _. if_both Error-is (eqb kind 8) _ _ _ _ (λ p. zero_in (eqb-true kind 8 p)) (λ _. thrown_in)))))) f

  module _ (kind : ℕ) (v more : Cell) (args : List Cell) (l : length args ≡ more.payload) where
    abbrev shown_here : Shown
    shown_here = shown_as kind v more.tag args

    -- a result without arguments
    bare : {r : Result} → more.payload ≡ 0 → result_shown r ≡ shown_as kind v more.tag [] → ResultFits P s r → Shows P s shown_here r
    bare z e w = record { is = e ∙ shown_same refl refl refl (sym (nil_from_length args (l ∙ z))); fits = w }

    pub result_in : are_values P s args ≡ true → result_fits P S b kind v more ≡ true → (more.number ≡ 0) × Shows P s shown_here (read_result shown_here)
    unfolding result_fits read_result read_error result_shown
    result_in w f = (eqb-true _ 0 (first _ _ f), by (eqb kind 0) (eqb kind 1) (eqb kind 2) refl refl refl (second _ _ f))
      where
        by : (z o t : Bool) → eqb kind 0 ≡ z → eqb kind 1 ≡ o → eqb kind 2 ≡ t
            → if? t (both (effect_fits P S b v) (eqb more.tag 0))
            (both (eqb more.payload 0) (if? z (both (is_null_cell v) (eqb more.tag 0)) (if? o (both (value_fits P S b v) (eqb more.tag 0)) (error_fits P S b kind v more.tag)))) ≡ true
            → Shows P s shown_here (if? z running (if? o (returned v) (if? t (unhandled v args) (failed (read_error shown_here)))))
        by true o true p q r f = absurd (omega (arith, eqb-true kind 0 p, eqb-true kind 2 r))
        by true o false p q r f =
            let g = second _ _ f in
            bare (eqb-true _ 0 (first _ _ f)) (shown_same (sym (eqb-true kind 0 p)) (sym (is_null_lem v (first _ _ g))) (sym (eqb-true _ 0 (second _ _ g))) refl) tt
        by false true true p q r f = absurd (omega (arith, eqb-true kind 1 q, eqb-true kind 2 r))
        by false true false p q r f =
            let g = second _ _ f in
            bare (eqb-true _ 0 (first _ _ f)) (shown_same (sym (eqb-true kind 1 q)) refl (sym (eqb-true _ 0 (second _ _ g))) refl) (value_in v (first _ _ g))
        by false false true p q r f =
            let e = first _ _ f in
            record { is = shown_same (sym (eqb-true kind 2 r)) refl (sym (eqb-true _ 0 (second _ _ f))) refl; fits = effect_in v args e w }
        by false false false p q r f = let e = error_in kind more.tag v (second _ _ f) in bare (eqb-true _ 0 (first _ _ f)) e.is e.fits

  -- ---- What a result is shown as, the test accepts
  error_out : (e : Error) → ErrorFits P s e → ErrorOut P S b e (error_shown e)
  unfolding error_shown error_fits read_error both
  error_out (call_arguments start u given) w = record { fits = rw (le-leb start 32 w.0, bit_small u, le-leb given 4096 w.1); read = rw (of_bit u); bare = refl }
  error_out (un_operator o x t) w = record { fits = rw (lt-ltb o 52 w.0, lt-ltb t 10 w.1); read = refl; bare = refl }
  error_out (bin_operator o x t u) w = record { fits = rw (lt-ltb o 52 w.0, lt-ltb t 10 w.1) (lt-ltb u 10 w.2); read = refl; bare = refl }
  error_out (meta_un_operator n t) w = record { fits = rw (lt-ltb n 24 w.0, lt-ltb t 10 w.1); read = refl; bare = refl }
  error_out (meta_bin_operator n t u) w = record { fits = rw (lt-ltb n 24 w.0, lt-ltb t 10 w.1) (lt-ltb u 10 w.2); read = refl; bare = refl }
  error_out zero_divisor w = record { fits = refl; read = refl; bare = refl }
  error_out (lucia_error v) w = record { fits = rw (value_is_lem P s S b k v, w); read = refl; bare = refl }
  error_out (lucia_panic v) w = record { fits = rw (value_is_lem P s S b k v, w); read = refl; bare = refl }

  pub result_out : (r : Result) → ResultFits P s r → ResultOut P s S b r (result_shown r)
  unfolding result_shown result_fits read_result effect_fits are_values are_effects result_cost both
  result_out running w = record { fits = refl; read = refl; args = refl; size = refl }
  result_out (returned v) w = record { fits = rw (value_is_lem P s S b k v, w); read = refl; args = refl; size = refl }
  result_out (failed e) w =
      let o = error_out e w in
      let n = error_kind e in
      record {
        fits = rw (o.bare, n.2, n.0, n.1) o.fits;
        read = rw (n.0, n.1, n.2) (ap failed o.read);
        args = rw o.bare;
        size = rw o.bare;
      }
  result_out (unhandled e args) w = record {
    fits = rw (first (is_effect e) true w.1, value_is_lem P s S b k e, first (is_value P s e) (are_values P s args) w.0);
    read = refl;
    args = second (is_value P s e) (are_values P s args) w.0;
    size = refl;
  }

  -- ---- The frame that runs next is found by its kind
  first_kind : (f : Frame) (fs : List Frame) → (written f).kind ≡ top_number (top_of running (f ∷ fs))
  unfolding written top_of
  first_kind (lucia h p l st hs) fs = refl
  first_kind (host n w st hs) fs = refl
  first_kind (effect_callback e st hs) fs = refl

  pub top_is : (r : Result) (fs : List Frame) (rest : List Cell) → All (FrameFits P s) fs → top_kind (length fs) (result_shown r).kind (flat fs ++ rest) ≡ top_number (top_of r fs)
  unfolding top_kind top_of result_shown flat
  top_is running [] rest w = refl
  top_is (returned v) [] rest w = refl
  top_is (failed e) [] rest w = refl
  top_is (unhandled e args) [] rest w = refl
  top_is running (f ∷ fs) rest w =
      let o = frames_out P s S b k fs (frame_cells f ++ rest) w.1 in
      rw (append_assoc (flat fs) (frame_cells f) rest, o.size, get_or_at (flat fs) _ _ null (frames_cost fs) (length_flat fs)) (first_kind f fs)
  top_is (returned v) (f ∷ fs) rest w = refl
  top_is (failed e) (f ∷ fs) rest w = rw (error_kind e).0
  top_is (unhandled e args) (f ∷ fs) rest w = refl
