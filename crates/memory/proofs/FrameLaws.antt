-- Frames: the test on cells accepts what a frame in form is written as, and nothing else; so it does frames one after the other.
use Rattle.std.specs.Prelude.{◌≡◌, Bool, get_or}
use Rattle.std.proofs.Math.Path.{refl, sym, ap, subst}
use Rattle.std.proofs.Common.{◌∙◌, drop-drop}
use mathlib.Core.List.{List, [], ◌∷◌, ◌++◌, reverse, map, append_assoc, append-nil}
use Rattle.std.proofs.Math.Bool.{true, false}
use Prim.Native.Nat.{ℕ, zero, suc, ◌+◌, ◌<◌, ◌≤◌}
use native.Mathlib.Omega.{arith}
use Rattle.std.proofs.Math.ListN.{length, drop, length-append, length-map}
use Rattle.std.proofs.lemmas.List.{nil_from_length}
use Rattle.std.proofs.Math.Seq.{drop_at}
use Rattle.std.proofs.Math.Dec.{eqb}
use borrow.Author.Tests.{eqb-true, ltb-true, lt-ltb, eq-eqb, ne_eqb}
use Rattle.cells.specs.Cells.{null}
use Rattle.cells.specs.declared.Cell.{Cell}
use Rattle.image.specs.Records.{if?, both}
use Rattle.image.specs.Program.{all}
use Rattle.std.proofs.lemmas.Bool.{false≢true}
use Rattle.image.proofs.Parts.{first, second, both_in}
use Rattle.machine.specs.Values.{Program, code_of, closure_at}
use Rattle.machine.specs.Machine.{Handler, Frame, lucia, host, effect_callback, Object, closure, frame_cost, frames_cost, Lookup, here, absent, list, continuation, object_at, effects, handlers_of}
use Rattle.machine.specs.Calls.{is_closure_at, is_value, are_values, are_effects}
use Rattle.machine.specs.Demand.{All}
use Rattle.machine.proofs.Formed.{all_append}
use Rattle.machine.specs.Form.{FrameFits, values_of, effects_of}
use Rattle.machine.proofs.StepLaws.{if_cases}
use Rattle.machine.proofs.Refusals.{effects_length}
use Rattle.memory.specs.Layout.{Written, untargeted, written, head_cells, handler_cells, written_cells, frame_cells, flat}
use Rattle.memory.specs.View.{frame_size, frames_size, written_at, read_frame, frame_at, frames_at}
use Rattle.memory.specs.Tests.{callback_fits, target_fits, value_fits, effect_fits, lucia_fits, kind_fits, limit_of, frame_fits, frames_fit}
use Rattle.memory.specs.Reads.{Reads}
use Rattle.memory.specs.Lists.{written_cost}
use Rattle.memory.proofs.Lists.{tests_append, tests_reverse, cost_written, length_frame, flat_append, cost_append, effects_untargeted, read_written, written_read, frames_onto}
use Rattle.memory.specs.FrameTests.{target_below}
use Rattle.memory.proofs.FrameTests.{handler_fits, WrittenFits, test_in, test_out, cells_read, size_read}
use Rattle.memory.specs.FrameLaws.{FramesRead, FramesWritten, inner}

-- ---- Values
module _ (P : Program) (s : List Object) where
  values_all : (vs : List Cell) → all (is_value P s) vs ≡ are_values P s vs
  unfolding all are_values
  values_all [] = refl
  values_all (v ∷ vs) = ap (both (is_value P s v)) (values_all vs)

  pub values_append : (xs ys : List Cell) → are_values P s (xs ++ ys) ≡ both (are_values P s xs) (are_values P s ys)
  values_append xs ys = rw (← values_all (xs ++ ys), ← values_all xs, ← values_all ys) (tests_append (is_value P s) xs ys)

  pub values_reverse : (vs : List Cell) → are_values P s (reverse vs) ≡ are_values P s vs
  values_reverse vs = sym (values_all (reverse vs)) ∙ tests_reverse (is_value P s) vs ∙ values_all vs

closure_there_lem : (l : Lookup) → is_closure_at l ≡ true → (c : ℕ) × (us : List Cell) × (l ≡ here (closure c us))
unfolding is_closure_at
closure_there_lem (here (closure c us)) t = (c, us, refl)
closure_there_lem (here (list vs)) t = absurd (false≢true t)
closure_there_lem (here (continuation K)) t = absurd (false≢true t)
closure_there_lem absent t = absurd (false≢true t)

-- the frames fs in front of m more are read and tested like those m
record Before (P : Program) (S : List Cell) (b : ℕ) (fs : List Frame) (m : ℕ) (rest : List Cell) : Type 0 where
  passes : frames_fit P S b (length fs + m) (flat fs ++ rest) ≡ frames_fit P S b m rest
  read : (below : List Frame) → frames_at (length fs + m) below (flat fs ++ rest) ≡ frames_at m (fs ++ below) rest
  size : frames_size (length fs + m) (flat fs ++ rest) ≡ frames_cost fs + frames_size m rest

module _ (P : Program) (s : List Object) (S : List Cell) (b : ℕ) (k : Reads s S b) where
  pub value_is_lem : (v : Cell) → value_fits P S b v ≡ is_value P s v
  unfolding value_fits is_value
  value_is_lem v = rw (k.lists v.number, k.closures v.number, k.continuations v.number)

  pub values_are : (vs : List Cell) → all (value_fits P S b) vs ≡ are_values P s vs
  unfolding all are_values
  values_are [] = refl
  values_are (v ∷ vs) = rw (value_is_lem v, values_are vs)

  -- ---- Handlers
  named_in : (limit : ℕ) (hs : List Handler) → all (handler_fits P S b limit) hs ≡ true → (are_values P s (effects hs) ≡ true) × (are_effects (effects hs) ≡ true)
  unfolding all effects are_values are_effects effect_fits
  named_in limit [] t = (refl, refl)
  named_in limit (h ∷ hs) t =
      let e = first _ _ (first _ _ t) in
      let r = named_in limit hs (second _ _ t) in
      (both_in (sym (value_is_lem h.effect) ∙ second _ _ e) r.0, both_in (first _ _ e) r.1)

  named_out : (limit : ℕ) (hs : List Handler) → are_values P s (effects hs) ≡ true → are_effects (effects hs) ≡ true
      → All (λ (h : Handler). target_below limit h ≡ true) hs → all (handler_fits P S b limit) hs ≡ true
  unfolding all effects are_values are_effects effect_fits
  named_out limit [] v e t = refl
  named_out limit (h ∷ hs) v e t = both_in (both_in (both_in (first _ _ e) (value_is_lem h.effect ∙ first _ _ v)) t.0) (named_out limit hs (second _ _ v) (second _ _ e) t.1)

  targets_in : (limit : ℕ) (hs : List Handler) → 0 < limit → all (handler_fits P S b limit) hs ≡ true → All (λ (h : Handler). h.target < limit) hs
  unfolding all target_fits
  targets_in limit [] z t = tt
  targets_in limit (h ∷ hs) z t =
      let q : eqb limit 0 ≡ false = ne_eqb limit 0 (λ e. omega arith) in
      let r = second _ _ (second _ _ (first _ _ t)) in
      (ltb-true h.target limit (rw q at r), targets_in limit hs z (second _ _ t))

  targets_out : (limit : ℕ) (hs : List Handler) → 0 < limit → All (λ (h : Handler). h.target < limit) hs → All (λ (h : Handler). target_below limit h ≡ true) hs
  unfolding target_fits both
  targets_out limit [] z t = tt
  targets_out limit (h ∷ hs) z t =
      let q : eqb limit 0 ≡ false = ne_eqb limit 0 (λ e. omega arith) in
      (rw q (lt-ltb h.target limit t.0), targets_out limit hs z t.1)

  untargeted_in : (hs : List Handler) → all (handler_fits P S b 0) hs ≡ true → map untargeted (effects hs) ≡ hs
  unfolding all effects target_fits
  untargeted_in [] t = refl
  untargeted_in (h ∷ hs) t =
      let r = second _ _ (second _ _ (first _ _ t)) in
      let n = eqb-true h.target 0 (first _ _ r) in
      let p = eqb-true h.stack_size 0 (second _ _ r) in
      λ j. record { effect = h.effect; target = sym n j; stack_size = sym p j } ∷ untargeted_in hs (second _ _ t) j

  untargeted_out : (es : List Cell) → All (λ (h : Handler). target_below 0 h ≡ true) (map untargeted es)
  unfolding target_fits both
  untargeted_out [] = tt
  untargeted_out (e ∷ es) = (refl, untargeted_out es)

  -- ---- A frame
  module _ (w : Written) (o : WrittenFits P S b w) where
    -- the frame f is in form and written as w
    abbrev Means : Frame → Type 0
    Means f = FrameFits P s f × (written f ≡ w)

    few_effects : length (effects w.handlers) ≤ 16
    few_effects = omega (arith, o.few, effects_length w.handlers)

    lucia_in : eqb w.kind 64 ≡ true → lucia_fits P S b (head_cells w) ≡ true → Means (lucia w.subject.number w.place w.locals w.stack w.handlers)
    unfolding lucia_fits limit_of written handlers_of values_of effects_of
    lucia_in q t =
        let h = w.subject.number in
        let code = (get_or S h null).number in
        let kind = eqb-true w.kind 64 q in
        let t₁ = second _ _ t in
        let t₂ = second _ _ t₁ in
        let there = closure_there_lem (object_at s h) (sym (k.closures h) ∙ first _ _ t₁) in
        let place = ltb-true w.place _ (first _ _ (second _ _ t₂)) in
        let hs : all (handler_fits P S b (length (code_of P code).opcodes)) w.handlers ≡ true = rw q at o.targets in
        let named = named_in _ w.handlers hs in
        let e : closure_at h ≡ w.subject = λ j. record { tag = sym (eqb-true w.subject.tag 7 (first _ _ (first _ _ t))) j; number = h; payload = sym (eqb-true w.subject.payload 0 (second _ _ (first _ _ t))) j } in (
          record {
            formed = record {
              stands = record {
                code = code;
                upvalues = there.1;
                closure_there = there.2 ∙ ap (λ (c : ℕ). here (closure c there.1)) (sym (k.codes h _ _ there.2));
                known = ltb-true code _ (first _ _ t₂);
                place = place;
                locals = eqb-true _ _ (second _ _ (second _ _ t₂));
                targets = targets_in _ w.handlers (omega arith) hs;
              };
              handlers = few_effects;
            };
            values = values_append P s w.locals w.stack ∙ both_in (sym (values_are w.locals) ∙ o.values) (sym (values_are w.stack) ∙ o.above);
            named = named.0;
            effects = named.1;
          },
          λ j. record { kind = sym kind j; subject = e j; place = w.place; locals = w.locals; handlers = w.handlers; stack = w.stack },
        )

    -- what the two kinds of callback frames share: no place, no locals, handlers with no target
    module _ (subject : Bool) (q : eqb w.kind 64 ≡ false) (t : callback_fits subject (head_cells w) ≡ true) where
      no_place : 0 ≡ w.place
      unfolding callback_fits
      no_place = sym (eqb-true w.place 0 (first _ _ (second _ _ t)))

      no_locals : [] ≡ w.locals
      unfolding callback_fits
      no_locals = sym (nil_from_length w.locals (eqb-true (length w.locals) 0 (second _ _ (second _ _ t))))

      no_targets : all (handler_fits P S b 0) w.handlers ≡ true
      unfolding limit_of
      no_targets = rw q at o.targets

    host_in : eqb w.kind 64 ≡ false → eqb w.kind 65 ≡ true → callback_fits (eqb w.subject.tag 39) (head_cells w) ≡ true
        → Means (host w.subject.number w.subject.payload w.stack (effects w.handlers))
    unfolding callback_fits written handlers_of values_of effects_of
    host_in q r t =
        let hs = no_targets _ q t in
        let named = named_in 0 w.handlers hs in
        let kind = eqb-true w.kind 65 r in
        let tag = eqb-true w.subject.tag 39 (first _ _ t) in (
          record { formed = record { stands = tt; handlers = few_effects }; values = sym (values_are w.stack) ∙ o.above; named = named.0; effects = named.1 },
          λ j. record {
            kind = sym kind j;
            subject = record { tag = sym tag j; number = w.subject.number; payload = w.subject.payload };
            place = no_place _ q t j;
            locals = no_locals _ q t j;
            handlers = untargeted_in w.handlers hs j;
            stack = w.stack;
          },
        )

    effect_in : eqb w.kind 64 ≡ false → eqb w.kind 66 ≡ true → callback_fits (effect_fits P S b w.subject) (head_cells w) ≡ true → Means (effect_callback w.subject w.stack (effects w.handlers))
    unfolding callback_fits effect_fits written handlers_of values_of effects_of are_values are_effects
    effect_in q r t =
        let hs = no_targets _ q t in
        let named = named_in 0 w.handlers hs in
        let kind = eqb-true w.kind 66 r in
        let e = first _ _ t in (
          record {
            formed = record { stands = tt; handlers = few_effects };
            values = sym (values_are w.stack) ∙ o.above;
            named = both_in (sym (value_is_lem w.subject) ∙ second _ _ e) named.0;
            effects = both_in (first _ _ e) named.1;
          },
          λ j. record { kind = sym kind j; subject = w.subject; place = no_place _ q t j; locals = no_locals _ q t j; handlers = untargeted_in w.handlers hs j; stack = w.stack },
        )

    -- what a frame that passes is read as is in form, and written as it
    fits_in : Means (read_frame w)
    unfolding read_frame kind_fits
    fits_in = by (eqb w.kind 64) (eqb w.kind 65) refl refl o.kinds
      where
        by : (a c : Bool) → eqb w.kind 64 ≡ a → eqb w.kind 65 ≡ c
            → if? a (lucia_fits P S b (head_cells w)) (if? c (callback_fits (eqb w.subject.tag 39) (head_cells w)) (both (eqb w.kind 66) (callback_fits (effect_fits P S b w.subject) (head_cells w)))) ≡ true
            → Means (if? a (lucia w.subject.number w.place w.locals w.stack w.handlers)
            (if? c (host w.subject.number w.subject.payload w.stack (effects w.handlers)) (effect_callback w.subject w.stack (effects w.handlers))))
        by true c q r t = lucia_in q t
        by false true q r t = host_in q r t
        by false false q r t = effect_in q (first _ _ t) (second _ _ t)

  -- a frame in form passes as it is written
  callback_out : (es : List Cell) → are_values P s es ≡ true → are_effects es ≡ true → all (handler_fits P S b 0) (map untargeted es) ≡ true
  callback_out es v e = named_out 0 (map untargeted es) (rw effects_untargeted v) (rw effects_untargeted e) (untargeted_out es)

  lucia_out : (h p : ℕ) (l st : List Cell) (hs : List Handler) → FrameFits P s (lucia h p l st hs) → WrittenFits P S b (written (lucia h p l st hs))
  unfolding written kind_fits lucia_fits limit_of handlers_of values_of effects_of is_closure_at
  lucia_out h p l st hs o =
      let i = o.formed.stands in
      let c : (get_or S h null).number ≡ i.code = k.codes h _ _ i.closure_there in
      let v = sym (values_append P s l st) ∙ o.values in
      record {
        kinds = both_in (both_in refl refl) (both_in (k.closures h ∙ ap is_closure_at i.closure_there) (rw c (both_in (lt-ltb _ _ i.known) (both_in (lt-ltb _ _ i.place) (eq-eqb _ _ i.locals)))));
        few = omega (arith, o.formed.handlers, effects_length hs);
        values = values_are l ∙ first _ _ v;
        targets = rw c (named_out _ hs o.named o.effects (targets_out _ hs (omega (arith, i.place)) i.targets));
        above = values_are st ∙ second _ _ v;
      }

  fits_out : (f : Frame) → FrameFits P s f → WrittenFits P S b (written f)
  unfolding written kind_fits callback_fits effect_fits limit_of handlers_of values_of effects_of are_values are_effects all
  fits_out (lucia h p l st hs) o = lucia_out h p l st hs o
  fits_out (host n u st es) o = record {
    kinds = both_in refl (both_in refl refl);
    few = omega (arith, o.formed.handlers, length-map es untargeted);
    values = refl;
    targets = callback_out es o.named o.effects;
    above = values_are st ∙ o.values;
  }
  fits_out (effect_callback e st es) o = record {
    kinds = both_in refl (both_in (both_in (first _ _ o.effects) (value_is_lem e ∙ first _ _ o.named)) (both_in refl refl));
    few = omega (arith, o.formed.handlers, length-map es untargeted);
    values = refl;
    targets = callback_out es (second _ _ o.named) (second _ _ o.effects);
    above = values_are st ∙ o.values;
  }

  pub frame_in : (x : List Cell) → frame_fits P S b x ≡ true → (x ≡ frame_cells (frame_at x) ++ drop (frame_size x) x) × (frame_size x ≡ frame_cost (frame_at x)) × FrameFits P s (frame_at x)
  frame_in x t =
      let w = written_at x in
      let c = cells_read P S b x t in
      let m = fits_in w (test_in P S b w (drop (frame_size x) x) (subst (λ (l : List Cell). frame_fits P S b l ≡ true) c t)) in
      (c ∙ ap (λ (v : Written). written_cells v ++ drop (frame_size x) x) (sym m.1), size_read P S b x t ∙ ap (λ (v : Written). written_cost v) (sym m.1) ∙ cost_written (frame_at x), m.0)

  pub frame_out : (f : Frame) (rest : List Cell) → FrameFits P s f
      → (frame_fits P S b (frame_cells f ++ rest) ≡ true) × (frame_at (frame_cells f ++ rest) ≡ f) × (frame_size (frame_cells f ++ rest) ≡ frame_cost f)
  frame_out f rest o = (test_out P S b (written f) rest (fits_out f o), ap read_frame (written_read (written f) rest) ∙ read_written f, cost_written f)

  -- ---- Frames one after the other
  pub frames_in : (n : ℕ) (x : List Cell) → frames_fit P S b n x ≡ true → FramesRead P s x n (frames_size n x) (frames_at n [] x)
  unfolding frames_fit frames_at frames_size flat frames_cost
  frames_in zero x t = record { many = refl; cells = refl; size = refl; fits = tt }
  frames_in (suc n) x t =
      let f = frame_at x in
      let y = drop (frame_size x) x in
      let z = frames_size n y in
      let fs = frames_at n [] y in
      let g = frame_in x (first _ _ t) in
      let r = frames_in n y (second _ _ t) in
      let e : flat (fs ++ (f ∷ [])) ≡ frame_cells f ++ flat fs = flat_append fs (f ∷ []) in
      let c : y ≡ flat fs ++ drop (frame_size x + z) x = r.cells ∙ ap (λ (l : List Cell). flat fs ++ l) (drop-drop z (frame_size x) x) in
      subst (FramesRead P s x (suc n) (frame_size x + z)) (sym (frames_onto n (f ∷ []) y)) (record {
        many = length-append fs (f ∷ []) ∙ omega (arith, r.many);
        cells = g.0 ∙ ap (λ (l : List Cell). frame_cells f ++ l) c ∙ sym (append_assoc (frame_cells f) (flat fs) _) ∙ ap (λ (l : List Cell). l ++ drop (frame_size x + z) x) (sym e);
        size = omega (arith, g.1, r.size, cost_append fs (f ∷ []));
        fits = all_append (FrameFits P s) fs (f ∷ []) r.fits (g.2, tt);
      })

  -- the frame f, then m more
  frame_front : (f : Frame) (m : ℕ) (rest : List Cell) → FrameFits P s f
      → (frames_fit P S b (suc m) (frame_cells f ++ rest) ≡ frames_fit P S b m rest)
      × ((below : List Frame) → frames_at (suc m) below (frame_cells f ++ rest) ≡ frames_at m (f ∷ below) rest)
      × (frames_size (suc m) (frame_cells f ++ rest) ≡ frame_cost f + frames_size m rest)
  unfolding frames_fit frames_at frames_size both
  frame_front f m rest o =
      let g = frame_out f rest o in
      let d : drop (frame_size (frame_cells f ++ rest)) (frame_cells f ++ rest) ≡ rest = drop_at (frame_cells f) rest _ (length_frame f ∙ sym g.2) in
      ((λ j. both (g.0 j) (frames_fit P S b m (d j))), λ below. (λ j. frames_at m (g.1 j ∷ below) (d j)), λ j. g.2 j + frames_size m (d j))

  before_all : (fs : List Frame) (m : ℕ) (rest : List Cell) → All (FrameFits P s) fs → Before P S b fs m rest
  unfolding flat frames_cost
  before_all [] m rest o = let z : 0 + m ≡ m = omega arith in record { passes = rw z; read = λ below. rw z; size = rw z (omega arith) }
  before_all (f ∷ fs) m rest o =
      let r = before_all fs (suc m) (frame_cells f ++ rest) o.1 in
      let g = frame_front f m rest o.0 in
      let n : suc (length fs) + m ≡ length fs + suc m = omega arith in
      let a = append_assoc (flat fs) (frame_cells f) rest in
      record {
        passes = rw (n, a) (r.passes ∙ g.0);
        read = λ below. rw (n, a) (r.read below ∙ g.1 (fs ++ below));
        size = rw (n, a) (r.size ∙ omega (arith, g.2));
      }

  pub frames_out : (fs : List Frame) (rest : List Cell) → All (FrameFits P s) fs → FramesWritten P S b fs rest
  unfolding frames_fit frames_at frames_size
  frames_out fs rest o =
      let r = before_all fs 0 rest o in
      let n : length fs + 0 ≡ length fs = omega arith in
      record { passes = rw n at r.passes; read = (rw n at (r.read [])) ∙ append-nil fs; size = (rw n at r.size) ∙ omega arith }

-- one case of a test of tags: a tag of n, or another that passes
tag_case : (v : Cell) (n : ℕ) (p q : Bool) → n < 128 → (q ≡ true → v.tag < 128) → if? (eqb v.tag n) p q ≡ true → v.tag < 128
tag_case v n p q l h = if_cases (λ r. r ≡ true → v.tag < 128) (eqb v.tag n) p q (λ e t. omega (arith, eqb-true v.tag n e)) (λ e. h)

module _ (P : Program) (s : List Object) where
  pub value_inner : (v : Cell) → is_value P s v ≡ true → inner v ≡ true
  unfolding is_value
  value_inner v t =
      lt-ltb v.tag 128
      (tag_case v 0 _ _ (omega arith) (tag_case v 1 _ _ (omega arith) (tag_case v 2 _ _ (omega arith) (tag_case v 3 _ _ (omega arith) (tag_case v 4 _ _ (omega arith) (tag_case v 5 _ _ (omega arith)
      (tag_case v 6 _ _ (omega arith) (tag_case v 7 _ _ (omega arith) (tag_case v 8 _ _ (omega arith) (tag_case v 20 _ _ (omega arith) (tag_case v 23 _ _ (omega arith) (tag_case v 24 _ _ (omega arith)
      (λ e. omega (arith, eqb-true v.tag 39 e))))))))))))) t)

  pub values_inner : (vs : List Cell) → are_values P s vs ≡ true → all inner vs ≡ true
  unfolding are_values all
  values_inner [] t = refl
  values_inner (v ∷ vs) t = both_in (value_inner v (first _ _ t)) (values_inner vs (second _ _ t))

  handlers_inner : (hs : List Handler) → are_values P s (effects hs) ≡ true → all inner (handler_cells hs) ≡ true
  unfolding are_values all effects handler_cells
  handlers_inner [] t = refl
  handlers_inner (h ∷ hs) t = both_in (value_inner h.effect (first _ _ t)) (both_in refl (handlers_inner hs (second _ _ t)))

  written_inner : (w : Written) → w.kind < 128 → inner w.subject ≡ true → are_values P s (w.locals ++ w.stack) ≡ true → are_values P s (effects w.handlers) ≡ true → all inner (written_cells w) ≡ true
  unfolding all
  written_inner w l i v h =
      let u = sym (values_append P s w.locals w.stack) ∙ v in
      let e = tests_append inner (handler_cells w.handlers) (reverse w.stack) ∙ both_in (handlers_inner w.handlers h) (tests_reverse inner w.stack ∙ values_inner w.stack (second _ _ u)) in
      let d = tests_append inner w.locals (handler_cells w.handlers ++ reverse w.stack) ∙ both_in (values_inner w.locals (first _ _ u)) e in
      both_in (lt-ltb w.kind 128 l) (both_in i (both_in refl (both_in refl (both_in refl (both_in refl d)))))

  frame_inner : (f : Frame) → FrameFits P s f → all inner (frame_cells f) ≡ true
  unfolding written values_of effects_of are_values
  frame_inner (lucia h p l st hs) o = written_inner (written (lucia h p l st hs)) (omega arith) refl o.values o.named
  frame_inner (host n u st es) o = written_inner (written (host n u st es)) (omega arith) refl o.values (rw effects_untargeted o.named)
  frame_inner (effect_callback e st es) o =
      written_inner (written (effect_callback e st es)) (omega arith) (value_inner e (first _ _ o.named)) o.values (rw effects_untargeted (second _ _ o.named))

  pub flat_inner : (fs : List Frame) → All (FrameFits P s) fs → all inner (flat fs) ≡ true
  unfolding flat all
  flat_inner [] o = refl
  flat_inner (f ∷ fs) o = tests_append inner (flat fs) (frame_cells f) ∙ both_in (flat_inner fs o.1) (frame_inner f o.0)
