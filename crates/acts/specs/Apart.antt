-- A plan that gives the top frame a value is no call's and no throw's over a Lucia frame: what these leave differs from it.
use Rattle.std.proofs.Math.Path.{◌≡◌, refl, ap, subst}
use Rattle.std.proofs.Common.{◌∙◌, arith, length-append}
use mathlib.Core.List.{List, [], ◌∷◌, ◌++◌}
use Rattle.std.specs.Prelude.{Bool, true, false, ℕ, drop}
use Rattle.std.proofs.Math.ListN.{length}
use Rattle.cells.specs.declared.Cell.{Cell}
use Rattle.machine.specs.Values.{Program, code_of, Params, code_params, effect_params, Error, thrown, shown}
use Rattle.machine.specs.Machine.{Handler, Frame, lucia, Object, list, running, failed, M, with_frames, check_args, parse, Found, found, nowhere, search, capture, perform_by, throw_error, Function, is_closure, is_callback, is_effect_callback, is_continuation, is_none, put_back, resume, call_closure, call_function, receive}
use Rattle.machine.proofs.StepLaws.{if_cases}
use Rattle.plan.specs.Plans.{Received, Carries}
use Rattle.plan.specs.declared.Plan.{Plan}
use Rattle.plan.specs.declared.Plan.TheVariants.{Starts, Resumes, Handles, Catches, Unhandled, Fails, Receives, Returns, Stays}
use Rattle.counts.specs.Counted.{Ready}

-- with as many frames and objects and no result, the frames are as they were
pub record Apart (m m' : M) : Type 0 where
  pub same : length m'.frames ≡ length m.frames → length m'.store ≡ length m.store → m'.result ≡ running → m'.frames ≡ m.frames

parse_grows : (v : Bool) (n : ℕ) (args : List Cell) (s : List Object) (o : Object) → length (parse v n args (s ++ (o ∷ []))).store ≡ length s → ⊥
unfolding parse
parse_grows true n args s o e = omega (arith, e, length-append (s ++ (o ∷ [])) (list (drop n args) ∷ []), length-append s (o ∷ []))
parse_grows false n args s o e = omega (arith, e, length-append s (o ∷ []))

no_run : (x : Error) → failed x ≡ running → ⊥
no_run x e = let z : ◌≡◌ {A = ℕ} 0 1 = cc in omega arith

capture_apart : (P : Program) (p : Params) (e : Cell) (args : List Cell) (x : Error) (m : M) (f : Found) → Apart m (capture P p e args (failed x) m f)
unfolding capture
capture_apart P p e args x m nowhere = record { same = λ a b r. absurd (no_run x r) }
capture_apart P p e args x m (found above h below) = record { same = λ a b r. absurd (parse_grows p.variadic p.count args m.store _ b) }

pub throw_apart : (P : Program) (x : Error) (m : M) → Apart m (throw_error 1 P x m)
unfolding throw_error perform_by
throw_apart P x m =
    if_cases (Apart m) (check_args (effect_params P (thrown x)) (shown x ∷ [])) _ _
    (λ _. capture_apart P (effect_params P (thrown x)) (thrown x) (shown x ∷ []) x m (search P (thrown x) m.frames)) (λ _. record { same = λ a b r. refl })

resume_apart : (P : Program) (K : List Frame) (args : List Cell) (m : M) → Apart m (resume P K args m)
unfolding resume put_back
resume_apart P K [] m = throw_apart P _ m
resume_apart P [] (v ∷ []) m = record { same = λ a b r. refl }
resume_apart P (f ∷ K) (v ∷ []) m = record { same = λ a b r. absurd (omega (arith, a, length-append K m.frames)) }
resume_apart P K (v ∷ w ∷ vs) m = throw_apart P _ m

pub call_apart : (P : Program) (k : Function) (f : Cell) (args : List Cell) (m : M) → Apart m (call_function P k f args m)
unfolding call_function call_closure
call_apart P (is_closure h c) f args m =
    if_cases (Apart m) (check_args (code_params (code_of P c)) args) _ _ (λ _. record { same = λ a b r. absurd (omega (arith, a)) }) (λ _. throw_apart P _ m)
call_apart P (is_callback n w) f args m = record { same = λ a b r. absurd (omega (arith, a)) }
call_apart P (is_effect_callback e) f args m = record { same = λ a b r. absurd (omega (arith, a)) }
call_apart P (is_continuation k K) f args m = resume_apart P K args m
call_apart P is_none f args m = throw_apart P _ m

module _ (m : M) {m' : M} (h p : ℕ) (l st : List Cell) (hs : List Handler) (below : List Frame) (run : m.result ≡ running) (x : Apart (with_frames (lucia h p l st hs ∷ below) m) m') where
  no_receive : {v : Cell} → Received v (with_frames (lucia h p l st hs ∷ below) m) m' → ⊥
  unfolding receive
  no_receive {v} r =
      let t : r.top ≡ lucia h p l st hs = cc in
      let b : r.below ≡ below = cc in
      let q : m' ≡ with_frames (receive v (lucia h p l st hs) ∷ below) m = r.after ∙ (λ j. with_frames (receive v (t j) ∷ b j) m) in
      let y : Apart (with_frames (lucia h p l st hs ∷ below) m) (with_frames (receive v (lucia h p l st hs) ∷ below) m) = subst (Apart (with_frames (lucia h p l st hs ∷ below) m)) q x in
      let e : ◌≡◌ {A = List Frame} (lucia h p l (v ∷ st) [] ∷ below) (lucia h p l st hs ∷ below) = y.same refl refl run in
      let s : v ∷ st ≡ st = cc in
      omega (arith, ap length s)

  -- so what is judged needs no written top frame
  pub ready_over : (P : Program) (args L : List Cell) (plan : Plan) → Carries P plan args (with_frames (lucia h p l st hs ∷ below) m) m' → Ready plan (with_frames (lucia h p l st hs ∷ below) m) L
  ready_over P args L (Starts f q) c = tt
  ready_over P args L (Resumes k v) c = tt
  ready_over P args L (Handles i j e q) c = tt
  ready_over P args L (Catches i j y) c = tt
  ready_over P args L (Unhandled e) c = tt
  ready_over P args L (Fails y) c = tt
  ready_over P args L (Receives v) c = absurd (no_receive c)
  ready_over P args L (Returns v) c = tt
  ready_over P args L Stays c = tt
