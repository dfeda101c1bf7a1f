-- Which numbers refuse each request of the host, and a load.
use Rattle.std.specs.Prelude.{◌≡◌, ◌⊎◌, Bool, length, ltb, eqb}
use Rattle.std.proofs.Math.Path.{refl}
use Rattle.std.proofs.Common.{ap, ◌∙◌, inl, inr, arith, length-append}
use mathlib.Core.List.{List, [], ◌∷◌}
use Rattle.std.proofs.Math.Bool.{true, false}
use Prim.Native.Nat.{ℕ, ◌≤◌}
use Rattle.cells.specs.declared.Cell.{Cell}
use Rattle.fuel.specs.declared.Fuel.{Fuel}
use Rattle.image.specs.Records.{if?, Answer, refused, accepted}
use Rattle.image.specs.Program.{Code}
use Rattle.image.specs.Image.{parse}
use Rattle.image.proofs.Accepted.{refused_small}
use Rattle.machine.specs.Values.{Program, code_of, type_of, code_params, is_effect, call_arguments, meta_un_operator}
use Rattle.machine.specs.Machine.{Frame, lucia, host, effect_callback, Object, closure, list, continuation, M, with_frames, frames_cost, used, result_cost, Lookup, here, absent, object_at, check_args, wrong_count, Function, is_closure, is_callback, is_effect_callback, is_continuation, is_none, closure_function, continuation_function, function_of, put_back, resume, call_closure, call_function}
use Rattle.machine.specs.Opcodes.{refuses, Action, calls, clears, doing, Taken}
use Rattle.machine.specs.Calls.{Sizes, top_handlers, handlers_left, judge, outcome, World, CallbackReturn, call_with, perform, tail_call, tail_perform, return_it, error_with, panic_with, Request, start, answer, clear, text, bytes, set_global, get_global, set_builtin, get_builtin, fit, answer_action, answered, idle, request_action, loaded_machine, load_of, program_of, load}
use Rattle.machine.specs.StepLaws.{Fits}
use Rattle.machine.proofs.StepLaws.{if_cases}
use Rattle.machine.specs.Refusals.{among, Only}
use Rattle.machine.proofs.Refusals.{judge_only, throw_within}
use Rattle.machine.specs.RequestRefusals.{Continuations256}

pub put_back_length : (v : Cell) (K : List Frame) → length (put_back v K) ≡ length K
unfolding put_back
put_back_length v [] = refl
put_back_length v (f ∷ K) = refl

-- What is called, if it is a continuation, has at most 256 frames.
abbrev Few : Function → Type 0
Few (is_closure h c) = Unit {0}
Few (is_callback n w) = Unit {0}
Few (is_effect_callback e) = Unit {0}
Few (is_continuation k K) = length K ≤ 256
Few is_none = Unit {0}

few_function : (s : List Object) (f : Cell) → Continuations256 s → Few (function_of s f)
unfolding function_of closure_function continuation_function
few_function s f h =
    if_cases Few (is_effect f) _ _ (λ _. tt) (λ _.
    if_cases Few (eqb f.tag 39) _ _ (λ _. tt) (λ _.
    if_cases Few (eqb f.tag 7) _ _ (λ _. closes (object_at s f.number)) (λ _.
    if_cases Few (eqb f.tag 23) _ _ (λ _. continues (object_at s f.number) refl) (λ _. tt))))
  where
    closes : (o : Lookup) → Few (closure_function f.number o)
    closes (here (closure c us)) = tt
    closes (here (list vs)) = tt
    closes (here (continuation K)) = tt
    closes absent = tt

    continues : (o : Lookup) → object_at s f.number ≡ o → Few (continuation_function f.number o)
    continues (here (closure c us)) q = tt
    continues (here (list vs)) q = tt
    continues (here (continuation K)) q = h f.number K q
    continues absent q = tt

-- A call over no frames leaves at most 256.
first_frames : (P : Program) (x : Function) (f : Cell) (args : List Cell) (m : M) → Few x → length m.frames ≡ 0 → length (call_function P x f args m).frames ≤ 256
unfolding call_function call_closure resume
first_frames P (is_closure h c) f args m k q =
    if_cases (λ (m : M). length m.frames ≤ 256) (check_args (code_params (code_of P c)) args) _ _ (λ _. omega (arith, q)) (λ _. omega (arith, q, (throw_within 1 0 P (wrong_count (code_params (code_of P c)) args) m).frames))
first_frames P (is_callback n w) f args m k q = omega (arith, q)
first_frames P (is_effect_callback e) f args m k q = omega (arith, q)
first_frames P (is_continuation h K) f [] m k q = omega (arith, q, (throw_within 1 0 P (call_arguments 1 false 0) m).frames)
first_frames P (is_continuation h K) f (v ∷ []) m k q = omega (arith, q, k, length-append (put_back v K) m.frames, put_back_length v K)
first_frames P (is_continuation h K) f (v ∷ u ∷ vs) m k q = omega (arith, q, (throw_within 1 0 P (call_arguments 1 false (length (v ∷ u ∷ vs))) m).frames)
first_frames P is_none f args m k q = omega (arith, q, (throw_within 1 0 P (meta_un_operator 0 (type_of f)) m).frames)

-- What fits, and sets at most 16 handlers, is not refused.
fits_only : (ns : List ℕ) (z : Sizes) (d : Action) (m : M) → handlers_left d ≤ 16 → Fits z m → Only ns (judge z d m)
fits_only ns z d m h t =
    judge_only ns z d m (λ q. absurd (omega (arith, q, h))) (λ q. absurd (omega (arith, q, t.frames))) (λ q. absurd (omega (arith, q, t.live))) (λ q. absurd (omega (arith, q, t.store)))

module _ (P : Program) (z : Sizes) (w : World) where
  -- What the request comes to is refused, if at all, with a number of the list.
  abbrev pub Refuses : Request → List ℕ → Type 0
  Refuses q ns = Only ns (outcome P z (request_action P q w) w.machine)

  fit_only : (ns : List ℕ) (b : Bool) (d : Action) → among 5 ns ≡ true → Only ns (judge z d (doing P d w.machine)) → Only ns (outcome P z (fit b d) w.machine)
  unfolding fit outcome
  fit_only ns true d h k = k
  fit_only ns false d h k = h

  -- A start is refused with 11, 5, 14 or 15.
  pub start_refusals : (f : Cell) (args : List Cell) → Continuations256 w.machine.store → Refuses (start f args) (11 ∷ 5 ∷ 14 ∷ 15 ∷ [])
  unfolding request_action outcome doing handlers_left top_handlers
  start_refusals f args h = if_cases (λ (t : Taken). Only ns (outcome P z t m)) (idle m.result m.frames) _ _ (λ _. fit_only ns _ (calls f args []) refl called) (λ _. refl)
    where
      ns : List ℕ
      ns = 11 ∷ 5 ∷ 14 ∷ 15 ∷ []

      m : M
      m = w.machine

      called : Only ns (judge z (calls f args []) (doing P (calls f args []) m))
      called =
          let few = first_frames P (function_of m.store f) f args (with_frames [] m) (few_function m.store f h) refl in
          judge_only ns z (calls f args []) _ (λ q. absurd (omega (arith, q))) (λ q. absurd (omega (arith, q, few))) (λ _. refl) (λ _. refl)

  -- An answer is refused with 11, 5, 16, 13, 14 or 15.
  pub answer_refusals : (word : ℕ) (fuel : Fuel) (r : CallbackReturn) → Refuses (answer word fuel r) (11 ∷ 5 ∷ 16 ∷ 13 ∷ 14 ∷ 15 ∷ [])
  unfolding request_action answered answer_action outcome
  answer_refusals word fuel r = if_cases (λ (t : Taken). Only (11 ∷ 5 ∷ 16 ∷ 13 ∷ 14 ∷ 15 ∷ []) (outcome P z t w.machine)) w.wait (answered P w.machine.store word r w.machine.frames) (refuses 11) (λ _. by w.machine.frames) (λ _. refl)
    where
      ns : List ℕ
      ns = 11 ∷ 5 ∷ 16 ∷ 13 ∷ 14 ∷ 15 ∷ []

      any : (b : Bool) (d : Action) → Only ns (outcome P z (fit b d) w.machine)
      any b d = fit_only ns b d refl (judge_only ns z d _ (λ _. refl) (λ _. refl) (λ _. refl) (λ _. refl))

      for : (self : List Cell → Frame) (hs : List Cell) (below : List Frame) (r : CallbackReturn) → Only ns (outcome P z (answer_action P w.machine.store self hs below r) w.machine)
      for self hs below (call_with f args new) = any _ _
      for self hs below (perform e args) = any _ _
      for self hs below (tail_call f args) = any _ _
      for self hs below (tail_perform e args) = any _ _
      for self hs below (return_it v) = any _ _
      for self hs below (error_with v) = any _ _
      for self hs below (panic_with v) = any _ _

      by : (F : List Frame) → Only ns (outcome P z (answered P w.machine.store word r F) w.machine)
      by [] = refl
      by (lucia c p l st hs ∷ below) = refl
      by (host n v st hs ∷ below) = for (λ (new : List Cell). host n word st new) hs below r
      by (effect_callback e st hs ∷ below) = refl

  -- A clear is not refused.
  pub clear_refusals : Fits z w.machine → Refuses clear []
  unfolding request_action outcome doing handlers_left frames_cost result_cost
  clear_refusals t = fits_only [] z clears _ (omega arith) (record { frames = omega arith; live = omega arith; store = t.store })

  -- The requests that leave the frames as they are.
  abbrev pub Plain : Request → Type 0
  Plain (start f args) = ⊥
  Plain (answer word fuel r) = ⊥
  Plain clear = ⊥
  Plain (text page v) = Unit {0}
  Plain (bytes v) = Unit {0}
  Plain (set_global g v) = Unit {0}
  Plain (get_global g) = Unit {0}
  Plain (set_builtin g v) = Unit {0}
  Plain (get_builtin g) = Unit {0}

  -- A text, bytes, a global or a builtin, read or set, is refused with 5 alone, if the top frame has at most 16 handlers.
  pub plain_refusals : (q : Request) → Plain q → top_handlers w.machine.frames ≤ 16 → Fits z w.machine → Refuses q (5 ∷ [])
  unfolding request_action doing handlers_left
  plain_refusals (start f args) p h t = absurd p
  plain_refusals (answer word fuel r) p h t = absurd p
  plain_refusals clear p h t = absurd p
  plain_refusals (text page v) p h t = fit_only (5 ∷ []) _ _ refl (fits_only (5 ∷ []) z _ _ h t)
  plain_refusals (bytes v) p h t = fit_only (5 ∷ []) _ _ refl (fits_only (5 ∷ []) z _ _ h t)
  plain_refusals (set_global g v) p h t = fit_only (5 ∷ []) _ _ refl (fits_only (5 ∷ []) z _ _ (omega arith) (record { frames = t.frames; live = t.live; store = t.store }))
  plain_refusals (get_global g) p h t = fit_only (5 ∷ []) _ _ refl (fits_only (5 ∷ []) z _ _ h t)
  plain_refusals (set_builtin g v) p h t = fit_only (5 ∷ []) _ _ refl (fits_only (5 ∷ []) z _ _ (omega arith) (record { frames = t.frames; live = t.live; store = t.store }))
  plain_refusals (get_builtin g) p h t = fit_only (5 ∷ []) _ _ refl (fits_only (5 ∷ []) z _ _ h t)

-- A load is refused with 1 to 4, which refuse the image, or with 15.
pub load_refusals : (image : List ℕ) (z : Sizes) (n : ℕ) → load image z ≡ refused n → ((1 ≤ n) × (n ≤ 4)) ⊎ (n ≡ 15)
unfolding load_of program_of
load_refusals image z n h = by (parse image) refl h
  where
    by : (a : Answer (List Code)) → parse image ≡ a → load_of image z (program_of image a) ≡ refused n → ((1 ≤ n) × (n ≤ 4)) ⊎ (n ≡ 15)
    by (refused k) q e = let i : k ≡ n = cc in inl (refused_small image n (q ∙ ap refused i))
    by (accepted cs) q e = let Q : Program = record { image = image; codes = cs } in full Q (ltb z.store (used (loaded_machine Q).store)) e
      where
        full : (Q : Program) (b : Bool) → if? b (refused 15) (accepted Q) ≡ refused n → ((1 ≤ n) × (n ≤ 4)) ⊎ (n ≡ 15)
        full Q true e = inr cc
        full Q false e = let z : ◌≡◌ {A = ℕ} 0 1 = cc in absurd (omega arith)
