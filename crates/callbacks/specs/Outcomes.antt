-- What an answer comes to in a world that awaits one, by the machine's definition: refusal 5, then 16, then what is left is judged.
use Rattle.std.specs.Prelude.{◌≡◌, Bool, ℕ, ◌<◌, ◌≤◌, eqb}
use Rattle.std.proofs.Math.Path.{refl, ap}
use Rattle.std.proofs.Common.{sym, subst, ◌∙◌, lt-ltb}
use mathlib.Core.List.{List, [], ◌∷◌}
use Rattle.std.proofs.Math.Bool.{true, false}
use native.Mathlib.Omega.{arith}
use Rattle.cells.specs.declared.Cell.{Cell}
use Rattle.image.specs.Records.{if?}
use Rattle.std.proofs.lemmas.Bool.{false≢true}
use Rattle.machine.specs.Values.{Program, lucia_error, lucia_panic}
use Rattle.machine.specs.Machine.{Frame, lucia, host, effect_callback, Object, Result, running, returned, failed, unhandled, M, with_frames}
use Rattle.machine.specs.Opcodes.{Action, calls, performs, throws, returns, doing, Taken, refuses}
use Rattle.machine.specs.Calls.{Sizes, top_handlers, handlers_left, Outcome, does, stops, judge, outcome, World, no_fuel, CallbackReturn, call_with, perform, tail_call, tail_perform, return_it, error_with, panic_with, answer, fit, answer_action, answered, request_action}
use Rattle.machine.specs.Form.{WorldFits, top_of, TurnFits}
use Rattle.plan.specs.Rest.{counts_of}
use Rattle.counts.specs.Counted.{refusal_by}
use Rattle.counts.specs.Judged.{judged}
use Rattle.requests.specs.Returned.{return_fits, frames_left, done_with}

-- ---- The action of an answer
module _ (P : Program) (self : List Cell → Frame) (hs : List Cell) (below : List Frame) where
  abbrev left : CallbackReturn → List Frame
  left r = frames_left P self hs below r

  unfoldable pub action_of : CallbackReturn → Action
  action_of (call_with f args new) = calls f args (left (call_with f args new))
  action_of (perform e args) = performs e args (left (perform e args))
  action_of (tail_call f args) = calls f args (left (tail_call f args))
  action_of (tail_perform e args) = performs e args (left (tail_perform e args))
  action_of (return_it v) = returns v (left (return_it v))
  action_of (error_with v) = throws (lucia_error v) (left (error_with v))
  action_of (panic_with v) = throws (lucia_panic v) (left (panic_with v))

  action_is : (s : List Object) (r : CallbackReturn) → answer_action P s self hs below r ≡ fit (return_fits P s r) (action_of r)
  unfolding answer_action return_fits action_of frames_left
  action_is s (call_with f args new) = refl
  action_is s (perform e args) = refl
  action_is s (tail_call f args) = refl
  action_is s (tail_perform e args) = refl
  action_is s (return_it v) = refl
  action_is s (error_with v) = refl
  action_is s (panic_with v) = refl

  doing_is : (m : M) (r : CallbackReturn) → doing P (action_of r) m ≡ done_with P r (with_frames (left r) m)
  unfolding doing done_with action_of frames_left
  doing_is m (call_with f args new) = refl
  doing_is m (perform e args) = refl
  doing_is m (tail_call f args) = refl
  doing_is m (tail_perform e args) = refl
  doing_is m (return_it v) = refl
  doing_is m (error_with v) = refl
  doing_is m (panic_with v) = refl

  -- only a call leaves a frame on top that may have got handlers
  few_left : (r : CallbackReturn) → top_handlers (left r) ≤ 16 → handlers_left (action_of r) ≤ 16
  unfolding handlers_left action_of
  few_left (call_with f args new) h = h
  few_left (perform e args) h = omega arith
  few_left (tail_call f args) h = h
  few_left (tail_perform e args) h = omega arith
  few_left (return_it v) h = omega arith
  few_left (error_with v) h = omega arith
  few_left (panic_with v) h = omega arith

-- ---- A world that awaits an answer has a host callback's frame on top, and no result
pub record Awaits (w : World) : Type 0 where
  pub number : ℕ
  pub word : ℕ
  pub stack : List Cell
  pub handlers : List Cell
  pub below : List Frame
  pub frames : w.machine.frames ≡ host number word stack handlers ∷ below
  pub running : w.machine.result ≡ running

pub awaited : (P : Program) (z : Sizes) (w : World) → WorldFits P z w → w.wait ≡ true → Awaits w
unfolding top_of
awaited P z w f e = by w.machine.result refl w.machine.frames refl (subst (λ (b : Bool). TurnFits (top_of w.machine.result w.machine.frames) b w.slice) e f.turn)
  where
    by : (r : Result) → w.machine.result ≡ r → (F : List Frame) → w.machine.frames ≡ F → TurnFits (top_of r F) true w.slice → Awaits w
    by running q [] p t = absurd (false≢true (sym t.0))
    by running q (lucia h i l s hs ∷ F) p t = absurd (false≢true (sym t.0))
    by running q (host n v s hs ∷ F) p t = record { number = n; word = v; stack = s; handlers = hs; below = F; frames = p; running = q }
    by running q (effect_callback x s hs ∷ F) p t = absurd (false≢true (sym t.0))
    by (returned v) q F p t = absurd (false≢true (sym t.0))
    by (failed x) q F p t = absurd (false≢true (sym t.0))
    by (unhandled x args) q F p t = absurd (false≢true (sym t.0))

-- what an answer that is one comes to
abbrev pub replied : Program → Sizes → ℕ → CallbackReturn → World → Outcome
replied P z word r w = outcome P z (request_action P (answer word no_fuel r) w) w.machine

module _ (P : Program) (word : ℕ) (r : CallbackReturn) {w : World} (a : Awaits w) where
  abbrev self_of : List Cell → Frame
  self_of new = host a.number word a.stack new

  abbrev pub left_of : List Frame
  left_of = frames_left P self_of a.handlers a.below r

  abbrev pub done_by : Action
  done_by = action_of P self_of a.handlers a.below r

  -- the machine with the frames left, and once the answer is done
  abbrev pub machine_left : M
  machine_left = with_frames left_of w.machine

  abbrev pub machine_done : M
  machine_done = done_with P r machine_left

  module _ (on : w.wait ≡ true) where
    taken_is : request_action P (answer word no_fuel r) w ≡ fit (return_fits P w.machine.store r) done_by
    unfolding request_action answered
    taken_is =
        ap (λ (b : Bool). if? b (answered P w.machine.store word r w.machine.frames) (refuses 11)) on
        ∙ ap (λ (F : List Frame). answered P w.machine.store word r F) a.frames ∙ action_is P self_of a.handlers a.below w.machine.store r

    module _ (z : Sizes) where
      reply_is : (b : Bool) → return_fits P w.machine.store r ≡ b → replied P z word r w ≡ outcome P z (fit b done_by) w.machine
      reply_is b f = ap (λ (t : Taken). outcome P z t w.machine) (taken_is ∙ ap (λ (b : Bool). fit b done_by) f)

      pub reply_unfit : return_fits P w.machine.store r ≡ false → replied P z word r w ≡ stops 5
      unfolding outcome fit
      reply_unfit f = reply_is false f

      module _ (f : return_fits P w.machine.store r ≡ true) where
        reply_judged : replied P z word r w ≡ judge z done_by machine_done
        unfolding outcome fit
        reply_judged = reply_is true f ∙ ap (judge z done_by) (doing_is P self_of a.handlers a.below w.machine r)

        pub reply_fits : top_handlers left_of ≤ 16
            → replied P z word r w ≡ if? (eqb (refusal_by z (counts_of machine_done)) 0) (does done_by machine_done) (stops (refusal_by z (counts_of machine_done)))
        reply_fits h = reply_judged ∙ judged z done_by machine_done (few_left P self_of a.handlers a.below r h)

        -- more than 16 different handlers
        pub reply_many : 16 < handlers_left done_by → replied P z word r w ≡ stops 16
        unfolding judge
        reply_many h = reply_judged ∙ rw (lt-ltb 16 (handlers_left done_by) h) refl
