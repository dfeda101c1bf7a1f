-- What an answer comes to as a plan: the needs of the calls, and one law for each return of `plan_of`.
use Rattle.std.specs.Prelude.{◌≡◌, List, true, ◌⊎◌, ℕ, length, None}
use Rattle.std.proofs.Math.Path.{refl}
use Rattle.std.proofs.Common.{sym, ap, subst, ◌∙◌, inl, inr}
use Rattle.cells.specs.Cells.{room, cells}
use Rattle.cells.specs.CellsLaws.{length_cells}
use Rattle.cells.specs.declared.Cell.{Cell}
use Rattle.image.proofs.Parts.{first}
use Rattle.machine.specs.Values as v
use Rattle.machine.specs.Values.{Program, lucia_error, lucia_panic}
use Rattle.machine.specs.Machine.{M, unhandled, function_of, call_function, perform_effect, throw_error}
use Rattle.machine.specs.Calls.{is_value}
use Rattle.memory.specs.Layout.{error_shown}
use Rattle.plan.specs.Rest.{Held}
use Rattle.plan.specs.Plans.{error_of, Carries}
use Rattle.plan.specs.Searches.{Lies}
use Rattle.plan.specs.declared.Counts.{Counts}
use Rattle.plan.specs.declared.Error.{Error}
use Rattle.plan.specs.declared.Plan.{Plan}
use Rattle.calls.specs.Called.{Callable, Performs, ThrowsError, CallsFunction, ReturnsValue}
use Rattle.requests.specs.Returned.{return_fits, done_with}
use Rattle.replies.specs.Replied.{return_with, Plannable, PlansReturn}
use Rattle.replies.specs.declared.CallbackReturn.{CallbackReturn}
use Rattle.replies.specs.declared.CallbackReturn.TheVariants.{Call, Perform, TailCall, TailPerform, ReturnValue, Panic}
use Rattle.replies.specs.declared.CallbackReturn.TheVariants as variants
use Rattle.results.specs.declared.ErrorKind.TheVariants as kinds
use Rattle.plan.specs.Kinds.{kind_of}

held_count : {P : Program} {m : M} {c : Counts} {L S : List Cell} {starts : List ℕ} {frames : ℕ} → Held P m c L S starts → c.frames ≡ frames → length m.frames ≡ frames
held_count h e = sym (ap (λ (x : Counts). x.frames) h.counts) ∙ e

-- ---- A call: what is called exists
abbrev pub Calling : CallbackReturn → Cell → Type 0
Calling r f = (r ≡ Call f) ⊎ (r ≡ TailCall f)

module _ (P : Program) (m : M) {r : CallbackReturn} {f : Cell} (args handlers : List Cell) where
  called_value : Calling r f → return_fits P m.store (return_with r args handlers) ≡ true → is_value P m.store f ≡ true
  unfolding return_fits
  called_value (inl q) t = first _ _ (first _ _ (first _ _ (rw q at t)))
  called_value (inr q) t = first _ _ (first _ _ (rw q at t))

  call_does : Calling r f → call_function P (function_of m.store f) f args m ≡ done_with P (return_with r args handlers) m
  unfolding done_with
  call_does (inl q) = rw q refl
  call_does (inr q) = rw q refl

module _ {P : Program} {frames : ℕ} {r : CallbackReturn} {args L S : List Cell} {starts : List ℕ} where
  module _ (p : Plannable P frames r args L S starts) where
    pub lies : Lies frames L starts
    lies = record { frames = p.machine.frames; count = held_count p.held p.count; under = p.held.under; table = p.table }

    pub callable : {f : Cell} → Calling r f → Callable P f frames L S starts
    callable k = record { machine = p.machine; counts = p.counts; count = p.count; held = p.held; value = called_value P p.machine args p.handlers k p.fits; table = p.table }

  module _ {plan : Plan} where
    pub plans_call : {f : Cell} → Calling r f → CallsFunction P frames f args L S starts plan → PlansReturn P frames r args L S starts plan
    plans_call k w = record {
      carries = λ m c handlers e h t. subst (λ (y : M). Carries P plan args m y) (call_does P m args handlers k) (w.carries m c e h (called_value P m args handlers k t));
    }

    pub plans_return : {v : Cell} → r ≡ ReturnValue v → ReturnsValue frames v plan → PlansReturn P frames r args L S starts plan
    unfolding done_with
    plans_return q w = record { carries = λ m c handlers e h t. rw q (w.carries P m args (held_count h e)) }

    -- the script's own error
    module _ {x : Error} (w : ThrowsError P frames 1 x L starts plan) where
      plans_throw : (y : v.Error) → x ≡ error_of y → ((m : M) (handlers : List Cell) → done_with P (return_with r args handlers) m ≡ throw_error 1 P y m) → PlansReturn P frames r args L S starts plan
      plans_throw y q d = record { carries = λ m c handlers e h t. rw (d m handlers) (w.carries m args y (held_count h e) h.under q) }

      pub plans_error : {v : Cell} → r ≡ variants.Error v → x ≡ record { kind = kinds.Error; value = v; second = 0 } → PlansReturn P frames r args L S starts plan
      unfolding done_with error_shown kind_of
      plans_error {v} k q = plans_throw (lucia_error v) q (λ m handlers. rw k refl)

      pub plans_panic : {v : Cell} → r ≡ Panic v → x ≡ record { kind = kinds.Panic; value = v; second = 0 } → PlansReturn P frames r args L S starts plan
      unfolding done_with error_shown kind_of
      plans_panic {v} k q = plans_throw (lucia_panic v) q (λ m handlers. rw k refl)

-- ---- A perform, with all that was sent
pub plans_perform : {P : Program} {frames : ℕ} {r : CallbackReturn} (args : List ℕ) {L S : List Cell} {starts : List ℕ} {plan : Plan} {e : Cell} {n : ℕ} → (r ≡ Perform e) ⊎ (r ≡ TailPerform e) → n ≡ room args
    → Performs P frames 1 e n None L starts plan → PlansReturn P frames r (cells args) L S starts plan
unfolding done_with perform_effect
plans_perform args {e = e} (inl q) l w = record { carries = λ m c handlers i h t. rw q (w.carries m (cells args) (cells args) (unhandled e (cells args)) (held_count h i) h.under (length_cells args ∙ sym l) (refl, refl)) }
plans_perform args {e = e} (inr q) l w = record { carries = λ m c handlers i h t. rw q (w.carries m (cells args) (cells args) (unhandled e (cells args)) (held_count h i) h.under (length_cells args ∙ sym l) (refl, refl)) }
