-- An answer as it was sent: out of turn, no answer, unfit, or replied to; one law for each return.
use Rattle.std.specs.Prelude.{◌≡◌, refl, List, [], ◌∷◌, ◌++◌, Bool, true, false, not, ℕ, ◌+◌, ◌≤◌, length, eqb, Result, Ok, Err}
use Rattle.std.proofs.Math.Path.{sym, ap}
use Rattle.std.proofs.Common.{subst, ◌∙◌, arith, leb-true}
use Rattle.std.proofs.lemmas.Bool.{not-true, not-false}
use Rattle.cells.specs.Cells.{room, cells}
use Rattle.cells.specs.declared.Cell.{Cell}
use Rattle.image.specs.Records.{if?, both, Answer, refused, accepted}
use Rattle.image.proofs.Parts.{first, second}
use Rattle.machine.specs.Values.{Program}
use Rattle.machine.specs.Machine.{Object, used}
use Rattle.machine.specs.Calls as machine
use Rattle.machine.specs.Calls.{Sizes, Outcome, stops, World, no_fuel}
use Rattle.machine.proofs.StepLaws.{if_cases}
use Rattle.memory.specs.Layout.{state_cells}
use Rattle.requests.specs.Sent.{unused, kind_of, return_of, answer_with, answering, request_of, in_turn, whole, asking, sent_outcome}
use Rattle.requests.specs.Returned.{return_fits}
use Rattle.requests.specs.Asked.{rooms_of, Holding, Entered, Leaves, SentWorld}
use Rattle.requests.specs.AskedLaws.{sent_refused}
use Rattle.replies.specs.Replied.{return_with, asks_for, ReturnFits}
use Rattle.replies.specs.declared.CallbackReturn.{CallbackReturn}
use Rattle.replies.specs.declared.CallbackReturn.TheVariants.{Call, Perform, TailCall, TailPerform, ReturnValue, Error, Panic}
use Rattle.refusals.specs.Refusals.{number}
use Rattle.refusals.specs.declared.Refusal.{Refusal}
use Rattle.callbacks.specs.Outcomes.{awaited, replied, reply_unfit}
use Rattle.callbacks.specs.Replies.{Replyable, RepliesWorld}

-- ---- An answer brings at most 4,096 arguments
-- a value, an error or a panic brings none
abbrev Bare : List Cell → Answer machine.CallbackReturn → Type 0
Bare args (refused n) = Unit {0}
Bare args (accepted (machine.call_with f xs hs)) = Unit {0}
Bare args (accepted (machine.perform e xs)) = Unit {0}
Bare args (accepted (machine.tail_call f xs)) = Unit {0}
Bare args (accepted (machine.tail_perform e xs)) = Unit {0}
Bare args (accepted (machine.return_it v)) = length args ≡ 0
Bare args (accepted (machine.error_with v)) = length args ≡ 0
Bare args (accepted (machine.panic_with v)) = length args ≡ 0

-- what must be empty is
alone : (args more : List Cell) (r : machine.CallbackReturn) → ((length args ≡ 0) → Bare args (accepted r)) → Bare args (unused (args ++ more) r)
unfolding unused
alone [] [] r h = h refl
alone [] (x ∷ more) r h = tt
alone (x ∷ args) more r h = tt

plain : (args more : List Cell) (r : machine.CallbackReturn) → Bare args (accepted r) → Bare args (unused more r)
unfolding unused
plain args [] r h = h
plain args (x ∷ more) r h = tt

kind_bare : (kind : ℕ) (v : Cell) (args handlers : List Cell) → Bare args (kind_of kind v args handlers)
unfolding kind_of
kind_bare kind v args hs =
    if_cases (Bare args) (eqb kind 0) _ _ (λ _. tt) (λ _.
    if_cases (Bare args) (eqb kind 1) _ _ (λ _. plain args hs (machine.perform v args) tt) (λ _.
    if_cases (Bare args) (eqb kind 2) _ _ (λ _. plain args hs (machine.tail_call v args) tt) (λ _.
    if_cases (Bare args) (eqb kind 3) _ _ (λ _. plain args hs (machine.tail_perform v args) tt) (λ _.
    if_cases (Bare args) (eqb kind 4) _ _ (λ _. alone args hs (machine.return_it v) (λ e. e)) (λ _.
    if_cases (Bare args) (eqb kind 5) _ _ (λ _. alone args hs (machine.error_with v) (λ e. e)) (λ _.
    if_cases (Bare args) (eqb kind 6) _ _ (λ _. alone args hs (machine.panic_with v) (λ e. e)) (λ _. tt)))))))

return_bare : (kind : ℕ) (v : Cell) (args handlers : List ℕ) → Bare (cells args) (return_of kind v args handlers)
unfolding return_of
return_bare kind v args handlers = if_cases (Bare (cells args)) (both (whole args) (whole handlers)) _ _ (λ _. kind_bare kind v (cells args) (cells handlers)) (λ _. tt)

few_args : (P : Program) (s : List Object) (args handlers : List Cell) (r : CallbackReturn) → Bare args (accepted (return_with r args handlers)) → return_fits P s (return_with r args handlers) ≡ true → length args ≤ 4096
unfolding return_fits
few_args P s args hs (Call f) b t = omega (arith, leb-true (length args + length hs) 4096 (second _ _ (second _ _ (first _ _ t))))
few_args P s args hs (Perform e) b t = omega (arith, leb-true (length args + 0) 4096 (second _ _ (second _ _ t)))
few_args P s args hs (TailCall f) b t = omega (arith, leb-true (length args + 0) 4096 (second _ _ (second _ _ t)))
few_args P s args hs (TailPerform e) b t = omega (arith, leb-true (length args + 0) 4096 (second _ _ (second _ _ t)))
few_args P s args hs (ReturnValue v) b t = omega (arith, b)
few_args P s args hs (Error v) b t = omega (arith, b)
few_args P s args hs (Panic v) b t = omega (arith, b)

-- the store uses no more than there is
pub used_fits : {P : Program} {state live store : List ℕ} {u : ℕ} → Entered P state live store → ((w : World) → cells state ≡ state_cells w → u ≡ used w.machine.store) → u ≤ room store
used_fits e c = omega (arith, c e.world e.holding.holds.state, e.holding.fits.used)

module _ {P : Program} (kind word : ℕ) (v : Cell) (args handlers : List ℕ) {state live store : List ℕ} where
  module _ {on : Bool} (waits : (w : World) → cells state ≡ state_cells w → on ≡ w.wait) where
    pub answer_early : on ≡ false → SentWorld P (answering kind word v args handlers) 11 state live store state live store
    unfolding sent_outcome in_turn
    answer_early e = sent_refused (λ w h. (ap (λ (b : Bool). if? b (asking P (rooms_of live store) w (request_of no_fuel (answering kind word v args handlers))) (stops 11)) (sym (waits w h.holds.state) ∙ e)))

    module _ (on_is : on ≡ true) where
      waiting : (w : World) → Holding P w state live store → w.wait ≡ true
      waiting w h = sym (waits w h.holds.state) ∙ on_is

      asked_is : (x : Answer machine.CallbackReturn) → x ≡ return_of kind v args handlers → (w : World) → Holding P w state live store
          → asking P (rooms_of live store) w (answer_with word no_fuel x) ≡ sent_outcome P (rooms_of live store) (answering kind word v args handlers) w
      unfolding sent_outcome in_turn request_of
      asked_is x e w h =
          ap (λ (y : Answer machine.CallbackReturn). asking P (rooms_of live store) w (answer_with word no_fuel y)) e
          ∙ sym (ap (λ (b : Bool). if? b (asking P (rooms_of live store) w (answer_with word no_fuel (return_of kind v args handlers))) (stops 11)) (waiting w h))

      module _ {reply : Result CallbackReturn Refusal} (a : asks_for reply args handlers ≡ return_of kind v args handlers) where
        pub answer_malformed : {x : Refusal} → reply ≡ Err x → SentWorld P (answering kind word v args handlers) (number x) state live store state live store
        unfolding asking answer_with
        answer_malformed {x} e = sent_refused (λ w h. sym (asked_is (refused (number x)) (rw e at a) w h))

        module _ {r : CallbackReturn} (e : reply ≡ Ok r) where
          replied_to : (w : World) → Holding P w state live store → replied P (rooms_of live store) word (return_with r (cells args) (cells handlers)) w ≡ sent_outcome P (rooms_of live store) (answering kind word v args handlers) w
          unfolding asking answer_with
          replied_to = asked_is (accepted (return_with r (cells args) (cells handlers))) (rw e at a)

          module _ {u : ℕ} {b : Bool} (c : (w : World) → cells state ≡ state_cells w → u ≡ used w.machine.store) (t : ReturnFits P u r (cells args) (cells handlers) b (cells store)) where
            tested : (w : World) → Holding P w state live store → b ≡ return_fits P w.machine.store (return_with r (cells args) (cells handlers))
            tested w h = t.is w.machine.store (record { free = h.holds.free_store; is = h.holds.store }) h.fits.store (c w h.holds.state)

            pub answer_unfit : not b ≡ true → SentWorld P (answering kind word v args handlers) 5 state live store state live store
            answer_unfit n = sent_refused (λ w h.
                sym (replied_to w h) ∙ (reply_unfit P word (return_with r (cells args) (cells handlers)) (awaited P (rooms_of live store) w h.fits (waiting w h)) (waiting w h) (rooms_of live store) (sym (tested w h) ∙ not-true b n)))

            pub answer_replyable : Entered P state live store → not b ≡ false → Replyable P r args handlers state live store
            answer_replyable x n = record {
              entered = x;
              passes = λ w h. (waiting w h, sym (tested w h) ∙ not-false b n);
              few =
                  let h = x.holding in
                  few_args P x.world.machine.store (cells args) (cells handlers) r (subst (Bare (cells args)) (sym (rw e at a)) (return_bare kind v args handlers)) (sym (tested x.world h) ∙ not-false b n);
            }

          pub answer_replied : {n : ℕ} {state' live' store' : List ℕ} → RepliesWorld P word (return_with r (cells args) (cells handlers)) n state live store state' live' store'
              → SentWorld P (answering kind word v args handlers) n state live store state' live' store'
          answer_replied {n} {state'} {live'} {store'} x = record {
            leaves = λ w h _. subst (λ (o : Outcome). Leaves o n state live store state' live' store') (replied_to w h) (x.leaves w h);
            same_state = x.same_state;
            same_live = x.same_live;
            same_store = x.same_store;
          }
