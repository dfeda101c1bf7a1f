-- A start: from the tests to the machine that is called, whose plan is finished.
use Rattle.std.specs.Prelude.{◌≡◌, Bool, true, false, not, eqb, ℕ, ◌+◌, ◌%◌, ◌<◌, ◌≤◌}
use Rattle.std.specs.Prelude as std
use Rattle.std.proofs.Math.Path.{refl, sym, subst}
use Rattle.std.proofs.Common.{ap, ◌∙◌, arith}
use mathlib.Core.List.{List, [], ◌∷◌}
use Rattle.std.proofs.Math.ListN.{length}
use Rattle.std.proofs.lemmas.Result.{on_ok_weaker}
use borrow.Author.Tests.{not-true, not-false, eqb-true, eqb-false, eq-eqb, ne_eqb, leb-true}
use Rattle.cells.specs.Cells.{room, cells}
use Rattle.cells.specs.declared.Cell.{Cell}
use Rattle.std.proofs.lemmas.Bool.{false≢true}
use Rattle.image.proofs.Parts.{first, second}
use Rattle.machine.specs.Values.{Program}
use Rattle.machine.specs.Machine.{Frame, Result, running, returned, failed, unhandled, M, frames_cost, result_cost, used, function_of, call_function}
use Rattle.machine.specs.Opcodes.{calls, doing}
use Rattle.machine.specs.Calls.{Sizes, top_handlers, handlers_left, judge, outcome, World, is_value, start, fit, idle, request_action}
use Rattle.memory.specs.Layout.{flat, result_shown, state_cells}
use Rattle.moves.specs.Objects.{Stored}
use Rattle.plan.specs.Rest.{counts_of, Held, Rests}
use Rattle.plan.specs.Plans.{Carries}
use Rattle.plan.specs.declared.Counts.{Counts}
use Rattle.plan.specs.declared.Plan.{Plan}
use Rattle.plan.proofs.ErrorLaws.{shown_is}
use Rattle.calls.specs.Called.{Callable, CallsFunction}
use Rattle.refusals.specs.Refusals.{number}
use Rattle.refusals.specs.declared.Refusal.{Refusal}
use Rattle.requests.specs.Sent.{starting, in_turn, request_of, asking, sent_outcome}
use Rattle.requests.specs.Returned.{called_fits}
use Rattle.requests.specs.Asked.{rooms_of, Holding, Entered, Finishable, FinishLeaves, Finishes, CalledFits, Passes, Startable, SentWorld, finish_number}
use Rattle.requests.specs.AskedLaws.{block_of, sent_refused}
use Rattle.requests.specs.FinishLaws.{judged_leaves}

-- ---- By the machine's definition
idle_is : (r : Result) (F : List Frame) → idle r F ≡ true → (r ≡ running) × (F ≡ [])
unfolding idle
idle_is running [] t = (refl, refl)
idle_is running (f ∷ F) t = absurd (false≢true t)
idle_is (returned v) F t = absurd (false≢true t)
idle_is (failed x) F t = absurd (false≢true t)
idle_is (unhandled e args) F t = absurd (false≢true t)

frames_busy : (r : Result) (F : List Frame) → (length F ≡ 0 → ⊥) → idle r F ≡ false
unfolding idle
frames_busy running [] n = absurd (n refl)
frames_busy running (f ∷ F) n = refl
frames_busy (returned v) F n = refl
frames_busy (failed x) F n = refl
frames_busy (unhandled e args) F n = refl

result_busy : (r : Result) (F : List Frame) → ((result_shown r).kind ≡ 0 → ⊥) → idle r F ≡ false
unfolding idle result_shown
result_busy running F n = absurd (n refl)
result_busy (returned v) F n = refl
result_busy (failed x) F n = refl
result_busy (unhandled e args) F n = refl

is_idle : (r : Result) (F : List Frame) → length F ≡ 0 → (result_shown r).kind ≡ 0 → idle r F ≡ true
unfolding idle result_shown
is_idle running [] n k = refl
is_idle running (f ∷ F) n k = absurd (omega arith)
is_idle (returned v) F n k = absurd (omega arith)
is_idle (failed x) F n k = absurd (omega (arith, (shown_is x).1))
is_idle (unhandled e args) F n k = absurd (omega arith)

-- the machine once f is called
abbrev called_in : Program → Cell → List Cell → World → M
called_in P f args w = call_function P (function_of w.machine.store f) f args w.machine

module _ {P : Program} {u : ℕ} {f : Cell} {args : List Cell} {w : World} (p : Passes P u f args w) where
  abbrev here : M
  here = w.machine

  abbrev then : M
  then = called_in P f args w

  at_rest : (here.result ≡ running) × (here.frames ≡ [])
  at_rest = idle_is here.result here.frames p.idle

  value : is_value P here.store f ≡ true
  value = first _ _ (first _ _ p.called)

  few : length args ≤ 4096
  few = omega (arith, leb-true (length args + 0) 4096 (second _ _ (second _ _ p.called)))

  does_call : doing P (calls f args []) here ≡ then
  unfolding doing
  does_call =
      let e : [] ≡ here.frames = sym at_rest.1 in
      λ j. call_function P (function_of here.store f) f args (record { frames = e j; store = here.store; globals = here.globals; builtins = here.builtins; result = here.result })

  asked_is : (z : Sizes) → outcome P z (request_action P (start f args) w) here ≡ judge z (calls f args []) then
  unfolding request_action fit outcome
  asked_is z = rw (p.idle, p.called) (ap (judge z (calls f args [])) does_call)

-- what was sent, where it passed its tests
sent_is : {P : Program} {u : ℕ} {f : Cell} (args : List ℕ) {w : World} (z : Sizes) → length args % 16 ≡ 0 → Passes P u f (cells args) w
    → sent_outcome P z (starting f args) w ≡ judge z (calls f (cells args) []) (called_in P f (cells args) w)
unfolding sent_outcome in_turn request_of asking
sent_is args z whole p = rw (p.idle, eq-eqb (length args % 16) 0 whole) (asked_is p z)

-- ---- In memory
abbrev fresh_counts : ℕ → Counts
fresh_counts u = record { frames = 0; live = 0; store = u }

stored : {P : Program} {w : World} {state live store : List ℕ} → Holding P w state live store → Stored w.machine.store (cells store)
stored h = record { free = h.holds.free_store; is = h.holds.store }

module _ {P : Program} {u : ℕ} {f : Cell} {args : List Cell} {state live store : List ℕ} {w : World} (h : Holding P w state live store) (p : Passes P u f args w) (starts : List ℕ) where
  counts_fresh : fresh_counts u ≡ counts_of w.machine
  unfolding frames_cost result_cost
  counts_fresh =
      let a = at_rest p in
      let n : 0 ≡ length w.machine.frames = sym (ap length a.1) in
      let l : 0 ≡ frames_cost w.machine.frames + result_cost w.machine.result = rw (a.0, a.1) refl in
      let q = p.used in
      λ j. record { frames = n j; live = l j; store = q j }

  held : Held P w.machine (fresh_counts u) (cells live) (cells store) starts
  unfolding flat
  held =
      let a = at_rest p in
      record {
        running = a.0;
        counts = counts_fresh;
        under = rw a.1 (record { below = record { free = cells live; is = refl }; begins = λ i l. absurd (omega arith) });
        store = stored h;
        objects = h.fits.store;
      }

  rests : Rests w.machine (fresh_counts u) (cells state) (cells live) (cells store) starts
  unfolding flat result_shown
  rests =
      let a = at_rest p in
      record {
        counts = counts_fresh;
        free = cells live;
        live = rw (a.0, a.1) refl;
        begins = rw a.1 (λ i l. absurd (omega arith));
        store = stored h;
        block = block_of w h.holds.state;
      }

-- ---- A refused start
module _ (P : Program) (f : Cell) (args state live store : List ℕ) where
  -- the count of frames that the state block shows
  module _ {n : ℕ} (a : (w : World) → cells state ≡ state_cells w → n ≡ length w.machine.frames) where
    pub start_frames : (n ≡ 0 → ⊥) → SentWorld P (starting f args) 11 state live store state live store
    unfolding sent_outcome in_turn
    start_frames ne = sent_refused (λ w h. rw (frames_busy w.machine.result w.machine.frames (λ e. ne (a w h.holds.state ∙ e))) refl)

    -- whether it has a result
    module _ {k : Bool} (none : n ≡ 0) (b : (w : World) → cells state ≡ state_cells w → k ≡ not (eqb (result_shown w.machine.result).kind 0)) where
      pub start_result : k ≡ true → SentWorld P (starting f args) 11 state live store state live store
      unfolding sent_outcome in_turn
      start_result t = sent_refused (λ w h. rw (result_busy w.machine.result w.machine.frames (eqb-false _ 0 (not-true _ (sym (b w h.holds.state) ∙ t)))) refl)

      module _ (zero : k ≡ false) where
        idle_in : (w : World) → Holding P w state live store → idle w.machine.result w.machine.frames ≡ true
        idle_in w h = is_idle w.machine.result w.machine.frames (sym (a w h.holds.state) ∙ none) (eqb-true _ 0 (not-false _ (sym (b w h.holds.state) ∙ zero)))

        pub start_odd : (length args % 16 ≡ 0 → ⊥) → SentWorld P (starting f args) 5 state live store state live store
        unfolding sent_outcome in_turn request_of asking
        start_odd ne = sent_refused (λ w h. rw (idle_in w h, ne_eqb (length args % 16) 0 ne) refl)

        -- how much its store uses, and the tests
        module _ {u : ℕ} {r : Bool} (whole : length args % 16 ≡ 0) (c : (w : World) → cells state ≡ state_cells w → u ≡ used w.machine.store) (t : CalledFits P u f (cells args) 0 r (cells store)) where
          tested : (w : World) → Holding P w state live store → r ≡ called_fits P w.machine.store f (cells args) 0
          tested w h = t.is w.machine.store (stored h) h.fits.store (c w h.holds.state)

          pub start_unfit : not r ≡ true → SentWorld P (starting f args) 5 state live store state live store
          unfolding sent_outcome in_turn request_of asking request_action fit outcome
          start_unfit n = sent_refused (λ w h. rw (idle_in w h, eq-eqb (length args % 16) 0 whole, idle_in w h, sym (tested w h) ∙ not-true r n) refl)

          pub startable : Entered P state live store → not r ≡ false → Startable P u f args state live store
          startable e n = record {
            entered = e;
            whole = whole;
            passes = λ w h. record { idle = idle_in w h; called = sym (tested w h) ∙ not-false r n; used = c w h.holds.state };
          }

-- the store uses no more than there is
pub used_within : {P : Program} {state live store : List ℕ} {u : ℕ} → Entered P state live store → ((w : World) → cells state ≡ state_cells w → u ≡ used w.machine.store) → (u ≤ room store) × (0 < 4294967296)
used_within e c = let h = e.holding in (omega (arith, c e.world h.holds.state, h.fits.used), omega arith)

-- ---- The needs of the calls, and the return
module _ {P : Program} {u : ℕ} {f : Cell} {args state live store : List ℕ} (s : Startable P u f args state live store) where
  abbrev this : World
  this = s.entered.world

  passed : Passes P u f (cells args) this
  passed = s.passes this s.entered.holding

  module _ {starts : List ℕ} where
    pub callable : Callable P f 0 (cells live) (cells store) starts
    callable = record {
      machine = this.machine;
      counts = fresh_counts u;
      count = refl;
      held = held s.entered.holding passed starts;
      value = value passed;
      table = omega arith;
    }

    module _ {plan : Plan} (k : CallsFunction P 0 f (cells args) (cells live) (cells store) starts plan) {most : ℕ} (l : most ≡ room live) where
      carries : (w : World) → Holding P w state live store → Carries P plan (cells args) w.machine (called_in P f (cells args) w)
      carries w h = let p = s.passes w h in k.carries w.machine (fresh_counts u) refl (held h p starts) (value p)

      pub finishable : length starts ≡ 256 → Finishable plan (cells args) (fresh_counts u) most state live store starts
      finishable long =
          let h = s.entered.holding in
          record {
            program = P;
            machine = this.machine;
            after = called_in P f (cells args) this;
            carries = carries this h;
            rests = rests h passed starts;
            held = held h passed starts;
            table = long;
            frames = omega arith;
            cells_live = (omega arith, omega arith, omega (arith, s.entered.small));
            cells_store = (omega (arith, passed.used, h.fits.used), omega (arith, s.entered.small));
            few = omega (arith, few passed);
            block = s.entered.block;
          }

      sent_begun : {done : std.Result ℕ Refusal} {state' live' store' : List ℕ} → Finishes plan (cells args) (fresh_counts u) most done state live store starts state' live' store'
          → SentWorld P (starting f args) (finish_number done) state live store state' live' store'
      unfolding handlers_left top_handlers
      sent_begun {done} {state'} {live'} {store'} o = record {
        leaves = λ w h _.
            let p = s.passes w h in
            let m' = called_in P f (cells args) w in
            let x = o.leaves P w.machine m' (carries w h) (rests h p starts) (held h p starts) in
            let y = subst (λ (n : ℕ). FinishLeaves (record { live = n; store = room store }) m' done state' live' store') l x in
            rw (sent_is args (rooms_of live store) s.whole p) (judged_leaves state live store (calls f (cells args) []) (omega arith) y (on_ok_weaker done (λ a. a.free) (o.appends P w.machine m' (carries w h) (rests h p starts) (held h p starts))) o.refused);
        same_state = o.same_state;
        same_live = o.same_live;
        same_store = o.same_store;
      }

      module _ {done : std.Result ℕ Refusal} {state' live' store' : List ℕ} (o : Finishes plan (cells args) (fresh_counts u) most done state live store starts state' live' store') where
        pub begun : {n : ℕ} → done ≡ std.Ok n → SentWorld P (starting f args) 0 state live store state' live' store'
        begun e = let x = sent_begun o in rw e at x

        pub begin_refused : {r : Refusal} → done ≡ std.Err r → SentWorld P (starting f args) (number r) state live store state' live' store'
        begin_refused e = let x = sent_begun o in rw e at x
