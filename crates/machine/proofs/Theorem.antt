-- Demand 3 holds of every list of calls.
use Rattle.std.specs.Prelude.{◌≡◌, refl, List, [], ◌∷◌, ◌++◌, ◌⊎◌, Bool, ℕ, zero, suc, ◌+◌, ◌-◌, ◌<◌, pos, length, get_or, drop, set, eqb, ltb}
use Rattle.std.proofs.Common.{sym, ap, ◌∙◌, inl, inr, ⊎_elim, arith, length-set, get_or-set_same, get_or-set_other, eqb-true}
use Rattle.std.proofs.Math.Bool.{true, false}
use Rattle.std.proofs.lemmas.List.{get_or-replicate, length-replicate}
use Rattle.std.proofs.lemmas.Bool.{eqb-false}
use Rattle.cells.specs.Cells.{null}
use Rattle.cells.specs.declared.Cell.{Cell}
use Rattle.fuel.specs.Fuels.{consume, should_continue}
use Rattle.fuel.specs.declared.Fuel.{Fuel}
use Rattle.image.specs.Records.{if?, Answer, refused, accepted}
use Rattle.machine.specs.Values.{Program, code_of}
use Rattle.machine.specs.Machine.{Frame, lucia, host, effect_callback, Object, closure, list, continuation, Result, running, returned, failed, unhandled, M, frames_cost, result_cost, used}
use Rattle.machine.specs.Opcodes.{Action, doing, Taken, takes, refuses, next_action}
use Rattle.machine.specs.Calls.{Sizes, handlers_left, Outcome, does, stops, judge, outcome, World, world, Trace, ends, nothing, steps_of, answer_of, given_of, world_after, Turn as Phase, is_done, is_host, is_ready, turn_of, Pace, free, counted, closing, failing, alone, pace_of, charge, goes_on, no_ticks, tick, run, CallbackReturn, call_with, perform, tail_call, tail_perform, return_it, error_with, panic_with, Request, start, answer, clear, text, bytes, set_global, get_global, set_builtin, get_builtin, fit, answer_action, answered, idle, request_action, request_world, end_of, asked, loaded_machine, loaded, load, Call, Lent, runs, asks, loads, load_trace, call_of, calls_of}
use Rattle.machine.proofs.Store.{at_one, at_append, at_keeps, at_new}
use Rattle.machine.specs.Demand.{Accepts, Deed, captures, sets, other, From, last_set, count_of, mark_of, Passed, Operates, handled, nobody, Performs, returning, Stored, Calls, begins, asks_host, as_effect, resumes, unfit, unfit_values, no_function, Ticks, stays, makes, registers, no_effect, sets_global, returns, throws, calls, tail_calls, performs, Replies, Asks, Run, Over, Awaits, Ends, done, spent, paused, awaits, Turn, InTurn, fresh, RefusedLoad, NoLoads, Demand3}
use Rattle.machine.proofs.DemandLaws.{Known}
use Rattle.machine.proofs.Kept.{TickLaw, AskLaw}
use Rattle.machine.proofs.Kept.{tick_law, ask_law}
use Rattle.machine.proofs.StepLaws.{if_cases, refusal_some, refusal_small, step_law, refused_step, ready_running}
use Rattle.machine.specs.RunLaws.{Ending, Ran}
use Rattle.machine.proofs.RunLaws.{run_law}

-- ---- What a step of the rules does to store and globals
abbrev set_by : Deed → List Cell → List Cell
set_by (captures k K) gs = gs
set_by (sets g v) gs = set gs g v
set_by other gs = gs

record Tells (d : Deed) (m m' : M) : Type 0 where
  grown : (k : ℕ) (K : List Frame) → Stored m'.store k K → Stored m.store k K ⊎ (d ≡ captures k K)
  keeps : (k : ℕ) (K : List Frame) → Stored m.store k K → Stored m'.store k K
  stands : (k : ℕ) (K : List Frame) → d ≡ captures k K → Stored m'.store k K
  some : (k : ℕ) → d ≡ captures k [] → ⊥
  globals : m'.globals ≡ set_by d m.globals

sets_no : {A : Type 0} (g : ℕ) (v : Cell) (k : ℕ) (K : List Frame) → sets g v ≡ captures k K → A
sets_no g v k K q = let z : ◌≡◌ {A = ℕ} 0 1 = cc in absurd (omega arith)

other_no : {A : Type 0} (k : ℕ) (K : List Frame) → other ≡ captures k K → A
other_no k K q = let z : ◌≡◌ {A = ℕ} 0 1 = cc in absurd (omega arith)

-- the store is the same
still : (m m' : M) → m'.store ≡ m.store → m'.globals ≡ m.globals → Tells other m m'
still m m' q g = record { grown = λ k K h. inl (rw q at h); keeps = λ k K h. rw q h; stands = λ k K e. other_no k K e; some = λ k e. other_no k [] e; globals = g }

set_tells : (g : ℕ) (v : Cell) (m m' : M) → m'.store ≡ m.store → m'.globals ≡ set m.globals g v → Tells (sets g v) m m'
set_tells g v m m' q e = record { grown = λ k K h. inl (rw q at h); keeps = λ k K h. rw q h; stands = λ k K e. sets_no g v k K e; some = λ k e. sets_no g v k [] e; globals = e }

abbrev NoContinuation : Object → Type 0
NoContinuation o = (K : List Frame) → o ≡ continuation K → ⊥

no_continuation : (o : Object) (j : ℕ) (K : List Frame) → NoContinuation o → Stored (o ∷ []) j K → ⊥
no_continuation o j K n h = n K (at_one o (continuation K) j h).1

list_no : (vs : List Cell) → NoContinuation (list vs)
list_no vs K q = let z : ◌≡◌ {A = ℕ} 0 1 = cc in omega arith

closure_no : (c : ℕ) (us : List Cell) → NoContinuation (closure c us)
closure_no c us K q = let z : ◌≡◌ {A = ℕ} 0 1 = cc in omega arith

made_grown : (o : Object) (s : List Object) (k : ℕ) (K : List Frame) → NoContinuation o → Stored (s ++ (o ∷ [])) k K → Stored s k K
made_grown o s k K n h = ⊎_elim (λ w. w) (λ w. absurd (no_continuation o w.0 K n w.2)) (at_append s (o ∷ []) k (continuation K) h)

passed_grown : (n v : ℕ) (args given : List Cell) (s s' : List Object) → Passed n v args given s s' → (k : ℕ) (K : List Frame) → Stored s' k K → Stored s k K
passed_grown n v args given s s' w k K h = ⊎_elim (λ e. rw e.2 at h) (λ e. made_grown (list (drop n args)) s k K (list_no _) (rw e.2 at h)) w

passed_keeps : (n v : ℕ) (args given : List Cell) (s s' : List Object) → Passed n v args given s s' → (k : ℕ) (K : List Frame) → Stored s k K → Stored s' k K
passed_keeps n v args given s s' w k K h = ⊎_elim (λ e. rw e.2 h) (λ e. rw e.2 (at_keeps s (list (drop n args) ∷ []) k (continuation K) h)) w

operates_tells : (P : Program) (m : M) (e : Cell) (args : List Cell) (r : Result) (F : List Frame) (d : Deed) (m' : M) → Operates P m e args r F d m' → Tells d m m'
operates_tells P m e args r F _ _ (handled K below handler new given s c p n) = record {
  grown = λ k L h. ⊎_elim inl (λ x. let w = at_one (continuation K) (continuation L) x.0 x.2 in let a : K ≡ L = by K L w.1 in let b : k ≡ used m.store = omega (arith, x.1, w.0) in inr (rw (a, b) refl)) (at_append m.store (continuation K ∷ []) k (continuation L) (passed_grown (count_of P e) (mark_of P e) args given _ s p k L h));
  keeps = λ k L h. passed_keeps (count_of P e) (mark_of P e) args given _ s p k L (at_keeps m.store (continuation K ∷ []) k (continuation L) h);
  stands = λ k L q. let a : used m.store ≡ k = cc in let b : K ≡ L = cc in rw (← a, ← b) (passed_keeps (count_of P e) (mark_of P e) args given _ s p (used m.store) K (at_new m.store (continuation K) []));
  some = λ k q. let b : K ≡ [] = cc in let x = c.captured in let z : ◌≡◌ {A = ℕ} 0 1 = cc in omega arith;
  globals = refl;
}
  where
    by : (K L : List Frame) → continuation K ≡ continuation L → K ≡ L
    by K L q = cc
operates_tells P m e args r F _ _ (nobody n) = still m _ refl refl

performs_tells : (P : Program) (m : M) (e : Cell) (args : List Cell) (F : List Frame) (d : Deed) (m' : M) → Performs P m e args F d m' → Tells d m m'
performs_tells P m e args F d m' w = ⊎_elim (λ x. operates_tells P m _ _ _ F d m' x.1) (λ x. operates_tells P m _ _ _ F d m' x.1.2) w

calls_tells : (P : Program) (past : List Deed) (m : M) (f : Cell) (args : List Cell) (kept F : List Frame) (d : Deed) (m' : M) → Calls P past m f args kept F d m' → Tells d m m'
calls_tells P past m f args kept F _ _ (begins c us given s t q w p) = record {
  grown = λ k K h. inl (passed_grown (code_of P c).params (code_of P c).variadic args given m.store s p k K h);
  keeps = passed_keeps (code_of P c).params (code_of P c).variadic args given m.store s p;
  stands = λ k K e. other_no k K e;
  some = λ k e. other_no k [] e;
  globals = refl;
}
calls_tells P past m f args kept F _ _ (asks_host t) = still m _ refl refl
calls_tells P past m f args kept F _ _ (as_effect t) = still m _ refl refl
calls_tells P past m f args kept F _ _ (resumes v top rest t q w) = still m _ refl refl
calls_tells P past m f args kept F d m' (unfit c us t q n x) = operates_tells P m _ _ _ F d m' x.2
calls_tells P past m f args kept F d m' (unfit_values K t q n x) = operates_tells P m _ _ _ F d m' x.2
calls_tells P past m f args kept F d m' (no_function n x) = operates_tells P m _ _ _ kept d m' x.2

returning_tells : (v : Cell) (F : List Frame) (m : M) → Tells other m (returning v F m)
returning_tells v [] m = still m _ refl refl
returning_tells v (f ∷ F) m = still m _ refl refl

ticks_tells : (P : Program) (ds : List Deed) (m : M) (d : Deed) (m' : M) → Ticks P ds m d m' → Tells d m m'
ticks_tells P ds m _ _ (stays r op x p l st a w) = still m _ refl refl
ticks_tells P ds m _ _ (makes r op x p l st o a w n) = record {
  grown = λ k K h. inl (made_grown o m.store k K n h);
  keeps = λ k K h. at_keeps m.store (o ∷ []) k (continuation K) h;
  stands = λ k K e. other_no k K e;
  some = λ k e. other_no k [] e;
  globals = refl;
}
ticks_tells P ds m _ _ (registers r t e st hs a q f w) = still m _ refl refl
ticks_tells P ds m d m' (no_effect r t v st a q n x) = operates_tells P m _ _ _ _ d m' x.2
ticks_tells P ds m _ _ (sets_global r x g v st a q w) = set_tells g v m _ refl refl
ticks_tells P ds m _ _ (returns r x v st a q) = returning_tells v r.below m
ticks_tells P ds m d m' (throws r op y n a t x) = operates_tells P m _ _ _ _ d m' x.2
ticks_tells P ds m d m' (calls r y a x) = calls_tells P ds m _ _ _ _ d m' x
ticks_tells P ds m d m' (tail_calls r y a x) = calls_tells P ds m _ _ _ _ d m' x
ticks_tells P ds m d m' (performs e st hs below q x) = performs_tells P m _ _ _ d m' x

replies_tells : (P : Program) (ds : List Deed) (m : M) (self : List Cell → Frame) (hs : List Cell) (below : List Frame) (r : CallbackReturn) (d : Deed) (m' : M) → Replies P ds m self hs below r d m' → Tells d m m'
replies_tells P ds m self hs below (call_with f args new) d m' w = calls_tells P ds m f args _ _ d m' w.2
replies_tells P ds m self hs below (perform e args) d m' w = performs_tells P m e args _ d m' w
replies_tells P ds m self hs below (tail_call f args) d m' w = calls_tells P ds m f args _ _ d m' w
replies_tells P ds m self hs below (tail_perform e args) d m' w = performs_tells P m e args _ d m' w
replies_tells P ds m self hs below (return_it v) d m' w = rw (w.0, w.1) (returning_tells v below m)
replies_tells P ds m self hs below (error_with v) d m' w = operates_tells P m _ _ _ _ d m' w
replies_tells P ds m self hs below (panic_with v) d m' w = operates_tells P m _ _ _ _ d m' w

asks_tells : (P : Program) (ds : List Deed) (m : M) (b : Bool) (q : Request) (d : Deed) (m' : M) (b' : Bool) (got : Cell) → Asks P ds m b q d m' b' got → Tells d m m'
asks_tells P ds m b (start f args) d m' b' got w = calls_tells P ds m f args _ _ d m' w.2
asks_tells P ds m b (answer word fuel r) d m' b' got w = replies_tells P ds m _ _ _ r d m' w.7
asks_tells P ds m b clear d m' b' got w = rw (w.0, w.1) (still m _ refl refl)
asks_tells P ds m b (text page v) d m' b' got w = rw (w.0, w.1) (still m m refl refl)
asks_tells P ds m b (bytes v) d m' b' got w = rw (w.0, w.1) (still m m refl refl)
asks_tells P ds m b (set_global g v) d m' b' got w = rw (w.0, w.1) (set_tells g v m _ refl refl)
asks_tells P ds m b (get_global g) d m' b' got w = rw (w.0, w.1) (still m m refl refl)
asks_tells P ds m b (set_builtin g v) d m' b' got w = rw (w.0, w.2) (still m _ refl refl)
asks_tells P ds m b (get_builtin g) d m' b' got w = rw (w.0, w.1) (still m m refl refl)

-- ---- What holds of the machine after the steps of the past
record Inv (past : List Deed) (m : M) : Type 0 where
  known : Known past m.store
  stands : (k : ℕ) (K : List Frame) → From past k K → Stored m.store k K
  globals : (g : ℕ) → g < 256 → get_or m.globals g null ≡ last_set g past
  size : length m.globals ≡ 256

set_law : (g : ℕ) (d : Deed) (gs : List Cell) (past : List Deed) → g < 256 → length gs ≡ 256 → get_or gs g null ≡ last_set g past → get_or (set_by d gs) g null ≡ last_set g (d ∷ past)
set_law g (captures k K) gs past h n e = e
set_law g (sets x v) gs past h n e = by (eqb g x) refl
  where
    by : (b : Bool) → eqb g x ≡ b → get_or (set gs x v) g null ≡ if? b v (last_set g past)
    by true q = let i : g ≡ x = eqb-true g x q in rw (← i) (get_or-set_same gs g v null (omega arith))
    by false q = get_or-set_other gs x g v null (eqb-false g x q) ∙ e
set_law g other gs past h n e = e

set_size : (d : Deed) (gs : List Cell) → length (set_by d gs) ≡ length gs
set_size (captures k K) gs = refl
set_size (sets g v) gs = length-set gs g v
set_size other gs = refl

inv_step : (past : List Deed) (d : Deed) (m m' : M) → Inv past m → Tells d m m' → Inv (d ∷ past) m'
inv_step past d m m' i t = record {
  known = record {
    known = λ k K h. ⊎_elim (λ old. inr (i.known.known k K old)) inl (t.grown k K h);
    some = λ k w. ⊎_elim (t.some k) (i.known.some k) w;
  };
  stands = λ k K w. ⊎_elim (t.stands k K) (λ x. t.keeps k K (i.stands k K x)) w;
  globals = λ g h. rw t.globals (set_law g d m.globals past h i.size (i.globals g h));
  size = ap length t.globals ∙ set_size d m.globals ∙ i.size;
}

-- ---- Accepted and refused
judged : (z : Sizes) (d d' : Action) (m m' : M) → judge z d m ≡ does d' m' → (d ≡ d') × (m ≡ m')
unfolding judge
judged z d d' m m' h =
    by (ltb 16 (handlers_left d)) (ltb 256 (length m.frames)) (ltb z.live (frames_cost m.frames + result_cost m.result)) (ltb z.store (used m.store)) h
  where
    by : (a b c e : Bool) → if? a (stops 16) (if? b (stops 13) (if? c (stops 14) (if? e (stops 15) (does d m)))) ≡ does d' m' → (d ≡ d') × (m ≡ m')
    by true b c e h = let x : ◌≡◌ {A = ℕ} 0 1 = cc in absurd (omega arith)
    by false true c e h = let x : ◌≡◌ {A = ℕ} 0 1 = cc in absurd (omega arith)
    by false false true e h = let x : ◌≡◌ {A = ℕ} 0 1 = cc in absurd (omega arith)
    by false false false true h = let x : ◌≡◌ {A = ℕ} 0 1 = cc in absurd (omega arith)
    by false false false false h = (cc, cc)

-- What is accepted is the action, done.
accepts : (P : Program) (z : Sizes) (t : Taken) (m : M) (d : Action) (m' : M) → outcome P z t m ≡ does d m' → (t ≡ takes d) × (m' ≡ doing P d m)
unfolding outcome
accepts P z (takes x) m d m' h = let w = judged z x d (doing P x m) m' h in let e = w.0 in (ap takes e, sym w.1 ∙ ap (λ (y : Action). doing P y m) e)
accepts P z (refuses n) m d m' h = let x : ◌≡◌ {A = ℕ} 0 1 = cc in absurd (omega arith)

abbrev RefusedBy : ℕ → Type 0
RefusedBy n = (0 < n) × (n < 100)

-- A request that is not taken is refused with 5 or 11.
abbrev Small : Taken → Type 0
Small (takes d) = Unit {0}
Small (refuses n) = RefusedBy n

fit_small : (b : Bool) (d : Action) → Small (fit b d)
unfolding fit
fit_small b d = if_cases Small b _ _ (λ _. tt) (λ _. (omega arith, omega arith))

answer_small : (P : Program) (s : List Object) (self : List Cell → Frame) (hs : List Cell) (below : List Frame) (r : CallbackReturn) → Small (answer_action P s self hs below r)
unfolding answer_action
answer_small P s self hs below (call_with f args new) = fit_small _ _
answer_small P s self hs below (perform e args) = fit_small _ _
answer_small P s self hs below (tail_call f args) = fit_small _ _
answer_small P s self hs below (tail_perform e args) = fit_small _ _
answer_small P s self hs below (return_it v) = fit_small _ _
answer_small P s self hs below (error_with v) = fit_small _ _
answer_small P s self hs below (panic_with v) = fit_small _ _

answered_small : (P : Program) (s : List Object) (word : ℕ) (r : CallbackReturn) (F : List Frame) → Small (answered P s word r F)
unfolding answered
answered_small P s word r [] = (omega arith, omega arith)
answered_small P s word r (lucia c p l st hs ∷ below) = (omega arith, omega arith)
answered_small P s word r (host n w st hs ∷ below) = answer_small P s _ hs below r
answered_small P s word r (effect_callback e st hs ∷ below) = (omega arith, omega arith)

small_law : (P : Program) (q : Request) (w : World) → Small (request_action P q w)
unfolding request_action
small_law P (start f args) w = if_cases Small (idle w.machine.result w.machine.frames) _ _ (λ _. fit_small _ _) (λ _. (omega arith, omega arith))
small_law P (answer word fuel r) w = if_cases Small w.wait _ _ (λ _. answered_small P w.machine.store word r w.machine.frames) (λ _. (omega arith, omega arith))
small_law P clear w = tt
small_law P (text page v) w = fit_small _ _
small_law P (bytes v) w = fit_small _ _
small_law P (set_global g v) w = fit_small _ _
small_law P (get_global g) w = fit_small _ _
small_law P (set_builtin g v) w = fit_small _ _
small_law P (get_builtin g) w = fit_small _ _

judge_refuses : (z : Sizes) (d : Action) (m : M) (n : ℕ) → judge z d m ≡ stops n → RefusedBy n
unfolding judge
judge_refuses z d m n h =
    by (ltb 16 (handlers_left d)) (ltb 256 (length m.frames)) (ltb z.live (frames_cost m.frames + result_cost m.result)) (ltb z.store (used m.store)) h
  where
    by : (a b c e : Bool) → if? a (stops 16) (if? b (stops 13) (if? c (stops 14) (if? e (stops 15) (does d m)))) ≡ stops n → RefusedBy n
    by true b c e h = let q : 16 ≡ n = cc in (omega arith, omega arith)
    by false true c e h = let q : 13 ≡ n = cc in (omega arith, omega arith)
    by false false true e h = let q : 14 ≡ n = cc in (omega arith, omega arith)
    by false false false true h = let q : 15 ≡ n = cc in (omega arith, omega arith)
    by false false false false h = let x : ◌≡◌ {A = ℕ} 0 1 = cc in absurd (omega arith)

outcome_refuses : (P : Program) (z : Sizes) (t : Taken) (m : M) (n : ℕ) → Small t → outcome P z t m ≡ stops n → RefusedBy n
unfolding outcome
outcome_refuses P z (takes d) m n s h = judge_refuses z d (doing P d m) n h
outcome_refuses P z (refuses k) m n s h = let q : k ≡ n = cc in rw q at s

-- ---- A run
-- The steps of a trace from m, and what holds after them.
abbrev RunsAs : Program → List Deed → M → Trace → Type 0
RunsAs P ds m t = (now : List Deed) × Run P (steps_of t) ds m now (world_after t).machine × Inv now (world_after t).machine

-- However a step is charged and goes on in its slice, it leads where the rest of the run leads.
module _ (P : Program) (more : Fuel → ℕ → M → Trace) (ih : (ds : List Deed) (fuel : Fuel) (left : ℕ) (m : M) → Inv ds m → RunsAs P ds m (more fuel left m)) (ds : List Deed) (fuel : Fuel) (left : ℕ) (m : M) (i : Inv ds m) where
  charge_runs : (c : ℕ) → RunsAs P ds m (charge more fuel c m)
  unfolding charge steps_of world_after
  charge_runs c = by (should_continue f)
    where
      f : Fuel
      f = consume (consume fuel (pos c)) (pos 4)

      by : (b : Bool) → RunsAs P ds m (if? b (more f 64 m) (ends 101 nothing f (world m false 64)))
      by true = ih ds f 64 m i
      by false = (ds, (refl, refl), i)

  goes_runs : (p : Pace) → RunsAs P ds m (goes_on more fuel left m p)
  unfolding goes_on
  goes_runs free = ih ds fuel left m i
  goes_runs counted = by (eqb left 0)
    where
      by : (b : Bool) → RunsAs P ds m (if? b (charge more fuel 0 m) (more fuel (left - 1) m))
      by true = charge_runs _
      by false = ih ds fuel (left - 1) m i
  goes_runs closing = charge_runs _
  goes_runs failing = charge_runs _
  goes_runs alone = charge_runs _

run_runs : (P : Program) → TickLaw P → (z : Sizes) (t : ℕ) (ds : List Deed) (fuel : Fuel) (left : ℕ) (m : M) → Inv ds m
    → RunsAs P ds m (run P z t fuel left m)
unfolding run no_ticks tick steps_of world_after
run_runs P ticking z zero ds fuel left m i = by (turn_of m.result m.frames)
  where
    by : (u : Phase) → RunsAs P ds m (no_ticks fuel left u m)
    by is_done = (ds, (refl, refl), i)
    by is_host = (ds, (refl, refl), i)
    by is_ready = (ds, (refl, refl), i)
run_runs P ticking z (suc t) ds fuel left m i = by (run_runs P ticking z t) (turn_of m.result m.frames) refl (outcome P z (next_action P m m.frames) m) refl
  where
    by : ((ds : List Deed) (fuel : Fuel) (left : ℕ) (m : M) → Inv ds m → RunsAs P ds m (run P z t fuel left m)) → (u : Phase) → turn_of m.result m.frames ≡ u → (o : Outcome) → outcome P z (next_action P m m.frames) m ≡ o
        → RunsAs P ds m (tick (run P z t) fuel left u m o)
    by ih is_done u o q = (ds, (refl, refl), i)
    by ih is_host u o q = (ds, (refl, refl), i)
    by ih is_ready u (does a m') q =
        let e = accepts P z (next_action P m m.frames) m a m' q in
        let s : (d : Deed) × Ticks P ds m d m' = rw e.1 (ticking ds m i.known a e.0) in
        let r = goes_runs P (run P z t) ih (s.0 ∷ ds) fuel left m' (inv_step ds s.0 m m' i (ticks_tells P ds m s.0 m' s.1)) (pace_of a) in
        (r.0, (s.0, refl, ready_running m.result m.frames u, s.1, r.1), r.2)
    by ih is_ready u (stops n) q = (ds, (refl, refl), i)

-- What a turn of a run says, in words.
over_law : (r : Result) (F : List Frame) → turn_of r F ≡ is_done → (r ≡ running → ⊥) ⊎ (F ≡ [])
unfolding turn_of
over_law running [] q = inr refl
over_law running (lucia c p l s hs ∷ fs) q = let x : ◌≡◌ {A = ℕ} 0 1 = cc in absurd (omega arith)
over_law running (host n w s hs ∷ fs) q = let x : ◌≡◌ {A = ℕ} 0 1 = cc in absurd (omega arith)
over_law running (effect_callback e s hs ∷ fs) q = let x : ◌≡◌ {A = ℕ} 0 1 = cc in absurd (omega arith)
over_law (returned v) F q = inl (λ e. let x : ◌≡◌ {A = ℕ} 0 1 = cc in omega arith)
over_law (failed y) F q = inl (λ e. let x : ◌≡◌ {A = ℕ} 0 1 = cc in omega arith)
over_law (unhandled e vs) F q = inl (λ e. let x : ◌≡◌ {A = ℕ} 0 1 = cc in omega arith)

awaits_law : (r : Result) (F : List Frame) → turn_of r F ≡ is_host → (r ≡ running) × (n w : ℕ) × (st hs : List Cell) × (below : List Frame) × (F ≡ host n w st hs ∷ below)
unfolding turn_of
awaits_law running [] q = let x : ◌≡◌ {A = ℕ} 0 1 = cc in absurd (omega arith)
awaits_law running (lucia c p l s hs ∷ fs) q = let x : ◌≡◌ {A = ℕ} 0 1 = cc in absurd (omega arith)
awaits_law running (host n w s hs ∷ fs) q = (refl, n, w, s, hs, fs, refl)
awaits_law running (effect_callback e s hs ∷ fs) q = let x : ◌≡◌ {A = ℕ} 0 1 = cc in absurd (omega arith)
awaits_law (returned v) F q = let x : ◌≡◌ {A = ℕ} 0 1 = cc in absurd (omega arith)
awaits_law (failed y) F q = let x : ◌≡◌ {A = ℕ} 0 1 = cc in absurd (omega arith)
awaits_law (unhandled e vs) F q = let x : ◌≡◌ {A = ℕ} 0 1 = cc in absurd (omega arith)

ready_law : (m : M) → turn_of m.result m.frames ≡ is_ready → (Over m → ⊥) × (Awaits m → ⊥)
unfolding turn_of
ready_law m q = by m.result m.frames refl refl q
  where
    by : (r : Result) (F : List Frame) → m.result ≡ r → m.frames ≡ F → turn_of r F ≡ is_ready → (Over m → ⊥) × (Awaits m → ⊥)
    by running [] a b q = let x : ◌≡◌ {A = ℕ} 0 1 = cc in absurd (omega arith)
    by running (lucia c p l s hs ∷ fs) a b q = ((λ o. ⊎_elim (λ n. n a) (λ e. let x : ◌≡◌ {A = ℕ} 0 1 = cc in omega arith) o), (λ w. let e = w.6 in let x : ◌≡◌ {A = ℕ} 0 1 = cc in omega arith))
    by running (host n w s hs ∷ fs) a b q = let x : ◌≡◌ {A = ℕ} 0 1 = cc in absurd (omega arith)
    by running (effect_callback e s hs ∷ fs) a b q = ((λ o. ⊎_elim (λ n. n a) (λ e. let x : ◌≡◌ {A = ℕ} 0 1 = cc in omega arith) o), (λ w. let e = w.6 in let x : ◌≡◌ {A = ℕ} 0 1 = cc in omega arith))
    by (returned v) F a b q = let x : ◌≡◌ {A = ℕ} 0 1 = cc in absurd (omega arith)
    by (failed y) F a b q = let x : ◌≡◌ {A = ℕ} 0 1 = cc in absurd (omega arith)
    by (unhandled e vs) F a b q = let x : ◌≡◌ {A = ℕ} 0 1 = cc in absurd (omega arith)

-- Fuel is tested after a step, never before.
spent_stepped : (P : Program) (z : Sizes) (t : ℕ) (fuel : Fuel) (left : ℕ) (m : M) → answer_of (run P z t fuel left m) ≡ 101 → 0 < length (steps_of (run P z t fuel left m))
unfolding run no_ticks tick steps_of answer_of
spent_stepped P z zero fuel left m h = by (turn_of m.result m.frames) h
  where
    by : (u : Phase) → answer_of (no_ticks fuel left u m) ≡ 101 → 0 < length (steps_of (no_ticks fuel left u m))
    by is_done h = absurd (omega (arith, h))
    by is_host h = absurd (omega (arith, h))
    by is_ready h = absurd (omega (arith, h))
spent_stepped P z (suc t) fuel left m h = by (turn_of m.result m.frames) refl (outcome P z (next_action P m m.frames) m) refl h
  where
    by : (u : Phase) → turn_of m.result m.frames ≡ u → (o : Outcome) → outcome P z (next_action P m m.frames) m ≡ o → answer_of (tick (run P z t) fuel left u m o) ≡ 101 → 0 < length (steps_of (tick (run P z t) fuel left u m o))
    by is_done g o e h = absurd (omega (arith, h))
    by is_host g o e h = absurd (omega (arith, h))
    by is_ready g (does d m') e h = omega arith
    by is_ready g (stops n) e h = absurd (omega (arith, h, refusal_small n (refused_step P z _ m n (rw e at (step_law P z m g)))))

ends_law : (P : Program) (z : Sizes) (ticks : ℕ) (t : Trace) → (answer_of t ≡ 101 → 0 < length (steps_of t)) → Ending P z ticks t → Ends P z ticks t (world_after t).machine
ends_law P z ticks t k (Ending.done a u) = done a (over_law _ _ u)
ends_law P z ticks t k (Ending.out_of_fuel a c) = spent a (k a) c
ends_law P z ticks t k (Ending.paused a u n) = let r = ready_law (world_after t).machine u in paused a n r.0 r.1
ends_law P z ticks t k (Ending.awaiting a u) = awaits a (awaits_law _ _ u)
ends_law P z ticks t k (Ending.refused a u n o) =
    let r = ready_law (world_after t).machine u in
    Ends.refused (refusal_some _ a) (omega (arith, refusal_small _ a)) n r.0 r.1 o

-- ---- The calls in turn
-- A request that is done has no more steps, and is answered as it must be.
request_ends : (P : Program) (q : Request) (w : World) (m : M)
    → (steps_of (end_of P q w m) ≡ []) × ((world_after (end_of P q w m)).machine ≡ m) × Accepts P q (answer_of (end_of P q w m))
unfolding end_of request_world steps_of world_after answer_of
request_ends P (start f args) w m = (refl, refl, refl)
request_ends P (answer word fuel r) w m = (refl, refl, by (should_continue (consume fuel (pos 4))))
  where
    by : (b : Bool) → (◌≡◌ {A = ℕ} (if? b 104 101) 101) ⊎ (◌≡◌ {A = ℕ} (if? b 104 101) 104)
    by true = inr refl
    by false = inl refl
request_ends P clear w m = (refl, refl, refl)
request_ends P (text page v) w m = (refl, refl, refl)
request_ends P (bytes v) w m = (refl, refl, refl)
request_ends P (set_global g v) w m = (refl, refl, refl)
request_ends P (get_global g) w m = (refl, refl, refl)
request_ends P (set_builtin g v) w m = (refl, refl, refl)
request_ends P (get_builtin g) w m = (refl, refl, refl)

-- A call, and what holds after it.
abbrev Turned : Program → Sizes → Call → List Deed → World → Trace → Type 0
Turned P z c ds w t = (now : List Deed) × Turn P z c ds w now t × Inv now (world_after t).machine

-- A run, given what the rules say of its ticks, its steps and how it ends.
run_turn : (P : Program) (z : Sizes) (t : ℕ) (fuel : Fuel) (ds : List Deed) (w : World)
    → RunsAs P ds w.machine (run P z t fuel w.slice w.machine)
    → Ran P z t w.machine (run P z t fuel w.slice w.machine)
    → Inv ds w.machine → Turned P z (runs t fuel) ds w (call_of P z (runs t fuel) w)
unfolding call_of steps_of world_after answer_of
run_turn P z t fuel ds w s r i = by w.wait refl
  where
    by : (b : Bool) → w.wait ≡ b
        → Turned P z (runs t fuel) ds w (if? b (ends 11 nothing fuel w) (run P z t fuel w.slice w.machine))
    by true q = (ds, inl (q, refl, (refl, refl, refl)), i)
    by false q = (
      s.0,
      inr (
        q,
        r.ticks,
        s.1,
        ends_law P z t _ (spent_stepped P z t fuel w.slice w.machine) r.ending,
        r.wait,
      ),
      s.2,
    )

-- A request, given what the rules say of it.
ask_turn : (P : Program) → AskLaw P → (z : Sizes) (q : Request) (ds : List Deed) (w : World) → Inv ds w.machine
    → Turned P z (asks q) ds w (asked P q w (outcome P z (request_action P q w) w.machine))
unfolding asked steps_of world_after answer_of given_of
ask_turn P asking z q ds w i = by (outcome P z (request_action P q w) w.machine) refl
  where
    by : (o : Outcome) → outcome P z (request_action P q w) w.machine ≡ o → Turned P z (asks q) ds w (asked P q w o)
    by (does a m) e =
        let y = accepts P z (request_action P q w) w.machine a m e in
        let s : (d : Deed) × Asks P ds w.machine w.wait q d m (world_after (end_of P q w m)).wait
        (given_of (end_of P q w m)).value = rw y.1 (asking ds q w i.known a y.0) in
        let r = request_ends P q w m in
        let k = asks_tells P ds w.machine w.wait q s.0 m _ _ s.1 in (
          s.0 ∷ ds,
          inr (r.2, ap (λ (l : List _). suc (length l)) r.0, s.0, refl, rw r.1 s.1),
          rw r.1 (inv_step ds s.0 w.machine m i k),
        )
    by (stops n) e =
        let r = outcome_refuses P z (request_action P q w) w.machine n (small_law P q w) e in
        (ds, inl (r.0, r.1, (refl, refl, refl)), i)

-- A load that is not accepted.
load_turn : (P : Program) (z : Sizes) (image : List ℕ) (ds : List Deed) (w : World) → Inv ds w.machine
    → RefusedLoad z (loads image) → Turned P z (loads image) ds w (load_trace w (load image z))
unfolding load_trace steps_of world_after
load_turn P z image ds w i h = by (load image z) refl
  where
    by : (a : Answer Program) → load image z ≡ a → Turned P z (loads image) ds w (load_trace w a)
    by (refused n) e = (ds, (refl, refl, refl), i)
    by (accepted Q) e = absurd (h Q e)

-- Any call but an accepted load.
abbrev TurnLaw : Program → Type 0
TurnLaw P = (z : Sizes) (c : Call) (ds : List Deed) (w : World) → Inv ds w.machine → RefusedLoad z c
    → Turned P z c ds w (call_of P z c w)

call_turn : (P : Program) → TickLaw P → AskLaw P → TurnLaw P
unfolding call_of
call_turn P ticking asking z (runs t fuel) ds w i h =
    run_turn P z t fuel ds w (run_runs P ticking z t ds fuel w.slice w.machine i)
    (run_law P z t fuel w.slice w.machine) i
call_turn P ticking asking z (asks q) ds w i h = ask_turn P asking z q ds w i
call_turn P ticking asking z (loads image) ds w i h = load_turn P z image ds w i h

calls_turn : (P : Program) → TurnLaw P → (cs : List Lent) (ds : List Deed) (w : World) → Inv ds w.machine
    → NoLoads cs
    → (now : List Deed) × InTurn P cs ds w now (calls_of P cs w).machine × Inv now (calls_of P cs w).machine
unfolding calls_of
calls_turn P turning [] ds w i h = (ds, (refl, refl), i)
calls_turn P turning (c ∷ cs) ds w i h =
    let a = turning c.sizes c.call ds w i h.0 in
    let b = calls_turn P turning cs a.0 (world_after (call_of P c.sizes c.call w)) a.2 h.1 in
    (b.0, (a.0, a.1, b.1), b.2)

inv_loaded : (P : Program) → Inv [] (loaded_machine P)
unfolding loaded_machine
inv_loaded P = record { known = record { known = λ k K h. absurd (no_continuation _ k K (closure_no _ _) h); some = λ k w. w }; stands = λ k K w. absurd w; globals = λ g h. get_or-replicate 256 g null null h; size = length-replicate 256 null }

-- What a load leaves.
starts_law : (P : Program) → ((loaded P).machine ≡ fresh (length (code_of P 0).captures)) × ((loaded P).wait ≡ false)
unfolding loaded_machine
starts_law P = (refl, refl)

-- Demand 3, of every list of calls from the loaded machine.
pub demand3 : (P : Program) (cs : List Lent) → NoLoads cs → Demand3 P cs (calls_of P cs (loaded P)).machine
demand3 P cs h =
    let t = calls_turn P (call_turn P (tick_law P) (ask_law P)) cs [] (loaded P) (inv_loaded P) h in
    record {
      deeds = t.0;
      starts = starts_law P;
      turns = t.1;
      continuations = t.2.known.known;
      captures = t.2.stands;
      globals = t.2.globals;
    }
