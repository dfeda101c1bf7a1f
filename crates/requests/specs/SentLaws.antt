-- What is sent, as a call: its trace by what it comes to, and the machine's own call where it is a request.
use Rattle.std.specs.Prelude.{◌≡◌, List, [], ◌∷◌, Bool, ℕ, pos, eqb}
use Rattle.std.proofs.Math.Path.{refl, sym, ap}
use Rattle.std.proofs.Common.{subst, ◌∙◌}
use Rattle.std.proofs.Math.Bool.{true, false}
use Rattle.cells.specs.Cells.{cells}
use Rattle.cells.specs.declared.Cell.{Cell}
use Rattle.fuel.specs.Fuels.{consume, should_continue}
use Rattle.fuel.specs.declared.Fuel.{Fuel}
use Rattle.image.specs.Records.{if?, both, Answer, refused, accepted}
use Rattle.std.proofs.lemmas.Bool.{false≢true}
use Rattle.machine.specs.Values.{Program}
use Rattle.machine.specs.Machine.{M}
use Rattle.machine.specs.Opcodes.{Action, calls, Taken}
use Rattle.machine.specs.Calls.{Sizes, Outcome, does, stops, outcome, World, world, Step, Trace, steps, ends, nothing, no_fuel, steps_of, answer_of, fuel_after, world_after, CallbackReturn, Request, start, answer, fit, idle, request_action, request_world, end_of, fuel_of, asked, asks, call_of}
use Rattle.machine.proofs.StepLaws.{if_cases}
use Rattle.machine.specs.Refusals.{among, Only}
use Rattle.machine.proofs.Refusals.{judge_only}
use Rattle.machine.proofs.RequestRefusals.{answer_refusals}
use Rattle.requests.specs.Sent.{Sent, starting, answering, in_turn, whole, unused, kind_of, return_of, answer_with, request_of, asking, sent_outcome, tracing, sent_trace}
use Rattle.requests.specs.Returned.{called_fits}

-- a start is lent no fuel
abbrev pub Lent : Fuel → Sent → Type 0
Lent fuel (starting f args) = fuel ≡ no_fuel
Lent fuel (answering kind word v args handlers) = Unit {0}

-- the number and the fuel of what is done
abbrev pub done_code : Fuel → Sent → ℕ
done_code fuel (starting f args) = 0
done_code fuel (answering kind word v args handlers) = if? (should_continue (consume fuel (pos 4))) 104 101

abbrev pub done_fuel : Fuel → Sent → Fuel
done_fuel fuel (starting f args) = no_fuel
done_fuel fuel (answering kind word v args handlers) = consume fuel (pos 4)

abbrev pub one_step : World → Action → M → Step
one_step w d m = record { before = w.machine; action = d; after = m }

-- the trace by what is sent comes to: one step and the end of the call, or a refusal that leaves fuel and world
abbrev pub trace_by : Fuel → Sent → World → Outcome → Trace
trace_by fuel s w (does d m) = steps (one_step w d m) (ends (done_code fuel s) nothing (done_fuel fuel s) (world m false 64))
trace_by fuel s w (stops n) = ends n nothing fuel w

pub record Traced (fuel : Fuel) (s : Sent) (w : World) (d : Action) (m : M) (t : Trace) : Type 0 where
  pub answer : answer_of t ≡ done_code fuel s
  pub left : fuel_after t ≡ done_fuel fuel s
  pub world : world_after t ≡ world m false 64
  pub steps : steps_of t ≡ one_step w d m ∷ []

-- the numbers that refuse what is sent
abbrev pub refusals : List ℕ
refusals = 11 ∷ 5 ∷ 16 ∷ 13 ∷ 14 ∷ 15 ∷ []

-- what is no answer of its kind is refused with 5
abbrev Five : Answer CallbackReturn → Type 0
Five (refused n) = n ≡ 5
Five (accepted r) = Unit {0}

unused_five : (vs : List Cell) (r : CallbackReturn) → Five (unused vs r)
unfolding unused
unused_five [] r = tt
unused_five (v ∷ vs) r = refl

return_five : (kind : ℕ) (v : Cell) (args handlers : List ℕ) → Five (return_of kind v args handlers)
unfolding return_of kind_of
return_five kind v args handlers =
    if_cases Five (both (whole args) (whole handlers)) _ _ (λ _.
    if_cases Five (eqb kind 0) _ _ (λ _. tt) (λ _.
    if_cases Five (eqb kind 1) _ _ (λ _. unused_five _ _) (λ _.
    if_cases Five (eqb kind 2) _ _ (λ _. unused_five _ _) (λ _.
    if_cases Five (eqb kind 3) _ _ (λ _. unused_five _ _) (λ _.
    if_cases Five (eqb kind 4) _ _ (λ _. unused_five _ _) (λ _.
    if_cases Five (eqb kind 5) _ _ (λ _. unused_five _ _) (λ _.
    if_cases Five (eqb kind 6) _ _ (λ _. unused_five _ _) (λ _. refl)))))))) (λ _. refl)

module _ (P : Program) (z : Sizes) (w : World) where
  -- ---- What refuses it
  start_only : (f : Cell) (args : List Cell) → Only refusals (outcome P z (request_action P (start f args) w) w.machine)
  unfolding request_action fit outcome
  start_only f args = if_cases (λ (t : Taken). Only refusals (outcome P z t w.machine)) (idle w.machine.result w.machine.frames) _ _ (λ _. by (called_fits P w.machine.store f args 0) (calls f args [])) (λ _. refl)
    where
      by : (b : Bool) (d : Action) → Only refusals (outcome P z (fit b d) w.machine)
      by true d = judge_only refusals z d _ (λ _. refl) (λ _. refl) (λ _. refl) (λ _. refl)
      by false d = refl

  answer_only : (word : ℕ) (a : Answer CallbackReturn) → Five a → Only refusals (asking P z w (answer_with word no_fuel a))
  unfolding asking answer_with
  answer_only word (refused n) e = rw e refl
  answer_only word (accepted r) e = answer_refusals P z w word no_fuel r

  pub sent_refusals : (s : Sent) → Only refusals (sent_outcome P z s w)
  unfolding sent_outcome request_of asking
  sent_refusals s = if_cases (Only refusals) (in_turn s w) _ _ (λ _. by s) (λ _. refl)
    where
      by : (s : Sent) → Only refusals (asking P z w (request_of no_fuel s))
      by (starting f args) = if_cases (λ (a : Answer Request). Only refusals (asking P z w a)) (whole args) _ _ (λ _. start_only f (cells args)) (λ _. refl)
      by (answering kind word v args handlers) = answer_only word _ (return_five kind v args handlers)

  -- ---- Its trace
  started : (f : Cell) (args : List ℕ) (o : Outcome) → asked P (start f (cells args)) w o ≡ trace_by no_fuel (starting f args) w o
  unfolding asked end_of request_world fuel_of
  started f args (does d m) = refl
  started f args (stops n) = refl

  replied : (fuel : Fuel) (kind word : ℕ) (v : Cell) (args handlers : List ℕ) (r : CallbackReturn) (o : Outcome) → asked P (answer word fuel r) w o ≡ trace_by fuel (answering kind word v args handlers) w o
  unfolding asked end_of request_world fuel_of
  replied fuel kind word v args handlers r (does d m) = refl
  replied fuel kind word v args handlers r (stops n) = refl

  pub sent_trace_lem : (fuel : Fuel) (s : Sent) → Lent fuel s → sent_trace P z fuel s w ≡ trace_by fuel s w (sent_outcome P z s w)
  unfolding sent_trace sent_outcome request_of tracing asking call_of answer_with request_action
  sent_trace_lem fuel (starting f args) l = rw l (by (in_turn (starting f args) w) (whole args))
    where
      by : (b c : Bool) → if? b (tracing P z no_fuel w (if? c (accepted (start f (cells args))) (refused 5))) (ends 11 nothing no_fuel w)
          ≡ trace_by no_fuel (starting f args) w (if? b (asking P z w (if? c (accepted (start f (cells args))) (refused 5))) (stops 11))
      by true true = started f args _
      by true false = refl
      by false c = refl
  sent_trace_lem fuel (answering kind word v args handlers) l = by (in_turn (answering kind word v args handlers) w) (return_of kind v args handlers)
    where
      by : (b : Bool) (a : Answer CallbackReturn) → if? b (tracing P z fuel w (answer_with word fuel a)) (ends 11 nothing fuel w)
          ≡ trace_by fuel (answering kind word v args handlers) w (if? b (asking P z w (answer_with word no_fuel a)) (stops 11))
      by true (accepted r) = replied fuel kind word v args handlers r _
      by true (refused n) = refl
      by false a = refl

  -- what is refused ends at once, with a number that is not 0
  pub sent_stops : (fuel : Fuel) (s : Sent) {n : ℕ} → Lent fuel s → sent_outcome P z s w ≡ stops n → (sent_trace P z fuel s w ≡ ends n nothing fuel w) × (n ≡ 0 → ⊥)
  sent_stops fuel s {n} l e = (sent_trace_lem fuel s l ∙ ap (trace_by fuel s w) e, λ i. let k : among n refusals ≡ true = rw e at (sent_refusals s) in false≢true (rw i at k))

  -- what is done is one step
  pub sent_does : (fuel : Fuel) (s : Sent) {d : Action} {m : M} → Lent fuel s → sent_outcome P z s w ≡ does d m → Traced fuel s w d m (sent_trace P z fuel s w)
  unfolding steps_of answer_of fuel_after world_after
  sent_does fuel s {d} {m} l e = rw (sent_trace_lem fuel s l ∙ ap (trace_by fuel s w) e) (record { answer = refl; left = refl; world = refl; steps = refl })

  -- ---- As a call of the machine
  -- a request that is out of its turn is refused with 11
  abbrev Late : Fuel → Answer Request → Type 0
  Late fuel (refused n) = Unit {0}
  Late fuel (accepted q) = call_of P z (asks q) w ≡ ends 11 nothing fuel w

  late : (fuel : Fuel) (s : Sent) → Lent fuel s → in_turn s w ≡ false → Late fuel (request_of fuel s)
  unfolding in_turn request_of answer_with call_of request_action outcome asked fuel_of
  late fuel (starting f args) l t = by (whole args)
    where
      by : (b : Bool) → Late fuel (if? b (accepted (start f (cells args))) (refused 5))
      by true = rw (t, l) refl
      by false = tt
  late fuel (answering kind word v args handlers) l t = by (return_of kind v args handlers)
    where
      by : (a : Answer CallbackReturn) → Late fuel (answer_with word fuel a)
      by (refused n) = tt
      by (accepted r) = rw t refl

  pub sent_call : (fuel : Fuel) (s : Sent) {q : Request} → Lent fuel s → request_of fuel s ≡ accepted q → sent_trace P z fuel s w ≡ call_of P z (asks q) w
  unfolding sent_trace tracing
  sent_call fuel s {q} l e = by (in_turn s w) refl
    where
      by : (b : Bool) → in_turn s w ≡ b → if? b (tracing P z fuel w (request_of fuel s)) (ends 11 nothing fuel w) ≡ call_of P z (asks q) w
      by true t = ap (tracing P z fuel w) e
      by false t = sym (subst (Late fuel) e (late fuel s l t))

  -- what is no request does nothing
  pub sent_none : (fuel : Fuel) (s : Sent) {n : ℕ} → request_of fuel s ≡ refused n → (steps_of (sent_trace P z fuel s w) ≡ []) × (world_after (sent_trace P z fuel s w) ≡ w)
  unfolding sent_trace tracing steps_of world_after
  sent_none fuel s {n} e = rw e (by (in_turn s w))
    where
      by : (b : Bool) → (steps_of (if? b (ends n nothing fuel w) (ends 11 nothing fuel w)) ≡ []) × (world_after (if? b (ends n nothing fuel w) (ends 11 nothing fuel w)) ≡ w)
      by true = (refl, refl)
      by false = (refl, refl)
