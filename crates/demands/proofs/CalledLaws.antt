-- What the contracts allow is what is claimed of each call, and the next call finds the world that the machine's definition leaves.
use Rattle.std.specs.Prelude.{◌≡◌, ◌⊎◌, Result, Ok, Err, Bool, true, false, ℕ, ◌+◌, ◌/◌, ◌≤◌, min, pos, take, ltb}
use Rattle.std.proofs.Math.Path.{refl, sym, ap}
use Rattle.std.proofs.Common.{◌∙◌, inl, inr, ⊎_elim, arith, length-take, eq-eqb}
use mathlib.Core.List.{List, []}
use Rattle.std.proofs.Math.ListN.{length}
use Rattle.cells.specs.Le.{Bytes}
use Rattle.cells.specs.Cells.{cells}
use Rattle.cells.specs.CellsLaws.{length_cells}
use Rattle.cells.specs.declared.Cell.{Cell}
use Rattle.fuel.specs.Fuels.{consume, should_continue}
use Rattle.fuel.specs.Loans.{read, write}
use Rattle.fuel.specs.LoanLaws.{write_read}
use Rattle.fuel.specs.declared.Fuel.{Fuel}
use Rattle.refusals.specs.declared.Refusal.{Refusal as Refused}
use Rattle.refusals.specs.Refusals.{number}
use Rattle.image.specs.Records.{if?, Answer, refused, accepted}
use Rattle.image.specs.Image.{parse}
use Rattle.image.proofs.Accepted.{accepted_fine}
use Rattle.machine.specs.Values.{Program}
use Rattle.machine.specs.Machine.{M, frames_cost, result_cost, used}
use Rattle.machine.specs.Opcodes.{goes, doing, Taken, takes, refuses}
use Rattle.machine.specs.Calls.{Sizes, handlers_left, Outcome, does, stops, judge, outcome, World, world, Step, Given, nothing, no_fuel, Trace, ends, steps_of, answer_of, given_of, fuel_after, world_after, CallbackReturn, Request, start, answer, clear, text, bytes, set_global, get_global, set_builtin, get_builtin, fit, request_action, request_world, end_of, fuel_of, asked, run, Call, runs, asks, loads, load, load_trace, call_of}
use Rattle.machine.specs.Demand.{RefusedLoad}
use Rattle.machine.specs.Form.{WorldFits}
use Rattle.machine.proofs.FormLaws.{form_law}
use Rattle.machine.specs.StepLaws.{Refusal, wrong_opcode, wrong_handle, few_values, many_frames, no_live, no_store, many_handlers}
use Rattle.machine.specs.RunLaws.{Ending, done, out_of_fuel, paused, awaiting, refused as refused_at}
use Rattle.machine.proofs.RunLaws.{run_law}
use Rattle.memory.specs.Layout.{Holds}
use Rattle.memory.proofs.Exact.{exact_out}
use Rattle.form.specs.Entry.{entry, held, held_answer, live_of, store_of}
use Rattle.requests.specs.Sent.{Sent, starting, answering, in_turn, whole, return_of, answer_with, request_of, tracing, sent_trace}
use Rattle.loans.specs.Loans.{fueled, with_fuel}
use Rattle.runs.specs.Ran.{RunDone, RunBy}
use Rattle.runs.specs.declared.Ran.{Ran}
use Rattle.turns.specs.Turned.{SentDone, AnswerDone, AnswerBy}
use Rattle.asks.specs.Asks.{cell_of, answer as answer_asked, given, Leaves, Asked, loading, load_answer, LoadLeft, Loaded}
use Rattle.asks.specs.declared.Got.{Got}
use Rattle.asks.specs.declared.Part.{Part}
use Rattle.asks.specs.Ready.{ready}
use Rattle.demands.specs.Called.{Memory, sizes, entered, Exported, lucia_load, lucia_start, lucia_run, lucia_answer, lucia_clear, lucia_text, lucia_bytes, lucia_set_global, lucia_get_global, lucia_set_builtin, lucia_get_builtin, Answered, call_for, asking, sending, with_loan, fuel_lent, answer_by, answer_for, refusal_of, Refuses, DoesAs, NoLoad}
use Rattle.demands.specs.CalledLaws.{Lengths, Finds, world_by, Called, Claimed}

-- ---- What the host sends with a start or an answer
-- a request is out of turn where what was sent is
late : (P : Program) (w : World) (fuel : Fuel) (s : Sent) (q : Request) → request_of fuel s ≡ accepted q → in_turn s w ≡ false → request_action P q w ≡ refuses 11
unfolding request_of answer_with in_turn request_action
late P w fuel (starting f args) q h e = by (whole args) h
  where
    by : (b : Bool) → if? b (accepted (start f (cells args))) (refused 5) ≡ accepted q → request_action P q w ≡ refuses 11
    by true h = let i : start f (cells args) ≡ q = cc in rw (← i, e) refl
    by false h = let x : ◌≡◌ {A = ℕ} 0 1 = cc in absurd (omega arith)
late P w fuel (answering kind word v args handlers) q h e = by (return_of kind v args handlers) h
  where
    by : (a : Answer CallbackReturn) → answer_with word fuel a ≡ accepted q → request_action P q w ≡ refuses 11
    by (accepted r) h = let i : answer word fuel r ≡ q = cc in rw (← i, e) refl
    by (refused n) h = let x : ◌≡◌ {A = ℕ} 0 1 = cc in absurd (omega arith)

-- where a request was sent, what it comes to is what the request does
sent_call : (P : Program) (z : Sizes) (w : World) (fuel : Fuel) (s : Sent) (q : Request) → request_of fuel s ≡ accepted q → fuel_of q ≡ fuel → sent_trace P z fuel s w ≡ call_of P z (asks q) w
unfolding sent_trace tracing call_of asked outcome
sent_call P z w fuel s q h f = by (in_turn s w) refl
  where
    by : (b : Bool) → in_turn s w ≡ b → if? b (tracing P z fuel w (request_of fuel s)) (ends 11 nothing fuel w) ≡ call_of P z (asks q) w
    by true e = ap (tracing P z fuel w) h
    by false e = rw (late P w fuel s q h e, f) refl

-- where none was, it is refused with its number or, out of turn, with 11
sent_none : (P : Program) (z : Sizes) (w : World) (fuel : Fuel) (s : Sent) (k : ℕ) → request_of fuel s ≡ refused k
    → sent_trace P z fuel s w ≡ ends (if? (in_turn s w) k 11) nothing fuel w
unfolding sent_trace tracing
sent_none P z w fuel s k h = by (in_turn s w)
  where
    by : (b : Bool) → if? b (tracing P z fuel w (request_of fuel s)) (ends 11 nothing fuel w) ≡ ends (if? b k 11) nothing fuel w
    by true = ap (tracing P z fuel w) h
    by false = refl

-- the fuel that a request brings is that of the loan; a start brings none
start_fuel : (f : Cell) (args : List ℕ) (q : Request) → request_of no_fuel (starting f args) ≡ accepted q → fuel_of q ≡ no_fuel
unfolding request_of fuel_of
start_fuel f args q h = by (whole args) h
  where
    by : (b : Bool) → if? b (accepted (start f (cells args))) (refused 5) ≡ accepted q → fuel_of q ≡ no_fuel
    by true h = let i : start f (cells args) ≡ q = cc in rw (← i) refl
    by false h = let x : ◌≡◌ {A = ℕ} 0 1 = cc in absurd (omega arith)

answer_fuel : (fuel : Fuel) (kind word : ℕ) (v : Cell) (args handlers : List ℕ) (q : Request) → request_of fuel (answering kind word v args handlers) ≡ accepted q → fuel_of q ≡ fuel
unfolding request_of answer_with fuel_of
answer_fuel fuel kind word v args handlers q h = by (return_of kind v args handlers) h
  where
    by : (a : Answer CallbackReturn) → answer_with word fuel a ≡ accepted q → fuel_of q ≡ fuel
    by (accepted r) h = let i : answer word fuel r ≡ q = cc in rw (← i) refl
    by (refused n) h = let x : ◌≡◌ {A = ℕ} 0 1 = cc in absurd (omega arith)

-- ---- Requests
-- no step, and nothing given
abbrev Nothing : Trace → Type 0
Nothing t = (steps_of t ≡ []) × (given_of t ≡ nothing)

-- a request that is done answers 0 or a number from 100 on
ended : (P : Program) (q : Request) (w : World) (m : M) → (answer_of (end_of P q w m) ≡ 0) ⊎ (100 ≤ answer_of (end_of P q w m))
unfolding end_of answer_of
ended P (start f args) w m = inl refl
ended P (answer word fuel r) w m = inr (by (should_continue (consume fuel (pos 4))))
  where
    by : (b : Bool) → 100 ≤ if? b 104 101
    by true = omega arith
    by false = omega arith
ended P clear w m = inl refl
ended P (text page v) w m = inl refl
ended P (bytes v) w m = inl refl
ended P (set_global g v) w m = inl refl
ended P (get_global g) w m = inl refl
ended P (set_builtin g v) w m = inl refl
ended P (get_builtin g) w m = inl refl

-- so one whose answer is the number of a refusal does nothing
nothing_done : (P : Program) (z : Sizes) (q : Request) (w : World) → Refuses (asks q) (answer_of (call_of P z (asks q) w)) → Nothing (call_of P z (asks q) w)
unfolding Refuses call_of asked steps_of answer_of given_of
nothing_done P z q w h = by (outcome P z (request_action P q w) w.machine) h
  where
    by : (o : Outcome) → Refuses (asks q) (answer_of (asked P q w o)) → Nothing (asked P q w o)
    by (does d m) h = ⊎_elim (λ e. absurd (omega arith)) (λ e. absurd (omega arith)) (ended P q w m)
    by (stops n) h = (refl, refl)

-- one that reads leaves the world
reads : (P : Program) (z : Sizes) (q : Request) (w : World) (b : Bool) → request_action P q w ≡ fit b (goes w.machine.frames) → ((m : M) → world_after (end_of P q w m) ≡ world m w.wait w.slice) → world_after (call_of P z (asks q) w) ≡ w
unfolding call_of asked outcome fit judge doing world_after
reads P z q w b h e = ap (λ (t : Taken). world_after (asked P q w (outcome P z t w.machine))) h ∙ by b
  where
    judged : (a b c d : Bool) → world_after (asked P q w (if? a (stops 16) (if? b (stops 13) (if? c (stops 14) (if? d (stops 15) (does (goes w.machine.frames) w.machine)))))) ≡ w
    judged true b c d = refl
    judged false true c d = refl
    judged false false true d = refl
    judged false false false true = refl
    judged false false false false = e w.machine

    by : (b : Bool) → world_after (asked P q w (outcome P z (if? b (takes (goes w.machine.frames)) (refuses 5)) w.machine)) ≡ w
    by true = judged (ltb 16 (handlers_left (goes w.machine.frames))) (ltb 256 (length w.machine.frames)) (ltb z.live (frames_cost w.machine.frames + result_cost w.machine.result)) (ltb z.store (used w.machine.store))
    by false = refl

-- a run answers 11 only if it is out of turn
no_11 : (n : ℕ) → Refusal n → n ≡ 11 → ⊥
no_11 n wrong_opcode h = omega arith
no_11 n wrong_handle h = omega arith
no_11 n few_values h = omega arith
no_11 n many_frames h = omega arith
no_11 n no_live h = omega arith
no_11 n no_store h = omega arith
no_11 n many_handlers h = omega arith

out_of_turn_lem : (P : Program) (z : Sizes) (t : ℕ) (fuel : Fuel) (w : World) → answer_of (call_of P z (runs t fuel) w) ≡ 11 → w.wait ≡ true
unfolding call_of
out_of_turn_lem P z t fuel w h = by w.wait h
  where
    ran : (e : Ending P z t (run P z t fuel w.slice w.machine)) → answer_of (run P z t fuel w.slice w.machine) ≡ 11 → ⊥
    ran (done a u) h = omega arith
    ran (out_of_fuel a u) h = omega arith
    ran (paused a u n) h = omega arith
    ran (awaiting a u) h = omega arith
    ran (refused_at a u n o) h = no_11 _ a h

    by : (b : Bool) → answer_of (if? b (ends 11 nothing fuel w) (run P z t fuel w.slice w.machine)) ≡ 11 → b ≡ true
    by true h = refl
    by false h = absurd (ran (run_law P z t fuel w.slice w.machine).ending h)

out_of_turn_does : (P : Program) (z : Sizes) (t : ℕ) (fuel : Fuel) (w : World) → w.wait ≡ true → call_of P z (runs t fuel) w ≡ ends 11 nothing fuel w
unfolding call_of
out_of_turn_does P z t fuel w e = rw e refl

-- a call that does nothing and leaves its fuel answers as one that is refused
abbrev NothingAnswered : Type 0
NothingAnswered = (c : Exported) (t : Trace) → Nothing t → write (fuel_lent c) (fuel_after t) ≡ fuel_lent c
    → answer_for c t ≡ refusal_of c (answer_of t)

nothing_answered : NothingAnswered
unfolding refusal_of
nothing_answered c t n f = ap (λ (s : List Step). answer_by c (answer_of t) (length s) (given_of t) (write (fuel_lent c) (fuel_after t))) n.0
    ∙ ap (λ (g : Given). answer_by c (answer_of t) 0 g (write (fuel_lent c) (fuel_after t))) n.1
    ∙ ap (answer_by c (answer_of t) 0 nothing) f

no_loan : (s : List ℕ) (f : Fuel) → s ≡ [] → write s f ≡ s
unfolding write
no_loan s f e = rw e refl

-- a start, and setting a builtin, answer a number and nothing else
start_answers : (low high : ℕ) (args : List ℕ) (t : Trace) → answer_for (lucia_start low high args) t ≡ answer_of t
unfolding answer_by
start_answers low high args t = refl

set_builtin_answers : (g low high : ℕ) (t : Trace) → answer_for (lucia_set_builtin g low high) t ≡ answer_of t
unfolding answer_by
set_builtin_answers g low high t = refl

-- ---- Memory
same_memory : (m n : Memory) → (n.state ≡ m.state) × (n.live ≡ m.live) × (n.store ≡ m.store) → n ≡ m
same_memory m n h = λ j. record { state = h.0 j; live = h.1 j; store = h.2 j }

front : (k : ℕ) (s t : List ℕ) → length s ≡ length t → length (take k (cells s)) ≡ length (take k (cells t))
front k s t e = length-take k (cells s) ∙ ap (min k) (length_cells s ∙ ap (λ (x : ℕ). x / 16) e ∙ sym (length_cells t)) ∙ sym (length-take k (cells t))

pub same_sizes : (m n : Memory) → Lengths m n → sizes n ≡ sizes m
same_sizes m n h = let a = front 4096 n.live m.live h.1 in let b = front 65536 n.store m.store h.2 in λ j. record { live = a j; store = b j }

module _ {image : List ℕ} {P : Program} (parsed : parse P.image ≡ accepted P.codes) (same : P.image ≡ image) where
  -- a world in form that memory holds is the one that the next call finds
  pub finds : (w : World) (m : Memory) → length m.state ≡ 8256 → Holds w (cells m.state) (live_of m.live) (store_of m.store) → WorldFits P (sizes m) w → Finds image P m w
  unfolding entry held held_answer
  finds w m n h f =
      let x = exact_out P w (cells m.state) (live_of m.live) (store_of m.store) h f in
      ap (λ (i : List ℕ). entry i m.state m.live m.store) (sym same) ∙ rw (eq-eqb (length m.state) 8256 n, parsed, x.1, x.2, x.3)

  -- where memory m holds the world w; `nothing_answered` is given, so that these laws do not rest on it
  module _ (w : World) (m : Memory) (found : Finds image P m w) (answered : NothingAnswered) where
    abbrev goes_as : Call → Trace
    goes_as q = call_of P (sizes m) q w

    -- memory that holds what the machine's call leaves
    after : (q : Call) → RefusedLoad (sizes m) q → (n : Memory) → Lengths m n → Holds (world_after (goes_as q)) (cells n.state) (live_of n.live) (store_of n.store) → Finds image P n (world_after (goes_as q))
    after q l n s h =
        let k = ready image m.state m.live m.store (record { program = P; world = w }) found in
        let f = form_law P (sizes m) (accepted_fine P.image P.codes parsed) (omega (arith, length-take 4096 (cells m.live))) q l w k.fits in
        finds (world_after (goes_as q)) n (s.0 ∙ k.size) h (rw (same_sizes m n s) f)

    -- what is claimed of a call of the machine's, where what is refused does nothing and leaves its fuel
    does_as : (c : Exported) (q : Call) (r : Answered c) (n : Memory) → r ≡ answer_for c (goes_as q)
        → (Refuses q (answer_of (goes_as q)) → n ≡ m) → (Refuses q (answer_of (goes_as q)) → Nothing (goes_as q))
        → (Refuses q (answer_of (goes_as q)) → Bytes (fuel_lent c)
        → write (fuel_lent c) (fuel_after (goes_as q)) ≡ fuel_lent c)
        → DoesAs P (sizes m) w c (accepted q) m r n
    unfolding DoesAs
    does_as c q r n a e s f =
        record { answers = a; refuses = e; spares = λ h b. a ∙ answered c (goes_as q) (s h) (f h b) }

    -- a call that leaves every byte, and the world
    stays : (c : Exported) (q : Answer Call) (r : Answered c) (n : Memory) → n ≡ m → world_by P (sizes m) q w ≡ w → DoesAs P (sizes m) w c q m r n → Called image P w c q m r n
    stays c q r n e k d = record { does = d; next = rw (e, k) found; sizes = ap (λ (x : Memory). sizes x) e }

    none : (c : Exported) (k : ℕ) (r : Answered c) (n : Memory) → r ≡ refusal_of c k → (n.state ≡ m.state) × (n.live ≡ m.live) × (n.store ≡ m.store) → Called image P w c (refused k) m r n
    unfolding DoesAs
    none c k r n a h = let e = same_memory m n h in stays c (refused k) r n e refl (record { answers = a; refuses = e })

    -- ---- Requests that run nothing
    asked_called : (c : Exported) (q : Request) (r : Answered c) (n : Memory) (code : ℕ) → fuel_lent c ≡ [] → (code ≡ answer_of (goes_as (asks q)) → r ≡ answer_for c (goes_as (asks q)))
        → Asked q image m.state m.live m.store code n.state × (n.live ≡ m.live) × (n.store ≡ m.store) → Called image P w c (accepted (asks q)) m r n
    unfolding Refuses answer_asked
    asked_called c q r n code lent f a =
        let l : Leaves (sizes m) q (record { program = P; world = w }) m.state m.live m.store n.state = rw found at a.0.leaves in
        let s : Lengths m n = (l.len, ap length a.1, ap length a.2) in
        record {
          does = does_as c (asks q) r n (f (a.0.answers ∙ ap (answer_asked (sizes m) q) found)) (λ h. same_memory m n (l.refuses (λ e. omega arith), a.1, a.2)) (nothing_done P (sizes m) q w) (λ h b. no_loan (fuel_lent c) _ lent);
          next = after (asks q) tt n s (rw (a.1, a.2) l.holds);
          sizes = same_sizes m n s;
        }

    -- ---- Requests that only read
    read_called : (c : Exported) (q : Request) (r : Answered c) (n : Memory) → fuel_lent c ≡ [] → world_after (goes_as (asks q)) ≡ w → r ≡ answer_for c (goes_as (asks q)) → n ≡ m → Called image P w c (accepted (asks q)) m r n
    read_called c q r n lent k a e = stays c (accepted (asks q)) r n e k (does_as c (asks q) r n a (λ h. e) (nothing_done P (sizes m) q w) (λ h b. no_loan (fuel_lent c) _ lent))

    -- ---- A load that is refused
    load_called : (own : List ℕ) (r : Got) (n : Memory) → RefusedLoad (sizes m) (loads own) → Loaded own m.state m.live m.store r n.state n.store → n.live ≡ m.live → Called image P w (lucia_load own) (accepted (loads own)) m r n
    unfolding answer_by loading load_answer call_of load_trace world_after answer_of given_of steps_of
    load_called own r n l a e = by (load own (sizes m)) refl (rw i at a.answers) (rw i at a.leaves)
      where
        i : loading own m.state m.live m.store ≡ load own (sizes m)
        i = rw (eq-eqb (length m.state) 8256 (ready image m.state m.live m.store (record { program = P; world = w }) found).size) refl

        by : (x : Answer Program) → load own (sizes m) ≡ x → r ≡ load_answer x → LoadLeft x m.state m.store n.state n.store → Called image P w (lucia_load own) (accepted (loads own)) m r n
        by (accepted Q) q a h = absurd (l Q q)
        by (refused k) q a h =
            let s = same_memory m n (h.0, e, h.1) in
            let nothing : Nothing (goes_as (loads own)) = rw q (refl, refl) in
            stays (lucia_load own) (accepted (loads own)) r n s (ap (λ (x : Answer Program). world_after (load_trace w x)) q) (does_as (lucia_load own) (loads own) r n (rw q a) (λ h. s) (λ h. nothing) (λ h b. no_loan [] _ refl))

    -- ---- What is sent with a start or an answer
    module _ (c : Exported) (s : Sent) (fuel : Fuel) (a : Answered c) (n : Memory) (r : ℕ) where
      abbrev sends : Trace
      sends = sent_trace P (sizes m) fuel s w

      sent_called : ((q : Request) → request_of fuel s ≡ accepted q → fuel_of q ≡ fuel) → a ≡ answer_for c sends → (steps_of sends ≡ [] → write (fuel_lent c) (fuel_after sends) ≡ fuel_lent c)
          → SentDone sends r m.state m.live m.store n.state n.live n.store → Called image P w c (asking (in_turn s w) (request_of fuel s)) m a n
      unfolding asking steps_of given_of answer_of
      sent_called brings answers spares d = by (request_of fuel s) refl
        where
          refusal : (k : ℕ) → sends ≡ ends k nothing fuel w → a ≡ refusal_of c k
          refusal k e =
              answers
              ∙ answered c sends (ap steps_of e, ap given_of e) (spares (ap steps_of e))
              ∙ ap (λ (t : Trace). refusal_of c (answer_of t)) e

          by : (x : Answer Request) → request_of fuel s ≡ x → Called image P w c (asking (in_turn s w) x) m a n
          by (accepted q) h =
              let e = sent_call P (sizes m) w fuel s q h (brings q h) in
              let k : SentDone (goes_as (asks q)) r m.state m.live m.store n.state n.live n.store = rw e at d in
              let f : steps_of (goes_as (asks q)) ≡ [] → write (fuel_lent c) (fuel_after (goes_as (asks q))) ≡ fuel_lent c = rw e at spares in
              let nothing = nothing_done P (sizes m) q w in
              record {
                does = does_as c (asks q) a n (rw e at answers) (λ h. same_memory m n (k.refuses (nothing h).0)) nothing (λ h b. f (nothing h).0);
                next = after (asks q) tt n k.lengths k.holds;
                sizes = same_sizes m n k.lengths;
              }
          by (refused k) h =
              let e = sent_none P (sizes m) w fuel s k h in
              none c (if? (in_turn s w) k 11) a n (refusal (if? (in_turn s w) k 11) e) (d.refuses (ap steps_of e))

    start_called : (low high : ℕ) (args : List ℕ) (r : ℕ) (n : Memory)
        → Claimed image P w m (lucia_start low high args) r n
    unfolding call_for
    start_called low high args r n a =
        let s : Sent = starting (cell_of low high) args in
        let t : Trace = sent_trace P (sizes m) no_fuel s w in
        let d : SentDone t r m.state m.live m.store n.state n.live n.store = rw found at a.does in
        sent_called (lucia_start low high args) s no_fuel r n r (start_fuel (cell_of low high) args)
        (d.answers ∙ sym (start_answers low high args t)) (λ _. no_loan [] _ refl) d

    module _ (fuel : List ℕ) (kind word low high : ℕ) (args handlers : List ℕ) (r : ℕ × List ℕ) (n : Memory) where
      abbrev answer_call : Exported
      answer_call = lucia_answer fuel kind word low high args handlers

      abbrev answer_sent : Sent
      answer_sent = answering kind word (cell_of low high) args handlers

      -- where the loan holds fuel
      answer_does : (f : Fuel)
          → AnswerDone (sent_trace P (sizes m) f answer_sent w) r.0
          m.state m.live m.store fuel n.state n.live n.store r.1
          → Called image P w answer_call (sending w answer_sent f) m r n
      unfolding answer_by
      answer_does f d =
          sent_called answer_call answer_sent f r n r.0 (answer_fuel f kind word (cell_of low high) args handlers)
          (λ j. (d.sent.answers j, d.charges j)) (λ e. sym d.charges ∙ d.spares e) d.sent

      answer_called : Claimed image P w m answer_call r n
      unfolding call_for refusal_of answer_by with_fuel
      answer_called a = by (read fuel) a.does
        where
          by : (l : Result Fuel Refused)
              → AnswerBy (sizes m) answer_sent (fueled l (entered image m)) r.0
              m.state m.live m.store fuel n.state n.live n.store r.1
              → Called image P w answer_call (with_loan (sending w answer_sent) l) m r n
          by (Ok f) a = answer_does f (rw found at a)
          by (Err k) a = none answer_call (number k) r n (λ j. (a.0 j, a.4 j)) (a.1, a.2, a.3)

    -- ---- A run
    module _ (fuel : List ℕ) (ticks : ℕ) (r : Ran × List ℕ) (n : Memory) where
      -- where the loan holds fuel
      run_does : (f : Fuel) → read fuel ≡ Ok f
          → RunDone (goes_as (runs ticks f)) w.wait r.0
          m.state m.live m.store fuel n.state n.live n.store r.1
          → Called image P w (lucia_run fuel ticks) (accepted (runs ticks f)) m r n
      unfolding answer_by Refuses steps_of given_of fuel_after
      run_does f q d =
          let waits = out_of_turn_lem P (sizes m) ticks f w in
          let stays = out_of_turn_does P (sizes m) ticks f w in
          record {
            does = does_as (lucia_run fuel ticks) (runs ticks f) r n (λ j. (d.answers j, d.charges j))
                (λ h. same_memory m n (d.out_of_turn (waits h)))
                (λ h. let e = stays (waits h) in (ap steps_of e, ap given_of e))
                (λ h b. ap (λ (t : Trace). write fuel (fuel_after t)) (stays (waits h)) ∙ write_read fuel f b q);
            next = after (runs ticks f) tt n d.lengths d.holds;
            sizes = same_sizes m n d.lengths;
          }

      run_called : Claimed image P w m (lucia_run fuel ticks) r n
      unfolding call_for refusal_of answer_by with_fuel
      run_called a = by (read fuel) refl a.does
        where
          by : (l : Result Fuel Refused) → read fuel ≡ l
              → RunBy (sizes m) ticks (fueled l (entered image m)) r.0
              m.state m.live m.store fuel n.state n.live n.store r.1
              → Called image P w (lucia_run fuel ticks) (with_loan (λ (f : Fuel). accepted (runs ticks f)) l) m r n
          by (Ok f) q a = run_does f q (rw found at a)
          by (Err k) q a = none (lucia_run fuel ticks) (number k) r n (λ j. (a.0 j, a.4 j)) (a.1, a.2, a.3)

    -- ---- The others, each by its request
    clear_called : (r : ℕ) (n : Memory) → Claimed image P w m lucia_clear r n
    unfolding call_for answer_by
    clear_called r n a = asked_called lucia_clear clear r n r refl (λ e. e) a

    text_called : (page : List ℕ) (low high : ℕ) (r : Part) (n : Memory)
        → Claimed image P w m (lucia_text page low high) r n
    unfolding call_for answer_by answer_asked given request_action end_of request_world world_after
    text_called page low high r n a =
        let q : Request = text page (cell_of low high) in
        read_called (lucia_text page low high) q r n refl (reads P (sizes m) q w _ refl (λ k. refl))
        (rw found at a.0) a.1

    bytes_called : (low high : ℕ) (r : Part) (n : Memory) → Claimed image P w m (lucia_bytes low high) r n
    unfolding call_for answer_by answer_asked given request_action end_of request_world world_after
    bytes_called low high r n a =
        let q : Request = bytes (cell_of low high) in
        read_called (lucia_bytes low high) q r n refl (reads P (sizes m) q w _ refl (λ k. refl))
        (rw found at a.0) a.1

    set_global_called : (g low high : ℕ) (r : ℕ) (n : Memory) → Claimed image P w m (lucia_set_global g low high) r n
    unfolding call_for answer_by
    set_global_called g low high r n a =
        asked_called (lucia_set_global g low high) (set_global g (cell_of low high)) r n r refl (λ e. e) a

    get_global_called : (g : ℕ) (r : Got) (n : Memory) → Claimed image P w m (lucia_get_global g) r n
    unfolding call_for answer_by answer_asked given request_action end_of request_world world_after
    get_global_called g r n a =
        read_called (lucia_get_global g) (get_global g) r n refl
        (reads P (sizes m) (get_global g) w _ refl (λ k. refl)) (rw found at a.0) a.1

    set_builtin_called : (g low high : ℕ) (r : ℕ) (n : Memory) → Claimed image P w m (lucia_set_builtin g low high) r n
    unfolding call_for
    set_builtin_called g low high r n a =
        let q : Request = set_builtin g (cell_of low high) in
        asked_called (lucia_set_builtin g low high) q r n r refl
        (λ e. e ∙ sym (set_builtin_answers g low high (goes_as (asks q)))) a

    get_builtin_called : (g : ℕ) (r : Got) (n : Memory) → Claimed image P w m (lucia_get_builtin g) r n
    unfolding call_for answer_by answer_asked given request_action end_of request_world world_after
    get_builtin_called g r n a =
        read_called (lucia_get_builtin g) (get_builtin g) r n refl
        (reads P (sizes m) (get_builtin g) w _ refl (λ k. refl)) (rw found at a.0) a.1

    -- ---- Every call
    each_called : (c : Exported) (r : Answered c) (n : Memory) → NoLoad (sizes m) (call_for w c)
        → Claimed image P w m c r n
    unfolding call_for NoLoad
    each_called (lucia_load own) r n l a = load_called own r n l a.0 a.1
    each_called (lucia_start low high args) r n l a = start_called low high args r n a
    each_called (lucia_run fuel ticks) r n l a = run_called fuel ticks r n a
    each_called (lucia_answer fuel kind word low high args handlers) r n l a =
        answer_called fuel kind word low high args handlers r n a
    each_called lucia_clear r n l a = clear_called r n a
    each_called (lucia_text page low high) r n l a = text_called page low high r n a
    each_called (lucia_bytes low high) r n l a = bytes_called low high r n a
    each_called (lucia_set_global g low high) r n l a = set_global_called g low high r n a
    each_called (lucia_get_global g) r n l a = get_global_called g r n a
    each_called (lucia_set_builtin g low high) r n l a = set_builtin_called g low high r n a
    each_called (lucia_get_builtin g) r n l a = get_builtin_called g r n a

  pub called : (w : World) (m : Memory) → Finds image P m w → (c : Exported) (r : Answered c) (n : Memory)
      → NoLoad (sizes m) (call_for w c) → Claimed image P w m c r n
  called w m found = each_called w m found nothing_answered
