-- Laws of runs: the ticks taken, how a run ends, runs one after the other, refusals, and the loop that only jumps.
use Rattle.std.specs.Prelude.{◌≡◌, List, [], ◌∷◌, ◌++◌, Bool, true, false, length, eqb}
use Rattle.std.proofs.Math.Path.{refl}
use Rattle.std.proofs.Common.{sym, ap, ◌∙◌, zero-add, suc-add, arith, ne_eqb, le-ltb}
use Prim.Native.Nat.{ℕ, zero, suc, ◌+◌, ◌-◌, ◌≤◌, ◌<◌}
use Rattle.fuel.specs.Fuels.{should_continue}
use Rattle.fuel.specs.declared.Fuel.{Fuel}
use Rattle.image.specs.Records.{if?, both}
use Rattle.machine.specs.Values.{Program}
use Rattle.machine.specs.Machine.{M, frame_cost, frames_cost, cost, used, result_cost, object_at}
use Rattle.machine.specs.Opcodes.{jumps, doing, takes, opcode_action, closure_action, next_action}
use Rattle.machine.specs.Calls.{Sizes, handlers_left, Outcome, does, stops, judge, outcome, world, Step, nothing, Trace, steps, ends, steps_of, answer_of, given_of, fuel_after, world_after, Turn, is_done, is_host, is_ready, turn_of, Pace, free, counted, closing, failing, alone, pace_of, charge, goes_on, no_ticks, tick, run}
use Rattle.machine.specs.StepLaws.{Kept}
use Rattle.machine.proofs.StepLaws.{kept_none, kept_both, doing_kept, refusal_small, step_law, accepted_step, refused_step}
use Rattle.machine.specs.RunLaws.{charged, Lawful, Leads, turn_after, Ending, done, out_of_fuel, paused, awaiting, refused, Ran, continued, Joined, answering, JumpsInPlace, jumping, jump_program, jump_machine}

-- ---- After a step
-- Fuel, slice and pace alone decide how a run goes on: with some fuel and slice, or not at all, out of fuel.
data Onward (fuel : Fuel) (left : ℕ) (p : Pace) : Type 0 where
  on : (f : Fuel) (l : ℕ) → ((more : Fuel → ℕ → M → Trace) (m : M) → goes_on more fuel left m p ≡ more f l m) → Onward fuel left p
  out : (f : Fuel) → should_continue f ≡ false → ((more : Fuel → ℕ → M → Trace) (m : M) → goes_on more fuel left m p ≡ ends 101 nothing f (world m false 64)) → Onward fuel left p

onward_charge : (fuel : Fuel) (left : ℕ) (p : Pace) (c : ℕ) → ((more : Fuel → ℕ → M → Trace) (m : M) → goes_on more fuel left m p ≡ charge more fuel c m) → Onward fuel left p
unfolding charge
onward_charge fuel left p c h = by (should_continue (charged fuel c)) refl
  where
    by : (b : Bool) → should_continue (charged fuel c) ≡ b → Onward fuel left p
    by true q = on (charged fuel c) 64 (λ more m. h more m ∙ ap (λ (b : Bool). if? b (more (charged fuel c) 64 m) (ends 101 nothing (charged fuel c) (world m false 64))) q)
    by false q = out (charged fuel c) q (λ more m. h more m ∙ ap (λ (b : Bool). if? b (more (charged fuel c) 64 m) (ends 101 nothing (charged fuel c) (world m false 64))) q)

onward : (fuel : Fuel) (left : ℕ) (p : Pace) → Onward fuel left p
unfolding goes_on
onward fuel left free = on fuel left (λ more m. refl)
onward fuel left counted = by (eqb left 0) refl
  where
    by : (b : Bool) → eqb left 0 ≡ b → Onward fuel left counted
    by true q = onward_charge fuel left counted 0 (λ more m. ap (λ (b : Bool). if? b (charge more fuel 0 m) (more fuel (left - 1) m)) q)
    by false q = on fuel (left - 1) (λ more m. ap (λ (b : Bool). if? b (charge more fuel 0 m) (more fuel (left - 1) m)) q)
onward fuel left closing = onward_charge fuel left closing left (λ more m. refl)
onward fuel left failing = onward_charge fuel left failing 0 (λ more m. refl)
onward fuel left alone = onward_charge fuel left alone 8 (λ more m. refl)

module _ (P : Program) (z : Sizes) where
  ending_step : (t : ℕ) (s : Step) (r : Trace) → Ending P z t r → Ending P z (suc t) (steps s r)
  unfolding steps_of answer_of fuel_after world_after
  ending_step t s r (done a u) = done a u
  ending_step t s r (out_of_fuel a c) = out_of_fuel a c
  ending_step t s r (paused a u n) = paused a u (ap suc n)
  ending_step t s r (awaiting a u) = awaiting a u
  ending_step t s r (refused a u n o) = refused a u (omega (arith, n)) o

  ran_end : (t : ℕ) (m : M) (n : ℕ) (fuel : Fuel) (wait : Bool) (left : ℕ) → Ending P z t (ends n nothing fuel (world m wait left)) → wait ≡ eqb n 103 → Ran P z t m (ends n nothing fuel (world m wait left))
  unfolding steps_of answer_of world_after
  ran_end t m n fuel wait left e w = record { ticks = omega arith; leads = refl; ending = e; wait = w }

  ran_step : (t : ℕ) (s : Step) (r : Trace) → Lawful P z s → Ran P z t s.after r → Ran P z (suc t) s.before (steps s r)
  unfolding steps_of answer_of world_after
  ran_step t s r l w = record { ticks = omega (arith, w.ticks); leads = (refl, l, w.leads); ending = ending_step t s r w.ending; wait = w.wait }

  ran_on : (t : ℕ) → ((fuel : Fuel) (left : ℕ) (m : M) → Ran P z t m (run P z t fuel left m)) → (fuel : Fuel) (left : ℕ) (m : M) (p : Pace) → Onward fuel left p → Ran P z t m (goes_on (run P z t) fuel left m p)
  unfolding answer_of fuel_after
  ran_on t ih fuel left m p (on f l q) = rw (q (run P z t) m) (ih f l m)
  ran_on t ih fuel left m p (out f c q) = rw (q (run P z t) m) (ran_end t m _ _ _ _ (out_of_fuel refl c) refl)

  -- A run takes at most its ticks, its steps lead to its world, and it ends in one of the five ways.
  pub run_law : (t : ℕ) (fuel : Fuel) (left : ℕ) (m : M) → Ran P z t m (run P z t fuel left m)
  unfolding run no_ticks tick answer_of world_after steps_of
  run_law zero fuel left m = by (turn_of m.result m.frames) refl
    where
      by : (u : Turn) → turn_of m.result m.frames ≡ u → Ran P z 0 m (no_ticks fuel left u m)
      by is_done q = ran_end 0 m _ _ _ _ (done refl q) refl
      by is_host q = ran_end 0 m _ _ _ _ (awaiting refl q) refl
      by is_ready q = ran_end 0 m _ _ _ _ (paused refl q refl) refl
  run_law (suc t) fuel left m = by (turn_of m.result m.frames) refl (outcome P z (next_action P m m.frames) m) refl (run_law t)
    where
      by : (u : Turn) → turn_of m.result m.frames ≡ u → (o : Outcome) → outcome P z (next_action P m m.frames) m ≡ o
          → ((fuel : Fuel) (left : ℕ) (m : M) → Ran P z t m (run P z t fuel left m)) → Ran P z (suc t) m (tick (run P z t) fuel left u m o)
      by is_done q o e ih = ran_end (suc t) m _ _ _ _ (done refl q) refl
      by is_host q o e ih = ran_end (suc t) m _ _ _ _ (awaiting refl q) refl
      by is_ready q (does d m') e ih =
          let a = accepted_step P z _ m d m' (rw e at (step_law P z m q)) in
          ran_step t _ _ (record { accepted = a; kept = rw a.done (doing_kept P d m) }) (ran_on t ih fuel left m' (pace_of d) (onward fuel left (pace_of d)))
      by is_ready q (stops n) e ih =
          let r = refused_step P z _ m n (rw e at (step_law P z m q)) in
          ran_end (suc t) m _ _ _ _ (refused r q (omega arith) e) (sym (ne_eqb n 103 (λ h. omega (arith, refusal_small n r))))

  -- A run is paused only if all its ticks are taken.
  pub paused_took_all : (t : ℕ) (fuel : Fuel) (left : ℕ) (m : M) → answer_of (run P z t fuel left m) ≡ 102 → length (steps_of (run P z t fuel left m)) ≡ t
  paused_took_all t fuel left m h = by (run P z t fuel left m) h (run_law t fuel left m).ending
    where
      by : (r : Trace) → answer_of r ≡ 102 → Ending P z t r → length (steps_of r) ≡ t
      by r h (done a u) = absurd (omega arith)
      by r h (out_of_fuel a c) = absurd (omega arith)
      by r h (paused a u n) = n
      by r h (awaiting a u) = absurd (omega arith)
      by r h (refused a u n o) = absurd (omega (arith, refusal_small _ a))

  -- And it is paused if all are taken and no charge (101), end or host wait is due.
  pub took_all_paused : (t : ℕ) (fuel : Fuel) (left : ℕ) (m : M)
      → length (steps_of (run P z t fuel left m)) ≡ t → turn_after (run P z t fuel left m) ≡ is_ready → (answer_of (run P z t fuel left m) ≡ 101 → ⊥) → answer_of (run P z t fuel left m) ≡ 102
  took_all_paused t fuel left m k u f = by (run P z t fuel left m) k u f (run_law t fuel left m).ending
    where
      by : (r : Trace) → length (steps_of r) ≡ t → turn_after r ≡ is_ready → (answer_of r ≡ 101 → ⊥) → Ending P z t r → answer_of r ≡ 102
      by r k u f (done a v) = let w : is_ready ≡ is_done = sym u ∙ v in let x : ◌≡◌ {A = ℕ} 0 1 = cc in absurd (omega arith)
      by r k u f (out_of_fuel a c) = absurd (f a)
      by r k u f (paused a v n) = a
      by r k u f (awaiting a v) = let w : is_ready ≡ is_host = sym u ∙ v in let x : ◌≡◌ {A = ℕ} 0 1 = cc in absurd (omega arith)
      by r k u f (refused a v n o) = absurd (omega arith)

on_more : (P : Program) (z : Sizes) (a b : ℕ) → ((f : Fuel) (l : ℕ) (m : M) → run P z (a + b) f l m ≡ continued P z b (run P z a f l m))
    → (fuel : Fuel) (left : ℕ) (m : M) (p : Pace) → Onward fuel left p → goes_on (run P z (a + b)) fuel left m p ≡ continued P z b (goes_on (run P z a) fuel left m p)
unfolding continued
on_more P z a b ih fuel left m p (on f l q) = rw (q (run P z (a + b)) m, q (run P z a) m) (ih f l m)
on_more P z a b ih fuel left m p (out f c q) = rw (q (run P z (a + b)) m, q (run P z a) m) refl

-- A run of a + b ticks is that of a, continued for b; what does not pause stays as it is.
pub run_more : (P : Program) (z : Sizes) (a b : ℕ) (fuel : Fuel) (left : ℕ) (m : M) → run P z (a + b) fuel left m ≡ continued P z b (run P z a fuel left m)
unfolding run no_ticks tick continued
run_more P z zero b fuel left m = rw zero-add (by (turn_of m.result m.frames) refl b)
  where
    by : (u : Turn) → turn_of m.result m.frames ≡ u → (b : ℕ) → run P z b fuel left m ≡ continued P z b (no_ticks fuel left u m)
    by is_done q zero = rw q refl
    by is_done q (suc b) = rw q refl
    by is_host q zero = rw q refl
    by is_host q (suc b) = rw q refl
    by is_ready q b = refl
run_more P z (suc a) b fuel left m = rw suc-add (by (run_more P z a b) (turn_of m.result m.frames) refl (outcome P z (next_action P m m.frames) m) refl)
  where
    by : ((f : Fuel) (l : ℕ) (m : M) → run P z (a + b) f l m ≡ continued P z b (run P z a f l m))
        → (u : Turn) → turn_of m.result m.frames ≡ u → (o : Outcome) → outcome P z (next_action P m m.frames) m ≡ o
        → tick (run P z (a + b)) fuel left u m o ≡ continued P z b (tick (run P z a) fuel left u m o)
    by ih is_done q o e = refl
    by ih is_host q o e = refl
    by ih is_ready q (does d m') e = ap (λ (r : Trace). steps (record { before = m; action = d; after = m' }) r) (on_more P z a b ih fuel left m' (pace_of d) (onward fuel left (pace_of d)))
    by ih is_ready q (stops n) e =
        let r = refusal_small n (refused_step P z _ m n (rw e at (step_law P z m q))) in
        rw (ne_eqb n 102 (λ h. omega arith)) refl

abbrev next_run : Program → Sizes → ℕ → Trace → Trace
next_run P z b r = run P z b (fuel_after r) (world_after r).slice (world_after r).machine

continued_joined : (P : Program) (z : Sizes) (b : ℕ) (r : Trace) → answer_of r ≡ 102 → Joined r (next_run P z b r) (continued P z b r)
unfolding continued steps_of answer_of given_of fuel_after world_after
continued_joined P z b (steps s r) h =
    let j = continued_joined P z b r h in
    record { steps = ap (λ (l : List Step). s ∷ l) j.steps; answer = j.answer; given = j.given; fuel = j.fuel; world = j.world }
continued_joined P z b (ends n g f w) h = rw h (record { steps = refl; answer = refl; given = refl; fuel = refl; world = refl })

-- A paused run and the next one, lent the fuel and world that it left, are one run of the ticks together.
pub paused_joined : (P : Program) (z : Sizes) (a b : ℕ) (fuel : Fuel) (left : ℕ) (m : M)
    → answer_of (run P z a fuel left m) ≡ 102
    → Joined (run P z a fuel left m) (next_run P z b (run P z a fuel left m)) (run P z (a + b) fuel left m)
paused_joined P z a b fuel left m h = rw (run_more P z a b fuel left m) (continued_joined P z b (run P z a fuel left m) h)

abbrev taken : Trace → ℕ
taken r = length (steps_of r)

on_refused : (P : Program) (z : Sizes) (t : ℕ) → ((f : Fuel) (l : ℕ) (m : M) → answer_of (run P z t f l m) < 100 → run P z (taken (run P z t f l m)) f l m ≡ answering 102 (run P z t f l m))
    → (fuel : Fuel) (left : ℕ) (m : M) (p : Pace) → Onward fuel left p → answer_of (goes_on (run P z t) fuel left m p) < 100
    → goes_on (run P z (taken (goes_on (run P z t) fuel left m p))) fuel left m p ≡ answering 102 (goes_on (run P z t) fuel left m p)
unfolding answer_of
on_refused P z t ih fuel left m p (on f l q) h =
    rw (q (run P z t) m) (q (run P z (taken (run P z t f l m))) m ∙ ih f l m (rw (q (run P z t) m) at h))
on_refused P z t ih fuel left m p (out f c q) h = absurd (omega (arith, rw (q (run P z t) m) at h))

-- A run that ends with a refusal has the fuel and world of the run that pauses after the same steps.
pub refused_paused : (P : Program) (z : Sizes) (t : ℕ) (fuel : Fuel) (left : ℕ) (m : M)
    → answer_of (run P z t fuel left m) < 100
    → run P z (length (steps_of (run P z t fuel left m))) fuel left m ≡ answering 102 (run P z t fuel left m)
unfolding run no_ticks tick steps_of answer_of answering
refused_paused P z zero fuel left m h = by (turn_of m.result m.frames) h
  where
    by : (u : Turn) → answer_of (no_ticks fuel left u m) < 100 → run P z (taken (no_ticks fuel left u m)) fuel left m ≡ answering 102 (no_ticks fuel left u m)
    by is_done h = absurd (omega arith)
    by is_host h = absurd (omega arith)
    by is_ready h = absurd (omega arith)
refused_paused P z (suc t) fuel left m h = by (refused_paused P z t) (turn_of m.result m.frames) refl (outcome P z (next_action P m m.frames) m) refl h
  where
    by : ((f : Fuel) (l : ℕ) (m : M) → answer_of (run P z t f l m) < 100 → run P z (taken (run P z t f l m)) f l m ≡ answering 102 (run P z t f l m))
        → (u : Turn) → turn_of m.result m.frames ≡ u → (o : Outcome) → outcome P z (next_action P m m.frames) m ≡ o
        → answer_of (tick (run P z t) fuel left u m o) < 100
        → run P z (taken (tick (run P z t) fuel left u m o)) fuel left m ≡ answering 102 (tick (run P z t) fuel left u m o)
    by ih is_done q o e h = absurd (omega arith)
    by ih is_host q o e h = absurd (omega arith)
    by ih is_ready q (does d m') e h =
        rw (q, e) (ap (λ (r : Trace). steps (record { before = m; action = d; after = m' }) r) (on_refused P z t ih fuel left m' (pace_of d) (onward fuel left (pace_of d)) h))
    by ih is_ready q (stops n) e h = rw q refl

-- ---- Every step of a run
leads_kept : (P : Program) (z : Sizes) (m : M) (ss : List Step) (final : M) → Leads P z m ss final → Kept m final
leads_kept P z m [] final w = rw w (kept_none final)
leads_kept P z m (s ∷ ss) final w = rw w.0 (kept_both s.before s.after final w.1.kept (leads_kept P z s.after ss final w.2))

leads_each : (P : Program) (z : Sizes) (m : M) (past rest : List Step) (s : Step) (final : M) → Leads P z m (past ++ s ∷ rest) final → Lawful P z s × Kept m s.after
leads_each P z m [] rest s final w = (w.1, rw w.0 w.1.kept)
leads_each P z m (x ∷ past) rest s final w =
    let i = leads_each P z x.after past rest s final w.2 in
    (i.0, rw w.0 (kept_both x.before x.after s.after w.1.kept i.1))

-- Every step of a run is lawful: what it leaves fits, so that it has at most 256 frames, and the store only grew since the run began, with globals and builtins as long as they were.
pub each_step : (P : Program) (z : Sizes) (t : ℕ) (fuel : Fuel) (left : ℕ) (m : M) (past rest : List Step) (s : Step)
    → steps_of (run P z t fuel left m) ≡ past ++ s ∷ rest
    → Lawful P z s × Kept m s.after
each_step P z t fuel left m past rest s q = leads_each P z m past rest s _ (rw q at (run_law P z t fuel left m).leads)

pub run_kept : (P : Program) (z : Sizes) (t : ℕ) (fuel : Fuel) (left : ℕ) (m : M) → Kept m (world_after (run P z t fuel left m)).machine
run_kept P z t fuel left m = leads_kept P z m (steps_of (run P z t fuel left m)) _ (run_law P z t fuel left m).leads

jump_next : (P : Program) (z : Sizes) (m : M) → JumpsInPlace P z m → next_action P m m.frames ≡ takes (jumps m.frames)
unfolding next_action closure_action opcode_action both
jump_next P z m j = rw (j.frames, j.closure_there, j.opcode) refl

jump_does : (P : Program) (z : Sizes) (m : M) → JumpsInPlace P z m → outcome P z (next_action P m m.frames) m ≡ does (jumps m.frames) m
unfolding outcome judge doing handlers_left
jump_does P z m j =
    let f = j.fits in
    rw (jump_next P z m j, le-ltb 256 (length m.frames) f.frames, le-ltb z.live (frames_cost m.frames + result_cost m.result) f.live, le-ltb z.store (used m.store) f.store) refl

jump_turn : (P : Program) (z : Sizes) (m : M) → JumpsInPlace P z m → turn_of m.result m.frames ≡ is_ready
unfolding turn_of
jump_turn P z m j = rw (j.result, j.frames) refl

-- It pauses after exactly t steps, with fuel, slice and machine as they were.
pub jump_law : (P : Program) (z : Sizes) (t : ℕ) (fuel : Fuel) (left : ℕ) (m : M) → JumpsInPlace P z m → run P z t fuel left m ≡ jumping t m (ends 102 nothing fuel (world m false left))
unfolding run no_ticks tick goes_on pace_of jumping
jump_law P z zero fuel left m j = rw (jump_turn P z m j) refl
jump_law P z (suc t) fuel left m j =
    rw (jump_turn P z m j, jump_does P z m j) (ap (λ (r : Trace). steps (record { before = m; action = jumps m.frames; after = m }) r) (jump_law P z t fuel left m j))

pub jump_there : (z : Sizes) → 6 ≤ z.live → 1 ≤ z.store → JumpsInPlace jump_program z jump_machine
unfolding object_at frames_cost frame_cost result_cost used cost
jump_there z h k = record { handle = 0; place = 0; locals = []; stack = []; handlers = []; below = []; code = 0; upvalues = []; frames = refl; result = refl; closure_there = refl; opcode = refl; fits = record { frames = omega arith; live = omega arith; store = omega arith } }
