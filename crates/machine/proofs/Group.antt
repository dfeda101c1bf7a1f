-- One group of a run by itself: "one slice, one effect callback or the opening of a host wait, or till the ticks given are taken". A run is its groups, one after the other.
use Rattle.std.specs.Prelude.{◌≡◌, Bool, eqb}
use Rattle.std.proofs.Math.Path.{refl, sym}
use Rattle.std.proofs.Common.{ap, ne_eqb}
use Rattle.std.proofs.Math.Bool.{true, false}
use Prim.Native.Nat.{ℕ, zero, suc, ◌-◌, ◌<◌}
use native.Mathlib.Omega.{arith}
use Rattle.fuel.specs.Fuels.{should_continue}
use Rattle.fuel.specs.declared.Fuel.{Fuel}
use Rattle.image.specs.Records.{if?}
use Rattle.machine.specs.Values.{Program}
use Rattle.machine.specs.Machine.{M}
use Rattle.machine.specs.Opcodes.{next_action}
use Rattle.machine.specs.Calls.{Sizes, Outcome, does, stops, outcome, world, nothing, Trace, steps, ends, Turn, is_done, is_host, is_ready, turn_of, Pace, free, counted, closing, failing, alone, pace_of, charge, goes_on, no_ticks, tick, run}
use Rattle.machine.proofs.StepLaws.{refusal_small, step_law, refused_step}
use Rattle.machine.specs.RunLaws.{charged}
use Rattle.machine.specs.SliceLaws.{ends_slice, slice_after}
use Rattle.machine.specs.Group.{go_on_at, go_on, in_group, group, followed, groups, is_over, one_slice}

module _ (P : Program) (z : Sizes) where
  go_on_over : (fuel : Fuel) (left : ℕ) (m : M) (u : Turn) → is_over (go_on_at fuel left u m) ≡ true
  unfolding go_on_at is_over
  go_on_over fuel left m is_done = refl
  go_on_over fuel left m is_host = refl
  go_on_over fuel left m is_ready = refl

  charge_over : (fuel : Fuel) (c : ℕ) (m : M) → is_over (charge go_on fuel c m) ≡ true
  unfolding charge is_over
  charge_over fuel c m = by (should_continue (charged fuel c))
    where
      by : (b : Bool) → is_over (if? b (go_on (charged fuel c) 64 m) (ends 101 nothing (charged fuel c) (world m false 64))) ≡ true
      by true = go_on_over (charged fuel c) 64 m (turn_of m.result m.frames)
      by false = refl

  on_slice : (t : ℕ) → ((fuel : Fuel) (left : ℕ) (m : M) → one_slice left (group P z t fuel left m) ≡ true) → (fuel : Fuel) (left : ℕ) (m : M) (p : Pace)
      → (let r = goes_on (if? (ends_slice left p) go_on (group P z t)) fuel left m p in if? (ends_slice left p) (is_over r) (one_slice (slice_after left p) r)) ≡ true
  unfolding goes_on ends_slice slice_after
  on_slice t i fuel left m free = i fuel left m
  on_slice t i fuel left m counted = by (eqb left 0)
    where
      by : (b : Bool) → (let r = if? b (charge (if? b go_on (group P z t)) fuel 0 m) (if? b go_on (group P z t) fuel (left - 1) m) in if? b (is_over r) (one_slice (if? b 64 (left - 1)) r)) ≡ true
      by true = charge_over fuel 0 m
      by false = i fuel (left - 1) m
  on_slice t i fuel left m closing = charge_over fuel left m
  on_slice t i fuel left m failing = charge_over fuel 0 m
  on_slice t i fuel left m alone = charge_over fuel 8 m

  -- A group lasts one slice or one callback.
  pub group_slice : (t : ℕ) (fuel : Fuel) (left : ℕ) (m : M) → one_slice left (group P z t fuel left m) ≡ true
  unfolding group no_ticks tick in_group one_slice
  group_slice zero fuel left m = by (turn_of m.result m.frames)
    where
      by : (u : Turn) → one_slice left (no_ticks fuel left u m) ≡ true
      by is_done = refl
      by is_host = refl
      by is_ready = refl
  group_slice (suc t) fuel left m = by (group_slice t) (turn_of m.result m.frames) (outcome P z (next_action P m m.frames) m)
    where
      by : ((fuel : Fuel) (left : ℕ) (m : M) → one_slice left (group P z t fuel left m) ≡ true) → (u : Turn) (o : Outcome) → one_slice left (tick (in_group (group P z t) left o) fuel left u m o) ≡ true
      by i is_done o = refl
      by i is_host o = refl
      by i is_ready (does d m') = on_slice t i fuel left m' (pace_of d)
      by i is_ready (stops n) = refl

  -- These are the run of t ticks.
  abbrev AreRun : (Fuel → ℕ → M → Trace) → ℕ → Type 0
  AreRun these t = (fuel : Fuel) (left : ℕ) (m : M) → these fuel left m ≡ run P z t fuel left m

  done_run : (t : ℕ) (fuel : Fuel) (left : ℕ) (m : M) → turn_of m.result m.frames ≡ is_done → run P z t fuel left m ≡ ends 100 nothing fuel (world m false left)
  unfolding run no_ticks tick
  done_run zero fuel left m q = rw q refl
  done_run (suc t) fuel left m q = rw q refl

  go_on_groups : (k t : ℕ) → AreRun (groups P z k t) t → (fuel : Fuel) (left : ℕ) (m : M) → followed (groups P z k) t (go_on fuel left m) ≡ run P z t fuel left m
  unfolding go_on_at followed
  go_on_groups k t h fuel left m = by (turn_of m.result m.frames) refl
    where
      by : (u : Turn) → turn_of m.result m.frames ≡ u → followed (groups P z k) t (go_on_at fuel left u m) ≡ run P z t fuel left m
      by is_done q = sym (done_run t fuel left m q)
      by is_host q = h fuel left m
      by is_ready q = h fuel left m

  charge_groups : (k t : ℕ) → AreRun (groups P z k t) t → (fuel : Fuel) (c : ℕ) (m : M) → followed (groups P z k) t (charge go_on fuel c m) ≡ charge (run P z t) fuel c m
  unfolding charge followed
  charge_groups k t h fuel c m = by (should_continue (charged fuel c))
    where
      by : (b : Bool) → followed (groups P z k) t (if? b (go_on (charged fuel c) 64 m) (ends 101 nothing (charged fuel c) (world m false 64))) ≡ if? b (run P z t (charged fuel c) 64 m) (ends 101 nothing (charged fuel c) (world m false 64))
      by true = go_on_groups k t h (charged fuel c) 64 m
      by false = refl

  -- After a step: what follows it in its group, and then the next groups.
  on_groups : (k t : ℕ) → AreRun (groups P z k t) t → AreRun (λ f l m. followed (groups P z k) t (group P z t f l m)) t
      → (fuel : Fuel) (left : ℕ) (m : M) (p : Pace) → followed (groups P z k) t (goes_on (if? (ends_slice left p) go_on (group P z t)) fuel left m p) ≡ goes_on (run P z t) fuel left m p
  unfolding goes_on ends_slice
  on_groups k t h i fuel left m free = i fuel left m
  on_groups k t h i fuel left m counted = by (eqb left 0)
    where
      by : (b : Bool) → followed (groups P z k) t (if? b (charge (if? b go_on (group P z t)) fuel 0 m) (if? b go_on (group P z t) fuel (left - 1) m)) ≡ if? b (charge (run P z t) fuel 0 m) (run P z t fuel (left - 1) m)
      by true = charge_groups k t h fuel 0 m
      by false = i fuel (left - 1) m
  on_groups k t h i fuel left m closing = charge_groups k t h fuel left m
  on_groups k t h i fuel left m failing = charge_groups k t h fuel 0 m
  on_groups k t h i fuel left m alone = charge_groups k t h fuel 8 m

  -- Each group that is to go on has taken a tick, so that more groups than ticks are enough.
  pub enough_groups : (t k : ℕ) → t < k → AreRun (groups P z k t) t
  unfolding run group groups no_ticks tick followed in_group
  enough_groups t zero h fuel left m = absurd (omega arith)
  enough_groups zero (suc k) h fuel left m = by (turn_of m.result m.frames)
    where
      by : (u : Turn) → followed (groups P z k) 0 (no_ticks fuel left u m) ≡ no_ticks fuel left u m
      by is_done = refl
      by is_host = refl
      by is_ready = refl
  enough_groups (suc t) (suc k) h fuel left m =
      by (enough_groups t k (omega arith)) (enough_groups t (suc k) (omega arith)) (turn_of m.result m.frames) refl (outcome P z (next_action P m m.frames) m) refl
    where
      by : AreRun (groups P z k t) t → AreRun (groups P z (suc k) t) t
          → (u : Turn) → turn_of m.result m.frames ≡ u → (o : Outcome) → outcome P z (next_action P m m.frames) m ≡ o
          → followed (groups P z k) (suc t) (tick (in_group (group P z t) left o) fuel left u m o) ≡ tick (run P z t) fuel left u m o
      by now later is_done q o e = refl
      by now later is_host q o e = refl
      by now later is_ready q (does d m') e =
          let w : suc t - 1 ≡ t = omega arith in
          rw w (ap (λ (r : Trace). steps (record { before = m; action = d; after = m' }) r) (on_groups k t now later fuel left m' (pace_of d)))
      by now later is_ready q (stops n) e =
          let r = refusal_small n (refused_step P z _ m n (rw e at (step_law P z m q))) in
          rw (ne_eqb n 104 (λ h. omega arith)) refl

  -- A run is its groups, one after the other.
  pub run_groups : (t : ℕ) (fuel : Fuel) (left : ℕ) (m : M) → run P z t fuel left m ≡ groups P z (suc t) t fuel left m
  run_groups t fuel left m = sym (enough_groups t (suc t) (omega arith) fuel left m)
