-- How a group ends: what is left of the run after it.
use Rattle.std.specs.Prelude.{◌≡◌, List, Bool, pos, length, eqb, Result, Ok, Err}
use Rattle.std.proofs.Math.Path.{refl}
use Rattle.std.proofs.Common.{ap, arith, ne_eqb}
use Rattle.std.proofs.Math.Bool.{true, false}
use Prim.Native.Nat.{ℕ, zero, suc, ◌-◌, ◌<◌, ◌≤◌}
use Rattle.cells.specs.declared.Cell.{Cell}
use Rattle.fuel.specs.Fuels.{consume, should_continue}
use Rattle.fuel.specs.declared.Fuel.{Fuel}
use Rattle.image.specs.Records.{if?}
use Rattle.image.specs.Fine.{Accepted}
use Rattle.machine.specs.Values.{Program}
use Rattle.machine.specs.Machine.{M}
use Rattle.machine.specs.Opcodes.{Action, next_action}
use Rattle.machine.specs.Calls.{Sizes, does, stops, outcome, world, nothing, Trace, ends, is_done, is_host, is_ready, turn_of, Pace, closing, failing, alone, pace_of, charge, goes_on, no_ticks, tick, run}
use Rattle.machine.proofs.StepLaws.{refusal_some, refusal_small, step_law, refused_step}
use Rattle.machine.proofs.FormLaws.{MachineFits, step_fits}
use Rattle.plan.specs.Rest.{counts_of}
use Rattle.plan.specs.declared.Counts.{Counts}
use Rattle.slices.specs.Follows.{Follows, follows_on, follows_step, follows_stop}
use Rattle.acts.specs.Acted.{used_then, Resting, ActsAs, Acts}
use Rattle.acts.specs.declared.Acted.{Acted}
use Rattle.acts.specs.declared.Acted.TheVariants.{Done, Failed}
use Rattle.refusals.specs.declared.Refusal as refusals
use Rattle.refusals.specs.Refusals.{number}
use Rattle.groups.specs.declared.Stand.{Stand}
use Rattle.groups.specs.declared.Stand.TheVariants as stand
use Rattle.groups.specs.Grouped.{code_of, stood, charged_group, acted_group, rest_of, Grouped}

-- ---- What a group leaves of the store is what its step leaves
pub charged_counts : (fuel : Fuel) (cost ticks : ℕ) (c : Counts) → (charged_group fuel cost ticks c).turn.counts ≡ c
unfolding charged_group
charged_counts fuel cost ticks c = by (should_continue (consume (consume fuel (pos cost)) (pos 4)))
  where
    by : (b : Bool) → (if? b (stood stand.GoesOn (consume (consume fuel (pos cost)) (pos 4)) ticks 64 c) (stood stand.OutOfFuel (consume (consume fuel (pos cost)) (pos 4)) ticks 64 c)).turn.counts ≡ c
    by true = refl
    by false = refl

pub acted_uses : (a : Result Acted refusals.Refusal) (fuel : Fuel) (cost ticks left : ℕ) (c : Counts) → (acted_group a fuel cost ticks left c).turn.counts.store ≡ used_then c.store a
acted_uses (Err n) fuel cost ticks left c = refl
acted_uses (Ok (Done after)) fuel cost ticks left c = ap (λ (x : Counts). x.store) (charged_counts fuel cost (ticks - 1) after)
acted_uses (Ok (Failed after)) fuel cost ticks left c = ap (λ (x : Counts). x.store) (charged_counts fuel 0 (ticks - 1) after)

module _ (P : Program) (z : Sizes) (fuel : Fuel) (left : ℕ) (m : M) where
  -- ---- A run that ends at once
  pub done_ends : (t : ℕ) → turn_of m.result m.frames ≡ is_done → run P z t fuel left m ≡ ends 100 nothing fuel (world m false left)
  unfolding run no_ticks tick
  done_ends zero q = rw q refl
  done_ends (suc t) q = rw q refl

  pub wait_ends : (t : ℕ) → turn_of m.result m.frames ≡ is_host → run P z t fuel left m ≡ ends 103 nothing (consume fuel (pos 8)) (world m true left)
  unfolding run no_ticks tick
  wait_ends zero q = rw q refl
  wait_ends (suc t) q = rw q refl

  pub pause_ends : (t : ℕ) → t ≡ 0 → turn_of m.result m.frames ≡ is_ready → run P z t fuel left m ≡ ends 102 nothing fuel (world m false left)
  unfolding run no_ticks
  pause_ends zero e q = rw q refl
  pause_ends (suc t) e q = absurd (omega arith)

module _ {P : Program} {z : Sizes} {t : ℕ} {fuel : Fuel} {left : ℕ} {m : M} {B L S : List Cell} {starts : List ℕ} where
  -- an answer other than 0 ends the run
  pub grouped_end : {f : Fuel} {k l : ℕ} {c : Counts} (s : Stand) (m' : M) → (code_of s ≡ 0 → ⊥) → Resting P z m' c B L S starts → k ≤ t → l ≤ 64 → Follows (t - k) (run P z t fuel left m) (ends (code_of s) nothing f (world m' (eqb (code_of s) 103) l))
      → Grouped P z t fuel left m (stood s f k l c) B L S starts
  unfolding rest_of
  grouped_end s m' some r le low f = record {
    machine = m';
    resting = r;
    less = le;
    falls = λ e. absurd (some e);
    low = low;
    follows = rw (ne_eqb (code_of s) 0 some) f;
  }

  -- a charge goes on, or says that the fuel is out
  pub grouped_charge : (f : Fuel) (cost k : ℕ) {c : Counts} (m' : M) → Resting P z m' c B L S starts → k < t → Follows (t - k) (run P z t fuel left m) (charge (run P z k) f cost m') → Grouped P z t fuel left m (charged_group f cost k c) B L S starts
  unfolding charged_group charge rest_of
  grouped_charge f cost k {c} m' r lt h = by (should_continue (consume (consume f (pos cost)) (pos 4))) h
    where
      by : (b : Bool) → Follows (t - k) (run P z t fuel left m) (if? b (run P z k (consume (consume f (pos cost)) (pos 4)) 64 m') (ends 101 nothing (consume (consume f (pos cost)) (pos 4)) (world m' false 64)))
          → Grouped P z t fuel left m (if? b (stood stand.GoesOn (consume (consume f (pos cost)) (pos 4)) k 64 c) (stood stand.OutOfFuel (consume (consume f (pos cost)) (pos 4)) k 64 c)) B L S starts
      by true h = record { machine = m'; resting = r; less = omega arith; falls = λ e. lt; low = omega arith; follows = h }
      by false h = grouped_end stand.OutOfFuel m' (λ e. omega (arith, e)) r (omega arith) (omega arith) h

-- ---- A step that closes its slice, or a callback
-- the run from m₀ has come to m with k ticks left, and m is ready for a step
module _ {P : Program} {z : Sizes} {t : ℕ} {fuel : Fuel} {left : ℕ} {m₀ : M} (m : M) (k l : ℕ) (f : Follows (t - k) (run P z t fuel left m₀) (run P z k fuel l m)) (le : k ≤ t) (lt : 0 < k) (ready : turn_of m.result m.frames ≡ is_ready)
    {B L S : List Cell} {starts : List ℕ} where
  -- the step is refused
  pub grouped_stop : {o : refusals.Refusal} {c : Counts} → outcome P z (next_action P m m.frames) m ≡ stops (number o) → Resting P z m c B L S starts → l ≤ 64 → Grouped P z t fuel left m₀ (stood (stand.Refused o) fuel k l c) B L S starts
  grouped_stop {o = x} e r low =
      let q = refused_step P z _ m (number x) (rw e at (step_law P z m ready)) in
      let s = refusal_small (number x) q in
      let o = refusal_some (number x) q in
      let w : eqb (number x) 103 ≡ false = ne_eqb (number x) 103 (λ h. omega arith) in
      grouped_end (stand.Refused x) m (λ h. omega arith) r le low (rw (w, ← follows_stop P z fuel l m k lt ready e) f)

  -- it is accepted, and its pace charges so much
  pub grouped_step : {d : Action} {after : M} {c : Counts} (cost : ℕ) → outcome P z (next_action P m m.frames) m ≡ does d after
      → goes_on (run P z (k - 1)) fuel l after (pace_of d) ≡ charge (run P z (k - 1)) fuel cost after → Resting P z after c B L S starts → Grouped P z t fuel left m₀ (charged_group fuel cost (k - 1) c) B L S starts
  grouped_step {after = after} cost e g r =
      let s = rw g at (follows_step P z fuel l m k lt ready e) in
      grouped_charge fuel cost (k - 1) after r (omega arith) (follows_on f s (omega (arith, le, lt)))

-- what is left of a slice is charged by what closes it, 0 by its own error, 8 by an effect callback
module _ (more : Fuel → ℕ → M → Trace) (fuel : Fuel) (left : ℕ) (m : M) where
  pub closing_charges : {p : Pace} → p ≡ closing → goes_on more fuel left m p ≡ charge more fuel left m
  unfolding goes_on
  closing_charges e = rw e refl

  pub failing_charges : {p : Pace} → p ≡ failing → goes_on more fuel left m p ≡ charge more fuel 0 m
  unfolding goes_on
  failing_charges e = rw e refl

  pub alone_charges : {p : Pace} → p ≡ alone → goes_on more fuel left m p ≡ charge more fuel 8 m
  unfolding goes_on
  alone_charges e = rw e refl

-- the machine that a step leads to is in form, and at rest if memory has it so
module _ {P : Program} {z : Sizes} {m : M} (accepted : Accepted P.image P.codes) (small : z.live ≤ 4096) (fits : MachineFits P z m) (ready : turn_of m.result m.frames ≡ is_ready) where
  pub acts_resting : {pace : Pace} {c : Counts} {B L S : List Cell} {starts : List ℕ} (a : ActsAs P z m pace c B L S starts) → z.store < 4294967296 → length L ≡ z.live → length S ≡ z.store → length starts ≡ 256 → Resting P z a.after c B L S starts
  acts_resting a low n s k = record {
    rests = a.rests;
    fits = step_fits P z accepted small m a.action a.after fits ready a.is;
    room = n;
    room_store = s;
    accepted = accepted;
    small = small;
    low = low;
    table = k;
  }

-- ---- The whole of a step that closes, by what it came to
module _ {P : Program} {z : Sizes} {t : ℕ} {fuel : Fuel} {left : ℕ} {m₀ : M} (m : M) (k l : ℕ) (f : Follows (t - k) (run P z t fuel left m₀) (run P z k fuel l m)) (le : k ≤ t) (lt : 0 < k)
    (accepted : Accepted P.image P.codes) (small : z.live ≤ 4096) (fits : MachineFits P z m) (ready : turn_of m.result m.frames ≡ is_ready) (low : l ≤ 64)
    {B L S : List Cell} {starts : List ℕ} (store : z.store < 4294967296) (room : length L ≡ z.live) (room_store : length S ≡ z.store) (table : length starts ≡ 256) where
  pub grouped_acted : {c : Counts} (pace : Pace) (cost : ℕ) (a : Result Acted refusals.Refusal) → ((p : Pace) (after : M) → p ≡ pace → goes_on (run P z (k - 1)) fuel l after p ≡ charge (run P z (k - 1)) fuel cost after)
      → c ≡ counts_of m → Acts P z m pace a B L S starts → Grouped P z t fuel left m₀ (acted_group a fuel cost k l c) B L S starts
  grouped_acted pace cost (Err n) g e h =
      let r : Resting P z m (counts_of m) B L S starts = record { rests = h.1; fits = fits; room = room; room_store = room_store; accepted = accepted; small = small; low = store; table = table } in
      rw e (grouped_stop m k l f le lt ready h.0 r low)
  grouped_acted pace cost (Ok (Done c)) g e h = grouped_step m k l f le lt ready cost h.is (g (pace_of h.action) h.after h.paces) (acts_resting accepted small fits ready h store room room_store table)
  grouped_acted pace cost (Ok (Failed c)) g e h =
      grouped_step m k l f le lt ready 0 h.is (failing_charges (run P z (k - 1)) fuel l h.after h.paces) (acts_resting accepted small fits ready h store room room_store table)
