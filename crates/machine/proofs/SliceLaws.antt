-- "In one run with fuel f, at most max(1, f/4 rounded up) slices and callbacks begin."
use Rattle.std.specs.Prelude.{◌≡◌, List, Bool, not, ◌&&◌, cond, ℕ, zero, suc, ◌+◌, ◌-◌, ◌/◌, ◌≤◌, ◌<◌, ℤ, pos, negsuc, ◌+ℤ◌, ltb, leb, eqb}
use Rattle.std.proofs.Math.Path.{refl}
use Rattle.std.proofs.Math.Bool.{true, false}
use Rattle.std.proofs.Common.{arith, ne_eqb, leb-true, leb-false}
use Rattle.std.proofs.Math.Decide.{dec_le}
use Rattle.std.proofs.Math.IntN.{+ℤ_idr}
use Rattle.std.specs.Int.Signed.{lt_z}
use Rattle.fuel.specs.Fuels.{most, saturate, consume, should_continue}
use Rattle.fuel.specs.FuelLaws.{most_low, most_high}
use Rattle.fuel.specs.declared.Fuel.{Fuel}
use Rattle.image.specs.Records.{if?}
use Rattle.machine.specs.Values.{Program}
use Rattle.machine.specs.Machine.{Frame, Result, running, returned, failed, unhandled, M}
use Rattle.machine.specs.Opcodes.{Action, goes, jumps, makes, sets, sets_builtin, calls, performs, throws, returns, clears, doing, next_action}
use Rattle.machine.specs.Calls.{Sizes, Outcome, does, stops, outcome, world, nothing, Trace, ends, Turn, is_done, is_host, is_ready, turn_of, Pace, free, counted, closing, failing, alone, pace_of, charge, goes_on, no_ticks, tick, run}
use Rattle.machine.specs.StepLaws.{LuciaTop, lucia_top, StaysOn}
use Rattle.machine.proofs.StepLaws.{refusal_small, step_law, accepted_step, refused_step}
use Rattle.machine.specs.RunLaws.{charged}
use Rattle.machine.specs.SliceLaws.{ends_slice, slice_after, begins, max, quarter_up, most_begins}

-- ---- A charge after which there is fuel took 4 at least
-- The number, where it is above 0.
abbrev above : ℤ → ℕ
above (pos n) = n
above (negsuc n) = 0

above_saturate : (x : ℤ) → above (saturate x) ≤ above x
unfolding saturate
above_saturate (pos n) = by (dec_le n 2147483647)
  where
    by : Dec (n ≤ 2147483647) → most n ≤ n
    by (yes h) = omega (arith, most_low n h)
    by (no h) = omega (arith, most_high n (omega arith))
above_saturate (negsuc n) = omega arith

above_less : (x : ℤ) (d : ℕ) → above (x +ℤ negsuc d) ≤ above x - suc d
above_less (pos n) d = by (ltb n (suc d)) refl
  where
    by : (b : Bool) → ltb n (suc d) ≡ b → above (cond b (negsuc (suc d - suc n)) (pos (n - suc d))) ≤ n - suc d
    by true q = omega arith
    by false q = omega arith
above_less (negsuc n) d = omega arith

above_consume : (f : Fuel) (c : ℕ) → above (consume f (pos c)).fuel ≤ above f.fuel
unfolding saturate most
above_consume f zero = let h : above (saturate (f.fuel +ℤ pos 0)) ≤ above f.fuel = rw (+ℤ_idr f.fuel) (above_saturate f.fuel) in h
above_consume f (suc c) = omega (arith, above_saturate (f.fuel +ℤ negsuc (most c)), above_less f.fuel (most c))

above_four : (f : Fuel) → above (consume f (pos 4)).fuel ≤ above f.fuel - 4
unfolding saturate most
above_four f = omega (arith, above_saturate (f.fuel +ℤ negsuc 3), above_less f.fuel 3)

continues_above : (f : Fuel) → should_continue f ≡ true → 0 < above f.fuel
continues_above f q = by f.fuel f.interrupted q
  where
    by : (x : ℤ) (b : Bool) → (lt_z (pos 0) x && not b) ≡ true → 0 < above x
    by (pos zero) b q = let z : ◌≡◌ {A = ℕ} 0 1 = cc in absurd (omega arith)
    by (pos (suc n)) b q = omega arith
    by (negsuc n) b q = let z : ◌≡◌ {A = ℕ} 0 1 = cc in absurd (omega arith)

most_above : (x : ℤ) → most_begins x ≡ 1 + (above x - 1) / 4
unfolding most_begins max quarter_up
most_above (pos n) = by (leb 1 (quarter_up n)) refl
  where
    by : (b : Bool) → leb 1 (quarter_up n) ≡ b → if? b (quarter_up n) 1 ≡ 1 + (n - 1) / 4
    by true q = omega (arith, leb-true 1 (quarter_up n) q)
    by false q = omega (arith, leb-false 1 (quarter_up n) q)
most_above (negsuc n) = omega arith

-- One more may begin before the charge than after it.
most_charged : (fuel : Fuel) (c : ℕ) → should_continue (charged fuel c) ≡ true → most_begins (charged fuel c).fuel + 1 ≤ most_begins fuel.fuel
most_charged fuel c q =
    omega (arith, most_above (charged fuel c).fuel, most_above fuel.fuel, continues_above (charged fuel c) q, above_four (consume fuel (pos c)), above_consume fuel c)

most_some : (x : ℤ) → 1 ≤ most_begins x
most_some x = omega (arith, most_above x)

-- ---- A step that goes on in its slice leaves no host callback to begin
no_host : (r : Result) (F : List Frame) → LuciaTop F → turn_of r F ≡ is_host → ⊥
unfolding turn_of
no_host running F lucia_top q = let z : ◌≡◌ {A = ℕ} 0 1 = cc in omega arith
no_host (returned v) F lucia_top q = let z : ◌≡◌ {A = ℕ} 0 1 = cc in omega arith
no_host (failed x) F lucia_top q = let z : ◌≡◌ {A = ℕ} 0 1 = cc in omega arith
no_host (unhandled e args) F lucia_top q = let z : ◌≡◌ {A = ℕ} 0 1 = cc in omega arith

slice_no_host : (P : Program) (left : ℕ) (d : Action) (m : M) → StaysOn d → ends_slice left (pace_of d) ≡ false → turn_of (doing P d m).result (doing P d m).frames ≡ is_host → ⊥
unfolding pace_of ends_slice doing turn_of
slice_no_host P left (goes F) m t e = no_host m.result F t
slice_no_host P left (jumps F) m t e = no_host m.result F t
slice_no_host P left (makes o F) m t e = no_host m.result F t
slice_no_host P left (sets g v F) m t e = no_host m.result F t
slice_no_host P left (sets_builtin g v F) m t e = no_host m.result F t
slice_no_host P left (calls f args F) m t e = λ q. let z : ◌≡◌ {A = ℕ} 0 1 = cc in omega arith
slice_no_host P left (performs x args F) m t e = λ q. let z : ◌≡◌ {A = ℕ} 0 1 = cc in omega arith
slice_no_host P left (throws x F) m t e = λ q. let z : ◌≡◌ {A = ℕ} 0 1 = cc in omega arith
slice_no_host P left (returns v F) m t e = λ q. let z : ◌≡◌ {A = ℕ} 0 1 = cc in omega arith
slice_no_host P left clears m t e = absurd t

-- ---- The bound
abbrev NoHost : M → Type 0
NoHost m = turn_of m.result m.frames ≡ is_host → ⊥

-- What begins in a run stays within the bound, and in one that goes on in a slice it stays below it.
abbrev Bound : Fuel → ℕ → M → Trace → Type 0
Bound fuel left m r = (begins true left r ≤ most_begins fuel.fuel) × (NoHost m → begins false left r < most_begins fuel.fuel)

module _ (P : Program) (z : Sizes) (t : ℕ) (ih : (fuel : Fuel) (left : ℕ) (m : M) → Bound fuel left m (run P z t fuel left m)) (fuel : Fuel) (left : ℕ) (m : M) where
  charge_begins : (c : ℕ) → begins true 64 (charge (run P z t) fuel c m) < most_begins fuel.fuel
  unfolding charge begins
  charge_begins c = by (should_continue (charged fuel c)) refl
    where
      by : (b : Bool) → should_continue (charged fuel c) ≡ b → begins true 64 (if? b (run P z t (charged fuel c) 64 m) (ends 101 nothing (charged fuel c) (world m false 64))) < most_begins fuel.fuel
      by true q = omega (arith, (ih (charged fuel c) 64 m).0, most_charged fuel c q)
      by false q = most_some fuel.fuel

  on_begins : (p : Pace) → (ends_slice left p ≡ false → NoHost m) → begins (ends_slice left p) (slice_after left p) (goes_on (run P z t) fuel left m p) < most_begins fuel.fuel
  unfolding goes_on ends_slice slice_after
  on_begins free h = (ih fuel left m).1 (h refl)
  on_begins counted h = by (eqb left 0) h
    where
      by : (b : Bool) → (b ≡ false → NoHost m) → begins b (if? b 64 (left - 1)) (if? b (charge (run P z t) fuel 0 m) (run P z t fuel (left - 1) m)) < most_begins fuel.fuel
      by true h = charge_begins 0
      by false h = (ih fuel (left - 1) m).1 (h refl)
  on_begins closing h = charge_begins left
  on_begins failing h = charge_begins 0
  on_begins alone h = charge_begins 8

begins_bound : (P : Program) (z : Sizes) (t : ℕ) (fuel : Fuel) (left : ℕ) (m : M) → Bound fuel left m (run P z t fuel left m)
unfolding run no_ticks tick begins
begins_bound P z zero fuel left m = by (turn_of m.result m.frames) refl
  where
    by : (u : Turn) → turn_of m.result m.frames ≡ u → Bound fuel left m (no_ticks fuel left u m)
    by is_done q = (omega arith, λ h. most_some fuel.fuel)
    by is_host q = (most_some fuel.fuel, λ h. absurd (h q))
    by is_ready q = (omega arith, λ h. most_some fuel.fuel)
begins_bound P z (suc t) fuel left m = by (turn_of m.result m.frames) refl (outcome P z (next_action P m m.frames) m) refl (begins_bound P z t)
  where
    by : (u : Turn) → turn_of m.result m.frames ≡ u → (o : Outcome) → outcome P z (next_action P m m.frames) m ≡ o
        → ((fuel : Fuel) (left : ℕ) (m : M) → Bound fuel left m (run P z t fuel left m)) → Bound fuel left m (tick (run P z t) fuel left u m o)
    by is_done q o e ih = (omega arith, λ h. most_some fuel.fuel)
    by is_host q o e ih = (most_some fuel.fuel, λ h. absurd (h q))
    by is_ready q (does d m') e ih =
        let a = accepted_step P z _ m d m' (rw e at (step_law P z m q)) in
        let x = on_begins P z t ih fuel left m' (pace_of d) (λ n. rw a.done (slice_no_host P left d m a.stays n)) in
        (omega (arith, x), λ h. omega (arith, x))
    by is_ready q (stops n) e ih =
        let r = refusal_small n (refused_step P z _ m n (rw e at (step_law P z m q))) in
        rw (ne_eqb n 103 (λ h. omega arith)) (omega arith, λ h. most_some fuel.fuel)

-- In one run with fuel f at most max(1, f/4 rounded up) slices and callbacks begin.
pub begins_law : (P : Program) (z : Sizes) (t : ℕ) (fuel : Fuel) (left : ℕ) (m : M) → begins true left (run P z t fuel left m) ≤ most_begins fuel.fuel
begins_law P z t fuel left m = (begins_bound P z t fuel left m).0
