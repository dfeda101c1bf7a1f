-- What is left of a run: the whole is so many steps, and then the rest.
use Rattle.std.specs.Prelude.{◌≡◌, false, length}
use Rattle.std.proofs.Math.Path.{refl}
use Rattle.std.proofs.Common.{◌∙◌}
use Prim.Native.Nat.{ℕ, zero, suc, ◌+◌, ◌-◌, ◌<◌}
use native.Mathlib.Omega.{arith}
use Rattle.fuel.specs.declared.Fuel.{Fuel}
use Rattle.machine.specs.Values.{Program}
use Rattle.machine.specs.Machine.{M}
use Rattle.machine.specs.Opcodes.{Action, next_action}
use Rattle.machine.specs.Calls.{Sizes, does, stops, outcome, world, nothing, Trace, ends, steps_of, answer_of, given_of, fuel_after, world_after, is_ready, turn_of, pace_of, goes_on, tick, run}

pub record Follows (k : ℕ) (whole rest : Trace) : Type 0 where
  pub taken : length (steps_of whole) ≡ k + length (steps_of rest)
  pub answer : answer_of whole ≡ answer_of rest
  pub given : given_of whole ≡ given_of rest
  pub fuel : fuel_after whole ≡ fuel_after rest
  pub world : world_after whole ≡ world_after rest

pub follows_none : (t : Trace) → Follows 0 t t
follows_none t = record { taken = omega arith; answer = refl; given = refl; fuel = refl; world = refl }

pub follows_on : {j k n : ℕ} {a b c : Trace} → Follows j a b → Follows k b c → n ≡ j + k → Follows n a c
follows_on f g e = record {
  taken = omega (arith, f.taken, g.taken, e);
  answer = f.answer ∙ g.answer;
  given = f.given ∙ g.given;
  fuel = f.fuel ∙ g.fuel;
  world = f.world ∙ g.world;
}

module _ (P : Program) (z : Sizes) (fuel : Fuel) (left : ℕ) (m : M) where
  -- an accepted step takes a tick
  pub follows_step : {d : Action} {after : M} (t : ℕ) → 0 < t → turn_of m.result m.frames ≡ is_ready → outcome P z (next_action P m m.frames) m ≡ does d after
      → Follows 1 (run P z t fuel left m) (goes_on (run P z (t - 1)) fuel left after (pace_of d))
  unfolding run tick steps_of answer_of given_of fuel_after world_after
  follows_step zero lt q e = absurd (omega arith)
  follows_step (suc t) lt q e =
      let n : suc t - 1 ≡ t = omega arith in
      rw (n, q, e) (record { taken = omega arith; answer = refl; given = refl; fuel = refl; world = refl })

  -- a refused one ends the run
  pub follows_stop : {n : ℕ} (t : ℕ) → 0 < t → turn_of m.result m.frames ≡ is_ready → outcome P z (next_action P m m.frames) m ≡ stops n → run P z t fuel left m ≡ ends n nothing fuel (world m false left)
  unfolding run tick
  follows_stop zero lt q e = absurd (omega arith)
  follows_stop (suc t) lt q e = rw (q, e) refl
