-- From a world that memory holds to a run, and back.
use Rattle.std.specs.Prelude.{◌≡◌, List, true, false, ℕ, ◌+◌, ◌≤◌, length, get_or, eqb}
use Rattle.std.proofs.Math.Path.{refl, sym}
use Rattle.std.proofs.Common.{ap, subst, ◌∙◌, append_assoc, arith}
use Rattle.cells.specs.Cells.{null, room, cells}
use Rattle.cells.specs.CellsLaws.{length_cells}
use Rattle.cells.specs.declared.Cell.{Cell}
use Rattle.fuel.specs.declared.Fuel.{Fuel}
use Rattle.image.specs.Fine.{Accepted}
use Rattle.machine.specs.Values.{Program}
use Rattle.machine.specs.Machine.{frames_cost, result_cost, used}
use Rattle.machine.specs.Calls.{Sizes, World, nothing, ends, runs, run, call_of, answer_of, steps_of, fuel_after, world_after}
use Rattle.memory.specs.Layout.{flat, bit, result_shown}
use Rattle.moves.specs.Starts.{Starting, starting_lower, starting_used}
use Rattle.plan.specs.declared.Counts.{Counts}
use Rattle.acts.specs.Acted.{Resting}
use Rattle.groups.specs.Grouped.{Ran}
use Rattle.groups.specs.declared.Group.{Group}
use Rattle.requests.specs.Asked.{rooms_of, Holding, LeavesWorld}
use Rattle.requests.specs.AskedLaws.{block_of, args_cost, live_of, machine_fits, rests_holds}
use Rattle.runs.specs.Ran.{RunLeaves}
use Rattle.groups.specs.Grouped.{code_of}

module _ {P : Program} {w : World} {state live store : List ℕ} (h : Holding P w state live store) where
  pub resting_of : {frames end more u : ℕ} {old starts : List ℕ} → Accepted P.image P.codes → room live ≤ 4096 → room store ≤ 65536 → length starts ≡ 256
      → frames ≡ length w.machine.frames → Starting (cells live) frames old end starts → more ≡ (get_or (cells state) 3 null).payload → u ≡ used w.machine.store
      → Resting P (rooms_of live store) w.machine (record { frames = frames; live = end + more; store = u }) (cells state) (cells live) (cells store) starts
  resting_of {frames} {end} {more} {u} {old} {starts} a small low table n s q e =
      let s' : Starting (cells live) (length w.machine.frames) old end starts = subst (λ (k : ℕ). Starting (cells live) k old end starts) n s in
      let c : end + more ≡ frames_cost w.machine.frames + result_cost w.machine.result =
      omega (arith, starting_used s' (live_of h), q ∙ ap (λ (l : List Cell). (get_or l 3 null).payload) h.holds.state, args_cost w.machine.result) in
      record {
        rests = record {
          counts = λ j. record { frames = n j; live = c j; store = e j };
          free = h.holds.free_live;
          live = h.holds.live ∙ append_assoc (flat w.machine.frames) (result_shown w.machine.result).args h.holds.free_live;
          begins = starting_lower s' (live_of h);
          store = record { free = h.holds.free_store; is = h.holds.store };
          block = block_of w h.holds.state;
        };
        fits = machine_fits h;
        room = length_cells live;
        room_store = length_cells store;
        accepted = a;
        small = small;
        low = omega arith;
        table = table;
      }

-- ---- A run
module _ (P : Program) (z : Sizes) (fuel : Fuel) (t : ℕ) (w : World) where
  pub call_runs : w.wait ≡ false → call_of P z (runs t fuel) w ≡ run P z t fuel w.slice w.machine
  unfolding call_of
  call_runs e = rw e refl

  pub call_waits : w.wait ≡ true → call_of P z (runs t fuel) w ≡ ends 11 nothing fuel w
  unfolding call_of
  call_waits e = rw e refl

  pub ran_leaves : {r : Group} {B : List Cell} {starts state state' live' store' : List ℕ} → w.wait ≡ false → Ran P z t fuel w.slice w.machine r B (cells live') (cells store') starts → B ≡ cells state
      → (wait : ℕ) → wait ≡ bit (eqb (code_of r.stand) 103) → LeavesWorld r.turn.counts r.turn.left wait state state' → RunLeaves (call_of P z (runs t fuel) w) t r state' live' store'
  unfolding answer_of steps_of fuel_after world_after
  ran_leaves {r} e a q wait o l =
      let f = a.follows in
      let s = l.shows a.machine (eqb (code_of r.stand) 103) (rw q at a.resting.rests.block) a.resting.rests.counts o in
      rw (call_runs e) (record {
        answer = sym f.answer;
        taken = omega (arith, f.taken);
        most = a.less;
        fuel = sym f.fuel;
        holds = rw f.world (rests_holds (eqb (code_of r.stand) 103) r.turn.left a.resting.rests s);
      })

  -- how much of the store is used then
  pub ran_uses : {r : Group} {B L S : List Cell} {starts : List ℕ} → w.wait ≡ false → Ran P z t fuel w.slice w.machine r B L S starts → r.turn.counts.store ≡ used (world_after (call_of P z (runs t fuel) w)).machine.store
  unfolding world_after
  ran_uses e a = rw (call_runs e, a.follows.world) (ap (λ (c : Counts). c.store) a.resting.rests.counts)

  pub wait_leaves : {r : Group} {state live store : List ℕ} → w.wait ≡ true → Holding P w state live store → code_of r.stand ≡ 11 → r.turn.ticks ≡ t → r.turn.fuel ≡ fuel → RunLeaves (call_of P z (runs t fuel) w) t r state live store
  unfolding answer_of steps_of fuel_after world_after
  wait_leaves e h a b c = rw (call_waits e) (record { answer = a; taken = omega (arith, b); most = omega (arith, b); fuel = c; holds = h.holds })
