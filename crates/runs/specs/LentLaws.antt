-- One law for each need and return of a run over loans that are cut to their most.
use Rattle.std.specs.Prelude.{◌≡◌, refl, List, Bool, true, false, ℕ, ◌+◌, ◌-◌, ◌≤◌, length, get_or, drop, eqb}
use Rattle.std.proofs.Common.{sym, ap, subst, ◌∙◌, arith, eq-eqb, ne_eqb}
use Rattle.cells.specs.Cells.{null, room, cells}
use Rattle.cells.specs.declared.Cell.{Cell}
use Rattle.fuel.specs.declared.Fuel.{Fuel}
use Rattle.machine.specs.Values.{Program}
use Rattle.machine.specs.Machine.{frames_cost, used}
use Rattle.machine.specs.Calls.{World}
use Rattle.machine.specs.Form.{top_of}
use Rattle.machine.proofs.FormLaws.{turn_most}
use Rattle.memory.specs.Layout.{flat, bit, state_cells}
use Rattle.memory.specs.View.{frames_size}
use Rattle.memory.proofs.Lists.{length_flat}
use Rattle.moves.specs.Starts.{Starting, frames_lower}
use Rattle.plan.proofs.RestLaws.{same_refl, same_join}
use Rattle.plan.specs.declared.Counts.{Counts}
use Rattle.acts.specs.Acted.{Resting}
use Rattle.groups.specs.Grouped.{stood, Groupable, Ran, Runs}
use Rattle.groups.specs.declared.Group.{Group}
use Rattle.requests.specs.Asked.{rooms_of, Holding, Entered, Leavable, LeavesWorld}
use Rattle.requests.specs.AskedLaws.{args_cost, live_of}
use Rattle.runs.specs.Ran.{RunsWorld}
use Rattle.runs.specs.RanLaws.{resting_of, ran_leaves, ran_uses, wait_leaves}
use Rattle.groups.specs.Grouped.{code_of}
use Rattle.groups.specs.declared.Stand.TheVariants as stand
use Rattle.refusals.specs.declared.Refusal.TheVariants.{OutOfTurn}

-- what a reader of the state block says of the world that it holds
abbrev Shows : List ℕ → (World → ℕ) → ℕ → Type 0
Shows state f n = (w : World) → cells state ≡ state_cells w → n ≡ f w

abbrev Waits : List ℕ → Bool → Type 0
Waits state b = (w : World) → cells state ≡ state_cells w → b ≡ w.wait

module _ {P : Program} {state live store : List ℕ} (x : Entered P state live store) where
  abbrev in_state : cells state ≡ state_cells x.world
  in_state = x.holding.holds.state

  frames_cells : {frames : ℕ} → Shows state (λ w. length w.machine.frames) frames → frames_size frames (cells live) ≡ frames_cost x.world.machine.frames
  frames_cells {frames} f =
      let F = x.world.machine.frames in
      let z : length F - length F ≡ 0 = omega arith in
      ap (λ (k : ℕ). frames_size k (cells live)) (f x.world in_state) ∙ frames_lower (length F) (live_of x.holding) (omega arith) ∙ ap (λ (k : ℕ). length (flat (drop k F))) z ∙ length_flat F

  -- the walk over the frames' heads stays in the live stack
  pub lent_starts : {frames : ℕ} → Shows state (λ w. length w.machine.frames) frames → (frames_size frames (cells live) ≤ room live) × (room live ≤ 65536) × (frames ≤ 256)
  lent_starts f = (omega (arith, frames_cells f, x.holding.fits.live), omega (arith, x.small.0), omega (arith, f x.world in_state, x.holding.fits.few))

  -- frames and arguments together stay in the live stack
  pub lent_live : {frames end more : ℕ} {old starts : List ℕ} → Shows state (λ w. length w.machine.frames) frames → Starting (cells live) frames old end starts
      → more ≡ (get_or (cells state) 3 null).payload → end + more ≤ 4096
  lent_live f s q =
      omega (arith, s.used, frames_cells f, q ∙ ap (λ (l : List Cell). (get_or l 3 null).payload) in_state, args_cost x.world.machine.result, x.holding.fits.live, x.small.0)

  module _ {frames end more u left : ℕ} {old starts : List ℕ} (f : Shows state (λ w. length w.machine.frames) frames) (s : Starting (cells live) frames old end starts)
      (table : length old ≡ 256) (q : more ≡ (get_or (cells state) 3 null).payload) (g : Shows state (λ w. used w.machine.store) u)
      (k : Shows state (λ w. w.slice) left) where
    abbrev lent_counts : Counts
    lent_counts = record { frames = frames; live = end + more; store = u }

    lent_resting : (w : World) → Holding P w state live store → Resting P (rooms_of live store) w.machine lent_counts (cells state) (cells live) (cells store) starts
    lent_resting w h = resting_of h x.accepted x.small.0 x.small.1 (s.len ∙ table) (f w h.holds.state) s q (g w h.holds.state)

    lent_low : (w : World) → Holding P w state live store → left ≤ 64
    lent_low w h = omega (arith, k w h.holds.state, turn_most (top_of w.machine.result w.machine.frames) w.wait w.slice h.fits.turn)

    pub lent_groupable : {args : List ℕ} → 65536 ≤ length args → Groupable P lent_counts left state live store starts args
    lent_groupable a = record {
      sizes = rooms_of live store;
      machine = x.world.machine;
      resting = lent_resting x.world x.holding;
      low = lent_low x.world x.holding;
      len = x.block;
      values = a;
    }

    module _ {fuel : Fuel} {t : ℕ} {r : Group} {state₁ live' store' starts' : List ℕ} (w : Runs P lent_counts fuel t left r state live store starts state₁ live' store' starts') where
      lent_ran : (v : World) → Holding P v state live store → Ran P (rooms_of live store) t fuel v.slice v.machine r (cells state₁) (cells live') (cells store') starts'
      lent_ran v h =
          subst (λ (n : ℕ). Ran P (rooms_of live store) t fuel n v.machine r (cells state₁) (cells live') (cells store') starts') (k v h.holds.state)
          (w.acts (rooms_of live store) v.machine (lent_resting v h) (lent_low v h))

      pub lent_leavable : Leavable r.turn.counts state₁
      lent_leavable =
          let a = lent_ran x.world x.holding in
          record { frames = omega (arith, ap (λ (c : Counts). c.frames) a.resting.rests.counts, a.resting.fits.few); block = w.bounded.same_state.len ∙ x.block }

      -- the state block shows what the run leaves
      lent_leaves : {on : Bool} {wait : ℕ} {state' : List ℕ} → Waits state on → on ≡ false → wait ≡ bit (eqb (code_of r.stand) 103) → LeavesWorld r.turn.counts r.turn.left wait state₁ state'
          → RunsWorld P fuel t r state live store state' live' store'
      lent_leaves {wait = wait} b z o l =
          let none : (v : World) → Holding P v state live store → v.wait ≡ false = λ v h. sym (b v h.holds.state) ∙ z in
          record {
            leaves = λ v h a. ran_leaves P (rooms_of live store) fuel t v (none v h) (lent_ran v h) refl wait o l;
            untouched = λ v h e. let y : true ≡ false = sym e ∙ none v h in let c : ◌≡◌ {A = ℕ} 0 1 = cc in absurd (omega arith);
            same_state = same_join w.bounded.same_state l.same;
            same_live = w.bounded.same_live;
            same_store = w.bounded.same_store;
            free = λ v h a. subst (λ (n : ℕ). drop n (cells store') ≡ drop n (cells store)) (ran_uses P (rooms_of live store) fuel t v (none v h) (lent_ran v h)) w.appends.free;
          }

      pub lent_waits : {on : Bool} {state' : List ℕ} → Waits state on → on ≡ false → code_of r.stand ≡ 103 → LeavesWorld r.turn.counts r.turn.left 1 state₁ state'
          → RunsWorld P fuel t r state live store state' live' store'
      lent_waits b z e l = lent_leaves b z (rw (eq-eqb (code_of r.stand) 103 e) refl) l

      pub lent_ends : {on : Bool} {state' : List ℕ} → Waits state on → on ≡ false → (code_of r.stand ≡ 103 → ⊥) → LeavesWorld r.turn.counts r.turn.left 0 state₁ state'
          → RunsWorld P fuel t r state live store state' live' store'
      lent_ends b z e l = lent_leaves b z (rw (ne_eqb (code_of r.stand) 103 e) refl) l

  -- a run during a wait is out of turn
  pub lent_turn : {fuel : Fuel} {t left : ℕ} {on : Bool} {c : Counts} → Waits state on → on ≡ true → RunsWorld P fuel t (stood (stand.Refused OutOfTurn) fuel t left c) state live store state live store
  lent_turn {fuel} {t} b o = record {
    leaves = λ v h a. wait_leaves P (rooms_of live store) fuel t v (sym (b v h.holds.state) ∙ o) h refl refl refl;
    untouched = λ v h e. (refl, refl, refl);
    same_state = same_refl state;
    same_live = same_refl live;
    same_store = same_refl store;
    free = λ v h a. refl;
  }
