-- One law for each return of a group, and the loop of a run.
use Rattle.std.specs.Prelude.{◌≡◌, refl, List, Bool, true, false, ℕ, ◌+◌, ◌-◌, ◌<◌, ◌≤◌, pos, get_or, eqb, Result}
use Rattle.std.proofs.Common.{sym, ap, subst, ◌∙◌, ne_eqb}
use native.Mathlib.Omega.{arith}
use Rattle.cells.specs.Cells.{null, cells}
use Rattle.cells.specs.declared.Cell.{Cell}
use Rattle.fuel.specs.Fuels.{consume}
use Rattle.fuel.specs.declared.Fuel.{Fuel}
use Rattle.machine.specs.Values.{Program}
use Rattle.machine.specs.Machine.{M}
use Rattle.machine.specs.Calls.{Sizes, world, nothing, ends, run, alone}
use Rattle.moves.specs.Runs.{opened}
use Rattle.moves.specs.declared.Running as registers
use Rattle.plan.specs.Rest.{Appends}
use Rattle.plan.proofs.RestLaws.{same_refl, same_join}
use Rattle.plan.proofs.Appended.{appends_refl, appends_same, appends_two}
use Rattle.plan.specs.declared.Counts.{Counts}
use Rattle.slices.specs.Follows.{Follows, follows_none, follows_on}
use Rattle.slices.specs.Sliced.{Slices}
use Rattle.slices.specs.declared.Slice.{Slice}
use Rattle.acts.specs.Acted.{Bounded, Resting}
use Rattle.closing.specs.Closed.{PerformsCallback}
use Rattle.refusals.specs.declared.Refusal.{Refusal}
use Rattle.acts.specs.declared.Acted.{Acted}
use Rattle.groups.specs.declared.Stand.{Stand}
use Rattle.groups.specs.declared.Stand.TheVariants as stand
use Rattle.groups.specs.Grouped.{code_of, stood, acted_group, rest_of, Came, Groups, LuciaGroups, Finishes, Ran}
use Rattle.groups.specs.GroupedLaws.{acted_uses, done_ends, wait_ends, pause_ends, grouped_end, grouped_acted, alone_charges}
use Rattle.groups.specs.FinishLaws.{room_same}
use Rattle.groups.specs.TopLaws.{HasResult, count_is, empty_done, result_done, next_top, host_waits, other_ready, callback_next, lucia_next, at_open}
use Rattle.groups.specs.declared.Group.{Group}

pub bounded_none : (state live store starts : List ℕ) → Bounded state live store starts state live store starts
bounded_none state live store starts = record { same_state = same_refl state; same_live = same_refl live; same_store = same_refl store; table = refl }

pub bounded_both : {a b c d a' b' c' d' a'' b'' c'' d'' : List ℕ} → Bounded a b c d a' b' c' d' → Bounded a' b' c' d' a'' b'' c'' d'' → Bounded a b c d a'' b'' c'' d''
bounded_both s t = record { same_state = same_join s.same_state t.same_state; same_live = same_join s.same_live t.same_live; same_store = same_join s.same_store t.same_store; table = t.table ∙ s.table }

-- ---- A slice of the Lucia frame on top, and what follows it
pub lucia_groups : {P : Program} {c : Counts} {fuel : Fuel} {t left base handle code : ℕ} {g : registers.Running} {s : Slice} {r : Group} {state live store starts a b d state' live' store' starts' : List ℕ}
    → (c.frames ≡ 0 → ⊥) → base ≡ get_or starts (c.frames - 1) 0 → g ≡ opened (cells live) base → handle ≡ (get_or (cells live) (base + 1) null).number → code ≡ (get_or (cells store) handle null).number
    → Slices P g handle code c.store left t s state live store a b d → Finishes P c.frames s fuel r a b d starts state' live' store' starts' → LuciaGroups P c fuel t left r state live store starts state' live' store' starts'
lucia_groups {c = c} {t = t} {left} {handle = handle} {code} {starts = starts} n e o h k w f = record {
  acts = λ z m r y low.
      let x = at_open r y e o h k in
      f.acts z t left m handle code (w.ends z m x r.accepted r.small)
      (record { count = count_is r; some = omega (arith, n); begins = r.rests.begins; accepted = r.accepted; small = r.small; low = r.low; table = r.table })
      (omega (arith, w.lower, low));
  bounded = bounded_both (record { same_state = w.same_state; same_live = w.same_live; same_store = appends_same w.appends; table = refl }) f.bounded;
  appends = appends_two w.appends f.appends;
}

-- ---- A group
module _ {P : Program} {c : Counts} {fuel : Fuel} {t left : ℕ} {r : Group} {state live store starts : List ℕ} where
  -- the run ends where it stands
  at_once : {f : Fuel} (s : Stand) (b : Bool) → (code_of s ≡ 0 → ⊥) → eqb (code_of s) 103 ≡ b → r ≡ stood s f t left c
      → ((z : Sizes) (m : M) → Resting P z m c (cells state) (cells live) (cells store) starts → run P z t fuel left m ≡ ends (code_of s) nothing f (world m b left)) → Groups P c fuel t left r state live store starts state live store starts
  at_once {f} s b some w q h = record {
    acts = λ z m x low.
        let e : t - t ≡ 0 = omega arith in
        rw q (grouped_end s m some x (omega arith) low (rw (e, w, ← h z m x) (follows_none (run P z t fuel left m))));
    bounded = bounded_none state live store starts;
    appends = subst (λ (x : Group). Appends c.store x.turn.counts.store store store) (sym q) (appends_refl c.store store);
  }

  pub group_empty : c.frames ≡ 0 → r ≡ stood stand.Done fuel t left c → Groups P c fuel t left r state live store starts state live store starts
  group_empty e q = at_once stand.Done false (λ h. omega (arith, h)) refl q (λ z m x. done_ends P z fuel left m t (empty_done x e))

  pub group_result : {k : Bool} → HasResult (cells state) k → k ≡ true → r ≡ stood stand.Done fuel t left c → Groups P c fuel t left r state live store starts state live store starts
  group_result h n q = at_once stand.Done false (λ h. omega (arith, h)) refl q (λ z m x. done_ends P z fuel left m t (result_done x h n))

  module _ {k : Bool} {base tag : ℕ} (n : c.frames ≡ 0 → ⊥) (h : HasResult (cells state) k) (e : k ≡ false) (b : base ≡ get_or starts (c.frames - 1) 0) (a : tag ≡ (get_or (cells live) base null).tag) where
    pub group_waits : {f : Fuel} → tag ≡ 65 → f ≡ consume fuel (pos 8) → r ≡ stood stand.Host f t left c → Groups P c fuel t left r state live store starts state live store starts
    group_waits w y q = at_once stand.Host true (λ h. omega (arith, h)) refl q (λ z m x. wait_ends P z fuel left m t (host_waits x (next_top x n h e b) (sym a ∙ w)) ∙ ap (λ (f : Fuel). ends 103 nothing f (world m true left)) (sym y))

    pub group_pauses : (tag ≡ 65 → ⊥) → t ≡ 0 → r ≡ stood stand.Paused fuel t left c → Groups P c fuel t left r state live store starts state live store starts
    group_pauses w y q = at_once stand.Paused false (λ h. omega (arith, h)) refl q (λ z m x. pause_ends P z fuel left m t y (other_ready x (next_top x n h e b) (λ j. w (a ∙ j))))

    pub group_performs : {o : Result Acted Refusal} {state' live' store' starts' : List ℕ} → (tag ≡ 65 → ⊥) → 0 < t → tag ≡ 66 → PerformsCallback P c o state live store starts state' live' store' starts' → r ≡ acted_group o fuel 8 t left c
        → Groups P c fuel t left r state live store starts state' live' store' starts'
    group_performs {o} {store' = store'} w lt y p q = record {
      acts = λ z m x low.
          let u = next_top x n h e b in
          let j : t - t ≡ 0 = omega arith in
          rw q (grouped_acted m t left (rw j (follows_none (run P z t fuel left m))) (omega arith) lt x.accepted x.small x.fits (other_ready x u (λ i. w (a ∙ i))) low x.low (room_same p.bounded.same_live x.room)
          (room_same p.bounded.same_store x.room_store) (p.bounded.table ∙ x.table) alone 8 o (λ i after v. alone_charges (run P z (t - 1)) fuel left after v) x.rests.counts (p.acts z m x (callback_next x u (sym a ∙ y))));
      bounded = p.bounded;
      appends = subst (λ (k : ℕ). Appends c.store k store store') (sym (ap (λ (x : Group). x.turn.counts.store) q ∙ acted_uses o fuel 8 t left c)) p.appends;
    }

    pub group_lucia : {state' live' store' starts' : List ℕ} → (tag ≡ 65 → ⊥) → (tag ≡ 66 → ⊥) → LuciaGroups P c fuel t left r state live store starts state' live' store' starts' → Groups P c fuel t left r state live store starts state' live' store' starts'
    group_lucia w y p = record {
      acts = λ z m x low. p.acts z m x (lucia_next x (next_top x n h e b) (λ i. w (a ∙ i)) (λ i. y (a ∙ i))) low;
      bounded = p.bounded;
      appends = p.appends;
    }

-- ---- The loop of a run
module _ {P : Program} {z : Sizes} {t : ℕ} {fuel : Fuel} {left : ℕ} {m : M} where
  -- none yet
  pub came_none : {c : Counts} {B L S : List Cell} {starts : List ℕ} → Resting P z m c B L S starts → left ≤ 64 → Came P z t fuel left m (stood stand.GoesOn fuel t left c) B L S starts
  unfolding rest_of
  came_none x low = let e : t - t ≡ 0 = omega arith in record { machine = m; resting = x; less = omega arith; low = low; follows = rw e (follows_none (run P z t fuel left m)) }

  -- one group more
  pub came_more : {r r' : Group} {state live store starts state' live' store' starts' : List ℕ} → Came P z t fuel left m r (cells state) (cells live) (cells store) starts → code_of r.stand ≡ 0
      → Groups P r.turn.counts r.turn.fuel r.turn.ticks r.turn.left r' state live store starts state' live' store' starts' → Came P z t fuel left m r' (cells state') (cells live') (cells store') starts'
  unfolding rest_of
  came_more {r} {r'} g e h =
      let n = h.acts z g.machine g.resting g.low in
      let f : Follows (t - r.turn.ticks) (run P z t fuel left m) (run P z r.turn.ticks r.turn.fuel r.turn.left g.machine) = rw e at g.follows in
      record {
        machine = n.machine;
        resting = n.resting;
        less = omega (arith, g.less, n.less);
        low = n.low;
        follows = follows_on f n.follows (omega (arith, g.less, n.less));
      }

  pub came_ran : {r : Group} {B L S : List Cell} {starts : List ℕ} → Came P z t fuel left m r B L S starts → (code_of r.stand ≡ 0 → ⊥) → Ran P z t fuel left m r B L S starts
  unfolding rest_of
  came_ran {r} g n = record { machine = g.machine; resting = g.resting; less = g.less; over = n; follows = rw (ne_eqb (code_of r.stand) 0 n) at g.follows }
