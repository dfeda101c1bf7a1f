-- An object that is made and pushed, judged by where frame and store would end; and one law for each answer of 10 `BuildList`.
use Rattle.std.specs.Prelude.{◌≡◌, List, [], ◌∷◌, ◌++◌, reverse, ℕ, ◌+◌, ◌-◌, ◌<◌, ◌≤◌, length, take, drop, Ok, Err}
use Rattle.std.proofs.Math.Path.{refl, ap}
use Rattle.std.proofs.Common.{subst, ◌∙◌, arith, le-leb}
use Rattle.std.proofs.Math.ListN.{length-reverse}
use Rattle.std.proofs.Math.Seq.{length-take-le}
use Rattle.std.proofs.lemmas.Bool.{lt-leb}
use Rattle.cells.specs.Cells.{cells, room, Writes}
use Rattle.cells.specs.CellsLaws.{length_cells, same_cells}
use Rattle.cells.specs.declared.Cell.{Cell}
use Rattle.machine.specs.Values.{Program, cell, list_at}
use Rattle.machine.specs.Machine.{Object, list, Result, M, with_store, frame_cost, frames_cost, result_cost, cost, used}
use Rattle.machine.proofs.Store.{used_append}
use Rattle.machine.specs.Opcodes.{Running, makes, doing, Taken, takes, refuses, stacked, build_list, opcode_action}
use Rattle.machine.specs.Calls.{Sizes, handlers_left, stops, outcome}
use Rattle.moves.specs.Runs.{Runs, Turns, with_counts, end_of, pushed, pop_top, values_there}
use Rattle.moves.specs.Objects.{Stored, made, list_stored}
use Rattle.moves.specs.declared.Running as registers
use Rattle.plan.proofs.RestLaws.{same_refl}
use Rattle.plan.proofs.Appended.{appends_refl, appends_made}
use Rattle.plan.specs.Inside.{Inside}
use Rattle.plan.proofs.InsideLaws.{judge_does, judge_live, judge_store, runs_cost, runs_fits}
use Rattle.makes.specs.Made.{MadeOn, Makes}
use Rattle.refusals.specs.declared.Refusal.TheVariants.{FewValues, LiveFull, StoreFull}

-- no byte changes
-- as many bytes, as many cells
-- ---- An object is made
-- a machine that runs has no result
pub no_result : {P : Program} {z : Sizes} {m : M} {r : Running} {g : registers.Running} {L S : List Cell} → Inside P z m r g L S → result_cost m.result ≡ 0
unfolding result_cost
no_result i = ap (λ (x : Result). result_cost x) i.running

module _ {P : Program} {z : Sizes} {m : M} {r : Running} {g : registers.Running} {L S : List Cell} (i : Inside P z m r g L S) (o : Object) (v : Cell) (st : List Cell) where
  few : length (stacked r (v ∷ st)) ≤ 256
  few = omega (arith, i.fits.few, ap length i.frames)

  module _ {t : Taken} (q : t ≡ takes (makes o (stacked r (v ∷ st)))) where
    -- there is no room, where the frame ends in h before the value is pushed
    module _ {h : registers.Running} (k : Runs r.handle r.place r.locals st r.handlers r.below h L) where
      ends : frames_cost (stacked r (v ∷ st)) ≡ end_of h + 1
      unfolding frames_cost frame_cost
      ends = omega (arith, runs_cost r.below k)

      pub no_live_lem : length L ≤ end_of h → outcome P z t m ≡ stops 14
      unfolding outcome doing handlers_left
      no_live_lem le =
          ap (λ (x : Taken). outcome P z x m) q
          ∙ judge_live z _ (with_store (stacked r (v ∷ st)) (m.store ++ (o ∷ [])) m) (omega arith) few (omega (arith, ends, no_result i, i.room))

      pub no_store_lem : end_of h < length L → length S < used m.store + cost o → outcome P z t m ≡ stops 15
      unfolding outcome doing handlers_left used
      no_store_lem lt s =
          ap (λ (x : Taken). outcome P z x m) q
          ∙ judge_store z _ (with_store (stacked r (v ∷ st)) (m.store ++ (o ∷ [])) m) (omega arith) few (omega (arith, ends, no_result i, i.room))
          (omega (arith, i.room_store, used_append m.store (o ∷ [])))

    -- there is room
    pub made_on : {g' : registers.Running} {u : ℕ} {L' S' : List Cell} → length L' ≡ length L → used m.store + cost o ≤ length S
        → Runs r.handle r.place r.locals (v ∷ st) r.handlers r.below g' L' → Stored (m.store ++ (o ∷ [])) S' → u ≡ used m.store + cost o → MadeOn (outcome P z t m) m r g' u L' S'
    unfolding outcome doing handlers_left used
    made_on len s k w e =
        let n = used_append m.store (o ∷ []) in
        record {
          object = o;
          place = r.place;
          locals = r.locals;
          stack = v ∷ st;
          handlers = r.handlers;
          is = ap (λ (x : Taken). outcome P z x m) q
              ∙ judge_does z _ (with_store (stacked r (v ∷ st)) (m.store ++ (o ∷ [])) m) (omega arith)
              (record { frames = few; live = omega (arith, runs_cost r.below k, runs_fits r.below k, no_result i, i.room); store = omega (arith, i.room_store, n) });
          runs = k;
          stored = w;
          uses = omega (arith, n);
        }

-- ---- 10 `BuildList`
module _ {P : Program} {z : Sizes} {m : M} {r : Running} {g : registers.Running} {L S : List Cell} (i : Inside P z m r g L S) (x : ℕ) where
  takes_none : g.stack < x → opcode_action P m r 10 x ≡ refuses 12
  unfolding opcode_action build_list
  takes_none lt = simp (lt-leb x (length r.stack) (omega (arith, i.runs.counts.stack)))

  module _ (le : x ≤ g.stack) where
    takes_list : opcode_action P m r 10 x ≡ takes (makes (list (reverse (take x r.stack))) (stacked r (list_at (used m.store) ∷ drop x r.stack)))
    unfolding opcode_action build_list
    takes_list = simp (le-leb x (length r.stack) (omega (arith, i.runs.counts.stack)))

    list_cost : cost (list (reverse (take x r.stack))) ≡ 1 + x
    unfolding cost
    list_cost = omega (arith, length-reverse (take x r.stack), length-take-le x r.stack (omega (arith, i.runs.counts.stack)))

    popped : {h : registers.Running} → h ≡ with_counts g.handlers (g.stack - x) g → Runs r.handle r.place r.locals (drop x r.stack) r.handlers r.below h L
    popped d = rw d (pop_top i.runs x le)

module _ {x : ℕ} {g : registers.Running} {u : ℕ} {live store : List ℕ} where
  pub list_few : g.stack < x → (P : Program) → Makes P 10 x g u (Err FewValues) live store live store
  unfolding outcome
  list_few lt P = record { next = λ z m r i e. (ap (λ (t : Taken). outcome P z t m) (takes_none i x lt), refl, refl); same_live = same_refl live; appends = appends_refl u store }

  module _ (le : x ≤ g.stack) {h : registers.Running} (d : h ≡ with_counts g.handlers (g.stack - x) g) where
    module _ {e n : ℕ} (a : e ≡ end_of h) (b : n ≡ room live) where
      pub list_no_live : n ≤ e → (P : Program) → Makes P 10 x g u (Err LiveFull) live store live store
      list_no_live l P = record {
        next = λ z m r i w. (no_live_lem i _ _ _ (takes_list i x le) (popped i x le d) (omega (arith, length_cells live)), refl, refl);
        same_live = same_refl live;
        appends = appends_refl u store;
      }

      pub list_no_store : {k : ℕ} → e < n → k ≡ room store → u ≤ room store → k - u < 1 + x → (P : Program) → Makes P 10 x g u (Err StoreFull) live store live store
      list_no_store l c s f P = record {
        next = λ z m r i w.
            (no_store_lem i _ _ _ (takes_list i x le) (popped i x le d) (omega (arith, length_cells live)) (omega (arith, list_cost i x le, length_cells store)), refl, refl);
        same_live = same_refl live;
        appends = appends_refl u store;
      }

    pub list_made : {e k : ℕ} {v : Cell} {g' : registers.Running} {live' store' : List ℕ} → e ≡ end_of h → k ≡ room store → u ≤ room store → 1 + x ≤ k - u
        → Writes store (made (cells store) u 129 0 (cells live) e x) store' → v ≡ cell 6 u 0 → Turns (pushed v) h live g' live' → (P : Program) → Makes P 10 x g u (Ok (record { g = g'; used = u + 1 + x })) live store live' store'
    list_made {e} {g' = g'} {live'} {store'} a c s f w l t' P = let t = subst (λ (v : Cell). Turns (pushed v) h live g' live') l t' in record {
      next = λ z m r i q.
          let n = list_cost i x le in
          let v : e ≡ end_of g - x = omega (arith, ap (λ (y : registers.Running). end_of y) d) in
          let y : take x (drop e (cells live)) ≡ reverse (take x r.stack) = ap (λ (j : ℕ). take x (drop j (cells live))) v ∙ values_there i.runs x le in
          let j : Stored (m.store ++ (list (take x (drop e (cells live))) ∷ [])) (made (cells store) u 129 0 (cells live) e x) =
          list_stored (cells live) u e x i.store q (omega (arith, length_cells store)) (omega (arith, runs_fits r.below i.runs)) in
          made_on i (list (reverse (take x r.stack))) (list_at (used m.store)) (drop x r.stack) (takes_list i x le) (same_cells live live' t.len) (omega (arith, length_cells store))
          (subst (λ (b : ℕ). Runs r.handle r.place r.locals (cell 6 b 0 ∷ drop x r.stack) r.handlers r.below g' (cells live')) q (t.top _ _ (popped i x le d)))
          (rw (← y, w.cells) j) (omega arith);
      same_live = record { rest = t.rest; len = t.len };
      appends = appends_made u 129 0 e x (cells live) (omega arith) w;
    }
