-- A plan for a machine at rest: from the counts that it leaves to its refusal, or to what memory holds then.
use Rattle.std.specs.Prelude.{◌≡◌, refl, List, false, ℕ, ◌≤◌, length, drop, Result, Ok, Err, OnOk, OnErr}
use Rattle.std.proofs.Common.{sym, ap, subst, ◌∙◌, arith, ne_eqb}
use Rattle.cells.specs.Cells.{room, cells}
use Rattle.cells.specs.CellsLaws.{length_cells}
use Rattle.cells.specs.declared.Cell.{Cell}
use Rattle.machine.specs.Values.{Program}
use Rattle.machine.specs.Machine.{M, used}
use Rattle.machine.specs.Opcodes.{Action}
use Rattle.machine.specs.Calls.{Sizes, handlers_left, judge}
use Rattle.moves.specs.Frames.{Live}
use Rattle.plan.specs.Rest.{counts_of, Held, Rests}
use Rattle.plan.specs.Plans.{Carries}
use Rattle.plan.specs.declared.Counts.{Counts}
use Rattle.plan.specs.declared.Plan.{Plan}
use Rattle.plan.specs.declared.Plan.TheVariants.{Starts, Resumes, Handles, Catches, Unhandled, Fails, Receives, Returns, Stays}
use Rattle.counts.specs.Counted.{refusal_by, Ready, Countable}
use Rattle.counts.specs.Judged.{judged, granted}
use Rattle.actions.specs.Acted.{Roomy, Carriable, CarriesOut}
use Rattle.refusals.specs.Refusals.{number}
use Rattle.refusals.proofs.NumberLaws.{number_not_zero}
use Rattle.refusals.specs.declared.Refusal.{Refusal}
use Rattle.requests.specs.Asked.{Leavable, LeavesWorld, Finishable, FinishLeaves, Finishes, Leaves, finish_number}
use Rattle.requests.specs.AskedLaws.{rests_holds}

ready_of : (plan : Plan) (m : M) (L : List Cell) → Live m.frames L → Ready plan m L
ready_of (Starts f p) m L l = tt
ready_of (Resumes h v) m L l = tt
ready_of (Handles i j e p) m L l = tt
ready_of (Catches i j x) m L l = tt
ready_of (Unhandled e) m L l = tt
ready_of (Fails x) m L l = tt
ready_of (Receives v) m L l = l
ready_of (Returns v) m L l = tt
ready_of Stays m L l = tt

-- ---- The needs of the calls, and the returns
module _ (args : List ℕ) {plan : Plan} {c : Counts} {most : ℕ} {state live store starts : List ℕ} (s : Finishable plan (cells args) c most state live store starts) where
  ready : {m : M} → Rests m c (cells state) (cells live) (cells store) starts → Ready plan m (cells live)
  ready {m} r = ready_of plan m (cells live) (record { free = _; is = r.live })

  pub countable : {n : ℕ} → n ≡ room args → Countable plan n c (cells live) (cells store) starts
  countable {n} e =
      let q : length (cells args) ≡ n = length_cells args ∙ sym e in
      record {
        program = s.program;
        machine = s.machine;
        after = s.after;
        args = cells args;
        given = q;
        carries = s.carries;
        held = s.held;
        ready = ready s.rests;
        table = omega arith;
        few = (omega arith, omega (arith, length_cells store), omega (arith, length_cells live), omega arith);
        used = omega (arith, length_cells store);
      }

  -- with what the plan leaves, in numbers
  module _ {n : ℕ} {after : Counts} (e : n ≡ room args)
      (k : (P : Program) (m m' : M) (args : List Cell) → length args ≡ n → Carries P plan args m m' → Held P m c (cells live) (cells store) starts → Ready plan m (cells live) → after ≡ counts_of m')
      {b no : ℕ} (t : b ≡ room store) (q : no ≡ refusal_by (record { live = most; store = b }) after) where
    module _ {P : Program} {m : M} (m' : M) (a : Carries P plan (cells args) m m') (r : Rests m c (cells state) (cells live) (cells store) starts) (h : Held P m c (cells live) (cells store) starts) where
      after_is : after ≡ counts_of m'
      after_is = k P m m' (cells args) (length_cells args ∙ sym e) a h (ready r)

      number_is : no ≡ refusal_by (record { live = most; store = room store }) (counts_of m')
      number_is = q ∙ λ j. refusal_by (record { live = most; store = t j }) (after_is j)

    pub finish_refused : {x : Refusal} → no ≡ number x → Finishes plan (cells args) c most (Err x) state live store starts state live store
    finish_refused e = record {
      leaves = λ P m m' a r h. record { answer = sym e ∙ number_is m' a r h; holds = tt; used = tt };
      appends = λ P m m' a r h. tt;
      refused = (refl, refl, refl);
      same_state = record { rest = refl; len = refl };
      same_live = record { rest = refl; len = refl };
      same_store = record { rest = refl; len = refl };
    }

    module _ (ok : no ≡ 0) where
      roomy : Roomy after live store starts
      roomy =
          let g = granted (record { live = most; store = b }) after (sym q ∙ ok) in
          record {
            table = omega (arith, g.0);
            cells_live = omega (arith, g.1);
            cells_store = omega (arith, g.2);
            small = (omega arith, omega arith);
          }

      roomy_in : (m' : M) → after ≡ counts_of m' → Roomy (counts_of m') live store starts
      roomy_in m' x = subst (λ (y : Counts). Roomy y live store starts) x roomy

      pub carriable : Carriable plan (cells args) c state live store starts
      carriable = record {
        program = s.program;
        machine = s.machine;
        after = s.after;
        carries = s.carries;
        rests = s.rests;
        held = s.held;
        before = record { table = omega arith; cells_live = omega arith; cells_store = omega arith; small = roomy.small };
        behind = roomy_in s.after (after_is s.after s.carries s.rests s.held);
        block = s.block;
      }

      module _ {mid live' store' starts' : List ℕ} (o : CarriesOut plan (cells args) c state live store starts mid live' store' starts') where
        pub leavable : Leavable after mid
        leavable = record { frames = omega (arith, roomy.table); block = o.same_state.len ∙ s.block }

        pub finished : {state' : List ℕ} → LeavesWorld after 64 0 mid state' → Finishes plan (cells args) c most (Ok after.live) state live store starts state' live' store'
        finished {state'} v = record {
          leaves = λ P m m' a r h.
              let x = after_is m' a r h in
              let y = o.rests P m m' a h.running r (roomy_in m' x) in
              record {
                answer = sym ok ∙ number_is m' a r h;
                holds = rests_holds false 64 y (v.shows m' false y.block x refl);
                used = ap (λ (n : Counts). n.live) x;
              };
          appends = λ P m m' a r h. o.appends P m m' a h.running r (roomy_in m' (after_is m' a r h));
          refused = tt;
          same_state = record { rest = v.same.rest ∙ o.same_state.rest; len = v.same.len ∙ o.same_state.len };
          same_live = o.same_live;
          same_store = o.same_store;
        }

-- ---- By the machine's definition, which judges the same
pub judged_leaves : (state live store : List ℕ) {z : Sizes} (d : Action) {m' : M} {r : Result ℕ Refusal} {state' live' store' : List ℕ} → handlers_left d ≤ 16 → FinishLeaves z m' r state' live' store'
    → OnOk r (drop (used m'.store) (cells store') ≡ drop (used m'.store) (cells store)) → OnErr r ((state' ≡ state) × (live' ≡ live) × (store' ≡ store))
    → Leaves (judge z d m') (finish_number r) state live store state' live' store'
judged_leaves state live store {z} d {m'} {r = Ok n} few f free kept = rw (judged z d m' few, ← f.answer) (refl, f.holds, free)
judged_leaves state live store {z} d {m'} {r = Err r} few f free kept = rw (judged z d m' few, ← f.answer, ne_eqb (number r) 0 (number_not_zero r)) (refl, kept.0, kept.1, kept.2)
