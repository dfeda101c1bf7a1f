-- One law for each need and return of a run as a call.
use Rattle.std.specs.Prelude.{◌≡◌, refl, Result, Ok, Err, List, ℕ, ◌-◌, ◌≤◌, drop}
use Rattle.std.proofs.Common.{sym, ap, ◌∙◌}
use Rattle.cells.specs.Cells.{cells}
use Rattle.fuel.specs.Loans.{read, write}
use Rattle.fuel.specs.declared.Fuel.{Fuel}
use Rattle.refusals.specs.declared.Refusal.{Refusal}
use Rattle.refusals.specs.Refusals.{number}
use Rattle.layout.specs.declared.Sizes as tables
use Rattle.machine.specs.Values.{Program}
use Rattle.machine.specs.Machine.{used}
use Rattle.machine.specs.Calls.{Trace, runs, call_of, world_after}
use Rattle.form.specs.Entry.{view_of, Enters}
use Rattle.groups.specs.declared.Group.{Group}
use Rattle.loans.specs.Loans.{front_live, front_store, sizes_of}
use Rattle.loans.specs.LoanLaws.{whole, length_whole}
use Rattle.loans.specs.EntryLaws.{live_cells_lem, store_cells, front_sizes, tabled, is_ready_lem, un_lent, lent_un_entered, lent_entered}
use Rattle.runs.specs.Ran.{RunLeaves, RunsLoans, ran_of, RunDone, RunCalled}
use Rattle.groups.specs.Grouped.{code_of}

-- ---- A run that is entered
module _ (image state live store : List ℕ) {x : Result tables.Sizes Refusal} {rows constants inner : List ℕ} (y : Enters image state live store x rows constants inner) {h : tables.Sizes} (a : x ≡ Ok h)
    {P : Program} (p : P ≡ tabled image rows constants inner h.codes h.constants h.inner) {t : ℕ} {f : Fuel} {g : Group} {state' live' store' : List ℕ} (l : RunsLoans P f t g state live store state' live' store') where
  r : RunsLoans (tabled image rows constants inner h.codes h.constants h.inner) f t g state live store state' live' store'
  r = rw p at l

  abbrev trace : Trace
  trace = call_of (tabled image rows constants inner h.codes h.constants h.inner) (sizes_of live store) (runs t f) (view_of state live store)

  run_leaves : RunLeaves trace t g state' (front_live live') (front_store store')
  run_leaves = let h = is_ready_lem image state live store y a in rw (← front_sizes live store) (r.runs.leaves (view_of state live store) h.0.holding h.1)

  run_free : drop (used (world_after trace).machine.store) (cells (front_store store')) ≡ drop (used (world_after trace).machine.store) (cells (front_store store))
  run_free = let h = is_ready_lem image state live store y a in rw (← front_sizes live store) (r.runs.free (view_of state live store) h.0.holding h.1)

  -- no more ticks are left than were given
  pub call_most : g.turn.ticks ≤ t
  call_most = run_leaves.most

  run_done : {fuel fuel' : List ℕ} → fuel' ≡ write fuel g.turn.fuel → RunDone trace (view_of state live store).wait (ran_of (code_of g.stand) (t - g.turn.ticks)) state live store fuel state' live' store' fuel'
  run_done {fuel} z = record {
    answers = λ j. ran_of (run_leaves.answer j) (run_leaves.taken j);
    holds = rw (← live_cells_lem live', ← store_cells store') run_leaves.holds;
    charges = z ∙ ap (write fuel) run_leaves.fuel;
    lengths = (r.runs.same_state.len, length_whole 65536 live live' r.runs.same_live.len r.behind_live, length_whole 1048576 store store' r.runs.same_store.len r.behind_store);
    behind_live = r.behind_live;
    behind_store = r.behind_store;
    rest_live = r.runs.same_live.rest;
    rest_store = r.runs.same_store.rest;
    free_store = let n = used (world_after trace).machine.store in ap (drop n) (sym (store_cells store')) ∙ run_free ∙ ap (drop n) (store_cells store);
    out_of_turn = λ h.
        let q = r.runs.untouched (view_of state live store) (is_ready_lem image state live store y a).0.holding h in
        (q.0, whole 65536 live live' q.1 r.behind_live, whole 1048576 store store' q.2 r.behind_store);
  }

-- ---- The returns: a loan of fuel that is refused, memory that is refused, a run
module _ (image : List ℕ) (t : ℕ) (state live store fuel : List ℕ) {o : Result Fuel Refusal} (w : o ≡ read fuel) where
  pub call_unlent : {r : Refusal} → o ≡ Err r → RunCalled image t (ran_of (number r) 0) state live store fuel state live store fuel
  call_unlent e = record { does = rw (un_lent image state live store fuel w e) (refl, refl, refl, refl, refl) }

  module _ {f : Fuel} (e : o ≡ Ok f) {x : Result tables.Sizes Refusal} {rows constants inner : List ℕ} (y : Enters image state live store x rows constants inner) where
    pub call_unentered : {r : Refusal} → x ≡ Err r → RunCalled image t (ran_of (number r) 0) state live store fuel state live store fuel
    call_unentered k = record { does = rw (lent_un_entered image state live store fuel w e y k) (refl, refl, refl, refl, refl) }

    pub call_runs : {h : tables.Sizes} (a : x ≡ Ok h) {P : Program} → P ≡ tabled image rows constants inner h.codes h.constants h.inner → {g : Group} {state' live' store' fuel' : List ℕ} → RunsLoans P f t g state live store state' live' store'
        → fuel' ≡ write fuel g.turn.fuel → {n : ℕ} → n ≡ code_of g.stand → RunCalled image t (ran_of n (t - g.turn.ticks)) state live store fuel state' live' store' fuel'
    call_runs a p r z q = record { does = rw (q, lent_entered image state live store fuel w e y a) (run_done image state live store y a p r z) }
