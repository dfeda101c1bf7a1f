-- One law for each need and return of a start and of an answer as calls.
use Rattle.std.proofs.Math.Path.{◌≡◌, refl, sym, ap}
use Rattle.std.proofs.Common.{subst, ◌∙◌, arith}
use mathlib.Core.List.{List, [], ◌++◌}
use Rattle.std.specs.Prelude.{Result, Ok, Err, Bool, true, false, ℕ, pos, length, drop}
use Rattle.cells.specs.Le.{Bytes}
use Rattle.cells.specs.Cells.{cells}
use Rattle.cells.specs.declared.Cell.{Cell}
use Rattle.fuel.specs.Fuels.{consume, should_continue}
use Rattle.fuel.specs.Loans.{read, write}
use Rattle.fuel.specs.LoanLaws.{write_read}
use Rattle.fuel.specs.declared.Fuel.{Fuel}
use Rattle.refusals.specs.declared.Refusal.{Refusal}
use Rattle.refusals.specs.Refusals.{number, number_of}
use Rattle.refusals.proofs.NumberLaws.{number_not_zero}
use Rattle.layout.specs.declared.Sizes as tables
use Rattle.machine.specs.Values.{Program}
use Rattle.machine.specs.Machine.{used}
use Rattle.machine.specs.Calls.{Outcome, does, stops, World, Trace, no_fuel, steps_of, answer_of, fuel_after, world_after}
use Rattle.memory.specs.Layout.{Holds}
use Rattle.form.specs.Entry.{view_of, store_of, Enters}
use Rattle.requests.specs.Sent.{Sent, starting, answering, sent_outcome, sent_trace}
use Rattle.requests.specs.SentLaws.{Lent, done_code, done_fuel, sent_stops, sent_does}
use Rattle.requests.specs.Asked.{Leaves, SentWorld}
use Rattle.loans.specs.Loans.{front_live, front_store, sizes_of}
use Rattle.loans.specs.LoanLaws.{Parted, loans_back, whole, length_whole}
use Rattle.loans.specs.EntryLaws.{live_cells_lem, store_cells, front_sizes, tabled, un_entered, is_entered, is_ready_lem, un_lent, lent_un_entered, lent_entered}
use Rattle.turns.specs.Turned.{SentDone, StartCalled, AnswerCalled}
use Rattle.turns.specs.Loaned.{SentLoans}

-- ---- Over whole loans
pub loans_sent : {P : Program} {q : Sent} {r : ℕ} {state live store l s b d : List ℕ} → Parted live store l s b d → {state' f g live' store' : List ℕ}
    → SentWorld P q r state l s state' f g → live' ≡ f ++ b → store' ≡ g ++ d → SentLoans P q r state live store state' live' store'
loans_sent {P} {q} {r} {state} p {state'} w a c =
    let x = loans_back p (λ (l s l' s' : List ℕ). SentWorld P q r state l s state' l' s') w w.same_live.len w.same_store.len a c in
    record { sent = x.0; behind_live = x.1; behind_store = x.2 }

-- ---- What is sent and entered, as a call
module _ (image state live store : List ℕ) {x : Result tables.Sizes Refusal} {rows constants inner : List ℕ} (y : Enters image state live store x rows constants inner) {h : tables.Sizes} (a : x ≡ Ok h)
    {Q : Program} (p : Q ≡ tabled image rows constants inner h.codes h.constants h.inner) {s : Sent} {r : ℕ} {state' live' store' : List ℕ} (sends : SentLoans Q s r state live store state' live' store') where
  abbrev P : Program
  P = tabled image rows constants inner h.codes h.constants h.inner

  l : SentLoans P s r state live store state' live' store'
  l = rw p at sends

  abbrev w : World
  w = view_of state live store

  abbrev o : Outcome
  o = sent_outcome P (sizes_of live store) s w

  leaves : Leaves o r state (front_live live) (front_store store) state' (front_live live') (front_store store')
  leaves = let h = is_ready_lem image state live store y a in rw (← front_sizes live store) (l.sent.leaves w h.0.holding h.1)

  lengths : (length state' ≡ length state) × (length live' ≡ length live) × (length store' ≡ length store)
  lengths = (l.sent.same_state.len, length_whole 65536 live live' l.sent.same_live.len l.behind_live, length_whole 1048576 store store' l.sent.same_store.len l.behind_store)

  module _ (fuel : Fuel) (e : Lent fuel s) where
    abbrev trace : Trace
    trace = sent_trace P (sizes_of live store) fuel s w

    -- what is done answers by its fuel; what is refused, by its number
    sent_done : {n : ℕ} → (r ≡ 0 → n ≡ done_code fuel s) → ((r ≡ 0 → ⊥) → n ≡ r) → SentDone trace n state live store state' live' store'
    unfolding steps_of answer_of world_after
    sent_done {n} g h = by o refl leaves
      where
        holding : Holds w (cells state) (cells (front_live live)) (cells (front_store store))
        holding = (is_ready_lem image state live store y a).0.holding.holds

        by : (q : Outcome) → o ≡ q → Leaves q r state (front_live live) (front_store store) state' (front_live live') (front_store store') → SentDone trace n state live store state' live' store'
        by (does d m) i v =
            let t = sent_does P (sizes_of live store) w fuel s e i in
            record {
              answers = g v.0 ∙ sym t.answer;
              holds = rw (t.world, ← live_cells_lem live', ← store_cells store') v.1;
              lengths = lengths;
              behind_live = l.behind_live;
              behind_store = l.behind_store;
              rest_live = l.sent.same_live.rest;
              rest_store = l.sent.same_store.rest;
              free_store =
                  subst (λ (k : World). drop (used k.machine.store) (store_of store') ≡ drop (used k.machine.store) (store_of store)) (sym t.world)
                  (ap (drop (used m.store)) (sym (store_cells store')) ∙ v.2 ∙ ap (drop (used m.store)) (store_cells store));
              refuses = λ none. let z : ◌≡◌ {A = ℕ} 0 1 = cc t.steps in absurd (omega arith);
            }
        by (stops number) i v =
            let t = sent_stops P (sizes_of live store) w fuel s e i in
            record {
              answers = rw t.0 (h (λ q. t.1 (sym v.0 ∙ q)) ∙ v.0);
              holds = rw (t.0, ← live_cells_lem live', ← store_cells store', v.1, v.2, v.3) holding;
              lengths = lengths;
              behind_live = l.behind_live;
              behind_store = l.behind_store;
              rest_live = l.sent.same_live.rest;
              rest_store = l.sent.same_store.rest;
              free_store = ap (λ (x : List ℕ). drop (used (world_after trace).machine.store) (store_of x)) (whole 1048576 store store' v.3 l.behind_store);
              refuses = λ none. (v.1, whole 65536 live live' v.2 l.behind_live, whole 1048576 store store' v.3 l.behind_store);
            }

    -- and its fuel is charged, or left
    sent_fuel : (F F' : List ℕ) → Bytes F → read F ≡ Ok fuel → (r ≡ 0 → F' ≡ write F (done_fuel fuel s)) → ((r ≡ 0 → ⊥) → F' ≡ F) → (F' ≡ write F (fuel_after trace)) × (steps_of trace ≡ [] → F' ≡ F)
    unfolding steps_of fuel_after
    sent_fuel F F' bytes f g h = by o refl leaves
      where
        by : (q : Outcome) → o ≡ q → Leaves q r state (front_live live) (front_store store) state' (front_live live') (front_store store') → (F' ≡ write F (fuel_after trace)) × (steps_of trace ≡ [] → F' ≡ F)
        by (does d m) i v =
            let t = sent_does P (sizes_of live store) w fuel s e i in
            (g v.0 ∙ ap (write F) (sym t.left), λ none. let z : ◌≡◌ {A = ℕ} 0 1 = cc t.steps in absurd (omega arith))
        by (stops number) i v =
            let t = sent_stops P (sizes_of live store) w fuel s e i in
            let kept : F' ≡ F = h (λ q. t.1 (sym v.0 ∙ q)) in
            (rw t.0 (kept ∙ sym (write_read F fuel bytes f)), λ none. kept)

-- ---- The returns of a start: memory that is refused, and what was sent
module _ (image : List ℕ) (f : Cell) (args state live store : List ℕ) {x : Result tables.Sizes Refusal} {rows constants inner : List ℕ} (y : Enters image state live store x rows constants inner) where
  pub start_unentered : {r : Refusal} → x ≡ Err r → StartCalled image f args (number r) state live store state live store
  start_unentered a = record { does = rw (un_entered image state live store y a) (refl, refl, refl, refl) }

  pub start_sent : {h : tables.Sizes} → x ≡ Ok h → {P : Program} → P ≡ tabled image rows constants inner h.codes h.constants h.inner → {r : ℕ} {state' live' store' : List ℕ} → SentLoans P (starting f args) r state live store state' live' store'
      → StartCalled image f args r state live store state' live' store'
  start_sent a p l = record { does = rw (is_entered image state live store y a) (sent_done image state live store y a p l no_fuel refl (λ e. e) (λ _. refl)) }

-- ---- The returns of an answer: a loan of fuel that is refused, memory that is refused, what was sent and refused, and what was done
module _ (image : List ℕ) (kind word : ℕ) (v : Cell) (args handlers state live store fuel : List ℕ) {b : Result Fuel Refusal} (w : b ≡ read fuel) where
  abbrev Called : ℕ → List ℕ → List ℕ → List ℕ → List ℕ → Type 0
  Called n state' live' store' fuel' = AnswerCalled image kind word v args handlers n state live store fuel state' live' store' fuel'

  pub answer_unlent : {r : Refusal} → b ≡ Err r → Called (number r) state live store fuel
  answer_unlent e = record { does = rw (un_lent image state live store fuel w e) (refl, refl, refl, refl, refl) }

  module _ {f : Fuel} (e : b ≡ Ok f) {x : Result tables.Sizes Refusal} {rows constants inner : List ℕ} (y : Enters image state live store x rows constants inner) where
    pub answer_unentered : {r : Refusal} → x ≡ Err r → Called (number r) state live store fuel
    answer_unentered a = record { does = rw (lent_un_entered image state live store fuel w e y a) (refl, refl, refl, refl, refl) }

    module _ {h : tables.Sizes} (a : x ≡ Ok h) {P : Program} (i : P ≡ tabled image rows constants inner h.codes h.constants h.inner) (o : Result (Unit {0}) Refusal) {state' live' store' : List ℕ}
        (l : SentLoans P (answering kind word v args handlers) (number_of o) state live store state' live' store') (bytes : Bytes fuel) where
      answer_called : {n : ℕ} {fuel' : List ℕ} → (number_of o ≡ 0 → n ≡ done_code f (answering kind word v args handlers)) → ((number_of o ≡ 0 → ⊥) → n ≡ number_of o)
          → (number_of o ≡ 0 → fuel' ≡ write fuel (consume f (pos 4))) → ((number_of o ≡ 0 → ⊥) → fuel' ≡ fuel) → Called n state' live' store' fuel'
      answer_called {fuel' = fuel'} p q g h =
          let z = sent_fuel image state live store y a i l f tt fuel fuel' bytes (sym w ∙ e) g h in
          record { does = rw (lent_entered image state live store fuel w e y a) (record { sent = sent_done image state live store y a i l f tt p q; charges = z.0; spares = z.1 }) }

      pub answer_refused : {x : Refusal} → o ≡ Err x → Called (number x) state' live' store' fuel
      answer_refused {x} k =
          let q : number_of o ≡ number x = ap number_of k in
          let ne : number_of o ≡ 0 → ⊥ = λ z. number_not_zero x (sym q ∙ z) in
          answer_called (λ z. absurd (ne z)) (λ _. sym q) (λ z. absurd (ne z)) (λ _. refl)

      module _ {u : Unit {0}} (k : o ≡ Ok u) {g : Fuel} (d : g ≡ consume f (pos 4)) {fuel' : List ℕ} (s : fuel' ≡ write fuel g) where
        z : number_of o ≡ 0
        z = ap number_of k

        answer_done : {n : ℕ} → n ≡ done_code f (answering kind word v args handlers) → Called n state' live' store' fuel'
        answer_done p = answer_called (λ _. p) (λ n. absurd (n z)) (λ _. s ∙ ap (write fuel) d) (λ n. absurd (n z))

        pub answer_goes : {t : Bool} → t ≡ should_continue g → t ≡ true → Called 104 state' live' store' fuel'
        answer_goes p q = let j : should_continue (consume f (pos 4)) ≡ true = rw d at (sym p ∙ q) in answer_done (rw j refl)

        pub answer_spent : {t : Bool} → t ≡ should_continue g → t ≡ false → Called 101 state' live' store' fuel'
        answer_spent p q = let j : should_continue (consume f (pos 4)) ≡ false = rw d at (sym p ∙ q) in answer_done (rw j refl)
