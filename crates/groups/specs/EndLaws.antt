-- One law for each return of what follows a slice.
use Rattle.std.specs.Prelude.{◌≡◌, refl, List, ℕ, ◌-◌, Result}
use Rattle.std.proofs.Math.Path.{sym, subst}
use Rattle.std.proofs.Common.{ap, ◌∙◌}
use Rattle.cells.specs.Cells.{cells}
use Rattle.fuel.specs.declared.Fuel.{Fuel}
use Rattle.machine.specs.Values.{Program}
use Rattle.machine.specs.Calls.{closing, failing, run}
use Rattle.moves.specs.Runs.{Settles, end_of}
use Rattle.moves.specs.declared.Running as registers
use Rattle.plan.specs.Rest.{Same, Appends}
use Rattle.plan.proofs.RestLaws.{same_refl}
use Rattle.plan.proofs.Appended.{appends_refl}
use Rattle.plan.specs.declared.Counts.{Counts}
use Rattle.plan.specs.declared.Error.{Error}
use Rattle.slices.specs.Sliced.{Ended}
use Rattle.slices.specs.SlicedLaws.{at_ready}
use Rattle.slices.specs.declared.End.{End}
use Rattle.slices.specs.declared.End.TheVariants.{Paused, Spent, Refused, Throws, Closes}
use Rattle.slices.specs.declared.Slice.{Slice}
use Rattle.steps.specs.Stepped.{ClosingNumber}
use Rattle.steps.specs.declared.Closing.{Closing}
use Rattle.steps.specs.declared.Closing.TheVariants.{Call, Return, ReturnCall}
use Rattle.acts.specs.Acted as acted
use Rattle.closing.specs.Closed as closed
use Rattle.acts.specs.Acted.{Bounded, Opcode, as_failed}
use Rattle.closing.specs.Closed.{closing_number}
use Rattle.groups.specs.declared.Stand.TheVariants as stand
use Rattle.acts.specs.declared.Acted.{Acted}
use Rattle.closing.specs.Results.{used_failed}
use Rattle.groups.specs.Grouped.{stood, charged_group, acted_group, Finishes}
use Rattle.groups.specs.GroupedLaws.{charged_counts, acted_uses, grouped_acted, closing_charges, failing_charges}
use Rattle.groups.specs.FinishLaws.{counts_at, busy_at, room_same, finish_paused, finish_spent, finish_refused, finish_busy, finish_counts}
use Rattle.groups.specs.declared.Group.{Group}
use Rattle.refusals.specs.declared.Refusal.{Refusal}

settles_same : {g : registers.Running} {a b : List ℕ} → Settles g a b → Same a b
settles_same s = record { rest = s.rest; len = s.len }

settled : (state store starts : List ℕ) {g : registers.Running} {live live' : List ℕ} → Settles g live live' → Bounded state live store starts state live' store starts
settled state store starts s = record { same_state = same_refl state; same_live = settles_same s; same_store = same_refl store; table = refl }

-- the group says how much of the store is used then
used_at : {u k : ℕ} (r : Group) {a b : List ℕ} → r.turn.counts.store ≡ k → Appends u k a b → Appends u r.turn.counts.store a b
used_at {u} r {a} {b} e x = subst (λ (i : ℕ). Appends u i a b) (sym e) x

-- the counts as the code puts them together
abbrev counted : ℕ → ℕ → ℕ → Counts
counted frames n u = record { frames = frames; live = n; store = u }

counted_is : {n : ℕ} (g : registers.Running) (frames u : ℕ) → n ≡ end_of g → counted frames n u ≡ counts_at frames g u
counted_is g frames u e = ap (λ (i : ℕ). counted frames i u) e

module _ {P : Program} {frames n : ℕ} {s : Slice} {fuel : Fuel} {r : Group} (state store starts : List ℕ) {live live' : List ℕ} (j : n ≡ end_of s.g) (w : Settles s.g live live') where
  pub finishes_paused : s.end ≡ Paused → r ≡ stood stand.Paused fuel s.ticks s.left (counted frames n s.used) → Finishes P frames s fuel r state live store starts state live' store starts
  finishes_paused e q = record {
    acts = λ z t left m handle code x a low.
        let y = subst (λ (i : End). Ended P z t left m handle code s i (cells state) (cells live) (cells store)) e x in
        rw (q, counted_is s.g frames s.used j) (finish_paused fuel s a low (settles_same w) y.0 y.1 w);
    bounded = settled state store starts w;
    appends = used_at r (ap (λ (x : Group). x.turn.counts.store) q) (appends_refl s.used store);
  }

  pub finishes_spent : s.end ≡ Spent → r ≡ charged_group fuel 0 s.ticks (counted frames n s.used) → Finishes P frames s fuel r state live store starts state live' store starts
  finishes_spent e q = record {
    acts = λ z t left m handle code x a low.
        let y = subst (λ (i : End). Ended P z t left m handle code s i (cells state) (cells live) (cells store)) e x in
        rw (q, counted_is s.g frames s.used j) (finish_spent fuel s a low (settles_same w) y w);
    bounded = settled state store starts w;
    appends = used_at r (ap (λ (x : Group). x.turn.counts.store) q ∙ ap (λ (x : Counts). x.store) (charged_counts fuel 0 s.ticks (counted frames n s.used))) (appends_refl s.used store);
  }

  pub finishes_refused : {o : Refusal} → s.end ≡ Refused o → r ≡ stood (stand.Refused o) fuel s.ticks s.left (counted frames n s.used) → Finishes P frames s fuel r state live store starts state live' store starts
  finishes_refused e q = record {
    acts = λ z t left m handle code x a low.
        let y = subst (λ (i : End). Ended P z t left m handle code s i (cells state) (cells live) (cells store)) e x in
        rw (q, counted_is s.g frames s.used j) (finish_refused fuel s a low (settles_same w) y.0 y.1 y.2 w);
    bounded = settled state store starts w;
    appends = used_at r (ap (λ (x : Group). x.turn.counts.store) q) (appends_refl s.used store);
  }

module _ {P : Program} {frames n : ℕ} {s : Slice} {fuel : Fuel} {r : Group} {state live store starts state' live' store' starts' : List ℕ} (i : n ≡ end_of s.g) where
  pub finishes_throws : {h : registers.Running} {x : Error} {d : Result Counts Refusal} {a : Result Acted Refusal} → s.end ≡ Throws h x → acted.Fails P frames s.used s.g h x d state live store starts state' live' store' starts' → a ≡ as_failed d → r ≡ acted_group a fuel 0 s.ticks s.left (counted frames n s.used)
      → Finishes P frames s fuel r state live store starts state' live' store' starts'
  unfolding finish_busy busy_at closing_number
  finishes_throws {d = d} {a} e w k q = record {
    acts = λ z t left m handle code x o low.
        let y = subst (λ (i : End). Ended P z t left m handle code s i (cells state) (cells live) (cells store)) e x in
        let v = y.0 in
        let q' = v.at.inside in
        rw (q, k) (grouped_acted v.machine s.ticks s.left (v.follows fuel) v.less y.1 o.accepted o.small q'.fits (at_ready v.at) low o.low (room_same w.bounded.same_live q'.room)
        (room_same w.bounded.same_store q'.room_store) (w.bounded.table ∙ o.table) failing 0 (as_failed d) (λ p after j. failing_charges (run P z (s.ticks - 1)) fuel s.left after j) (counted_is s.g frames s.used i ∙ finish_counts o v) (w.acts z v.machine (finish_busy o v) y.2));
    bounded = w.bounded;
    appends = used_at r (ap (λ (x : Group). x.turn.counts.store) q ∙ ap (λ (x : Result Acted Refusal). (acted_group x fuel 0 s.ticks s.left (counted frames n s.used)).turn.counts.store) k ∙ acted_uses (as_failed d) fuel 0 s.ticks s.left (counted frames n s.used)) (used_failed d w.appends);
  }

  pub finishes_closes : {j : Closing} {x : ℕ} {a : Result Acted Refusal} → s.end ≡ Closes j x → closed.Closes P (closing_number j) frames s.used s.g x a state live store starts state' live' store' starts' → r ≡ acted_group a fuel s.left s.ticks s.left (counted frames n s.used)
      → Finishes P frames s fuel r state live store starts state' live' store' starts'
  unfolding finish_busy busy_at closing_number
  finishes_closes {j} {x} {a} e w q = record {
    acts = λ z t left m handle code u o low.
        let y = subst (λ (i : End). Ended P z t left m handle code s i (cells state) (cells live) (cells store)) e u in
        let v = y.0 in
        let q' = v.at.inside in
        let op : Opcode v.at.frame q'.place (closing_number j) x = record { number = by j y.2.number; operand = sym y.2.operand } in
        rw q (grouped_acted v.machine s.ticks s.left (v.follows fuel) v.less y.1 o.accepted o.small q'.fits (at_ready v.at) low o.low (room_same w.bounded.same_live q'.room)
        (room_same w.bounded.same_store q'.room_store) (w.bounded.table ∙ o.table) closing s.left a (λ p after h. closing_charges (run P z (s.ticks - 1)) fuel s.left after h) (counted_is s.g frames s.used i ∙ finish_counts o v) (w.acts z v.machine (finish_busy o v) op));
    bounded = w.bounded;
    appends = used_at r (ap (λ (x : Group). x.turn.counts.store) q ∙ acted_uses a fuel s.left s.ticks s.left (counted frames n s.used)) w.appends;
  }
    where
      by : (j : Closing) {n : ℕ} → ClosingNumber j n → n ≡ closing_number j
      by Call h = h
      by Return h = h
      by ReturnCall h = h
