-- The loop of a run, and the charges.
use Rattle.std.specs.Prelude.{◌≡◌, List, Bool, ℕ, ◌+◌, ◌<◌, ◌≤◌, ℤ, pos, length}
use Rattle.std.proofs.Math.Path.{refl, sym, ap}
use Rattle.std.proofs.Common.{◌∙◌, arith, to_z, eqb-true}
use Rattle.std.proofs.Math.Bool.{true, false}
use Rattle.std.specs.Int.{w32}
use Rattle.std.proofs.Math.Facts.{to_z_pos}
use Rattle.std.proofs.Math.Dec.{eqb}
use Rattle.cells.specs.Cells.{cells}
use Rattle.fuel.specs.Fuels.{consume, should_continue}
use Rattle.fuel.specs.declared.Fuel.{Fuel}
use Rattle.image.specs.Records.{if?}
use Rattle.machine.specs.Values.{Program}
use Rattle.machine.specs.Machine.{M}
use Rattle.machine.specs.Calls.{Sizes}
use Rattle.plan.specs.Rest.{Appends}
use Rattle.plan.proofs.Appended.{appends_refl, appends_two}
use Rattle.plan.specs.declared.Counts.{Counts}
use Rattle.acts.specs.Acted.{Bounded, Resting}
use Rattle.groups.specs.declared.Stand.TheVariants as stand
use Rattle.groups.specs.StandLaws.{goes_on}
use Rattle.groups.specs.Grouped.{code_of, stood, charged_group, Came, Groupable, Groups, Runs}
use Rattle.groups.specs.GroupLaws.{bounded_none, bounded_both, came_none, came_more, came_ran}
use Rattle.groups.specs.declared.Group.{Group}

-- ---- Charges
module _ (fuel : Fuel) {f g : Fuel} (cost : ℕ) (le : cost ≤ 64) (a : f ≡ consume fuel (to_z w32 cost)) (b : g ≡ consume f (pos 4)) where
  both_charged : g ≡ consume (consume fuel (pos cost)) (pos 4)
  both_charged = b ∙ ap (λ (k : Fuel). consume k (pos 4)) (a ∙ ap (λ (n : ℤ). consume fuel n) (to_z_pos w32 {n = cost} (omega arith)))

  pub charged_on : (ticks : ℕ) {c : Counts} {r : Group} {t : Bool} → t ≡ should_continue g → t ≡ true → r ≡ stood stand.GoesOn g ticks 64 c → r ≡ charged_group fuel cost ticks c
  unfolding charged_group
  charged_on ticks {c} q o s = let h : should_continue (consume (consume fuel (pos cost)) (pos 4)) ≡ true = ap (λ (k : Fuel). should_continue k) (sym both_charged) ∙ sym q ∙ o in s ∙ rw h (ap (λ (k : Fuel). stood stand.GoesOn k ticks 64 c) both_charged)

  pub charged_out : (ticks : ℕ) {c : Counts} {r : Group} {t : Bool} → t ≡ should_continue g → t ≡ false → r ≡ stood stand.OutOfFuel g ticks 64 c → r ≡ charged_group fuel cost ticks c
  unfolding charged_group
  charged_out ticks {c} q o s = let h : should_continue (consume (consume fuel (pos cost)) (pos 4)) ≡ false = ap (λ (k : Fuel). should_continue k) (sym both_charged) ∙ sym q ∙ o in s ∙ rw h (ap (λ (k : Fuel). stood stand.OutOfFuel k ticks 64 c) both_charged)

-- ---- The loop: from where r₀ says the run has come to r
pub record Looping (P : Program) (r₀ : Group) (state₀ live₀ store₀ starts₀ args₀ : List ℕ) (r : Group) (state live store starts args : List ℕ) : Type 0 where
  pub more : (z : Sizes) (m : M) → Resting P z m r₀.turn.counts (cells state₀) (cells live₀) (cells store₀) starts₀ → r₀.turn.left ≤ 64 → Came P z r₀.turn.ticks r₀.turn.fuel r₀.turn.left m r (cells state) (cells live) (cells store) starts
  pub next : Groupable P r.turn.counts r.turn.left state live store starts args
  pub bounded : Bounded state₀ live₀ store₀ starts₀ state live store starts
  pub appends : Appends r₀.turn.counts.store r.turn.counts.store store₀ store
  pub values : length args ≡ length args₀

-- what is left to do falls: a run that is over has none
unfoldable pub to_do : Group → ℕ
to_do r = if? (eqb (code_of r.stand) 0) (1 + r.turn.ticks) 0

grouped_next : {P : Program} {c : Counts} {fuel : Fuel} {t left : ℕ} {r : Group} {state live store starts args state' live' store' starts' args' : List ℕ} → Groupable P c left state live store starts args
    → Groups P c fuel t left r state live store starts state' live' store' starts' → length args' ≡ length args → Groupable P r.turn.counts r.turn.left state' live' store' starts' args'
grouped_next {args = args} f g n =
    let x = g.acts f.sizes f.machine f.resting f.low in
    record { sizes = f.sizes; machine = x.machine; resting = x.resting; low = x.low; len = g.bounded.same_state.len ∙ f.len; values = omega (arith, n, f.values) }

pub looping_first : {P : Program} {c : Counts} {fuel : Fuel} {t left : ℕ} {r : Group} {state live store starts args : List ℕ} → Groupable P c left state live store starts args → r ≡ stood stand.GoesOn fuel t left c → Looping P r state live store starts args r state live store starts args
looping_first {c = c} {state = state} {live} {store} {starts} f e = rw e (record { more = λ z m x low. came_none x low; next = f; bounded = bounded_none state live store starts; appends = appends_refl c.store store; values = refl })

module _ {P : Program} {r₀ r r' : Group} {state₀ live₀ store₀ starts₀ args₀ state live store starts args state' live' store' starts' : List ℕ} (l : Looping P r₀ state₀ live₀ store₀ starts₀ args₀ r state live store starts args) (is : r.stand ≡ stand.GoesOn)
    (g : Groups P r.turn.counts r.turn.fuel r.turn.ticks r.turn.left r' state live store starts state' live' store' starts') where
  on : code_of r.stand ≡ 0
  on = ap code_of is

  pub looping_more : {args' : List ℕ} → length args' ≡ length args → Looping P r₀ state₀ live₀ store₀ starts₀ args₀ r' state' live' store' starts' args'
  looping_more n = record {
    more = λ z m x low. came_more (l.more z m x low) on g;
    next = grouped_next l.next g n;
    bounded = bounded_both l.bounded g.bounded;
    appends = appends_two l.appends g.appends;
    values = n ∙ l.values;
  }

  pub looping_less : to_do r' < to_do r
  unfolding to_do
  looping_less =
      let x = g.acts l.next.sizes l.next.machine l.next.resting l.next.low in
      by (eqb (code_of r'.stand) 0) refl x.falls
    where
      by : (b : Bool) → eqb (code_of r'.stand) 0 ≡ b → (code_of r'.stand ≡ 0 → r'.turn.ticks < r.turn.ticks) → if? b (1 + r'.turn.ticks) 0 < if? (eqb (code_of r.stand) 0) (1 + r.turn.ticks) 0
      by true q h = rw on (let k = h (eqb-true (code_of r'.stand) 0 q) in omega arith)
      by false q h = rw on (omega arith)

pub looping_ran : {P : Program} {c : Counts} {fuel : Fuel} {t left : ℕ} {r₀ r : Group} {state live store starts args args₀ state₀ live₀ store₀ starts₀ : List ℕ} → r₀ ≡ stood stand.GoesOn fuel t left c → Looping P r₀ state₀ live₀ store₀ starts₀ args₀ r state live store starts args
    → (r.stand ≡ stand.GoesOn → ⊥) → Runs P c fuel t left r state₀ live₀ store₀ starts₀ state live store starts
looping_ran {r = r} e l n = let k = rw e at l in record { acts = λ z m x low. came_ran (k.more z m x low) (λ q. n (goes_on r.stand q)); bounded = k.bounded; appends = k.appends }
