-- A new frame over the running frame: the laws of a plan that is judged and carried out, for the plan `Starts`.
use Rattle.std.specs.Prelude.{◌≡◌, refl, List, ℕ, ◌<◌, Result, Ok, Err}
use Rattle.cells.specs.Cells.{room, cells}
use Rattle.cells.specs.CellsLaws.{length_cells}
use Rattle.moves.specs.Runs.{Settles}
use Rattle.moves.specs.declared.Running.{Running}
use Rattle.plan.specs.Plans.{Enough}
use Rattle.plan.specs.declared.Counts.{Counts}
use Rattle.plan.specs.declared.Params.{Params}
use Rattle.plan.specs.declared.Plan.TheVariants.{Starts}
use Rattle.plan.specs.declared.Start.{Start}
use Rattle.counts.specs.Counted.{refusal_by, started_counts}
use Rattle.counts.specs.PlanLaws as counted
use Rattle.actions.specs.Acted.{Startable, StartsFrame}
use Rattle.actions.specs.Carried.{starts_needs, starts_leaves}
use Rattle.acts.specs.Acted.{Judges, Overable, ActsOver}
use Rattle.acts.specs.ActedLaws.{judge_counts, judge_refused, judge_done, over_judges, over_carries, over_refused, over_done}
use Rattle.refusals.specs.declared.Refusal.{Refusal}
use Rattle.refusals.specs.Refusals.{number_of}

module _ {f : Start} {p : Params} (bytes : List ℕ) {c : Counts} {g left : Running} {state live store starts : List ℕ} (o : Overable (Starts f p) (cells bytes) c g left state live store starts) {n : ℕ} (q : n ≡ room bytes) where
  pub start_counts : {locals : ℕ} → locals < 4294967296 → (c.frames < 4294967296) × (c.live < 4294967296) × (c.store < 4294967296) × (locals < 4294967296) × (n < 4294967296) × Enough p n
  start_counts l = counted.starts_needs (judge_counts (over_judges bytes o q)) refl l

  module _ {after : Counts} (w : after ≡ started_counts c f.locals p n) {a b : ℕ} {d : Result (Unit {0}) Refusal} (x : a ≡ room live) (y : b ≡ room store) (e : number_of d ≡ refusal_by (record { live = a; store = b }) after) where
    pub start_refused : {r : Refusal} {live₁ : List ℕ} → d ≡ Err r → Settles g live live₁ → ActsOver (Starts f p) (cells bytes) c g left (Err r) state live store starts state live₁ store starts
    start_refused ne s = over_refused bytes q (judge_refused (counted.starts_leaves refl w) x y e ne) refl s

    module _ {live₁ : List ℕ} {u : Unit {0}} (z : d ≡ Ok u) (s : Settles left live live₁) where
      judged : Judges (Starts f p) n c live store starts (Ok after)
      judged = judge_done (counted.starts_leaves refl w) x y e z

      pub start_needs : Startable c f p (room bytes) live₁ store starts
      start_needs = starts_needs (over_carries bytes o q judged refl s) refl (length_cells bytes)

      pub start_done : {live' store' starts' : List ℕ} → StartsFrame c f p (cells bytes) live₁ store starts live' store' starts'
          → ActsOver (Starts f p) (cells bytes) c g left (Ok after) state live store starts state live' store' starts'
      start_done r = over_done bytes o q judged refl s (starts_leaves state refl r)
