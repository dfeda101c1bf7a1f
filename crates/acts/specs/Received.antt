-- A value for the top frame of those that are left: judged by the counts, put there, or refused.
use Rattle.std.specs.Prelude.{◌≡◌, refl, List, [], ℕ, ◌-◌, ◌<◌, ◌≤◌, get_or, Result, Ok, Err}
use Rattle.cells.specs.Cells.{room, cells}
use Rattle.cells.specs.declared.Cell.{Cell}
use Rattle.machine.specs.Machine.{receive}
use Rattle.moves.specs.Runs.{end_of, with_counts, Settles}
use Rattle.moves.specs.Frames.{kept_in, Gets}
use Rattle.moves.specs.declared.Running.{Running}
use Rattle.plan.specs.declared.Counts.{Counts}
use Rattle.plan.specs.declared.Plan.TheVariants.{Receives}
use Rattle.counts.specs.Counted.{refusal_by, Receivable, received_counts}
use Rattle.counts.specs.PlanLaws as counted
use Rattle.actions.specs.Acted.{Carriable}
use Rattle.actions.specs.Carried as carried
use Rattle.acts.specs.Acted.{Judges, Belowable, ActsBelow}
use Rattle.acts.specs.ActedLaws.{judge_counts, judge_refused, judge_done, below_judges, below_carries, below_refused, below_done}
use Rattle.refusals.specs.declared.Refusal.{Refusal}
use Rattle.refusals.specs.Refusals.{number_of}

module _ {v : Cell} {c : Counts} {g : Running} {state live store starts : List ℕ} (o : Belowable (Receives v) (cells []) c g state live store starts) where
  pub receive_counts : Receivable c (cells live) starts
  receive_counts = counted.receives_needs (judge_counts (below_judges [] o refl)) refl

  module _ {after : Counts} {a b : ℕ} {w : Result (Unit {0}) Refusal} (q : after ≡ received_counts c (cells live) starts) (x : a ≡ room live) (y : b ≡ room store) (e : number_of w ≡ refusal_by (record { live = a; store = b }) after) where
    pub receive_refused : {r : Refusal} {live₁ : List ℕ} → w ≡ Err r → Settles g live live₁ → ActsBelow (Receives v) (cells []) c g (Err r) state live store starts state live₁ store starts
    receive_refused ne s = below_refused [] refl (judge_refused (counted.receives_leaves refl q) x y e ne) refl s

    module _ {u : Unit {0}} (none : w ≡ Ok u) where
      judged : Judges (Receives v) (room []) c live store starts (Ok after)
      judged = judge_done (counted.receives_leaves refl q) x y e none

      carriable : Carriable (Receives v) (cells []) c state live store starts
      carriable = below_carries [] o refl judged refl

      pub receive_needs : (end_of (kept_in (cells live) (get_or starts (c.frames - 1) 0)) ≤ room live) × (end_of (with_counts 0 (kept_in (cells live) (get_or starts (c.frames - 1) 0)).stack (kept_in (cells live) (get_or starts (c.frames - 1) 0))) < room live)
      receive_needs = carried.receives_needs carriable refl refl

      pub receive_done : {n : ℕ} {live' : List ℕ} → Gets (receive v) (get_or starts (c.frames - 1) 0) live n live' → ActsBelow (Receives v) (cells []) c g (Ok after) state live store starts state live' store starts
      receive_done w = below_done [] o refl judged refl (carried.receives_leaves state store refl refl w)
