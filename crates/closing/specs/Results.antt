-- What a plan that is judged came to, as what the step that planned it came to.
use Rattle.std.specs.Prelude.{◌≡◌, List, ℕ, Result, Ok, Err}
use Rattle.std.proofs.Math.Path.{subst}
use Rattle.machine.specs.Values.{Program}
use Rattle.moves.specs.declared.Running as registers
use Rattle.plan.specs.Rest.{Appends}
use Rattle.plan.specs.declared.Counts.{Counts}
use Rattle.refusals.specs.declared.Refusal.{Refusal}
use Rattle.acts.specs.declared.Acted.{Acted}
use Rattle.acts.specs.Acted.{used_by, as_done, as_failed, used_then}
use Rattle.closing.specs.Closed.{Closes, PerformsCallback}

-- it uses as much of the store
pub used_done : {u : ℕ} {a b : List ℕ} (r : Result Counts Refusal) → Appends u (used_by u r) a b → Appends u (used_then u (as_done r)) a b
used_done (Err k) x = x
used_done (Ok c) x = x

pub used_failed : {u : ℕ} {a b : List ℕ} (r : Result Counts Refusal) → Appends u (used_by u r) a b → Appends u (used_then u (as_failed r)) a b
used_failed (Err k) x = x
used_failed (Ok c) x = x

module _ {P : Program} {state live store starts state' live' store' starts' : List ℕ} {r s : Result Acted Refusal} (e : r ≡ s) where
  pub closes_as : {op frames u : ℕ} {g : registers.Running} {x : ℕ} → Closes P op frames u g x r state live store starts state' live' store' starts' → Closes P op frames u g x s state live store starts state' live' store' starts'
  closes_as {op} {frames} {u} {g} {x} c = subst (λ (k : Result Acted Refusal). Closes P op frames u g x k state live store starts state' live' store' starts') e c

  pub performs_as : {c : Counts} → PerformsCallback P c r state live store starts state' live' store' starts' → PerformsCallback P c s state live store starts state' live' store' starts'
  performs_as {c} p = subst (λ (k : Result Acted Refusal). PerformsCallback P c k state live store starts state' live' store' starts') e p
