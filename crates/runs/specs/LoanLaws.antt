-- A run over whole loans: their fronts are lent, and come back before what lies behind them.
use Rattle.std.specs.Prelude.{◌≡◌, List, ◌++◌, ℕ}
use Rattle.fuel.specs.declared.Fuel.{Fuel}
use Rattle.machine.specs.Values.{Program}
use Rattle.groups.specs.declared.Group.{Group}
use Rattle.loans.specs.LoanLaws.{Parted, loans_back}
use Rattle.runs.specs.Ran.{RunsWorld, RunsLoans}

pub loans_run : {P : Program} {state live store l s b d : List ℕ} → Parted live store l s b d → {fuel : Fuel} {t : ℕ} {r : Group} {state' f g live' store' : List ℕ}
    → RunsWorld P fuel t r state l s state' f g → live' ≡ f ++ b → store' ≡ g ++ d → RunsLoans P fuel t r state live store state' live' store'
loans_run {P} {state} p {fuel} {t} {r} {state'} w a c =
    let x = loans_back p (λ (l s l' s' : List ℕ). RunsWorld P fuel t r state l s state' l' s') w w.same_live.len w.same_store.len a c in
    record { runs = x.0; behind_live = x.1; behind_store = x.2 }
