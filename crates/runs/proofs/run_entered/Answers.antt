-- `runs::run_entered` meets its contract: the fronts of the loans are lent, and come back before what lies behind them. Assumes nothing.
use Rattle.loans.specs.LoanLaws.{Parted, loans_entered}
use Rattle.runs.specs.LoanLaws.{loans_run}
use mathlib.Core.Path.{refl}
use Rattle.runs.proofs.run_entered.Goals as goal

pub run_lent-requires : goal.run_lent-requires
run_lent-requires c =
    let p : Parted c.args.live.now c.args.store.now _ _ _ _ = record { lent_live = c.parted-live.ensures.front; lent_store = c.parted-store.ensures.front; behind_live = c.parted-live.ensures.behind; behind_store = c.parted-store.ensures.behind } in
    loans_entered p c.requires

pub returns : goal.returns
returns c =
    let p : Parted c.args.live.now c.args.store.now _ _ _ _ = record { lent_live = c.parted-live.ensures.front; lent_store = c.parted-store.ensures.front; behind_live = c.parted-live.ensures.behind; behind_store = c.parted-store.ensures.behind } in
    loans_run p c.run_lent.ensures refl refl
