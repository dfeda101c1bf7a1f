-- `turns::answer_entered` meets its contract: the fronts of the loans are lent, and come back before what lies behind them. Assumes nothing.
use Rattle.loans.specs.LoanLaws.{Parted, loans_entered}
use Rattle.turns.specs.TurnLaws.{loans_sent}
use mathlib.Core.Path.{refl}
use Rattle.turns.proofs.answer_entered.Goals as goal

pub answer-requires : goal.answer-requires
answer-requires c =
    let p : Parted c.args.live.now c.args.store.now _ _ _ _ = record { lent_live = c.parted-live.ensures.front; lent_store = c.parted-store.ensures.front; behind_live = c.parted-live.ensures.behind; behind_store = c.parted-store.ensures.behind } in
    loans_entered p c.requires

pub returns : goal.returns
returns c =
    let p : Parted c.args.live.now c.args.store.now _ _ _ _ = record { lent_live = c.parted-live.ensures.front; lent_store = c.parted-store.ensures.front; behind_live = c.parted-live.ensures.behind; behind_store = c.parted-store.ensures.behind } in
    loans_sent p c.answer.ensures refl refl
