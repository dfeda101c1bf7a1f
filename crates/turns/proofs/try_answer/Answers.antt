-- `turns::try_answer` meets its contract: fuel is read, the call entered, the answer made, and what is done charged. Assumes nothing.
use Rattle.std.proofs.lemmas.Result.{err_from_is_err_and}
use Rattle.loans.specs.EntryLaws.{call_enters}
use Rattle.turns.specs.TurnLaws.{answer_unentered, answer_refused, answer_goes, answer_spent}
use Rattle.turns.proofs.try_answer.Goals as goal

pub returns-in_err-sizes : goal.returns-in_err-sizes
returns-in_err-sizes c =
    let p = err_from_is_err_and c.from_residual-in_err-sizes.result c.from_residual-in_err-sizes.ensures.1 in
    rw (p.1, p.2) (answer_unentered _ _ _ _ _ _ _ _ _ _ c.read.ensures c.in_ok-lent.was c.enter.ensures c.in_err-sizes.was)

pub answer_entered-requires : goal.answer_entered-requires
answer_entered-requires c = call_enters _ _ _ _ c.enter.ensures c.in_ok-sizes.was c.program-program.ensures

pub returns-in_err-answer_entered : goal.returns-in_err-answer_entered
returns-in_err-answer_entered c =
    let p = err_from_is_err_and c.from_residual-in_err-answer_entered.result c.from_residual-in_err-answer_entered.ensures.1 in
    rw (p.1, p.2) (answer_refused _ _ _ _ _ _ _ _ _ _ c.read.ensures c.in_ok-lent.was c.enter.ensures c.in_ok-sizes.was c.program-program.ensures c.answer_entered.result c.answer_entered.ensures (record { below = λ i. (c.slice_known-4-1.given i).fits }) c.in_err-answer_entered.was)

pub returns-then-should_continue : goal.returns-then-should_continue
returns-then-should_continue c = answer_goes _ _ _ _ _ _ _ _ _ _ c.read.ensures c.in_ok-lent.was c.enter.ensures c.in_ok-sizes.was c.program-program.ensures c.answer_entered.result c.answer_entered.ensures (record { below = λ i. (c.slice_known-4-1.given i).fits }) c.in_ok-answer_entered.was c.charged-left.ensures c.write.ensures c.should_continue.ensures c.if-should_continue.true

pub returns : goal.returns
returns c = answer_spent _ _ _ _ _ _ _ _ _ _ c.read.ensures c.in_ok-lent.was c.enter.ensures c.in_ok-sizes.was c.program-program.ensures c.answer_entered.result c.answer_entered.ensures (record { below = λ i. (c.slice_known-4-1.given i).fits }) c.in_ok-answer_entered.was c.charged-left.ensures c.write.ensures c.should_continue.ensures c.if-should_continue.false
