-- `requests::begin` meets its contract. Assumes nothing.
use Rattle.std.proofs.lemmas.Result.{err_from_is_err_and}
use Rattle.requests.specs.StartLaws.{callable, finishable, begun, begin_refused}
use Rattle.requests.proofs.begin.Goals as goal

pub call_function-plan-requires : goal.call_function-plan-requires
call_function-plan-requires c = search callable

pub finish-requires : goal.finish-requires
finish-requires c = search finishable

pub returns-in_err-finish : goal.returns-in_err-finish
returns-in_err-finish c =
    let p = err_from_is_err_and c.from_residual.result c.from_residual.ensures.1 in
    rw (p.1, p.2) (begin_refused c.requires c.call_function-plan.ensures c.room-most.ensures c.finish.ensures c.in_err-finish.was)

pub returns : goal.returns
returns c = begun c.requires c.call_function-plan.ensures c.room-most.ensures c.finish.ensures c.in_ok-finish.was
