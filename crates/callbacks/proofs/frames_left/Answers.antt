-- `callbacks::frames_left` meets its contract. Assumes nothing.
use Rattle.std.proofs.lemmas.Result.{err_from_is_err_and}
use Rattle.callbacks.specs.LeftLaws.{left_many, left_call, left_gone, left_there}
use Rattle.callbacks.proofs.frames_left.Goals as goal

pub returns-in_err-end-in-Call : goal.returns-in_err-end-in-Call
returns-in_err-end-in-Call c =
    let p = err_from_is_err_and c.from_residual.result c.from_residual.ensures.1 in
    rw (p.1, p.2) (left_many _ _ _ c.args.c _ _ c.in-Call.is _ _ c.put_handlers.ensures c.in_err-end-in-Call.was)

pub returns-in_ok-end-in-Call : goal.returns-in_ok-end-in-Call
returns-in_ok-end-in-Call c = left_call _ _ _ _ _ _ c.in-Call.is _ _ c.put_handlers.ensures c.in_ok-end-in-Call.was

pub returns-in-Perform : goal.returns-in-Perform
returns-in-Perform c = search left_there

pub returns-in-TailCall : goal.returns-in-TailCall
returns-in-TailCall c = search left_gone
