-- `callbacks::reply` meets its contract. Assumes nothing.
use mathlib.Core.Path.{refl}
use native.Mathlib.Omega.{arith}
use Rattle.std.proofs.lemmas.Result.{err_from_is_err_and}
use Rattle.callbacks.specs.ReplyLaws.{frames_few, base_low, reply_layable, reply_leavable, reply_plannable, reply_finishable, reply_refused, reply_copies, reply_done, reply_too_many}
use Rattle.callbacks.proofs.reply.Goals as goal

pub lay-end-requires : goal.lay-end-requires
lay-end-requires c = search reply_layable

pub overflow_sub-top : goal.overflow_sub-top
overflow_sub-top c = omega (arith, frames_few c.requires c.frames-frames.ensures)

pub bounds-starts-top : goal.bounds-starts-top
bounds-starts-top c = omega (arith, frames_few c.requires c.frames-frames.ensures)

pub overflow_cast-base : goal.overflow_cast-base
overflow_cast-base c = omega (arith, base_low c.requires c.frames-frames.ensures c.lay-end.ensures (search) (search) refl)

pub frames_left-requires : goal.frames_left-requires
frames_left-requires c = search reply_leavable

pub plan_of-plan-requires : goal.plan_of-plan-requires
plan_of-plan-requires c = reply_plannable c.requires c.frames-frames.ensures c.lay-end.ensures (search) (search) refl c.used.ensures _ _ c.frames_left.ensures c.in_ok-left.was

pub finish-requires : goal.finish-requires
finish-requires c = reply_finishable c.requires c.frames-frames.ensures c.lay-end.ensures (search) (search) refl c.used.ensures _ _ c.frames_left.ensures c.in_ok-left.was c.plan_of-plan.ensures c.room-most.ensures

pub returns-in_err-used : goal.returns-in_err-used
returns-in_err-used c =
    let p = err_from_is_err_and c.from_residual-in_err-used.result c.from_residual-in_err-used.ensures.1 in
    rw (p.1, p.2) (reply_refused c.requires c.frames-frames.ensures c.lay-end.ensures (search) (search) refl c.used.ensures _ _ c.frames_left.ensures c.in_ok-left.was c.plan_of-plan.ensures c.room-most.ensures c.finish.ensures c.in_err-used.was)

pub copy-requires : goal.copy-requires
copy-requires c = reply_copies c.requires c.frames-frames.ensures c.lay-end.ensures (search) (search) refl c.used.ensures _ _ c.frames_left.ensures c.in_ok-left.was c.plan_of-plan.ensures c.room-most.ensures c.finish.ensures c.in_ok-used.was

pub returns-in_err-left : goal.returns-in_err-left
returns-in_err-left c =
    let p = err_from_is_err_and c.from_residual.result c.from_residual.ensures.1 in
    rw (p.1, p.2) (reply_too_many c.requires c.frames-frames.ensures c.lay-end.ensures (search) (search) refl c.used.ensures _ _ c.frames_left.ensures c.in_err-left.was)

pub returns : goal.returns
returns c = reply_done c.requires c.frames-frames.ensures c.lay-end.ensures (search) (search) refl c.used.ensures _ _ c.frames_left.ensures c.in_ok-left.was c.plan_of-plan.ensures c.room-most.ensures c.finish.ensures c.in_ok-used.was c.copy.ensures
