-- `requests::finish` meets its contract. Assumes nothing.
use Rattle.std.proofs.Common.{ap}
use Rattle.std.proofs.lemmas.Result.{err_from_is_err_and}
use Rattle.refusals.specs.Refusals.{number_of}
use Rattle.requests.specs.FinishLaws.{countable, finish_refused, carriable, leavable, finished}
use Rattle.requests.proofs.finish.Goals as goal

pub counts_after-after-requires : goal.counts_after-after-requires
counts_after-after-requires c = search countable

pub returns-in_err-check : goal.returns-in_err-check
returns-in_err-check c =
    let p = err_from_is_err_and c.from_residual.result c.from_residual.ensures.1 in
    rw (p.1, p.2) (finish_refused _ c.requires c.room.ensures c.counts_after-after.ensures c.room-2.ensures c.check.ensures (ap number_of c.in_err-check.was))

pub carry-requires : goal.carry-requires
carry-requires c = carriable _ c.requires c.room.ensures c.counts_after-after.ensures c.room-2.ensures c.check.ensures (ap number_of c.in_ok-check.was)

pub leave-requires : goal.leave-requires
leave-requires c = leavable _ c.requires c.room.ensures c.counts_after-after.ensures c.room-2.ensures c.check.ensures (ap number_of c.in_ok-check.was) c.carry.ensures

pub returns : goal.returns
returns c = finished _ c.requires c.room.ensures c.counts_after-after.ensures c.room-2.ensures c.check.ensures (ap number_of c.in_ok-check.was) c.carry.ensures c.leave.ensures
