-- `callbacks::answer` meets its contract. Assumes nothing.
use Rattle.std.proofs.lemmas.Result.{err_from_is_err_and}
use Rattle.callbacks.specs.AnswerLaws.{used_fits, answer_early, answer_malformed, answer_unfit, answer_replyable, answer_replied}
use Rattle.std.proofs.Common.{ap, not}
use Rattle.callbacks.proofs.answer.Goals as goal

pub returns-then-not-waits : goal.returns-then-not-waits
returns-then-not-waits c = search answer_early

pub fits-requires : goal.fits-requires
fits-requires c = used_fits c.requires c.used-used.ensures

pub returns-then-not-fits : goal.returns-then-not-fits
returns-then-not-fits c = answer_unfit _ _ _ _ _ c.waits.ensures c.if-not-waits.false c.return_of.ensures c.in_ok-r.was c.used-used.ensures c.fits.ensures (ap not c.if-not-fits.true)

pub reply-requires : goal.reply-requires
reply-requires c = answer_replyable _ 0 _ _ _ c.waits.ensures c.if-not-waits.false c.return_of.ensures c.in_ok-r.was c.used-used.ensures c.fits.ensures c.requires (ap not c.if-not-fits.false)

pub returns-in_err-r : goal.returns-in_err-r
returns-in_err-r c =
    let p = err_from_is_err_and c.from_residual.result c.from_residual.ensures.1 in
    rw (p.1, p.2) (answer_malformed _ _ _ _ _ c.waits.ensures c.if-not-waits.false c.return_of.ensures c.in_err-r.was)

pub returns : goal.returns
returns c = answer_replied _ _ _ _ _ c.waits.ensures c.if-not-waits.false c.return_of.ensures c.in_ok-r.was c.reply.ensures
