-- `answers::put_handlers` meets its contract. Assumes nothing.
use borrow.Author.Rules.{rules}
use Rattle.std.proofs.Common.{ap, sym, ◌∙◌}
use Rattle.std.proofs.lemmas.Result.{err_from_is_err_and}
use Rattle.std.specs.Result.{result_ok}
use Rattle.answers.specs.PutLaws.{puts_none, put_handleable, put_opens, put_ends, puts}
use Rattle.answers.proofs.put_handlers.Goals as goal

pub returns-in_err-n : goal.returns-in_err-n
returns-in_err-n c =
    let p = err_from_is_err_and c.from_residual.result c.from_residual.ensures.1 in
    rw (p.1, p.2) (puts_none _ _ c.distinct.ensures (sym c.ok_or.ensures.value ∙ c.in_err-n.was))

pub set_handlers-requires : goal.set_handlers-requires
set_handlers-requires c = put_handleable _ c.requires c.distinct.ensures (c.ok_or.ensures.ok_part ∙ ap result_ok c.in_ok-n.was) (search rules)

pub open-requires : goal.open-requires
open-requires c = search put_opens

pub end-requires : goal.end-requires
end-requires c = search put_ends

pub returns : goal.returns
returns c = puts c.set_handlers.ensures c.«open».ensures c.distinct.ensures (c.ok_or.ensures.ok_part ∙ ap result_ok c.in_ok-n.was) c.end.ensures
