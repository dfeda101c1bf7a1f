-- `closing::close` meets its contract: the kind of the opcode gives its number. Assumes nothing.
use Rattle.closing.specs.CloseLaws.{closable_call, closable_tail, closes_call, closes_return, closes_tail}
use Rattle.closing.proofs.close.Goals as goal

pub call-requires : goal.call-requires
call-requires c = search closable_call

pub tail_call-requires : goal.tail_call-requires
tail_call-requires c = search closable_tail

pub returns-in-Call : goal.returns-in-Call
returns-in-Call c = search closes_call

pub returns-in-Return : goal.returns-in-Return
returns-in-Return c = search closes_return

pub returns-in-ReturnCall : goal.returns-in-ReturnCall
returns-in-ReturnCall c = search closes_tail
