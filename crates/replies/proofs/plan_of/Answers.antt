-- `replies::plan_of` meets its contract. Assumes nothing.
use Rattle.replies.specs.PlanLaws.{lies, callable, plans_call, plans_return, plans_error, plans_panic, plans_perform}
use Rattle.replies.proofs.plan_of.Goals as goal

pub throw_error-requires : goal.throw_error-requires
throw_error-requires c = search lies

pub throw_error-requires-in-Panic : goal.throw_error-requires-in-Panic
throw_error-requires-in-Panic c = search lies

pub perform_effect_with-requires : goal.perform_effect_with-requires
perform_effect_with-requires c = search lies

pub call_function-requires : goal.call_function-requires
call_function-requires c = callable c.requires c.in-Call.is

pub returns-in-ReturnValue : goal.returns-in-ReturnValue
returns-in-ReturnValue c = search plans_return

pub returns-in-Error : goal.returns-in-Error
returns-in-Error c = search plans_error

pub returns-in-Panic : goal.returns-in-Panic
returns-in-Panic c = search plans_panic

pub returns-in-Perform : goal.returns-in-Perform
returns-in-Perform c = plans_perform _ c.in-Perform.is c.room.ensures c.perform_effect_with.ensures

pub returns-in-Call : goal.returns-in-Call
returns-in-Call c = plans_call c.in-Call.is c.call_function.ensures
