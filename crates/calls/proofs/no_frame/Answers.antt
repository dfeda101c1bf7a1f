-- `calls::no_frame` meets its contract. Assumes nothing.
use borrow.Author.Rules.{rules}
use Rattle.calls.specs.Calling.{callable_lies, callable_fits, closure_wrong, call_none}
use Rattle.calls.proofs.no_frame.Goals as goal

pub closure_params-requires : goal.closure_params-requires
closure_params-requires c = search callable_fits

pub throw_error-requires : goal.throw_error-requires
throw_error-requires c = search (rules, callable_lies)

pub resume-requires : goal.resume-requires
resume-requires c = search (rules, callable_lies)

pub throw_error-requires-in_default : goal.throw_error-requires-in_default
throw_error-requires-in_default c = search (rules, callable_lies)

pub returns-in-7 : goal.returns-in-7
returns-in-7 c = search closure_wrong

pub returns-in-23 : goal.returns-in-23
returns-in-23 c = c.resume.ensures _

pub returns-in_default : goal.returns-in_default
returns-in_default c = search call_none
