-- `calls::perform_effect_with` and `calls::throw_error` meet their contracts: a law for each way out.
use Rattle.calls.specs.Performing.{performs_wrong, performs_handled, performs_unhandled, throw_none, throw_some}
use Rattle.calls.proofs.+perform_effect_with_throw_error.Goals as goal

pub perform_effect_with-returns-then-not-check_args : goal.perform_effect_with-returns-then-not-check_args
perform_effect_with-returns-then-not-check_args t c = search performs_wrong

pub perform_effect_with-returns-in-Some : goal.perform_effect_with-returns-in-Some
perform_effect_with-returns-in-Some t c = search performs_handled

pub perform_effect_with-returns-in-None : goal.perform_effect_with-returns-in-None
perform_effect_with-returns-in-None t c = search performs_unhandled

pub throw_error-returns-then-throws-eq0 : goal.throw_error-returns-then-throws-eq0
throw_error-returns-then-throws-eq0 t c = search throw_none

pub throw_error-returns : goal.throw_error-returns
throw_error-returns t c = search throw_some
