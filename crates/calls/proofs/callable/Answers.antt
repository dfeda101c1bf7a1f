-- `calls::callable` meets its contract. Assumes nothing.
use Rattle.calls.specs.Calling.{callable_below, callable_between, callable_above, callable_host, callable_low, callable_high}
use Rattle.calls.proofs.callable.Goals as goal

pub returns-in_default : goal.returns-in_default
returns-in_default c = search callable_below

pub returns-in_default-2 : goal.returns-in_default-2
returns-in_default-2 c = search callable_between

pub returns-in_default-3 : goal.returns-in_default-3
returns-in_default-3 c = search callable_above

pub returns-in-7 : goal.returns-in-7
returns-in-7 c = search callable_host

pub returns-in-7-2 : goal.returns-in-7-2
returns-in-7-2 c = search callable_low

pub returns-in-7-3 : goal.returns-in-7-3
returns-in-7-3 c = search callable_high
