-- `calls::is_function` meets its contract. Assumes nothing.
use Rattle.calls.specs.Calling.{function_is, function_not}
use Rattle.calls.proofs.is_function.Goals as goal

pub returns-in-7 : goal.returns-in-7
returns-in-7 c = search function_is

pub returns-in_default : goal.returns-in_default
returns-in_default c = search function_not
