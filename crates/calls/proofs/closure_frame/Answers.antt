-- `calls::closure_frame` meets its contract. Assumes nothing.
use native.Mathlib.Omega.{arith}
use Rattle.calls.specs.Calling.{callable_fits, closure_none, closure_starts}
use Rattle.calls.proofs.closure_frame.Goals as goal

pub closure_params-p-requires : goal.closure_params-p-requires
closure_params-p-requires c = search callable_fits

pub returns-then-not-check_args : goal.returns-then-not-check_args
returns-then-not-check_args c = search closure_none

pub overflow_cast-f : goal.overflow_cast-f
overflow_cast-f c = omega arith

pub number-code-requires : goal.number-code-requires
number-code-requires c = search callable_fits

pub overflow_cast-code : goal.overflow_cast-code
overflow_cast-code c = omega arith

pub overflow_cast-result : goal.overflow_cast-result
overflow_cast-result c = omega arith

pub returns : goal.returns
returns c = search closure_starts
