-- `calls::closure_params` meets its contract. Assumes nothing.
use native.Mathlib.Omega.{arith}
use Rattle.calls.specs.Calling.{closure_read}
use Rattle.calls.proofs.closure_params.Goals as goal

pub overflow_cast-f : goal.overflow_cast-f
overflow_cast-f c = omega arith

pub overflow_cast-code : goal.overflow_cast-code
overflow_cast-code c = omega arith

pub returns : goal.returns
returns c = search closure_read
