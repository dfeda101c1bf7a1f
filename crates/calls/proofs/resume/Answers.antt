-- `calls::resume` meets its contract. Assumes nothing.
use native.Mathlib.Omega.{arith}
use Rattle.calls.specs.Calling.{resume_one, resume_wrong}
use Rattle.calls.proofs.resume.Goals as goal

pub overflow_cast-result : goal.overflow_cast-result
overflow_cast-result c = omega arith

pub get-requires : goal.get-requires
get-requires c = omega arith

pub returns-then-n-eq1 : goal.returns-then-n-eq1
returns-then-n-eq1 c = search resume_one

pub returns : goal.returns
returns c = search resume_wrong
