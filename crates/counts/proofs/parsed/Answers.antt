-- `counts::parsed` meets its contract. Assumes nothing.
use native.Mathlib.Omega.{arith}
use Rattle.counts.specs.ReadLaws.{taken_some, taken_all}
use Rattle.counts.proofs.parsed.Goals as goal

pub overflow_cast-result : goal.overflow_cast-result
overflow_cast-result c = omega arith

pub overflow_add-result : goal.overflow_add-result
overflow_add-result c = omega arith

pub returns-then-p : goal.returns-then-p
returns-then-p c = search taken_some

pub returns : goal.returns
returns c = search taken_all
