-- `operators::type_check` meets its contract. Assumes nothing.
use native.Mathlib.Omega.{arith}
use Rattle.operators.specs.Operating.{check_stops, check_does}
use Rattle.operators.proofs.type_check.Goals as goal

pub returns-then-g-eq0 : goal.returns-then-g-eq0
returns-then-g-eq0 c = search check_stops

pub top-v-requires : goal.top-v-requires
top-v-requires c = omega arith

pub computed-requires : goal.computed-requires
computed-requires c = omega arith

pub returns : goal.returns
returns c = search check_does
