-- `makes::store_global` meets its contract. Assumes nothing.
use native.Mathlib.Omega.{arith}
use Rattle.makes.specs.Globals.{global_none, global_stored}
use Rattle.makes.proofs.store_global.Goals as goal

pub returns-then-g-eq0 : goal.returns-then-g-eq0
returns-then-g-eq0 c = search global_none

pub top-v-requires : goal.top-v-requires
top-v-requires c = omega arith

pub dropped-requires : goal.dropped-requires
dropped-requires c = omega arith

pub returns : goal.returns
returns c = search global_stored
