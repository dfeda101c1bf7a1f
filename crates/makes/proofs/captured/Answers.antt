-- `makes::captured` meets its contract. Assumes nothing.
use native.Mathlib.Omega.{arith}
use Rattle.makes.specs.Closures.{local_fits, upvalue_within, capture_local, capture_upvalue}
use Rattle.makes.proofs.captured.Goals as goal

pub overflow_cast-c : goal.overflow_cast-c
overflow_cast-c c = omega arith

pub local-requires : goal.local-requires
local-requires c = local_fits c.requires c.capture-c.ensures c.if-c.true

pub returns-then-c : goal.returns-then-c
returns-then-c c = search capture_local

pub overflow_cast-c-2 : goal.overflow_cast-c-2
overflow_cast-c-2 c = omega arith

pub upvalue-requires : goal.upvalue-requires
upvalue-requires c = search upvalue_within

pub returns : goal.returns
returns c = search capture_upvalue
