-- `operators::binary` meets its contract. Assumes nothing.
use native.Mathlib.Omega.{arith}
use Rattle.operators.specs.Operating.{binary_stops, binary_does, arithmetic_gives, arithmetic_stops, arithmetic_does}
use Rattle.operators.proofs.binary.Goals as goal

pub returns-then-g-lt2-clause-lent : goal.returns-then-g-lt2-clause-lent
returns-then-g-lt2-clause-lent c = search binary_stops

pub returns-then-g-lt2-clause-arithmetic : goal.returns-then-g-lt2-clause-arithmetic
returns-then-g-lt2-clause-arithmetic c n = arithmetic_stops _ _ _ _ c.if-g-lt2.true

pub top-b-requires : goal.top-b-requires
top-b-requires c = omega arith

pub computed-requires : goal.computed-requires
computed-requires c = omega arith

pub returns-clause-lent : goal.returns-clause-lent
returns-clause-lent c = search binary_does

pub returns-clause-arithmetic : goal.returns-clause-arithmetic
returns-clause-arithmetic c n = arithmetic_does _ _ _ _ c.if-g-lt2.false c.top-b.ensures c.top-a.ensures (arithmetic_gives _ _ _ _ n c.binary_of.ensures) c.computed.ensures
