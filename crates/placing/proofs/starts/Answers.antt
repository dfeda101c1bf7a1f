-- `placing::starts` meets its contract: the loop keeps `Starting` for the frames that it has passed. Assumes nothing.
use mathlib.Core.Path.{refl}
use native.Mathlib.Omega.{arith}
use Rattle.moves.specs.Starts.{starting_none, starting_fits, starting_next}
use Rattle.placing.proofs.starts.Goals as goal

pub loop-i-init : goal.loop-i-init
loop-i-init c = (starting_none _ _, omega arith)

pub open-requires : goal.open-requires
open-requires c = omega (arith, starting_fits c.loop-i.invariant.0 refl refl c.loop-i-test.true, c.requires.0)

pub end-next-requires : goal.end-next-requires
end-next-requires c = omega (arith, starting_fits c.loop-i.invariant.0 c.«open».ensures.0 refl c.loop-i-test.true, c.requires.0, c.requires.1)

pub overflow_cast-table : goal.overflow_cast-table
overflow_cast-table c = omega (arith, starting_fits c.loop-i.invariant.0 c.«open».ensures.0 c.end-next.ensures c.loop-i-test.true, c.requires.0, c.requires.1)

pub loop-i-preserved : goal.loop-i-preserved
loop-i-preserved c = (
  starting_next c.loop-i.invariant.0 c.«open».ensures.0 c.end-next.ensures (omega (arith, c.loop-i-test.true, c.requires.2)),
  omega (arith, c.loop-i-test.true),
)
