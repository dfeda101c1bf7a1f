-- `layout::read_constants` meets its contract. The loop carries `Listing`: what is left of the constants is the whole. Assumes nothing.
use Prim.Native.Nat.{◌-◌}
use lib.ListN.{length}
use Rattle.layout.specs.Tables.{Listing}
use Rattle.layout.proofs.read_constants.Given as goal

abbrev pub invariant-loop-at : goal.invariant-loop-at
invariant-loop-at l = Listing l.base l.part l.used l.initial.constants l.at l.to l.constants

abbrev pub decreases-loop-at : goal.decreases-loop-at
decreases-loop-at l = length l.part - l.at
