-- `form::store_fits` meets its contract: the loop keeps `Walked`. Assumes nothing.
use Prim.Native.Nat.{◌-◌}
use Rattle.cells.specs.Cells.{cells}
use Rattle.scan.specs.Tables.{program_of}
use Rattle.form.specs.Objects.{Walked}
use Rattle.form.proofs.store_fits.Given as goal

abbrev pub invariant-loop-at : goal.invariant-loop-at
invariant-loop-at l = Walked (program_of l.program) (cells l.store) l.used l.at

abbrev pub decreases-loop-at : goal.decreases-loop-at
decreases-loop-at l = l.used - l.at
