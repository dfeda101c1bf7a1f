-- `placing::starts` meets its contract: the loop keeps `Starting` for the frames that it has passed. Assumes nothing.
use Prim.Native.Nat.{◌≤◌}
use Rattle.cells.specs.Cells.{cells}
use Rattle.moves.specs.Starts.{Starting}
use Rattle.placing.proofs.starts.Given as goal

abbrev pub invariant-loop-i : goal.invariant-loop-i
invariant-loop-i l = Starting (cells l.live) l.i l.initial.table l.at l.table × (l.i ≤ l.count)
