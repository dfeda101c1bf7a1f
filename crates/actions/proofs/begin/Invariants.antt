-- `actions::begin` meets its contract: the loop keeps `Passed` for the frames that it has passed. Assumes nothing.
use Prim.Native.Nat.{◌≤◌}
use Rattle.cells.specs.Cells.{cells}
use Rattle.actions.specs.Tables.{Passed}
use Rattle.actions.proofs.begin.Given as goal

abbrev pub invariant-loop-i : goal.invariant-loop-i
invariant-loop-i l = Passed l.first l.from l.at l.i (cells l.store) l.initial.starts l.last l.place l.starts × (l.i ≤ l.count)
