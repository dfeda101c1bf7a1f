-- `placing::last_frame` meets its contract: `Walks` says where the walk ends. Assumes nothing.
use Prim.Native.Nat.{◌+◌, ◌-◌}
use lib.ListN.{drop}
use Rattle.cells.specs.Cells.{cells}
use Rattle.memory.specs.View.{frames_size}
use Rattle.moves.specs.Objects.{Walks}
use Rattle.placing.proofs.last_frame.Given as goal

abbrev pub invariant-loop : goal.invariant-loop
invariant-loop l = Walks (cells l.x) (l.from + frames_size (l.count - 1) (drop l.from (cells l.x))) l.at (l.count + 1 - l.counter)
