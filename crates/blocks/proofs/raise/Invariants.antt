-- `blocks::raise` meets its contract: the loop keeps `Copied`, the last cell first. Assumes nothing.
use Prim.Native.Nat.{◌-◌, ◌+◌}
use lib.ListN.{drop}
use Rattle.cells.specs.Cells.{cells}
use Rattle.blocks.proofs.Copied.{Copied}
use Rattle.blocks.proofs.raise.Given as goal

abbrev pub invariant-loop-left : goal.invariant-loop-left
invariant-loop-left l = Copied l.initial.s (l.to + l.left) (drop (l.from + l.left) (cells l.initial.s)) (l.n - l.left) l.s
