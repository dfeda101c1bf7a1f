-- The store's part of the form test: objects one after the other, of which each names earlier ones, are what the test accepts and what is read off.
use Rattle.std.specs.Prelude.{◌≡◌}
use mathlib.Core.List.{List, [], ◌++◌}
use Prim.Native.Nat.{ℕ}
use Rattle.std.proofs.Math.ListN.{drop}
use Rattle.cells.specs.declared.Cell.{Cell}
use Rattle.machine.specs.Values.{Program}
use Rattle.machine.specs.Machine.{Object, used}
use Rattle.machine.specs.Form.{StoreFits}
use Rattle.memory.specs.Layout.{store_cells}

-- the objects s end at `end`, and fit
pub record Stocked (P : Program) (S : List Cell) (end : ℕ) (s : List Object) : Type 0 where
  pub is : S ≡ store_cells s ++ drop end S
  pub size : used s ≡ end
  pub fits : StoreFits P [] s
