-- The state block's part of the form test: a result's cells, and a wait and a slice beside the frame that runs next.
use Rattle.std.specs.Prelude.{◌≡◌, ℕ, length}
use mathlib.Core.List.{List}
use Rattle.std.proofs.Math.Bool.{true}
use Rattle.cells.specs.declared.Cell.{Cell}
use Rattle.machine.specs.Values.{Program, cell}
use Rattle.machine.specs.Machine.{Object, Result, result_cost}
use Rattle.machine.specs.Calls.{are_values}
use Rattle.machine.specs.Form.{ResultFits, Top, of_lucia, of_host, of_effect, of_none}
use Rattle.memory.specs.Layout.{Shown, result_shown}
use Rattle.memory.specs.View.{read_result}
use Rattle.memory.specs.Tests.{result_fits}

-- ---- A wait and a slice
-- the kind of the frame that runs next
abbrev pub top_number : Top → ℕ
top_number of_lucia = 64
top_number of_host = 65
top_number of_effect = 66
top_number of_none = 0

-- the result r is shown as x, and fits
pub record Shows (P : Program) (s : List Object) (x : Shown) (r : Result) : Type 0 where
  pub is : result_shown r ≡ x
  pub fits : ResultFits P s r

pub record ResultOut (P : Program) (s : List Object) (S : List Cell) (b : ℕ) (r : Result) (x : Shown) : Type 0 where
  pub fits : result_fits P S b x.kind x.value (cell x.second 0 (length x.args)) ≡ true
  pub read : read_result x ≡ r
  pub args : are_values P s x.args ≡ true
  pub size : length x.args ≡ result_cost r
