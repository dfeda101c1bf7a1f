-- Parsed arguments in memory: values on the stack of a frame, and a list of the rest in the store.
use Rattle.std.specs.Prelude.{◌≡◌, List, ℕ, ◌+◌, length, take}
use Rattle.cells.specs.Cells.{cells}
use Rattle.cells.specs.declared.Cell.{Cell}
use Rattle.machine.specs.Machine.{Object, used, parse}
use Rattle.moves.specs.Runs.{with_counts, pushed_all, Turns}
use Rattle.moves.specs.Objects.{Stored}
use Rattle.moves.specs.declared.Running.{Running}
use Rattle.plan.specs.Rest.{Appends}
use Rattle.plan.specs.Plans.{taken_count, listed_cells}
use Rattle.plan.specs.declared.Params.{Params}

-- the store holds what `parse` leaves of it, and nothing else changes
pub record Lists (p : Params) (at : ℕ) (args : List Cell) (old new : List ℕ) : Type 0 where
  pub stored : (s : List Object) → Stored s (cells old) → at ≡ used s → Stored (parse p.variadic p.count args s).store (cells new)
  pub appends : Appends at (at + listed_cells p (length args)) old new

-- the frame has the parsed arguments on its stack
pub record Pushes (p : Params) (list : ℕ) (args : List Cell) (g : Running) (old : List ℕ) (r : Running) (new : List ℕ) : Type 0 where
  pub registers : r ≡ with_counts g.handlers (g.stack + taken_count p (length args)) g
  pub turns : (s : List Object) → list ≡ used s → Turns (pushed_all (parse p.variadic p.count args s).args) g old r new

pub record PushesFrom (n : ℕ) (args : List Cell) (g : Running) (old : List ℕ) (r : Running) (new : List ℕ) : Type 0 where
  pub registers : r ≡ with_counts g.handlers (g.stack + n) g
  pub turns : Turns (pushed_all (take n args)) g old r new
