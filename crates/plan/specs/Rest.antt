-- How memory holds a machine while a call runs: its counts are in registers, the start of each frame in a table, and the state block shows them only at the end.
use Rattle.std.specs.Prelude.{◌≡◌, List, [], ◌++◌, ℕ, ◌+◌, ◌<◌, ◌≤◌, length, get_or, drop}
use Rattle.cells.specs.Cells.{cells, rest}
use Rattle.cells.specs.declared.Cell.{Cell}
use Rattle.machine.specs.Values.{Program}
use Rattle.machine.specs.Machine.{Frame, running, M, frames_cost, used, result_cost}
use Rattle.machine.specs.Calls.{World}
use Rattle.machine.specs.Form.{StoreFits}
use Rattle.memory.specs.Layout.{flat, result_shown, state_cells}
use Rattle.moves.specs.Frames.{Live}
use Rattle.moves.specs.Objects.{Stored}
use Rattle.moves.specs.Starts.{lower}
use Rattle.plan.specs.declared.Counts.{Counts}

-- no byte behind the cells changes
pub record Same (old new : List ℕ) : Type 0 where
  pub rest : rest new ≡ rest old
  pub len : length new ≡ length old

-- the store had u cells used and has u': nothing behind those changes, no cell and no byte
pub record Appends (u u' : ℕ) (old new : List ℕ) : Type 0 where
  pub rest : rest new ≡ rest old
  pub len : length new ≡ length old
  pub grows : u ≤ u'
  pub free : drop u' (cells new) ≡ drop u' (cells old)

abbrev pub counts_of : M → Counts
counts_of m = record { frames = length m.frames; live = frames_cost m.frames + result_cost m.result; store = used m.store }

-- the table has the start of each frame
abbrev pub Begins : List Frame → List ℕ → Type 0
Begins F starts = (i : ℕ) → i < length F → get_or starts i 0 ≡ length (flat (lower i F))

-- the frames under the top lie in L; of the top only the start is known
pub record Under (F : List Frame) (L : List Cell) (starts : List ℕ) : Type 0 where
  pub below : Live (drop 1 F) L
  pub begins : Begins F starts

-- a machine of which the top frame is in registers, or not yet written
pub record Held (P : Program) (m : M) (c : Counts) (L S : List Cell) (starts : List ℕ) : Type 0 where
  pub running : m.result ≡ running
  pub counts : c ≡ counts_of m
  pub under : Under m.frames L starts
  pub store : Stored m.store S
  pub objects : StoreFits P [] m.store

-- the state block shows globals, builtins and result; its counts, wait and slice are stale until the call ends
pub record Block (m : M) (B : List Cell) : Type 0 where
  pub stale : World
  pub is : B ≡ state_cells stale
  pub globals : stale.machine.globals ≡ m.globals
  pub builtins : stale.machine.builtins ≡ m.builtins
  pub result : stale.machine.result ≡ m.result

-- a machine at rest: all its frames are written
pub record Rests (m : M) (c : Counts) (B L S : List Cell) (starts : List ℕ) : Type 0 where
  pub counts : c ≡ counts_of m
  pub free : List Cell
  pub live : L ≡ flat m.frames ++ ((result_shown m.result).args ++ free)
  pub begins : Begins m.frames starts
  pub store : Stored m.store S
  pub block : Block m B
