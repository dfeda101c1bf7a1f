-- What closes a slice, in memory: a call, a return, and the effect callback, which stands alone.
use Rattle.std.specs.Prelude.{◌≡◌, List, ◌∷◌, ℕ, ◌≤◌, length, Result}
use Rattle.cells.specs.Cells.{cells}
use Rattle.cells.specs.declared.Cell.{Cell}
use Rattle.machine.specs.Values.{Program}
use Rattle.machine.specs.Machine.{Frame, effect_callback, M, running}
use Rattle.machine.specs.Calls.{Sizes, closing, alone}
use Rattle.moves.specs.declared.Running as registers
use Rattle.plan.specs.Rest.{Appends}
use Rattle.plan.specs.declared.Counts.{Counts}
use Rattle.steps.specs.declared.Closing as c
use Rattle.steps.specs.declared.Closing.TheVariants.{Call, Return, ReturnCall}
use Rattle.refusals.specs.declared.Refusal.{Refusal}
use Rattle.acts.specs.declared.Acted.{Acted}
use Rattle.acts.specs.Acted.{Acts, Bounded, used_then, Busy, Opcode, Resting}

unfoldable pub closing_number : c.Closing → ℕ
closing_number Call = 36
closing_number Return = 37
closing_number ReturnCall = 38

-- so many bytes that the values of any stack fit into them
pub record Closable (P : Program) (op frames u : ℕ) (g : registers.Running) (x : ℕ) (state live store starts args : List ℕ) : Type 0 where
  pub sizes : Sizes
  pub machine : M
  pub busy : Busy P sizes machine g u frames (cells state) (cells live) (cells store) starts
  pub opcode : Opcode busy.frame busy.inside.place op x
  pub len : length state ≡ 8256
  pub values : 65536 ≤ length args

pub record Returnable (frames u : ℕ) (g : registers.Running) (state live store starts : List ℕ) : Type 0 where
  pub program : Program
  pub sizes : Sizes
  pub machine : M
  pub busy : Busy program sizes machine g u frames (cells state) (cells live) (cells store) starts
  pub len : length state ≡ 8256

pub record Closes (P : Program) (op frames u : ℕ) (g : registers.Running) (x : ℕ) (r : Result Acted Refusal) (state live store starts state' live' store' starts' : List ℕ) : Type 0 where
  pub acts : (z : Sizes) (m : M) (b : Busy P z m g u frames (cells state) (cells live) (cells store) starts) → Opcode b.frame b.inside.place op x
      → Acts P z m closing r (cells state') (cells live') (cells store') starts'
  pub bounded : Bounded state live store starts state' live' store' starts'
  pub appends : Appends u (used_then u r) store store'

-- ---- An effect callback
-- an effect callback is next
pub record Callback (m : M) : Type 0 where
  pub effect : Cell
  pub stack : List Cell
  pub handlers : List Cell
  pub below : List Frame
  pub frames : m.frames ≡ effect_callback effect stack handlers ∷ below
  pub running : m.result ≡ running

pub record Callbackable (P : Program) (c : Counts) (state live store starts args : List ℕ) : Type 0 where
  pub sizes : Sizes
  pub machine : M
  pub resting : Resting P sizes machine c (cells state) (cells live) (cells store) starts
  pub callback : Callback machine
  pub len : length state ≡ 8256
  pub values : 65536 ≤ length args

pub record PerformsCallback (P : Program) (c : Counts) (r : Result Acted Refusal) (state live store starts state' live' store' starts' : List ℕ) : Type 0 where
  pub acts : (z : Sizes) (m : M) → Resting P z m c (cells state) (cells live) (cells store) starts → Callback m → Acts P z m alone r (cells state') (cells live') (cells store') starts'
  pub bounded : Bounded state live store starts state' live' store' starts'
  pub appends : Appends c.store (used_then c.store r) store store'
