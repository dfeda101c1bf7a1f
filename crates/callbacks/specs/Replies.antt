-- An answer once its call is entered: the frames left, and what memory holds then.
use Rattle.std.specs.Prelude.{◌≡◌, List, ◌∷◌, true, ℕ, ◌<◌, ◌≤◌, length, Result, Ok, Err}
use Rattle.cells.specs.Cells.{cells}
use Rattle.cells.specs.declared.Cell.{Cell}
use Rattle.machine.specs.Values.{Program}
use Rattle.machine.specs.Machine.{Frame, host}
use Rattle.machine.specs.Calls as machine
use Rattle.machine.specs.Calls.{World, distinct}
use Rattle.memory.specs.Layout.{flat}
use Rattle.plan.specs.Rest.{Same}
use Rattle.plan.specs.declared.Counts.{Counts}
use Rattle.requests.specs.Asked.{rooms_of, Holding, Entered, Leaves}
use Rattle.requests.specs.Returned.{return_fits, frames_left}
use Rattle.answers.specs.Answered.{Laid, Puttable}
use Rattle.replies.specs.Replied.{return_with}
use Rattle.replies.specs.declared.CallbackReturn.{CallbackReturn}
use Rattle.replies.specs.declared.CallbackReturn.TheVariants.{Call, Perform, TailCall, TailPerform, ReturnValue, Error, Panic}
use Rattle.callbacks.specs.Outcomes.{replied}
use Rattle.refusals.specs.declared.Refusal.{Refusal}
use Rattle.refusals.specs.declared.Refusal.TheVariants.{ManyHandlers}

-- ---- The frames left
-- the frames lie in the copy, a host callback's on top, which begins at `base`
pub record Leavable (base : ℕ) (c : Counts) (work : List ℕ) : Type 0 where
  pub top : Puttable base work
  pub some : 0 < c.frames

-- an answered call has at most 16 different handlers
abbrev pub Few : Program → CallbackReturn → List Cell → Type 0
Few P (Call f) handlers = length (distinct P (length handlers) handlers) ≤ 16
Few P (Perform e) handlers = Unit {0}
Few P (TailCall f) handlers = Unit {0}
Few P (TailPerform e) handlers = Unit {0}
Few P (ReturnValue v) handlers = Unit {0}
Few P (Error v) handlers = Unit {0}
Few P (Panic v) handlers = Unit {0}

-- or it has more
pub record Many (P : Program) (r : CallbackReturn) (handlers : List Cell) : Type 0 where
  pub function : Cell
  pub is : r ≡ Call function
  pub many : 16 < length (distinct P (length handlers) handlers)

pub record LeavesFrames (P : Program) (r : CallbackReturn) (handlers : List Cell) (base : ℕ) (c l : Counts) (work work' : List ℕ) : Type 0 where
  pub few : Few P r handlers
  pub laid : (args : List Cell) (n w : ℕ) (st hs : List Cell) (below : List Frame) (starts : List ℕ) → base ≡ length (flat below) → c.frames ≡ length (host n w st hs ∷ below)
      → Laid (host n w st hs ∷ below) c.live (cells work) starts
      → (l.frames ≡ length (frames_left P (λ (new : List Cell). host n w st new) hs below (return_with r args handlers)))
      × Laid (frames_left P (λ (new : List Cell). host n w st new) hs below (return_with r args handlers)) l.live (cells work') starts
  pub store : l.store ≡ c.store
  pub same : Same work work'

abbrev pub LeftBy : Program → CallbackReturn → List Cell → ℕ → Counts → Result Counts Refusal → List ℕ → List ℕ → Type 0
LeftBy P r handlers base c (Err x) work work' = (x ≡ ManyHandlers) × Many P r handlers
LeftBy P r handlers base c (Ok l) work work' = LeavesFrames P r handlers base c l work work'

-- ---- An answer that passed its tests
pub record Replyable (P : Program) (r : CallbackReturn) (args handlers state live store : List ℕ) : Type 0 where
  pub entered : Entered P state live store
  pub passes : (w : World) → Holding P w state live store → (w.wait ≡ true) × (return_fits P w.machine.store (return_with r (cells args) (cells handlers)) ≡ true)
  pub few : length (cells args) ≤ 4096

pub record RepliesWorld (P : Program) (word : ℕ) (r : machine.CallbackReturn) (n : ℕ) (state live store state' live' store' : List ℕ) : Type 0 where
  pub leaves : (w : World) → Holding P w state live store → Leaves (replied P (rooms_of live store) word r w) n state live store state' live' store'
  pub same_state : Same state state'
  pub same_live : Same live live'
  pub same_store : Same store store'
