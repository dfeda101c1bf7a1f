-- Laws of one step: what it keeps, what it fits in, and which numbers refuse it.
use Rattle.std.specs.Prelude.{◌≡◌, List, ◌∷◌, ◌++◌, ℕ, ◌+◌, ◌≤◌, length}
use Rattle.cells.specs.declared.Cell.{Cell}
use Rattle.machine.specs.Values.{Program}
use Rattle.machine.specs.Machine.{Handler, Frame, lucia, Object, M, frames_cost, used, result_cost}
use Rattle.machine.specs.Opcodes.{Action, goes, jumps, makes, sets, sets_builtin, calls, performs, throws, returns, clears, doing, Taken, takes}
use Rattle.machine.specs.Calls.{Sizes, handlers_left, Outcome, does, stops}

-- ---- The store only grows, and the tables keep their lengths
-- The store after is the store before with new objects behind it.
pub record Grown (before after : List Object) : Type 0 where
  pub new : List Object
  pub store : after ≡ before ++ new

-- The store only grew, and globals and builtins are as long as they were.
pub record Kept (m after : M) : Type 0 where
  pub grown : Grown m.store after.store
  pub globals : length after.globals ≡ length m.globals
  pub builtins : length after.builtins ≡ length m.builtins

-- ---- A step that is accepted
-- The machine is within the limits and within what is lent.
pub record Fits (z : Sizes) (m : M) : Type 0 where
  pub frames : length m.frames ≤ 256
  pub live : frames_cost m.frames + result_cost m.result ≤ z.live
  pub store : used m.store ≤ z.store

-- The top frame is a Lucia frame.
pub data LuciaTop : List Frame → Type 0 where
  lucia_top : {c p : ℕ} {l st : List Cell} {hs : List Handler} {below : List Frame} → LuciaTop (lucia c p l st hs ∷ below)

-- An action of a step that can go on in its slice leaves the running frame on top; no step clears.
abbrev pub StaysOn : Action → Type 0
StaysOn (goes F) = LuciaTop F
StaysOn (jumps F) = LuciaTop F
StaysOn (makes o F) = LuciaTop F
StaysOn (sets g v F) = LuciaTop F
StaysOn (sets_builtin g v F) = LuciaTop F
StaysOn (calls f args F) = Unit {0}
StaysOn (performs e args F) = Unit {0}
StaysOn (throws x F) = Unit {0}
StaysOn (returns v F) = Unit {0}
StaysOn clears = ⊥

-- The action taken is accepted: 16 handlers at most, and what it leaves fits.
pub record Accepted (P : Program) (z : Sizes) (t : Taken) (d : Action) (m after : M) : Type 0 where
  pub next : t ≡ takes d
  pub done : after ≡ doing P d m
  pub stays : StaysOn d
  pub handlers : handlers_left d ≤ 16
  pub fits : Fits z after

-- ---- Refusals
-- What a step that is ready is refused with: 3 and 7 (which no accepted image and no memory in form give) and 12 before it is done, the others on what it would leave.
pub data Refusal : ℕ → Type 0 where
  wrong_opcode : Refusal 3
  wrong_handle : Refusal 7
  few_values : Refusal 12
  many_frames : Refusal 13
  no_live : Refusal 14
  no_store : Refusal 15
  many_handlers : Refusal 16

-- What an action, or its refusal, comes to.
pub data Judged (P : Program) (z : Sizes) (t : Taken) (m : M) : Outcome → Type 0 where
  does_it : (d : Action) (after : M) → Accepted P z t d m after → Judged P z t m (does d after)
  stops_it : (n : ℕ) → Refusal n → Judged P z t m (stops n)
