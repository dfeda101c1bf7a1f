-- Every machine that a list of calls leads to is in form: each frame, running or captured, stands inside its code.
use Rattle.std.specs.Prelude.{◌≡◌, length}
use mathlib.Core.List.{List}
use Prim.Native.Nat.{ℕ, ◌<◌, ◌≤◌}
use Rattle.cells.specs.declared.Cell.{Cell}
use Rattle.machine.specs.Values.{Program, code_of}
use Rattle.machine.specs.Machine.{Handler, Frame, lucia, host, effect_callback, Object, closure, list, continuation, M, here, object_at, handlers_of, Found, found, nowhere}
use Rattle.machine.specs.Opcodes.{Action, goes, jumps, makes, sets, sets_builtin, calls, performs, throws, returns, clears}
use Rattle.machine.specs.Demand.{All}

-- A Lucia frame stands inside its code: its handle is at a closure of a code of P, its place and the targets of its handlers are places of that code, and it has the locals of that code.
pub record Inside (P : Program) (s : List Object) (h p : ℕ) (l : List Cell) (hs : List Handler) : Type 0 where
  pub code : ℕ
  pub upvalues : List Cell
  pub closure_there : object_at s h ≡ here (closure code upvalues)
  pub known : code < length P.codes
  pub place : p < length (code_of P code).opcodes
  pub locals : length l ≡ (code_of P code).locals
  pub targets : All (λ (x : Handler). x.target < length (code_of P code).opcodes) hs

-- A Lucia frame stands inside its code; a callback frame has none.
abbrev pub Stands : Program → List Object → Frame → Type 0
Stands P s (lucia h p l st hs) = Inside P s h p l hs
Stands P s (host n w st hs) = Unit {0}
Stands P s (effect_callback e st hs) = Unit {0}

-- A frame stands inside its code if it is a Lucia frame, and has at most 16 handlers.
pub record FrameFormed (P : Program) (s : List Object) (f : Frame) : Type 0 where
  pub stands : Stands P s f
  pub handlers : length (handlers_of f) ≤ 16

-- A closure has a code of P and as many upvalues as that code has captures; a continuation's frames are in form.
abbrev pub ObjectFormed : Program → List Object → Object → Type 0
ObjectFormed P s (closure c us) = (c < length P.codes) × (length us ≡ length (code_of P c).captures)
ObjectFormed P s (list vs) = Unit {0}
ObjectFormed P s (continuation K) = All (FrameFormed P s) K

-- The frames and the objects of a machine are in form.
pub record Shaped (P : Program) (m : M) : Type 0 where
  pub frames : All (FrameFormed P m.store) m.frames
  pub store : All (ObjectFormed P m.store) m.store

-- A machine in form: its frames and objects are, and it has at most 256 frames.
pub record Formed (P : Program) (m : M) : Type 0 where
  pub shaped : Shaped P m
  pub few : length m.frames ≤ 256

-- ---- A search
-- Q holds of the frame found, and of those above and below it.
abbrev pub FoundAll : (Frame → Type 0) → Found → Type 0
FoundAll Q (found above h below) = All Q above × Q h × All Q below
FoundAll Q nowhere = Unit {0}

-- What an action leaves, and the object that it makes, are in form.
abbrev pub LeftFormed : Program → List Object → Action → Type 0
LeftFormed P s (goes F) = All (FrameFormed P s) F
LeftFormed P s (jumps F) = All (FrameFormed P s) F
LeftFormed P s (makes o F) = ObjectFormed P s o × All (FrameFormed P s) F
LeftFormed P s (sets g v F) = All (FrameFormed P s) F
LeftFormed P s (sets_builtin g v F) = All (FrameFormed P s) F
LeftFormed P s (calls f args F) = All (FrameFormed P s) F
LeftFormed P s (performs e args F) = All (FrameFormed P s) F
LeftFormed P s (throws x F) = All (FrameFormed P s) F
LeftFormed P s (returns v F) = All (FrameFormed P s) F
LeftFormed P s clears = Unit {0}
