-- Which numbers refuse each kind of step: an effect callback, a throw, Return, RegisterHandler, Call and ReturnCall.
use Rattle.std.specs.Prelude.{◌≡◌, Bool, ℕ, ◌+◌, ◌≤◌, get_or, eqb}
use mathlib.Core.List.{List, [], ◌∷◌}
use Rattle.std.proofs.Math.Bool.{true, false}
use Rattle.std.proofs.Math.ListN.{length}
use Rattle.cells.specs.declared.Cell.{Cell}
use Rattle.image.specs.Records.{if?}
use Rattle.image.specs.Program.{no_op}
use Rattle.machine.specs.Values.{Program, code_of}
use Rattle.machine.specs.Machine.{Handler, Frame, lucia, closure, M, frames_cost, result_cost, here, object_at}
use Rattle.machine.specs.Calls.{Outcome, does, stops}

-- The number is in the list.
abbrev pub among : ℕ → List ℕ → Bool
among n [] = false
among n (k ∷ ks) = if? (eqb n k) true (among n ks)

-- A refusal, if it is one, has a number of the list.
abbrev pub Only : List ℕ → Outcome → Type 0
Only ns (does d m) = Unit {0}
Only ns (stops n) = among n ns ≡ true

-- The cells that a machine takes of the live memory.
abbrev pub live_cells : M → ℕ
live_cells m = frames_cost m.frames + result_cost m.result

-- ---- What a perform takes
-- There are no more frames than before, and at most n live cells more.
pub record Within (n : ℕ) (m after : M) : Type 0 where
  pub frames : length after.frames ≤ length m.frames
  pub live : live_cells after ≤ live_cells m + n

-- ---- Return, RegisterHandler and Call
-- The top frame is of a closure whose code has opcode `op` at the frame's place.
pub record AtOpcode (P : Program) (m : M) (op : ℕ) : Type 0 where
  pub handle : ℕ
  pub place : ℕ
  pub locals : List Cell
  pub stack : List Cell
  pub handlers : List Handler
  pub below : List Frame
  pub code : ℕ
  pub upvalues : List Cell
  pub frames : m.frames ≡ lucia handle place locals stack handlers ∷ below
  pub object : object_at m.store handle ≡ here (closure code upvalues)
  pub opcode : (get_or (code_of P code).opcodes place no_op).number ≡ op
