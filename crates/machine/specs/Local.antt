-- A step reads nothing of the frames under the running ones but their handlers and sizes.
use Rattle.std.specs.Prelude.{◌≡◌, length}
use mathlib.Core.List.{List, [], ◌∷◌, ◌++◌}
use Prim.Native.Nat.{ℕ, ◌≤◌}
use Rattle.cells.specs.declared.Cell.{Cell}
use Rattle.machine.specs.Machine.{Handler, Frame, lucia, host, effect_callback, M, with_frames, frames_cost, used, result_cost}
use Rattle.machine.specs.Opcodes.{Action, goes, jumps, makes, sets, sets_builtin, calls, performs, throws, returns, clears, Taken, takes, refuses}
use Rattle.machine.specs.Calls.{Outcome, does, stops}

-- ---- Alike frames
-- Two frames are alike: the same but for the values of locals and stack, of which there are as many.
pub data AlikeFrame : Frame → Frame → Type 0 where
  alike_lucia : {c p : ℕ} {l k s t : List Cell} {hs : List Handler} → length l ≡ length k → length s ≡ length t → AlikeFrame (lucia c p l s hs) (lucia c p k t hs)
  alike_host : {n w : ℕ} {s t hs : List Cell} → length s ≡ length t → AlikeFrame (host n w s hs) (host n w t hs)
  alike_effect : {e : Cell} {s t hs : List Cell} → length s ≡ length t → AlikeFrame (effect_callback e s hs) (effect_callback e t hs)

-- Two lists of frames are alike, one by one.
pub data Alike : List Frame → List Frame → Type 0 where
  alike_none : Alike [] []
  alike_more : {f g : Frame} {F G : List Frame} → AlikeFrame f g → Alike F G → Alike (f ∷ F) (g ∷ G)

-- ---- The action: what is under the running frames is handed on
-- The action with the frames L under the frames it leaves.
unfoldable pub onto : List Frame → Action → Action
onto L (goes F) = goes (F ++ L)
onto L (jumps F) = jumps (F ++ L)
onto L (makes o F) = makes o (F ++ L)
onto L (sets g v F) = sets g v (F ++ L)
onto L (sets_builtin g v F) = sets_builtin g v (F ++ L)
onto L (calls f args F) = calls f args (F ++ L)
onto L (performs e args F) = performs e args (F ++ L)
onto L (throws x F) = throws x (F ++ L)
onto L (returns v F) = returns v (F ++ L)
onto L clears = clears

unfoldable pub taken_onto : List Frame → Taken → Taken
taken_onto L (takes d) = takes (onto L d)
taken_onto L (refuses n) = refuses n

-- ---- The machine after
-- Two machines over L and over K: the same but for these lowest frames, under the same frames.
pub record Over (L K : List Frame) (m n : M) : Type 0 where
  pub above : List Frame
  pub frames : m.frames ≡ above ++ L
  pub other : n ≡ with_frames (above ++ K) m

-- Two machines after a step: over L and over K still; or a handler was entered in them or they were returned to, and the frames left are no more than L, as many and of the
-- same cost, with as much in the store and the result.
pub data After (L K : List Frame) (m n : M) : Type 0 where
  still : Over L K m n → After L K m n
  within : length m.frames ≤ length L → length n.frames ≡ length m.frames → frames_cost n.frames ≡ frames_cost m.frames → used n.store ≡ used m.store
      → result_cost n.result ≡ result_cost m.result → After L K m n

-- ---- The verdict
-- The same refusal, or the same action over L and over K with the machines after it.
pub data Same (L K : List Frame) : Outcome → Outcome → Type 0 where
  both_stop : (n : ℕ) → Same L K (stops n) (stops n)
  both_do : (d : Action) (m n : M) → After L K m n → Same L K (does (onto L d) m) (does (onto K d) n)
