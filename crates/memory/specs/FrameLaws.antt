-- Frames: the test on cells accepts what a frame in form is written as, and nothing else; so it does frames one after the other.
use Rattle.std.specs.Prelude.{◌≡◌, Bool, ltb}
use mathlib.Core.List.{List, [], ◌++◌}
use Rattle.std.proofs.Math.Bool.{true}
use Prim.Native.Nat.{ℕ}
use Rattle.std.proofs.Math.ListN.{length, drop}
use Rattle.cells.specs.declared.Cell.{Cell}
use Rattle.machine.specs.Values.{Program}
use Rattle.machine.specs.Machine.{Frame, Object, frames_cost}
use Rattle.machine.specs.Demand.{All}
use Rattle.machine.specs.Form.{FrameFits}
use Rattle.memory.specs.Layout.{flat}
use Rattle.memory.specs.View.{frames_size, frames_at}
use Rattle.memory.specs.Tests.{frames_fit}

-- ---- What holds of frames one after the other
-- x begins with the frames fs, n of them, of z cells
pub record FramesRead (P : Program) (s : List Object) (x : List Cell) (n z : ℕ) (fs : List Frame) : Type 0 where
  pub many : length fs ≡ n
  pub cells : x ≡ flat fs ++ drop z x
  pub size : z ≡ frames_cost fs
  pub fits : All (FrameFits P s) fs

-- the frames fs, written in front of the rest, pass, and are read again
pub record FramesWritten (P : Program) (S : List Cell) (b : ℕ) (fs : List Frame) (rest : List Cell) : Type 0 where
  pub passes : frames_fit P S b (length fs) (flat fs ++ rest) ≡ true
  pub read : frames_at (length fs) [] (flat fs ++ rest) ≡ fs
  pub size : frames_size (length fs) (flat fs ++ rest) ≡ frames_cost fs

-- ---- A cell of a frame is no first cell of an object: its tag is below 128
abbrev pub inner : Cell → Bool
inner c = ltb c.tag 128
