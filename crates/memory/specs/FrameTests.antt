-- The test of a frame on cells, seen as tests of what the frame is written as; and cells that pass are those that what is read off them is written as.
use Rattle.std.specs.Prelude.{Bool}
use Prim.Native.Nat.{ℕ}
use Rattle.machine.specs.Values.{cell}
use Rattle.machine.specs.Machine.{Handler}
use Rattle.memory.specs.Tests.{target_fits}

-- ---- The test on what a frame is written as
-- a handler's target, as it is written, is below the limit
abbrev pub target_below : ℕ → Handler → Bool
target_below limit h = target_fits limit (cell 67 h.target h.stack_size)
