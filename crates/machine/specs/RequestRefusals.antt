-- Which numbers refuse each request of the host, and a load.
use Rattle.std.specs.Prelude.{◌≡◌, length}
use mathlib.Core.List.{List}
use Prim.Native.Nat.{ℕ, ◌≤◌}
use Rattle.machine.specs.Machine.{Frame, Object, continuation, here, object_at}

-- Every continuation of the store has at most 256 frames.
abbrev pub Continuations256 : List Object → Type 0
Continuations256 s = (k : ℕ) (K : List Frame) → object_at s k ≡ here (continuation K) → length K ≤ 256
