-- "In one run with fuel f, at most max(1, f/4 rounded up) slices and callbacks begin."
use Rattle.std.specs.Prelude.{Bool, ℕ, ◌+◌, ◌-◌, ◌/◌, ℤ, pos, negsuc, leb, eqb}
use Rattle.std.proofs.Math.Bool.{true, false}
use Rattle.image.specs.Records.{if?}
use Rattle.machine.specs.Calls.{Trace, steps, ends, Pace, free, counted, closing, failing, alone, pace_of}

-- ---- How many slices and callbacks begin
-- Whether a step of this pace, with so much left of its slice, is the last of its slice or callback.
unfoldable pub ends_slice : ℕ → Pace → Bool
ends_slice left free = false
ends_slice left counted = eqb left 0
ends_slice left closing = true
ends_slice left failing = true
ends_slice left alone = true

-- What is left of the slice after it: 64 is none begun.
unfoldable pub slice_after : ℕ → Pace → ℕ
slice_after left free = left
slice_after left counted = if? (eqb left 0) 64 (left - 1)
slice_after left closing = 64
slice_after left failing = 64
slice_after left alone = 64

-- The slices and callbacks that begin in a trace, with so much left: a step begins one if it is the first of the run or the step before it was the last of one; a host callback begins as the run ends with 103.
unfoldable pub begins : (fresh : Bool) → ℕ → Trace → ℕ
begins fresh left (steps s r) = if? fresh 1 0 + begins (ends_slice left (pace_of s.action)) (slice_after left (pace_of s.action)) r
begins fresh left (ends n g fuel w) = if? (eqb n 103) 1 0

unfoldable pub max : ℕ → ℕ → ℕ
max a b = if? (leb a b) b a

-- n/4 rounded up.
unfoldable pub quarter_up : ℕ → ℕ
quarter_up n = (n + 3) / 4

-- max(1, f/4 rounded up) of the fuel's number f.
unfoldable pub most_begins : ℤ → ℕ
most_begins (pos n) = max 1 (quarter_up n)
most_begins (negsuc n) = 1
