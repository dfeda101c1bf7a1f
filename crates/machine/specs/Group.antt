-- One group of a run by itself: "one slice, one effect callback or the opening of a host wait, or till the ticks given are taken". A run is its groups, one after the other.
use Rattle.std.specs.Prelude.{Bool, eqb}
use Rattle.std.proofs.Math.Bool.{true, false}
use Prim.Native.Nat.{ℕ, zero, suc, ◌-◌}
use Rattle.fuel.specs.declared.Fuel.{Fuel}
use Rattle.image.specs.Records.{if?}
use Rattle.machine.specs.Values.{Program}
use Rattle.machine.specs.Machine.{M}
use Rattle.machine.specs.Opcodes.{next_action}
use Rattle.machine.specs.Calls.{Sizes, Outcome, does, stops, outcome, world, nothing, Trace, steps, ends, Turn, is_done, is_host, is_ready, turn_of, pace_of, no_ticks, tick}
use Rattle.machine.specs.SliceLaws.{ends_slice, slice_after}

-- "its run's answer, or "go on" where a run would begin another step"
unfoldable pub go_on_at : Fuel → ℕ → Turn → M → Trace
go_on_at fuel left is_done m = ends 100 nothing fuel (world m false left)
go_on_at fuel left is_host m = ends 104 nothing fuel (world m false left)
go_on_at fuel left is_ready m = ends 104 nothing fuel (world m false left)

abbrev pub go_on : Fuel → ℕ → M → Trace
go_on fuel left m = go_on_at fuel left (turn_of m.result m.frames) m

-- what follows the step in its group: nothing, if it is the last of its slice or callback
unfoldable pub in_group : (Fuel → ℕ → M → Trace) → ℕ → Outcome → Fuel → ℕ → M → Trace
in_group more left (does d m') = if? (ends_slice left (pace_of d)) go_on more
in_group more left (stops n) = more

-- as `run`, to the end of the slice or callback
unfoldable pub group : Program → Sizes → ℕ → Fuel → ℕ → M → Trace
group P z zero fuel left m = no_ticks fuel left (turn_of m.result m.frames) m
group P z (suc t) fuel left m =
    let o = outcome P z (next_action P m m.frames) m in
    tick (in_group (group P z t) left o) fuel left (turn_of m.result m.frames) m o

-- the trace of a group that was given t ticks; where it is to go on, what is next has the ticks not taken
unfoldable pub followed : (ℕ → Fuel → ℕ → M → Trace) → ℕ → Trace → Trace
followed next t (steps s r) = steps s (followed next (t - 1) r)
followed next t (ends n g fuel w) = if? (eqb n 104) (next t fuel w.slice w.machine) (ends n g fuel w)

-- at most k groups, of t ticks together
unfoldable pub groups : Program → Sizes → ℕ → ℕ → Fuel → ℕ → M → Trace
groups P z zero t fuel left m = go_on fuel left m
groups P z (suc k) t fuel left m = followed (groups P z k) t (group P z t fuel left m)

-- whether no step is left in it
unfoldable pub is_over : Trace → Bool
is_over (steps s r) = false
is_over (ends n g fuel w) = true

-- No step follows one that is the last of its slice or callback.
unfoldable pub one_slice : ℕ → Trace → Bool
one_slice left (steps s r) = if? (ends_slice left (pace_of s.action)) (is_over r) (one_slice (slice_after left (pace_of s.action)) r)
one_slice left (ends n g fuel w) = true
