-- Laws of runs: the ticks taken, how a run ends, runs one after the other, refusals, and the loop that only jumps.
use Rattle.std.specs.Prelude.{◌≡◌, List, [], ◌∷◌, ◌++◌, false, pos, length, get_or, replicate, eqb}
use Prim.Native.Nat.{ℕ, zero, suc, ◌≤◌, ◌<◌}
use Rattle.cells.specs.Cells.{null}
use Rattle.cells.specs.declared.Cell.{Cell}
use Rattle.fuel.specs.Fuels.{consume, should_continue}
use Rattle.fuel.specs.declared.Fuel.{Fuel}
use Rattle.image.specs.Records.{if?}
use Rattle.image.specs.Program.{Code, no_op}
use Rattle.machine.specs.Values.{Program, code_of}
use Rattle.machine.specs.Machine.{Handler, Frame, lucia, closure, running, M, here, object_at}
use Rattle.machine.specs.Opcodes.{jumps, next_action}
use Rattle.machine.specs.Calls.{Sizes, stops, outcome, Step, Trace, steps, ends, steps_of, answer_of, given_of, fuel_after, world_after, Turn, is_done, is_host, is_ready, turn_of, run}
use Rattle.machine.specs.StepLaws.{Kept, Fits, Accepted, Refusal}

-- What `charge` makes of the fuel.
abbrev pub charged : Fuel → ℕ → Fuel
charged fuel c = consume (consume fuel (pos c)) (pos 4)

-- ---- What a run is: its ticks, its steps and its end
-- A step of a run: its action is the next one, and is accepted; the store only grows.
pub record Lawful (P : Program) (z : Sizes) (s : Step) : Type 0 where
  pub accepted : Accepted P z (next_action P s.before s.before.frames) s.action s.before s.after
  pub kept : Kept s.before s.after

-- Lawful steps, each from where the last one led, lead from m to the machine at the end.
abbrev pub Leads : Program → Sizes → M → List Step → M → Type 0
Leads P z m [] final = m ≡ final
Leads P z m (s ∷ ss) final = (m ≡ s.before) × Lawful P z s × Leads P z s.after ss final

abbrev pub machine_after : Trace → M
machine_after r = (world_after r).machine

abbrev pub turn_after : Trace → Turn
turn_after r = turn_of (machine_after r).result (machine_after r).frames

-- How a run of t ticks ends: done, out of fuel, paused with all ticks taken, awaiting the host, or refused, with the number that refuses the next step.
pub data Ending (P : Program) (z : Sizes) (t : ℕ) (r : Trace) : Type 0 where
  done : answer_of r ≡ 100 → turn_after r ≡ is_done → Ending P z t r
  out_of_fuel : answer_of r ≡ 101 → should_continue (fuel_after r) ≡ false → Ending P z t r
  paused : answer_of r ≡ 102 → turn_after r ≡ is_ready → length (steps_of r) ≡ t → Ending P z t r
  awaiting : answer_of r ≡ 103 → turn_after r ≡ is_host → Ending P z t r
  refused : Refusal (answer_of r) → turn_after r ≡ is_ready → length (steps_of r) < t → outcome P z (next_action P (machine_after r) (machine_after r).frames) (machine_after r) ≡ stops (answer_of r) → Ending P z t r

-- What a run of t ticks from m is.
pub record Ran (P : Program) (z : Sizes) (t : ℕ) (m : M) (r : Trace) : Type 0 where
  pub ticks : length (steps_of r) ≤ t
  pub leads : Leads P z m (steps_of r) (machine_after r)
  pub ending : Ending P z t r
  pub wait : (world_after r).wait ≡ eqb (answer_of r) 103

-- ---- A paused run and the next one are one run of the ticks together
-- The trace with b ticks more: where it pauses, it goes on.
unfoldable pub continued : Program → Sizes → ℕ → Trace → Trace
continued P z b (steps s r) = steps s (continued P z b r)
continued P z b (ends n g fuel w) = if? (eqb n 102) (run P z b fuel w.slice w.machine) (ends n g fuel w)

-- Two runs that are one: its steps are those of the first and then those of the next, and all else is the next one's.
pub record Joined (first next both : Trace) : Type 0 where
  pub steps : steps_of both ≡ steps_of first ++ steps_of next
  pub answer : answer_of both ≡ answer_of next
  pub given : given_of both ≡ given_of next
  pub fuel : fuel_after both ≡ fuel_after next
  pub world : world_after both ≡ world_after next

-- ---- A refused step changes nothing
-- The trace with another answer.
unfoldable pub answering : ℕ → Trace → Trace
answering k (steps s r) = steps s (answering k r)
answering k (ends n g fuel w) = ends k g fuel w

-- ---- A script that only jumps
-- The top frame is at a `Jump` (opcode 40) to its own place, and the machine fits in what is lent.
pub record JumpsInPlace (P : Program) (z : Sizes) (m : M) : Type 0 where
  pub handle : ℕ
  pub place : ℕ
  pub locals : List Cell
  pub stack : List Cell
  pub handlers : List Handler
  pub below : List Frame
  pub code : ℕ
  pub upvalues : List Cell
  pub frames : m.frames ≡ lucia handle place locals stack handlers ∷ below
  pub result : m.result ≡ running
  pub closure_there : object_at m.store handle ≡ here (closure code upvalues)
  pub opcode : get_or (code_of P code).opcodes place no_op ≡ record { number = 40; operand = place }
  pub fits : Fits z m

-- t steps, each the jump, then the end.
unfoldable pub jumping : ℕ → M → Trace → Trace
jumping zero m end = end
jumping (suc t) m end = steps (record { before = m; action = jumps m.frames; after = m }) (jumping t m end)

-- There is one: the code `Jump 0`, started, wherever a frame of 6 cells and a closure of 1 are lent.
abbrev pub jump_code : Code
jump_code = record { params = 0; variadic = 0; locals = 0; stack_size = 0; opcodes = record { number = 40; operand = 0 } ∷ []; globals = []; captures = []; constants = []; codes = [] }

abbrev pub jump_program : Program
jump_program = record { image = []; codes = jump_code ∷ [] }

abbrev pub jump_machine : M
jump_machine = record { frames = lucia 0 0 [] [] [] ∷ []; store = closure 0 [] ∷ []; globals = replicate 256 null; builtins = replicate 256 null; result = running }
