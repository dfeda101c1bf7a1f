-- A slice in memory: where it ends, a machine of the run is held, with its frame in registers at the next opcode.
use Rattle.std.specs.Prelude.{◌≡◌, List, ℕ, ◌+◌, ◌-◌, ◌<◌, ◌≤◌, length, get_or, drop}
use Rattle.cells.specs.Cells.{room, cells}
use Rattle.cells.specs.declared.Cell.{Cell}
use Rattle.fuel.specs.declared.Fuel.{Fuel}
use Rattle.image.specs.Program.{no_op}
use Rattle.image.specs.Fine.{Accepted}
use Rattle.machine.specs.Values as v
use Rattle.machine.specs.Values.{Program}
use Rattle.machine.specs.Machine.{Frame, M, used}
use Rattle.machine.specs.Opcodes.{Running, throws, takes, next_action}
use Rattle.machine.specs.Calls.{Sizes, stops, outcome, charge, run}
use Rattle.moves.specs.declared.Running as registers
use Rattle.plan.specs.Rest.{Same, Appends, Block}
use Rattle.plan.specs.Inside.{Inside, Threw}
use Rattle.steps.specs.declared.Closing.{Closing}
use Rattle.steps.specs.Stepped.{ClosingNumber}
use Rattle.slices.specs.Follows.{Follows}
use Rattle.slices.specs.declared.End.{End}
use Rattle.slices.specs.declared.End.TheVariants.{Paused, Spent, Refused, Throws, Closes}
use Rattle.slices.specs.declared.Slice.{Slice}
use Rattle.refusals.specs.Refusals.{number}

abbrev pub past_of : registers.Running → registers.Running
past_of g = record { base = g.base; locals = g.locals; handlers = g.handlers; stack = g.stack; place = g.place + 1 }

-- the machine m is about to take the next opcode of the frame in g
pub record At (P : Program) (z : Sizes) (m : M) (g : registers.Running) (handle code u : ℕ) (B L S : List Cell) : Type 0 where
  pub frame : Running
  pub inside : Inside P z m frame g L S
  pub at : inside.place ≡ frame.place
  pub closure : handle ≡ frame.handle
  pub number : code ≡ frame.number
  pub uses : u ≡ used m.store
  pub block : Block m B

-- some machine is
pub record Sliceable (P : Program) (g : registers.Running) (handle code u : ℕ) (state live store : List ℕ) : Type 0 where
  pub sizes : Sizes
  pub machine : M
  pub at : At P sizes machine g handle code u (cells state) (cells live) (cells store)
  pub accepted : Accepted P.image P.codes
  pub small : sizes.live ≤ 4096
  pub few : room store < 4294967296
  pub block : length state ≡ 8256

-- the run of t ticks from m has come to a machine that memory holds, over the same frames
pub record Reached (P : Program) (z : Sizes) (t left : ℕ) (m : M) (handle code : ℕ) (s : Slice) (B L S : List Cell) : Type 0 where
  pub machine : M
  pub at : At P z machine s.g handle code s.used B L S
  pub under : drop 1 machine.frames ≡ drop 1 m.frames
  pub less : s.ticks ≤ t
  pub follows : (fuel : Fuel) → Follows (t - s.ticks) (run P z t fuel left m) (run P z s.ticks fuel s.left machine)

-- the same where the step that was taken last ends its slice
pub record Spends (P : Program) (z : Sizes) (t left : ℕ) (m : M) (handle code : ℕ) (s : Slice) (B L S : List Cell) : Type 0 where
  pub machine : M
  pub at : At P z machine s.g handle code s.used B L S
  pub under : drop 1 machine.frames ≡ drop 1 m.frames
  pub less : s.ticks < t
  pub follows : (fuel : Fuel) → Follows (t - s.ticks) (run P z t fuel left m) (charge (run P z s.ticks) fuel 0 machine)

pub record Closed (P : Program) (k : Closing) (x : ℕ) (m : M) (r : Running) (p : ℕ) : Type 0 where
  pub number : ClosingNumber k (get_or r.code.opcodes p no_op).number
  pub operand : x ≡ (get_or r.code.opcodes p no_op).operand

abbrev pub Ended : Program → Sizes → ℕ → ℕ → M → ℕ → ℕ → Slice → End → List Cell → List Cell → List Cell → Type 0
Ended P z t left m handle code s Paused B L S = Reached P z t left m handle code s B L S × (s.ticks ≡ 0)
Ended P z t left m handle code s Spent B L S = Spends P z t left m handle code s B L S
Ended P z t left m handle code s (Refused n) B L S =
    (x : Reached P z t left m handle code s B L S) × (0 < s.ticks) × (outcome P z (next_action P x.machine x.machine.frames) x.machine ≡ stops (number n))
Ended P z t left m handle code s (Throws h e) B L S =
    (x : Reached P z t left m handle code s B L S) × (0 < s.ticks) × Threw (λ (y : v.Error) (F : List Frame). next_action P x.machine x.machine.frames ≡ takes (throws y F)) x.at.frame e h L
Ended P z t left m handle code s (Closes k o) B L S =
    (x : Reached P z t left m handle code s B L S) × (0 < s.ticks) × Closed P k o x.machine x.at.frame x.at.inside.place

pub record Slices (P : Program) (g : registers.Running) (handle code u left t : ℕ) (s : Slice) (state live store state' live' store' : List ℕ) : Type 0 where
  pub ends : (z : Sizes) (m : M) → At P z m g handle code u (cells state) (cells live) (cells store) → Accepted P.image P.codes → z.live ≤ 4096 → Ended P z t left m handle code s s.end (cells state') (cells live') (cells store')
  pub lower : s.left ≤ left
  pub same_state : Same state state'
  pub same_live : Same live live'
  pub appends : Appends u s.used store store'

-- opcodes done at once have brought the run to where memory holds it now; state block and store are as they were
pub record Quickens (P : Program) (g : registers.Running) (handle code u left t : ℕ) (s : Slice) (state live store live' : List ℕ) : Type 0 where
  pub reached : (z : Sizes) (m : M) → At P z m g handle code u (cells state) (cells live) (cells store) → Accepted P.image P.codes → z.live ≤ 4096 → Reached P z t left m handle code s (cells state) (cells live') (cells store)
  pub uses : s.used ≡ u
  pub lower : s.left ≤ left
  pub same_live : Same live live'
