-- A Lucia frame that runs, and what an opcode that stays in it does.
use Rattle.std.specs.Prelude.{◌≡◌, List, ◌∷◌, ℕ, ◌<◌, length, Result, Ok, Err}
use Rattle.cells.specs.Cells.{cells}
use Rattle.cells.specs.declared.Cell.{Cell}
use Rattle.machine.specs.Values as v
use Rattle.machine.specs.Values.{Program, code_of}
use Rattle.machine.specs.Machine.{Handler, Frame, lucia, closure, running, M, with_frames, here, object_at}
use Rattle.machine.specs.Opcodes.{Running, Action, throws, takes, opcode_action}
use Rattle.machine.specs.Calls.{Sizes, Outcome, does, stops, outcome, Pace, free, counted, pace_of}
use Rattle.machine.proofs.FormLaws.{MachineFits}
use Rattle.moves.specs.Runs.{Runs}
use Rattle.moves.specs.Objects.{Stored}
use Rattle.moves.specs.declared.Running as registers
use Rattle.plan.specs.declared.Error.{Error}
use Rattle.plan.specs.declared.Next.{Next}
use Rattle.plan.specs.declared.Next.TheVariants.{Goes, Jumps, Throws}
use Rattle.refusals.specs.declared.Refusal.{Refusal}
use Rattle.refusals.specs.Refusals.{number}
use Rattle.plan.specs.Rest.{Same}
use Rattle.plan.specs.Plans.{error_of}

-- the machine m runs the frame r, which stands in it at `place` and of which L and the registers g have the rest; r's own place may be past it
pub record Inside (P : Program) (z : Sizes) (m : M) (r : Running) (g : registers.Running) (L S : List Cell) : Type 0 where
  pub place : ℕ
  pub frames : m.frames ≡ lucia r.handle place r.locals r.stack r.handlers ∷ r.below
  pub running : m.result ≡ running
  pub closure_there : object_at m.store r.handle ≡ here (closure r.number r.upvalues)
  pub known : r.number < length P.codes
  pub code : r.code ≡ code_of P r.number
  pub runs : Runs r.handle r.place r.locals r.stack r.handlers r.below g L
  pub store : Stored m.store S
  pub fits : MachineFits P z m
  pub room : length L ≡ z.live
  pub room_store : length S ≡ z.store

-- the frames with the running frame as it is then
abbrev pub left : Running → ℕ → List Cell → List Cell → List Handler → List Frame
left r p l st hs = lucia r.handle p l st hs ∷ r.below

-- the outcome leaves the frame as g and L have it, and goes on at a pace
pub record Went (o : Outcome) (pace : Pace) (m : M) (r : Running) (g : registers.Running) (L : List Cell) : Type 0 where
  pub action : Action
  pub place : ℕ
  pub locals : List Cell
  pub stack : List Cell
  pub handlers : List Handler
  pub is : o ≡ does action (with_frames (left r place locals stack handlers) m)
  pub paces : pace_of action ≡ pace
  pub runs : Runs r.handle place locals stack handlers r.below g L

-- an error is thrown, over the frame as g and L have it
pub record Threw (t : v.Error → List Frame → Type 0) (r : Running) (x : Error) (g : registers.Running) (L : List Cell) : Type 0 where
  pub error : v.Error
  pub place : ℕ
  pub locals : List Cell
  pub stack : List Cell
  pub handlers : List Handler
  pub is : x ≡ error_of error
  pub throws : t error (left r place locals stack handlers)
  pub runs : Runs r.handle place locals stack handlers r.below g L

-- what an opcode does that changes nothing but its frame: `live` before, `live'` after
abbrev pub Nexts : Program → Sizes → ℕ → ℕ → M → Running → Result Next Refusal → List ℕ → List ℕ → Type 0
Nexts P z op x m r (Ok (Goes g)) live live' = Went (outcome P z (opcode_action P m r op x) m) counted m r g (cells live')
Nexts P z op x m r (Ok (Jumps g)) live live' = Went (outcome P z (opcode_action P m r op x) m) free m r g (cells live')
Nexts P z op x m r (Ok (Throws g e)) live live' = Threw (λ (y : v.Error) (F : List Frame). opcode_action P m r op x ≡ takes (throws y F)) r e g (cells live) × (live' ≡ live)
Nexts P z op x m r (Err n) live live' = (outcome P z (opcode_action P m r op x) m ≡ stops (number n)) × (live' ≡ live)

-- an opcode op with operand x, whose frame is in g and `old`, does so where Q holds, and leaves the bytes behind the cells
pub record DoesWhere (Q : M → Running → Type 0) (P : Program) (op x : ℕ) (g : registers.Running) (n : Result Next Refusal) (old new : List ℕ) : Type 0 where
  pub next : (z : Sizes) (m : M) (r : Running) (S : List Cell) → Q m r → Inside P z m r g (cells old) S → Nexts P z op x m r n old new
  pub same : Same old new

abbrev pub Does : Program → ℕ → ℕ → registers.Running → Result Next Refusal → List ℕ → List ℕ → Type 0
Does P op x g n old new = DoesWhere (λ (m : M) (r : Running). Unit {0}) P op x g n old new
