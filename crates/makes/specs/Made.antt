-- What opcodes leave that make an object or set a global.
use Rattle.std.specs.Prelude.{◌≡◌, List, [], ◌∷◌, ◌++◌, ℕ, ◌+◌, ◌<◌, ◌≤◌, length, get_or, Result, Ok, Err}
use Rattle.cells.specs.Cells.{room, cells, Sound}
use Rattle.cells.specs.Le.{le_at}
use Rattle.cells.specs.declared.Cell.{Cell}
use Rattle.image.specs.Layout.{field}
use Rattle.program.specs.Looks.{body_at}
use Rattle.image.specs.Fine.{Accepted, no_constant, no_capture, bytes_of}
use Rattle.machine.specs.Values.{Program}
use Rattle.machine.specs.Machine.{Handler, Object, M, with_store, used}
use Rattle.machine.specs.Opcodes.{Running, Action, makes, opcode_action, captured}
use Rattle.machine.specs.Calls.{Sizes, Outcome, does, stops, outcome, counted, pace_of}
use Rattle.moves.specs.Runs.{Runs, end_of}
use Rattle.moves.specs.Objects.{Stored}
use Rattle.moves.specs.declared.Running as registers
use Rattle.plan.specs.Rest.{Same, Appends, Block}
use Rattle.plan.specs.Inside.{Inside, left}
use Rattle.plan.specs.declared.Next.{Next}
use Rattle.plan.specs.declared.Next.TheVariants.{Goes, Jumps, Throws}
use Rattle.makes.specs.declared.Made.{Made}
use Rattle.refusals.specs.declared.Refusal.{Refusal}
use Rattle.refusals.specs.Refusals.{number}

-- ---- An object is made
-- the outcome makes an object, which S has at its end, and leaves the frame as g and L have it
pub record MadeOn (o : Outcome) (m : M) (r : Running) (g : registers.Running) (u : ℕ) (L S : List Cell) : Type 0 where
  pub object : Object
  pub place : ℕ
  pub locals : List Cell
  pub stack : List Cell
  pub handlers : List Handler
  pub is : o ≡ does (makes object (left r place locals stack handlers)) (with_store (left r place locals stack handlers) (m.store ++ (object ∷ [])) m)
  pub runs : Runs r.handle place locals stack handlers r.below g L
  pub stored : Stored (m.store ++ (object ∷ [])) S
  pub uses : u ≡ used (m.store ++ (object ∷ []))

abbrev pub Mades : Program → Sizes → ℕ → ℕ → M → Running → Result Made Refusal → List ℕ → List ℕ → List ℕ → List ℕ → Type 0
Mades P z op x m r (Ok y) live store live' store' = MadeOn (outcome P z (opcode_action P m r op x) m) m r y.g y.used (cells live') (cells store')
Mades P z op x m r (Err n) live store live' store' = (outcome P z (opcode_action P m r op x) m ≡ stops (number n)) × (live' ≡ live) × (store' ≡ store)

-- how many cells of the store are used then
abbrev pub used_by : ℕ → Result Made Refusal → ℕ
used_by u (Ok y) = y.used
used_by u (Err n) = u

pub record Makes (P : Program) (op x : ℕ) (g : registers.Running) (u : ℕ) (n : Result Made Refusal) (live store live' store' : List ℕ) : Type 0 where
  pub next : (z : Sizes) (m : M) (r : Running) → Inside P z m r g (cells live) (cells store) → u ≡ used m.store → Mades P z op x m r n live store live' store'
  pub same_live : Same live live'
  pub appends : Appends u (used_by u n) store store'

-- ---- A closure
-- constant x of the running code is a Function, whose code has this number
pub record Named (P : Program) (r : Running) (x code : ℕ) : Type 0 where
  pub function : (get_or r.code.constants x no_constant).kind ≡ 22
  pub number : code ≡ get_or r.code.codes (le_at 2 (bytes_of P.image (get_or r.code.constants x no_constant)) 0) 0
  pub within : x < length r.code.constants

pub record Closable (P : Program) (g : registers.Running) (handle u x code : ℕ) (live store : List ℕ) : Type 0 where
  pub sizes : Sizes
  pub machine : M
  pub frame : Running
  pub inside : Inside P sizes machine frame g (cells live) (cells store)
  pub accepted : Accepted P.image P.codes
  pub named : Named P frame x code
  pub closure : handle ≡ frame.handle
  pub uses : u ≡ used machine.store
  pub few : room store < 4294967296

pub record MakesClosure (P : Program) (g : registers.Running) (handle u x code : ℕ) (n : Result Made Refusal) (live store live' store' : List ℕ) : Type 0 where
  pub next : (z : Sizes) (m : M) (r : Running) → Inside P z m r g (cells live) (cells store) → Accepted P.image P.codes → u ≡ used m.store → handle ≡ r.handle → Named P r x code → Mades P z 6 x m r n live store live' store'
  pub same_live : Same live live'
  pub appends : Appends u (used_by u n) store store'

-- capture i of a code can be read off the running frame
pub record Capturable (image rows : List ℕ) (g : registers.Running) (handle code i : ℕ) (live store : List ℕ) : Type 0 where
  pub low : code < 4294967296
  pub within : i < field rows code 5
  pub local : (get_or (body_at image rows code).captures i no_capture).from ≡ 0 → (get_or (body_at image rows code).captures i no_capture).index < g.locals
  pub upvalue : ((get_or (body_at image rows code).captures i no_capture).from ≡ 0 → ⊥) → handle + 1 + (get_or (body_at image rows code).captures i no_capture).index < room store
  pub fits : end_of g ≤ room live

-- it is what a frame captures that has such an upvalue
pub record Captured (image rows : List ℕ) (g : registers.Running) (handle code i : ℕ) (live store : List ℕ) (v : Cell) : Type 0 where
  pub is : (P : Program) (z : Sizes) (m : M) (r : Running) → Inside P z m r g (cells live) (cells store) → handle ≡ r.handle
      → (((get_or (body_at image rows code).captures i no_capture).from ≡ 0 → ⊥) → (get_or (body_at image rows code).captures i no_capture).index < length r.upvalues)
      → v ≡ captured r (get_or (body_at image rows code).captures i no_capture)
  pub sound : Sound v

-- ---- A global is set
pub record SetOn (P : Program) (o : Outcome) (m : M) (r : Running) (g : registers.Running) (L B : List Cell) : Type 0 where
  pub after : M
  pub place : ℕ
  pub locals : List Cell
  pub stack : List Cell
  pub handlers : List Handler
  pub action : Action
  pub is : o ≡ does action after
  pub paces : pace_of action ≡ counted
  pub frames : after.frames ≡ left r place locals stack handlers
  pub store : after.store ≡ m.store
  pub result : after.result ≡ m.result
  pub runs : Runs r.handle place locals stack handlers r.below g L
  pub block : Block after B

abbrev pub Sets : Program → Sizes → ℕ → M → Running → Result Next Refusal → List ℕ → List ℕ → List ℕ → Type 0
Sets P z x m r (Ok (Goes g)) live state state' = SetOn P (outcome P z (opcode_action P m r 8 x) m) m r g (cells live) (cells state')
Sets P z x m r (Ok (Jumps g)) live state state' = ⊥
Sets P z x m r (Ok (Throws g e)) live state state' = ⊥
Sets P z x m r (Err n) live state state' = (outcome P z (opcode_action P m r 8 x) m ≡ stops (number n)) × (state' ≡ state)

pub record SetsGlobal (P : Program) (g : registers.Running) (x name : ℕ) (n : Result Next Refusal) (live state state' : List ℕ) : Type 0 where
  pub next : (z : Sizes) (m : M) (r : Running) (S : List Cell) → Inside P z m r g (cells live) S → Block m (cells state) → name ≡ get_or r.code.globals x 0 → Sets P z x m r n live state state'
  pub same : Same state state'
