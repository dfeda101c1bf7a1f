-- What the calls of the host answer and leave, by the machine's definitions, for every image and memory lent.
use Rattle.std.specs.Prelude.{◌≡◌, List, ◌++◌, ℕ, ◌+◌, ◌*◌, ◌/◌, ◌%◌, length, drop, eqb}
use Rattle.cells.specs.Cells.{null, cells, Writes}
use Rattle.cells.specs.declared.Cell.{Cell}
use Rattle.image.specs.Records.{if?, Answer, refused, accepted}
use Rattle.machine.specs.Values.{Program, closure_at}
use Rattle.machine.specs.Calls.{Sizes, Given, nothing, Request, asks, call_of, answer_of, given_of, world_after, load, loaded, loaded_machine}
use Rattle.machine.specs.Machine.{used}
use Rattle.memory.specs.Layout.{Holds, state_cells, store_cells}
use Rattle.form.specs.Entry.{Entered, entry, live_of, store_of}
use Rattle.asks.specs.declared.Got.{Got}
use Rattle.asks.specs.declared.Part.{Part}

-- the cells lent, as far as they are used
abbrev pub sizes_of : List ℕ → List ℕ → Sizes
sizes_of live store = record { live = length (live_of live); store = length (store_of store) }

-- ---- Answers as numbers
-- a value of two numbers
abbrev pub cell_of : ℕ → ℕ → Cell
cell_of low high = record { tag = low % 4294967296; number = low / 4294967296; payload = high }

abbrev pub got_of : ℕ → Cell → Got
got_of n v = record { code = n; low = v.tag + 4294967296 * v.number; high = v.payload }

abbrev pub part_of : ℕ → Given → Part
part_of n g = record { code = n; from = g.from; start = g.start; len = g.size }

-- ---- A request: a refusal of the entry, or what the machine's definition says of the world that memory holds
unfoldable pub answer : Sizes → Request → Answer Entered → ℕ
answer z q (refused n) = n
answer z q (accepted e) = answer_of (call_of e.program z (asks q) e.world)

unfoldable pub given : Sizes → Request → Answer Entered → Given
given z q (refused n) = nothing
given z q (accepted e) = given_of (call_of e.program z (asks q) e.world)

-- of the memory lent, whose front is used as far as it goes
abbrev pub answer_to : Request → List ℕ → List ℕ → List ℕ → List ℕ → ℕ
answer_to q image state live store = answer (sizes_of live store) q (entry image state live store)

abbrev pub given_to : Request → List ℕ → List ℕ → List ℕ → List ℕ → Given
given_to q image state live store = given (sizes_of live store) q (entry image state live store)

-- what the functions that only read answer
abbrev pub got_by : Request → List ℕ → List ℕ → List ℕ → List ℕ → Got
got_by q image state live store = got_of (answer_to q image state live store) (given_to q image state live store).value

abbrev pub part_by : Request → List ℕ → List ℕ → List ℕ → List ℕ → Part
part_by q image state live store = part_of (answer_to q image state live store) (given_to q image state live store)

-- what a request leaves of the state block; it writes nothing else. A refused one leaves every byte; one that is accepted leaves the world that the machine's definition says
pub record Leaves (z : Sizes) (q : Request) (e : Entered) (state live store state' : List ℕ) : Type 0 where
  pub holds : Holds (world_after (call_of e.program z (asks q) e.world)) (cells state') (live_of live) (store_of store)
  pub len : length state' ≡ length state
  pub refuses : (answer_of (call_of e.program z (asks q) e.world) ≡ 0 → ⊥) → state' ≡ state

abbrev pub Left : Sizes → Request → Answer Entered → List ℕ → List ℕ → List ℕ → List ℕ → Type 0
Left z q (refused n) state live store state' = state' ≡ state
Left z q (accepted e) state live store state' = Leaves z q e state live store state'

pub record Asked (q : Request) (image state live store : List ℕ) (r : ℕ) (state' : List ℕ) : Type 0 where
  pub answers : r ≡ answer_to q image state live store
  pub leaves : Left (sizes_of live store) q (entry image state live store) state live store state'

-- ---- A load: 6, then the refusals of the image, then 15
unfoldable pub loading : List ℕ → List ℕ → List ℕ → List ℕ → Answer Program
loading image state live store = if? (eqb (length state) 8256) (load image (sizes_of live store)) (refused 6)

unfoldable pub load_answer : Answer Program → Got
load_answer (refused n) = got_of n null
load_answer (accepted P) = got_of 0 (closure_at 0)

-- an accepted load leaves the loaded world, and every byte of the store behind its closure
pub record Loads (P : Program) (state store state' store' : List ℕ) : Type 0 where
  pub block : cells state' ≡ state_cells (loaded P)
  pub len : length state' ≡ length state
  pub objects : Writes store (store_cells (loaded_machine P).store ++ drop (used (loaded_machine P).store) (cells store)) store'

abbrev pub LoadLeft : Answer Program → List ℕ → List ℕ → List ℕ → List ℕ → Type 0
LoadLeft (refused n) state store state' store' = (state' ≡ state) × (store' ≡ store)
LoadLeft (accepted P) state store state' store' = Loads P state store state' store'

pub record Loaded (image state live store : List ℕ) (r : Got) (state' store' : List ℕ) : Type 0 where
  pub answers : r ≡ load_answer (loading image state live store)
  pub leaves : LoadLeft (loading image state live store) state store state' store'
