-- What every call but a load begins with: the refusals 6, 1, 2 and 4, 3, 10 and 7, in this order; or the program and the world that memory holds.
use Rattle.std.specs.Prelude.{◌≡◌, List, ℕ, ◌*◌, length, get_or, take, replicate, eqb, Result, Ok, Err}
use Rattle.cells.specs.Cells.{null, cells}
use Rattle.cells.specs.declared.Cell.{Cell}
use Rattle.image.specs.Records.{if?, Answer, refused, accepted, then}
use Rattle.image.specs.Program.{Code}
use Rattle.image.specs.Image.{parse}
use Rattle.image.specs.Layout.{no_row}
use Rattle.image.specs.declared.Row.{Row}
use Rattle.layout.specs.Reads.{Low?}
use Rattle.layout.specs.declared.Sizes.{Sizes}
use Rattle.refusals.specs.Refusals.{number}
use Rattle.refusals.specs.declared.Refusal.{Refusal}
use Rattle.machine.specs.Values.{Program}
use Rattle.machine.specs.Calls.{World}
use Rattle.memory.specs.View.{view}
use Rattle.memory.specs.Tests.{in_form}
use Rattle.scan.specs.Tables.{program_in}

-- the cells of a live stack and of a store: "a longer loan is used that far"
abbrev pub live_of : List ℕ → List Cell
live_of live = take 4096 (cells live)

abbrev pub store_of : List ℕ → List Cell
store_of store = take 65536 (cells store)

abbrev pub view_of : List ℕ → List ℕ → List ℕ → World
view_of state live store = view (cells state) (live_of live) (store_of store)

-- refusal 10 or 7, 0 for neither
unfoldable pub held_answer : Program → List ℕ → List ℕ → List ℕ → ℕ
held_answer P state live store =
    if? (eqb (get_or (cells state) 0 null).tag 1) (if? (in_form P (store_of store) (cells state) (live_of live)) 0 7) 10

pub record Entered : Type 0 where
  pub program : Program
  pub world : World

unfoldable pub held : Program → List ℕ → List ℕ → List ℕ → Answer Entered
held P state live store =
    if? (eqb (held_answer P state live store) 0) (accepted (record { program = P; world = view_of state live store })) (refused (held_answer P state live store))

unfoldable pub entry : List ℕ → List ℕ → List ℕ → List ℕ → Answer Entered
entry image state live store =
    if? (eqb (length state) 8256) (then (λ (cs : List Code). held (record { image = image; codes = cs }) state live store) (parse image)) (refused 6)

-- what an answer says, with the tables that it left
abbrev pub saying : List ℕ → List ℕ → List ℕ → List ℕ → Result Sizes Refusal → List ℕ → List ℕ → List ℕ → Answer Entered
saying image state live store (Err r) rows constants inner = refused (number r)
saying image state live store (Ok h) rows constants inner =
    accepted (record { program = program_in image (take (10 * h.codes) rows) (take h.constants constants) (take h.inner inner) h.codes; world = view_of state live store })

pub record Enters (image state live store : List ℕ) (r : Result Sizes Refusal) (rows constants inner : List ℕ) : Type 0 where
  pub does : saying image state live store r rows constants inner ≡ entry image state live store
  pub low : Low? r

-- the reader's tables before anything is read: 256 rows of no code, and numbers 0
unfoldable pub HoldNothing : List Row → List ℕ → List ℕ → Type 0
HoldNothing t p n = (t ≡ replicate 256 no_row) × (p ≡ replicate 10923 0) × (n ≡ replicate 256 0)
