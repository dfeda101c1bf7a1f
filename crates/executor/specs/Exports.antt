-- The exported functions as calls of a host, and what each promises: all contracts of this crate, in one table.
use Rattle.std.specs.Prelude.{◌≡◌, List, ℕ}
use Rattle.image.specs.Records.{Answer}
use Rattle.machine.specs.Calls.{Sizes, World, clear, text, bytes, set_global, get_global, set_builtin, get_builtin}
use Rattle.form.specs.Entry.{Entered, entry, view_of}
use Rattle.loans.specs.Loans.{sizes_of}
use Rattle.runs.specs.Ran.{RunCalled}
use Rattle.runs.specs.declared.Ran.{Ran}
use Rattle.turns.specs.Turned.{StartCalled, AnswerCalled}
use Rattle.asks.specs.Asks.{cell_of, got_by, part_by, Asked, Loaded}
use Rattle.asks.specs.declared.Got.{Got}
use Rattle.asks.specs.declared.Part.{Part}

-- ---- The calls
-- The memory that a host lends.
pub record Memory : Type 0 where
  pub state : List ℕ
  pub live : List ℕ
  pub store : List ℕ

abbrev pub memory : (state live store : List ℕ) → Memory
memory state live store = record { state = state; live = live; store = store }

-- Its cells, as far as they are used.
abbrev pub sizes : Memory → Sizes
sizes m = sizes_of m.live m.store

-- What a call that is lent this image finds in it: the number of a refusal, or a program and a world.
abbrev pub entered : List ℕ → Memory → Answer Entered
entered image m = entry image m.state m.live m.store

-- The world that is read off it.
abbrev pub world_in : Memory → World
world_in m = view_of m.state m.live m.store

-- An exported function, with what the host lends and gives it beside image and memory; a load is lent an image of its
-- own.
pub data Exported : Type 0 where
  lucia_load : (image : List ℕ) → Exported
  lucia_start : (low high : ℕ) (args : List ℕ) → Exported
  lucia_run : (fuel : List ℕ) (ticks : ℕ) → Exported
  lucia_answer : (fuel : List ℕ) (kind word low high : ℕ) (args handlers : List ℕ) → Exported
  lucia_clear : Exported
  lucia_text : (page : List ℕ) (low high : ℕ) → Exported
  lucia_bytes : (low high : ℕ) → Exported
  lucia_set_global : (number low high : ℕ) → Exported
  lucia_get_global : (number : ℕ) → Exported
  lucia_set_builtin : (number low high : ℕ) → Exported
  lucia_get_builtin : (number : ℕ) → Exported

-- What it answers, and its fuel loan as it is left.
abbrev pub Answered : Exported → Type 0
Answered (lucia_load image) = Got
Answered (lucia_start low high args) = ℕ
Answered (lucia_run fuel ticks) = Ran × List ℕ
Answered (lucia_answer fuel kind word low high args handlers) = ℕ × List ℕ
Answered lucia_clear = ℕ
Answered (lucia_text page low high) = Part
Answered (lucia_bytes low high) = Part
Answered (lucia_set_global g low high) = ℕ
Answered (lucia_get_global g) = Got
Answered (lucia_set_builtin g low high) = ℕ
Answered (lucia_get_builtin g) = Got

-- What the contract of the function allows: lent m, it may answer r and leave n. What a function is not lent to write
-- is as it was.
abbrev pub Allows : List ℕ → (c : Exported) → Memory → Answered c → Memory → Type 0
Allows image (lucia_load own) m r n =
    Loaded own m.state m.live m.store r n.state n.store × (n.live ≡ m.live)
Allows image (lucia_start low high args) m r n =
    StartCalled image (cell_of low high) args r m.state m.live m.store n.state n.live n.store
Allows image (lucia_run fuel ticks) m r n =
    RunCalled image ticks r.0 m.state m.live m.store fuel n.state n.live n.store r.1
Allows image (lucia_answer fuel kind word low high args handlers) m r n =
    AnswerCalled image kind word (cell_of low high) args handlers r.0
    m.state m.live m.store fuel n.state n.live n.store r.1
Allows image lucia_clear m r n =
    Asked clear image m.state m.live m.store r n.state × (n.live ≡ m.live) × (n.store ≡ m.store)
Allows image (lucia_text page low high) m r n =
    (r ≡ part_by (text page (cell_of low high)) image m.state m.live m.store) × (n ≡ m)
Allows image (lucia_bytes low high) m r n =
    (r ≡ part_by (bytes (cell_of low high)) image m.state m.live m.store) × (n ≡ m)
Allows image (lucia_set_global g low high) m r n =
    Asked (set_global g (cell_of low high)) image m.state m.live m.store r n.state
    × (n.live ≡ m.live) × (n.store ≡ m.store)
Allows image (lucia_get_global g) m r n = (r ≡ got_by (get_global g) image m.state m.live m.store) × (n ≡ m)
Allows image (lucia_set_builtin g low high) m r n =
    Asked (set_builtin g (cell_of low high)) image m.state m.live m.store r n.state
    × (n.live ≡ m.live) × (n.store ≡ m.store)
Allows image (lucia_get_builtin g) m r n = (r ≡ got_by (get_builtin g) image m.state m.live m.store) × (n ≡ m)
