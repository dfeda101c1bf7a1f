-- What an answer does to its callback's frame: the word, and the different handlers.
use Rattle.std.specs.Prelude.{◌≡◌, List, ◌∷◌, Bool, true, false, ℕ, ◌+◌, ◌*◌, ◌<◌, ◌≤◌, length, get_or, take, Option, IfSome, IfNone, Result, Ok, Err}
use Rattle.cells.specs.Cells.{null, room, cells}
use Rattle.cells.specs.declared.Cell.{Cell}
use Rattle.machine.specs.Values.{Program, equal_effects}
use Rattle.machine.specs.Machine.{Frame, host, frames_cost}
use Rattle.machine.specs.Calls.{distinct}
use Rattle.memory.specs.Layout.{flat}
use Rattle.moves.specs.Frames.{Live}
use Rattle.plan.specs.Rest.{Same, Begins}
use Rattle.refusals.specs.declared.Refusal.{Refusal}
use Rattle.refusals.specs.declared.Refusal.TheVariants.{ManyHandlers}

-- r says whether e is equal to one of the first n
pub record Among (P : Program) (kept : List Cell) (n : ℕ) (e : Cell) (r : Bool) : Type 0 where
  pub there : r ≡ true → (j : ℕ) × (j < n) × (equal_effects P (get_or kept j null) e ≡ true)
  pub absent : r ≡ false → (j : ℕ) → j < n → equal_effects P (get_or kept j null) e ≡ false

-- r is the number of different effects, which are kept in their order, or none where there are more than 16
pub record Distinct (P : Program) (es : List Cell) (r : Option ℕ) (kept : List Cell) : Type 0 where
  pub most : IfSome r (λ n. n ≤ 16)
  pub few : IfSome r (λ n. take n kept ≡ distinct P (length es) es)
  pub many : IfNone r (16 < length (distinct P (length es) es))

-- a host callback's frame lies at `base`, the last
pub record HostFrame (base n w : ℕ) (st hs : List Cell) (below : List Frame) (L : List Cell) : Type 0 where
  pub live : Live (host n w st hs ∷ below) L
  pub begins : base ≡ length (flat below)

pub record Worded (base word : ℕ) (old new : List ℕ) : Type 0 where
  pub frame : (n w : ℕ) (st hs : List Cell) (below : List Frame) → HostFrame base n w st hs below (cells old) → HostFrame base n word st hs below (cells new)
  pub same : Same old new

-- some host callback's frame lies there, and there is room for it with k handlers
pub record Handleable (base k : ℕ) (kept : List Cell) (live : List ℕ) : Type 0 where
  pub number : ℕ
  pub word : ℕ
  pub stack : List Cell
  pub handlers : List Cell
  pub below : List Frame
  pub frame : HostFrame base number word stack handlers below (cells live)
  pub there : k ≤ length kept
  pub fits : base + 6 + 2 * k + length stack ≤ room live

pub record Rehandled (base k : ℕ) (kept : List Cell) (old new : List ℕ) : Type 0 where
  pub frame : (n w : ℕ) (st hs : List Cell) (below : List Frame) → HostFrame base n w st hs below (cells old) → HostFrame base n w st (take k kept) below (cells new)
  pub same : Same old new

-- ---- The frames in a copy of the live stack
-- the frames lie in L, the table has their starts, and they end here
pub record Laid (F : List Frame) (end : ℕ) (L : List Cell) (starts : List ℕ) : Type 0 where
  pub live : Live F L
  pub begins : Begins F starts
  pub ends : end ≡ frames_cost F

-- some host callback's frame is on top; the copy has room for 16 handlers more
pub record Layable (frames : ℕ) (live work starts : List ℕ) : Type 0 where
  pub number : ℕ
  pub word : ℕ
  pub stack : List Cell
  pub handlers : List Cell
  pub below : List Frame
  pub lies : Live (host number word stack handlers ∷ below) (cells live)
  pub count : frames ≡ length (host number word stack handlers ∷ below)
  pub table : frames ≤ length starts
  pub small : room live ≤ 4096
  pub room : room work ≡ 4128

pub record Lays (frames word r : ℕ) (live work starts work' starts' : List ℕ) : Type 0 where
  pub laid : (n w : ℕ) (st hs : List Cell) (below : List Frame) → frames ≡ length (host n w st hs ∷ below) → Live (host n w st hs ∷ below) (cells live)
      → Laid (host n word st hs ∷ below) r (cells work') starts'
  pub same : Same work work'
  pub table : length starts' ≡ length starts

-- ---- The handlers of an answered call
pub record PutsDistinct (base : ℕ) (new : List Cell) (e : ℕ) (work work' : List ℕ) : Type 0 where
  pub few : length new ≤ 16
  pub laid : (n w : ℕ) (st hs : List Cell) (below : List Frame) (end : ℕ) (starts : List ℕ) → base ≡ length (flat below) → Laid (host n w st hs ∷ below) end (cells work) starts
      → Laid (host n w st new ∷ below) e (cells work') starts
  pub same : Same work work'

-- some host callback's frame is on top of the copy, and fits the live stack
pub record Puttable (base : ℕ) (work : List ℕ) : Type 0 where
  pub number : ℕ
  pub word : ℕ
  pub stack : List Cell
  pub handlers : List Cell
  pub below : List Frame
  pub frame : HostFrame base number word stack handlers below (cells work)
  pub fits : frames_cost (host number word stack handlers ∷ below) ≤ 4096
  pub room : room work ≡ 4128

-- 17 different ones are too many; else the frame has the different ones, and ends there
abbrev pub PutsHandlers : Program → ℕ → List Cell → Result ℕ Refusal → List ℕ → List ℕ → Type 0
PutsHandlers P base es (Err r) work work' = (r ≡ ManyHandlers) × (16 < length (distinct P (length es) es)) × Same work work'
PutsHandlers P base es (Ok e) work work' = PutsDistinct base (distinct P (length es) es) e work work'
