-- What carrying a plan out leaves in memory: the machine that the plan is for, at rest.
use Rattle.std.specs.Prelude.{◌≡◌, List, ◌⊎◌, ℕ, ◌+◌, ◌-◌, ◌≤◌, ◌<◌, length, get_or, drop}
use Rattle.cells.specs.Cells.{room, cells}
use Rattle.cells.specs.declared.Cell.{Cell}
use Rattle.machine.specs.Values.{Program}
use Rattle.machine.specs.Machine.{running, M, used}
use Rattle.memory.specs.View.{frames_size}
use Rattle.plan.specs.Rest.{Same, Appends, counts_of, Held, Rests}
use Rattle.plan.specs.Plans.{Started, Resumed, Carries}
use Rattle.plan.specs.declared.Counts.{Counts}
use Rattle.plan.specs.declared.Params.{Params}
use Rattle.plan.specs.declared.Plan.{Plan}
use Rattle.plan.specs.declared.Start.{Start}
use Rattle.captures.specs.Entered.{Lies}

-- there is room for what a machine has: cells, and a table of so many frames
pub record Roomy (c : Counts) (live store starts : List ℕ) : Type 0 where
  pub table : c.frames ≤ length starts
  pub cells_live : c.live ≤ room live
  pub cells_store : c.store ≤ room store
  pub small : (room live < 4294967296) × (room store < 4294967296)

-- ---- Frames on top
-- some machine lies there that R takes to another, and there is room for that
pub record Movable (R : M → M → Type 0) (c : Counts) (live store starts : List ℕ) : Type 0 where
  pub machine : M
  pub after : M
  pub does : R machine after
  pub lies : Lies machine c live store starts
  pub behind : Roomy (counts_of after) live store starts

-- every machine that lies there and that R takes to another for which there is room is that other now; no byte behind the cells changes, nor a cell behind the store's objects
pub record Moves (R : M → M → Type 0) (c : Counts) (live store starts live' store' starts' : List ℕ) : Type 0 where
  pub lies : (m m' : M) → R m m' → Lies m c live store starts → Roomy (counts_of m') live store starts → Lies m' (counts_of m') live' store' starts'
  pub same_live : Same live live'
  pub same_store : Same store store'
  pub appends : (m m' : M) → R m m' → Lies m c live store starts → Roomy (counts_of m') live store starts → Appends c.store (used m'.store) store store'
  pub table : length starts' ≡ length starts

-- a new frame, for some n arguments
pub record Starting (f : Start) (p : Params) (n : ℕ) (m m' : M) : Type 0 where
  pub args : List Cell
  pub count : length args ≡ n
  pub started : Started f p args m m'

abbrev pub Startable : Counts → Start → Params → ℕ → List ℕ → List ℕ → List ℕ → Type 0
Startable c f p n live store starts = Movable (λ (m m' : M). Starting f p n m m') c live store starts

abbrev pub StartsFrame : Counts → Start → Params → List Cell → List ℕ → List ℕ → List ℕ → List ℕ → List ℕ → List ℕ → Type 0
StartsFrame c f p args live store starts live' store' starts' = Moves (λ (m m' : M). Started f p args m m') c live store starts live' store' starts'

-- a continuation that has frames
pub record Resuming (h : ℕ) (v : Cell) (m m' : M) : Type 0 where
  pub resumed : Resumed h v m m'
  pub some : 0 < length resumed.frames

abbrev pub Resumable : Counts → ℕ → Cell → List ℕ → List ℕ → List ℕ → Type 0
Resumable c h v live store starts = Movable (λ (m m' : M). Resuming h v m m') c live store starts

-- the store is not written
abbrev pub Resumes : Counts → ℕ → Cell → List ℕ → List ℕ → List ℕ → List ℕ → List ℕ → Type 0
Resumes c h v live store starts live' starts' = Moves (λ (m m' : M). Resumed h v m m') c live store starts live' store starts'

-- ---- The table
-- S has so many frames from `from` on, which are to lie at `at`, and the table has a place for each behind the first ones
pub record Beginnable (first from at count : ℕ) (S : List Cell) (starts : List ℕ) : Type 0 where
  pub table : first + count ≤ length starts
  pub cells : from + frames_size count (drop from S) ≤ length S
  pub small_store : length S < 4294967296
  pub small : at + frames_size (count - 1) (drop from S) < 4294967296

-- the table has the start of each of the frames x at `at`, and its other entries as they were
pub record Begun (first at count : ℕ) (x : List Cell) (old new : List ℕ) : Type 0 where
  pub starts : (i : ℕ) → i < count → get_or new (first + i) 0 ≡ at + frames_size i x
  pub other : (i : ℕ) → (i < first) ⊎ (first + count ≤ i) → get_or new i 0 ≡ get_or old i 0
  pub len : length new ≡ length old

-- and the last of them begins at `last` in S
pub record Begins (first from at count : ℕ) (S : List Cell) (old : List ℕ) (last : ℕ) (new : List ℕ) : Type 0 where
  pub begun : Begun first at count (drop from S) old new
  pub reached : last ≡ from + frames_size (count - 1) (drop from S)

-- ---- A plan
-- some machine rests that the plan is for, and there is room for what it leaves
pub record Carriable (plan : Plan) (args : List Cell) (c : Counts) (state live store starts : List ℕ) : Type 0 where
  pub program : Program
  pub machine : M
  pub after : M
  pub carries : Carries program plan args machine after
  pub rests : Rests machine c (cells state) (cells live) (cells store) starts
  pub held : Held program machine c (cells live) (cells store) starts
  pub before : Roomy c live store starts
  pub behind : Roomy (counts_of after) live store starts
  pub block : length state ≡ 8256

-- every machine that rested and that the plan is for is now what the plan makes of it
pub record CarriesOut (plan : Plan) (args : List Cell) (c : Counts) (state live store starts state' live' store' starts' : List ℕ) : Type 0 where
  pub rests : (P : Program) (m m' : M) → Carries P plan args m m' → m.result ≡ running → Rests m c (cells state) (cells live) (cells store) starts → Roomy (counts_of m') live store starts → Rests m' (counts_of m') (cells state') (cells live') (cells store') starts'
  pub same_state : Same state state'
  pub same_live : Same live live'
  pub same_store : Same store store'
  pub appends : (P : Program) (m m' : M) → Carries P plan args m m' → m.result ≡ running → Rests m c (cells state) (cells live) (cells store) starts → Roomy (counts_of m') live store starts → Appends c.store (used m'.store) store store'
  pub table : length starts' ≡ length starts
