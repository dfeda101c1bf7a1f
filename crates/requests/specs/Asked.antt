-- What a request of the host does once the call is entered, by the machine's definition of it.
use Rattle.std.specs.Prelude.{◌≡◌, List, [], Bool, true, false, ℕ, ◌%◌, ◌<◌, ◌≤◌, length, drop, Result, Ok, Err, IfOk, OnOk, OnErr}
use Rattle.cells.specs.Cells.{room, cells}
use Rattle.cells.specs.declared.Cell.{Cell}
use Rattle.image.specs.Fine.{Accepted}
use Rattle.machine.specs.Values.{Program}
use Rattle.machine.specs.Machine.{Object, M, used}
use Rattle.machine.specs.Calls.{Sizes, Outcome, does, stops, World, world, idle}
use Rattle.machine.specs.Form.{StoreFits, WorldFits}
use Rattle.memory.specs.Layout.{bit, state_cells, Holds}
use Rattle.moves.specs.Objects.{Stored}
use Rattle.plan.specs.Rest.{Same, Appends, counts_of, Held, Block, Rests}
use Rattle.plan.specs.Plans.{Carries}
use Rattle.plan.specs.declared.Counts.{Counts}
use Rattle.plan.specs.declared.Plan.{Plan}
use Rattle.counts.specs.Counted.{refusal_by}
use Rattle.refusals.specs.Refusals.{number}
use Rattle.refusals.specs.declared.Refusal.{Refusal}
use Rattle.requests.specs.Sent.{Sent, sent_outcome}
use Rattle.requests.specs.Returned.{called_fits}

abbrev pub rooms_of : List ℕ → List ℕ → Sizes
rooms_of live store = record { live = room live; store = room store }

-- memory holds this world, which is in form
pub record Holding (P : Program) (w : World) (state live store : List ℕ) : Type 0 where
  pub holds : Holds w (cells state) (cells live) (cells store)
  pub fits : WorldFits P (rooms_of live store) w

-- some world, in loans that are cut to their most
pub record Entered (P : Program) (state live store : List ℕ) : Type 0 where
  pub world : World
  pub holding : Holding P world state live store
  pub accepted : Accepted P.image P.codes
  pub small : (room live ≤ 4096) × (room store ≤ 65536)
  pub block : length state ≡ 8256

-- ---- The state block shows the machine again
pub record Leavable (c : Counts) (state : List ℕ) : Type 0 where
  pub frames : c.frames < 4294967296
  pub block : length state ≡ 8256

pub record LeavesWorld (c : Counts) (left wait : ℕ) (state state' : List ℕ) : Type 0 where
  pub shows : (m : M) (b : Bool) → Block m (cells state) → c ≡ counts_of m → wait ≡ bit b → cells state' ≡ state_cells (world m b left)
  pub same : Same state state'

-- ---- A plan that is judged, carried out and shown
-- some machine rests that the plan is for; it is judged on so many cells of the live stack
pub record Finishable (plan : Plan) (args : List Cell) (c : Counts) (most : ℕ) (state live store starts : List ℕ) : Type 0 where
  pub program : Program
  pub machine : M
  pub after : M
  pub carries : Carries program plan args machine after
  pub rests : Rests machine c (cells state) (cells live) (cells store) starts
  pub held : Held program machine c (cells live) (cells store) starts
  pub table : length starts ≡ 256
  pub frames : c.frames ≤ 256
  pub cells_live : (c.live ≤ room live) × (most ≤ room live) × (room live < 4294967296)
  pub cells_store : (c.store ≤ room store) × (room store < 4294967296)
  pub few : length args < 4294967296
  pub block : length state ≡ 8256

-- the number of what was finished: 0 for what is done
abbrev pub finish_number : Result ℕ Refusal → ℕ
finish_number (Ok n) = 0
finish_number (Err r) = number r

pub record FinishLeaves (z : Sizes) (m' : M) (r : Result ℕ Refusal) (state' live' store' : List ℕ) : Type 0 where
  pub answer : finish_number r ≡ refusal_by z (counts_of m')
  pub holds : OnOk r (Holds (world m' false 64) (cells state') (cells live') (cells store'))
  pub used : IfOk r (λ n. n ≡ (counts_of m').live)

-- every machine that rested and that the plan is for is what the plan makes of it, or is refused and every byte is left
pub record Finishes (plan : Plan) (args : List Cell) (c : Counts) (most : ℕ) (r : Result ℕ Refusal) (state live store starts state' live' store' : List ℕ) : Type 0 where
  pub leaves : (P : Program) (m m' : M) → Carries P plan args m m' → Rests m c (cells state) (cells live) (cells store) starts → Held P m c (cells live) (cells store) starts
      → FinishLeaves (record { live = most; store = room store }) m' r state' live' store'
  pub appends : (P : Program) (m m' : M) → Carries P plan args m m' → Rests m c (cells state) (cells live) (cells store) starts → Held P m c (cells live) (cells store) starts
      → OnOk r (Appends c.store (used m'.store) store store')
  pub refused : OnErr r ((state' ≡ state) × (live' ≡ live) × (store' ≡ store))
  pub same_state : Same state state'
  pub same_live : Same live live'
  pub same_store : Same store store'

-- ---- A start
-- "a start of no Function": the tests of a call that the host asks for
pub record CalledFits (P : Program) (u : ℕ) (f : Cell) (args : List Cell) (handlers : ℕ) (r : Bool) (S : List Cell) : Type 0 where
  pub is : (s : List Object) → Stored s S → StoreFits P [] s → u ≡ used s → r ≡ called_fits P s f args handlers

-- what the tests say of a world: nothing is under way, and f can be called with these arguments
pub record Passes (P : Program) (u : ℕ) (f : Cell) (args : List Cell) (w : World) : Type 0 where
  pub idle : idle w.machine.result w.machine.frames ≡ true
  pub called : called_fits P w.machine.store f args 0 ≡ true
  pub used : u ≡ used w.machine.store

-- a start that passed its tests
pub record Startable (P : Program) (u : ℕ) (f : Cell) (args state live store : List ℕ) : Type 0 where
  pub entered : Entered P state live store
  pub whole : length args % 16 ≡ 0
  pub passes : (w : World) → Holding P w state live store → Passes P u f (cells args) w

-- ---- A start or an answer, as it was sent
-- what is done leaves a machine with no slice begun and nobody awaited, and no cell behind its objects changes; what is refused leaves every byte
abbrev pub Leaves : Outcome → ℕ → List ℕ → List ℕ → List ℕ → List ℕ → List ℕ → List ℕ → Type 0
Leaves (does d m) r state live store state' live' store' =
    (r ≡ 0) × Holds (world m false 64) (cells state') (cells live') (cells store') × (drop (used m.store) (cells store') ≡ drop (used m.store) (cells store))
Leaves (stops n) r state live store state' live' store' = (r ≡ n) × (state' ≡ state) × (live' ≡ live) × (store' ≡ store)

pub record SentWorld (P : Program) (s : Sent) (r : ℕ) (state live store state' live' store' : List ℕ) : Type 0 where
  pub leaves : (w : World) → Holding P w state live store → Accepted P.image P.codes → Leaves (sent_outcome P (rooms_of live store) s w) r state live store state' live' store'
  pub same_state : Same state state'
  pub same_live : Same live live'
  pub same_store : Same store store'
