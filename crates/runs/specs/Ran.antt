-- A run, once the call is entered and as a call, by the machine's definition of it.
use Rattle.std.specs.Prelude.{◌≡◌, List, Bool, true, ℕ, ◌-◌, ◌≤◌, length, drop, Result, Ok, Err}
use Rattle.cells.specs.Cells.{cells, rest}
use Rattle.fuel.specs.Loans.{read, write}
use Rattle.fuel.specs.declared.Fuel.{Fuel}
use Rattle.image.specs.Records.{Answer, refused, accepted}
use Rattle.image.specs.Fine.{Accepted}
use Rattle.machine.specs.Values.{Program}
use Rattle.machine.specs.Machine.{used}
use Rattle.machine.specs.Calls.{Sizes, World, runs, Trace, call_of, answer_of, steps_of, fuel_after, world_after}
use Rattle.memory.specs.Layout.{Holds}
use Rattle.refusals.specs.Refusals.{number}
use Rattle.refusals.specs.declared.Refusal.{Refusal}
use Rattle.form.specs.Entry.{entry, live_of, store_of}
use Rattle.plan.specs.Rest.{Same}
use Rattle.groups.specs.declared.Group.{Group}
use Rattle.requests.specs.Asked.{rooms_of, Holding}
use Rattle.loans.specs.Loans.{front_live, front_store}
pub use Rattle.loans.specs.Loans.{Fueled, fueled, sizes_of}
use Rattle.runs.specs.declared.Ran.{Ran}
use Rattle.groups.specs.Grouped.{code_of}

-- ---- A run
pub record RunLeaves (t : Trace) (ticks : ℕ) (r : Group) (state' live' store' : List ℕ) : Type 0 where
  pub answer : code_of r.stand ≡ answer_of t
  pub taken : ticks - r.turn.ticks ≡ length (steps_of t)
  pub most : r.turn.ticks ≤ ticks
  pub fuel : r.turn.fuel ≡ fuel_after t
  pub holds : Holds (world_after t) (cells state') (cells live') (cells store')

pub record RunsWorld (P : Program) (fuel : Fuel) (ticks : ℕ) (r : Group) (state live store state' live' store' : List ℕ) : Type 0 where
  pub leaves : (w : World) → Holding P w state live store → Accepted P.image P.codes → RunLeaves (call_of P (rooms_of live store) (runs ticks fuel) w) ticks r state' live' store'
  pub untouched : (w : World) → Holding P w state live store → w.wait ≡ true → (state' ≡ state) × (live' ≡ live) × (store' ≡ store)
  pub same_state : Same state state'
  pub same_live : Same live live'
  pub same_store : Same store store'
  pub free : (w : World) → Holding P w state live store → Accepted P.image P.codes
      → (let s = (world_after (call_of P (rooms_of live store) (runs ticks fuel) w)).machine.store in drop (used s) (cells store') ≡ drop (used s) (cells store))

-- ---- Over whole loans: bytes behind what is used do not change
pub record RunsLoans (P : Program) (fuel : Fuel) (ticks : ℕ) (r : Group) (state live store state' live' store' : List ℕ) : Type 0 where
  pub runs : RunsWorld P fuel ticks r state (front_live live) (front_store store) state' (front_live live') (front_store store')
  pub behind_live : drop 65536 live' ≡ drop 65536 live
  pub behind_store : drop 1048576 store' ≡ drop 1048576 store

-- ---- As a call: "6, 1, then 2 and 4, 3, 10, 7, 11"
abbrev pub ran_of : ℕ → ℕ → Ran
ran_of n t = record { code = n; ticks = t }

-- a refusal by its number, and no ticks
abbrev pub ran_said : Result Ran Refusal → Ran
ran_said (Ok r) = r
ran_said (Err x) = ran_of (number x) 0

-- a run that begins: its answer, ticks, fuel and memory are the definition's; cells behind the store's objects, bytes behind what is used and behind the last whole cell do not change, and one that is out of turn leaves every byte
pub record RunDone (t : Trace) (wait : Bool) (r : Ran) (state live store fuel state' live' store' fuel' : List ℕ) : Type 0 where
  pub answers : r ≡ ran_of (answer_of t) (length (steps_of t))
  pub holds : Holds (world_after t) (cells state') (live_of live') (store_of store')
  pub charges : fuel' ≡ write fuel (fuel_after t)
  pub lengths : (length state' ≡ length state) × (length live' ≡ length live) × (length store' ≡ length store)
  pub behind_live : drop 65536 live' ≡ drop 65536 live
  pub behind_store : drop 1048576 store' ≡ drop 1048576 store
  pub rest_live : rest (front_live live') ≡ rest (front_live live)
  pub rest_store : rest (front_store store') ≡ rest (front_store store)
  pub free_store : drop (used (world_after t).machine.store) (store_of store') ≡ drop (used (world_after t).machine.store) (store_of store)
  pub out_of_turn : wait ≡ true → (state' ≡ state) × (live' ≡ live) × (store' ≡ store)

abbrev pub RunBy : Sizes → ℕ → Answer Fueled → Ran → List ℕ → List ℕ → List ℕ → List ℕ → List ℕ → List ℕ → List ℕ → List ℕ → Type 0
RunBy z t (refused n) r state live store fuel state' live' store' fuel' = (r ≡ ran_of n 0) × (state' ≡ state) × (live' ≡ live) × (store' ≡ store) × (fuel' ≡ fuel)
RunBy z t (accepted x) r state live store fuel state' live' store' fuel' = RunDone (call_of x.entered.program z (runs t x.fuel) x.entered.world) x.entered.world.wait r state live store fuel state' live' store' fuel'

pub record RunCalled (image : List ℕ) (t : ℕ) (r : Ran) (state live store fuel state' live' store' fuel' : List ℕ) : Type 0 where
  pub does : RunBy (sizes_of live store) t (fueled (read fuel) (entry image state live store)) r state live store fuel state' live' store' fuel'
