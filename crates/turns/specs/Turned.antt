-- A start and an answer as calls: "6, 1, then 2 and 4, 3, 10, 7, 11, 5", then what the machine's definition says.
use Rattle.std.specs.Prelude.{◌≡◌, List, [], ℕ, length, drop, Result, Ok, Err}
use Rattle.cells.specs.Cells.{cells, rest}
use Rattle.cells.specs.declared.Cell.{Cell}
use Rattle.fuel.specs.Loans.{read, write}
use Rattle.image.specs.Records.{Answer, refused, accepted}
use Rattle.machine.specs.Machine.{used}
use Rattle.machine.specs.Calls.{Sizes, no_fuel, Trace, steps_of, answer_of, fuel_after, world_after}
use Rattle.memory.specs.Layout.{Holds}
use Rattle.refusals.specs.Refusals.{number}
use Rattle.refusals.specs.declared.Refusal.{Refusal}
use Rattle.form.specs.Entry.{Entered, entry, live_of, store_of}
use Rattle.requests.specs.Sent.{Sent, starting, answering, sent_trace}
use Rattle.loans.specs.Loans.{front_live, front_store, Fueled, fueled, sizes_of}

-- what is entered: its answer and memory are the definition's, cells behind the store's objects, bytes behind what is used and behind the last whole cell do not change, and one that is refused leaves every byte
pub record SentDone (t : Trace) (r : ℕ) (state live store state' live' store' : List ℕ) : Type 0 where
  pub answers : r ≡ answer_of t
  pub holds : Holds (world_after t) (cells state') (live_of live') (store_of store')
  pub lengths : (length state' ≡ length state) × (length live' ≡ length live) × (length store' ≡ length store)
  pub behind_live : drop 65536 live' ≡ drop 65536 live
  pub behind_store : drop 1048576 store' ≡ drop 1048576 store
  pub rest_live : rest (front_live live') ≡ rest (front_live live)
  pub rest_store : rest (front_store store') ≡ rest (front_store store)
  pub free_store : drop (used (world_after t).machine.store) (store_of store') ≡ drop (used (world_after t).machine.store) (store_of store)
  pub refuses : steps_of t ≡ [] → (state' ≡ state) × (live' ≡ live) × (store' ≡ store)

-- ---- A start
abbrev pub StartBy : Sizes → Sent → Answer Entered → ℕ → List ℕ → List ℕ → List ℕ → List ℕ → List ℕ → List ℕ → Type 0
StartBy z s (refused n) r state live store state' live' store' = (r ≡ n) × (state' ≡ state) × (live' ≡ live) × (store' ≡ store)
StartBy z s (accepted e) r state live store state' live' store' = SentDone (sent_trace e.program z no_fuel s e.world) r state live store state' live' store'

pub record StartCalled (image : List ℕ) (f : Cell) (args : List ℕ) (r : ℕ) (state live store state' live' store' : List ℕ) : Type 0 where
  pub does : StartBy (sizes_of live store) (starting f args) (entry image state live store) r state live store state' live' store'

-- ---- An answer, which is lent fuel
-- what it answers: a refusal by its number
abbrev pub code_said : Result ℕ Refusal → ℕ
code_said (Ok n) = n
code_said (Err x) = number x

pub record AnswerDone (t : Trace) (r : ℕ) (state live store fuel state' live' store' fuel' : List ℕ) : Type 0 where
  pub sent : SentDone t r state live store state' live' store'
  pub charges : fuel' ≡ write fuel (fuel_after t)
  pub spares : steps_of t ≡ [] → fuel' ≡ fuel

abbrev pub AnswerBy : Sizes → Sent → Answer Fueled → ℕ → List ℕ → List ℕ → List ℕ → List ℕ → List ℕ → List ℕ → List ℕ → List ℕ → Type 0
AnswerBy z s (refused n) r state live store fuel state' live' store' fuel' = (r ≡ n) × (state' ≡ state) × (live' ≡ live) × (store' ≡ store) × (fuel' ≡ fuel)
AnswerBy z s (accepted x) r state live store fuel state' live' store' fuel' = AnswerDone (sent_trace x.entered.program z x.fuel s x.entered.world) r state live store fuel state' live' store' fuel'

pub record AnswerCalled (image : List ℕ) (kind word : ℕ) (subject : Cell) (args handlers : List ℕ) (r : ℕ) (state live store fuel state' live' store' fuel' : List ℕ) : Type 0 where
  pub does : AnswerBy (sizes_of live store) (answering kind word subject args handlers) (fueled (read fuel) (entry image state live store)) r state live store fuel state' live' store' fuel'
