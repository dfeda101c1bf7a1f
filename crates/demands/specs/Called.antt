-- The exported functions as calls of a host, one after the other, and demand 3 of them: all that `demand3_exported`
-- (Theorem) says, but for what it cites of the crates below.
use Rattle.std.specs.Prelude.{◌≡◌, Result, Ok, Err, List, [], ◌∷◌, ◌++◌, Bool, ℕ, ◌<◌, length}
use Rattle.cells.specs.Le.{Bytes}
use Rattle.fuel.specs.Loans.{read, write}
use Rattle.fuel.specs.declared.Fuel.{Fuel}
use Rattle.refusals.specs.declared.Refusal.{Refusal}
use Rattle.refusals.specs.Refusals.{number}
use Rattle.image.specs.Records.{if?, Answer, refused, accepted}
use Rattle.machine.specs.Values.{Program}
use Rattle.machine.specs.Calls.{Sizes, World, Given, nothing, no_fuel, Trace, steps_of, answer_of, given_of, fuel_after, Request, clear, text, bytes, set_global, get_global, set_builtin, get_builtin, Call, runs, asks, loads as load_call, load, Lent, lent, loaded, call_of, calls_of}
use Rattle.machine.specs.Demand.{RefusedLoad, Demand3}
pub use Rattle.executor.specs.Exports.{Memory, memory, sizes, entered, world_in, Exported, lucia_load, lucia_start, lucia_run, lucia_answer, lucia_clear, lucia_text, lucia_bytes, lucia_set_global, lucia_get_global, lucia_set_builtin, lucia_get_builtin, Answered, Allows}
use Rattle.requests.specs.Sent.{Sent, starting, answering, in_turn, request_of}
use Rattle.runs.specs.Ran.{ran_of}
use Rattle.asks.specs.Asks.{cell_of, got_of, part_of}
use Rattle.asks.specs.declared.Got.{Got}

-- ---- The calls of the machine that they are
-- With the fuel of a loan; a loan that is no 5 bytes holds none.
abbrev pub with_loan : (Fuel → Answer Call) → Result Fuel Refusal → Answer Call
with_loan f (Ok fuel) = f fuel
with_loan f (Err r) = refused (number r)

-- A request, as a call; what is none is refused with its number, or with 11 where it is out of turn.
unfoldable pub asking : (in_turn : Bool) → Answer Request → Answer Call
asking b (accepted q) = accepted (asks q)
asking b (refused k) = refused (if? b k 11)

-- What is sent with the fuel of a loan.
abbrev pub sending : World → Sent → Fuel → Answer Call
sending w s fuel = asking (in_turn s w) (request_of fuel s)

-- The machine's call that it is, in the world w; or the number with which it is refused, where what the host sends is
-- none: a fuel loan that is no 5 bytes (6), values that are no whole cells, an answer of no kind or with values that
-- its kind does not use (5, out of turn 11).
unfoldable pub call_for : World → Exported → Answer Call
call_for w (lucia_load image) = accepted (load_call image)
call_for w (lucia_start low high args) = sending w (starting (cell_of low high) args) no_fuel
call_for w (lucia_run fuel ticks) = with_loan (λ (f : Fuel). accepted (runs ticks f)) (read fuel)
call_for w (lucia_answer fuel kind word low high args handlers) =
    with_loan (sending w (answering kind word (cell_of low high) args handlers)) (read fuel)
call_for w lucia_clear = accepted (asks clear)
call_for w (lucia_text page low high) = accepted (asks (text page (cell_of low high)))
call_for w (lucia_bytes low high) = accepted (asks (bytes (cell_of low high)))
call_for w (lucia_set_global g low high) = accepted (asks (set_global g (cell_of low high)))
call_for w (lucia_get_global g) = accepted (asks (get_global g))
call_for w (lucia_set_builtin g low high) = accepted (asks (set_builtin g (cell_of low high)))
call_for w (lucia_get_builtin g) = accepted (asks (get_builtin g))

-- What it is in a history: a call that is lent memory of these sizes, or none.
unfoldable pub stands_for : Sizes → Answer Call → List Lent
stands_for z (accepted q) = lent z q ∷ []
stands_for z (refused k) = []

-- The call is no accepted load.
unfoldable pub NoLoad : Sizes → Answer Call → Type 0
NoLoad z (accepted q) = RefusedLoad z q
NoLoad z (refused k) = Unit {0}

-- ---- Histories
-- Memory of which live stack and store are lent longer, behind the same bytes.
unfoldable pub lent_longer : Memory → (live store : List ℕ) → Memory
lent_longer m live store = memory m.state (m.live ++ live) (m.store ++ store)

-- Memory m to which a history led: an accepted load, then calls, each lent the image and the memory that the last one
-- left. `past` are the machine's calls that they stand for, the last one last.
pub data Led (image : List ℕ) : List Lent → Memory → Type 0 where
  loads : {m₀ m : Memory} (r : Got) → Allows image (lucia_load image) m₀ r m → r.code ≡ 0 → Led image [] m
  calls : {past : List Lent} {m : Memory} → Led image past m
      → (c : Exported) (r : Answered c) (n : Memory) → Allows image c m r n
      → NoLoad (sizes m) (call_for (world_in m) c) → Led image (past ++ stands_for (sizes m) (call_for (world_in m) c)) n
  -- Between two calls memory may be lent longer. (Ticket 9: a job that was saved in this history and is read into other
  -- memory is one more constructor.)
  longer : {past : List Lent} {m : Memory} → Led image past m → (live store : List ℕ)
      → Led image past (lent_longer m live store)

-- ---- What is claimed of each call
-- Its fuel loan: only a run and an answer have one.
abbrev pub fuel_lent : Exported → List ℕ
fuel_lent (lucia_load image) = []
fuel_lent (lucia_start low high args) = []
fuel_lent (lucia_run fuel ticks) = fuel
fuel_lent (lucia_answer fuel kind word low high args handlers) = fuel
fuel_lent lucia_clear = []
fuel_lent (lucia_text page low high) = []
fuel_lent (lucia_bytes low high) = []
fuel_lent (lucia_set_global g low high) = []
fuel_lent (lucia_get_global g) = []
fuel_lent (lucia_set_builtin g low high) = []
fuel_lent (lucia_get_builtin g) = []

-- What it answers, of a number, ticks taken, what is given, and its fuel loan as it is left.
unfoldable pub answer_by : (c : Exported) → (code ticks : ℕ) → Given → (fuel : List ℕ) → Answered c
answer_by (lucia_load image) code t given fuel = got_of code given.value
answer_by (lucia_start low high args) code t given fuel = code
answer_by (lucia_run lent ticks) code t given fuel = (ran_of code t, fuel)
answer_by (lucia_answer lent kind word low high args handlers) code t given fuel = (code, fuel)
answer_by lucia_clear code t given fuel = code
answer_by (lucia_text page low high) code t given fuel = part_of code given
answer_by (lucia_bytes low high) code t given fuel = part_of code given
answer_by (lucia_set_global g low high) code t given fuel = code
answer_by (lucia_get_global g) code t given fuel = got_of code given.value
answer_by (lucia_set_builtin g low high) code t given fuel = code
answer_by (lucia_get_builtin g) code t given fuel = got_of code given.value

-- The answer of a call that goes as the trace t: its ticks are its steps.
abbrev pub answer_for : (c : Exported) → Trace → Answered c
answer_for c t = answer_by c (answer_of t) (length (steps_of t)) (given_of t) (write (fuel_lent c) (fuel_after t))

-- The answer of a call that is refused with n before it begins: nothing else is given, and its fuel is as it was.
unfoldable pub refusal_of : (c : Exported) → ℕ → Answered c
refusal_of c n = answer_by c n 0 nothing (fuel_lent c)

-- The number n refuses the call before it begins; a run may also be refused at an opcode or effect callback, and then
-- has begun.
unfoldable pub Refuses : Call → ℕ → Type 0
Refuses (runs t fuel) n = n ≡ 11
Refuses (asks q) n = (0 < n) × (n < 100)
Refuses (load_call image) n = (0 < n) × (n < 100)

-- A call that is the machine's call q answers what the machine's definition says; one that is refused before it begins
-- leaves every byte, those of its fuel too.
pub record Does (P : Program) (z : Sizes) (w : World) (c : Exported) (q : Call)
    (m : Memory) (r : Answered c) (n : Memory) : Type 0 where
  pub answers : r ≡ answer_for c (call_of P z q w)
  pub refuses : Refuses q (answer_of (call_of P z q w)) → n ≡ m
  pub spares : Refuses q (answer_of (call_of P z q w)) → Bytes (fuel_lent c) → r ≡ refusal_of c (answer_of (call_of P z q w))

-- A call that is none of the machine's is refused with its number, and leaves every byte.
pub record LeftOut (c : Exported) (k : ℕ) (m : Memory) (r : Answered c) (n : Memory) : Type 0 where
  pub answers : r ≡ refusal_of c k
  pub refuses : n ≡ m

-- The call in the world w.
unfoldable pub DoesAs : Program → Sizes → World → (c : Exported) → Answer Call → Memory → Answered c → Memory → Type 0
DoesAs P z w c (accepted q) m r n = Does P z w c q m r n
DoesAs P z w c (refused k) m r n = LeftOut c k m r n

-- ---- What is claimed of a history
-- Memory m holds the program and the world that the calls `past` lead to from the loaded world, and demand 3 holds of
-- their history and of the machine that is read off m.
pub record After (image : List ℕ) (P : Program) (past : List Lent) (m : Memory) : Type 0 where
  pub holds : entered image m ≡ accepted (record { program = P; world = calls_of P past (loaded P) })
  pub demand3 : Demand3 P past (world_in m).machine

-- Each call of a history is lent such memory, and does in the world that it holds what is claimed; the program is the
-- loaded image's.
abbrev pub Each : {image : List ℕ} {past : List Lent} {m : Memory} → Program → Led image past m → Type 0
Each {image} P (loads {m = m} r a z) = load image (sizes m) ≡ accepted P
Each {image} P (calls {past = past} {m = m} l c r n a h) =
    let w = calls_of P past (loaded P) in Each P l × After image P past m × DoesAs P (sizes m) w c (call_for w c) m r n
Each P (longer l live store) = Each P l

-- Of a history: its program, each call in turn, and what holds after the last one.
pub record Demanded {image : List ℕ} {past : List Lent} {m : Memory} (l : Led image past m) : Type 0 where
  pub program : Program
  pub each : Each program l
  pub final : After image program past m
