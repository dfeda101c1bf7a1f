-- Slices, runs, and the calls of the host. A call is one definition, `Trace`: its steps, then its answer, the fuel and the world. All else is read off it.
use Rattle.std.specs.Prelude.{List, [], ◌∷◌, Bool, true, false, ℕ, zero, suc, ◌+◌, ◌-◌, pos, length, get_or, replicate, ltb, leb, eqb}
use Rattle.cells.specs.Cells.{null}
use Rattle.cells.specs.declared.Cell.{Cell}
use Rattle.cells.specs.Le.{le_at}
use Rattle.fuel.specs.Fuels.{empty, consume, should_continue}
use Rattle.fuel.specs.declared.Fuel.{Fuel}
use Rattle.image.specs.Records.{if?, both, Answer, refused, accepted}
use Rattle.image.specs.Program.{Code}
use Rattle.image.specs.Image.{parse}
use Rattle.machine.specs.Values.{Program, code_of, closure_at, is_effect, equal_effects, constant_of, bytes_at, lucia_error, lucia_panic}
use Rattle.machine.specs.Machine.{Frame, lucia, host, effect_callback, Object, closure, list, continuation, Result, running, returned, failed, unhandled, M, frames_cost, used, result_cost, handlers_of, Lookup, here, absent, object_at, Function, is_closure, is_callback, is_effect_callback, is_continuation, is_none, function_of}
use Rattle.machine.specs.Opcodes.{Action, goes, jumps, makes, sets, sets_builtin, calls, performs, throws, returns, clears, doing, Taken, takes, refuses, next_action}

-- ---- Refusals 16, 13, 14, 15, "judged on what it would leave"
-- the cells lent
pub record Sizes : Type 0 where
  pub live : ℕ
  pub store : ℕ

unfoldable pub top_handlers : List Frame → ℕ
top_handlers [] = 0
top_handlers (f ∷ fs) = length (handlers_of f)

-- the frame that gets handlers is the top of the frames left, whether it is captured then or not
unfoldable pub handlers_left : Action → ℕ
handlers_left (goes F) = top_handlers F
handlers_left (jumps F) = 0
handlers_left (makes o F) = 0
handlers_left (sets g v F) = 0
handlers_left (sets_builtin g v F) = 0
handlers_left (calls f args F) = top_handlers F
handlers_left (performs e args F) = 0
handlers_left (throws x F) = 0
handlers_left (returns v F) = 0
handlers_left clears = 0

pub data Outcome : Type 0 where
  does : Action → M → Outcome
  stops : ℕ → Outcome

unfoldable pub judge : Sizes → Action → M → Outcome
judge z d m =
    if? (ltb 16 (handlers_left d)) (stops 16)
    (if? (ltb 256 (length m.frames)) (stops 13)
    (if? (ltb z.live (frames_cost m.frames + result_cost m.result)) (stops 14)
    (if? (ltb z.store (used m.store)) (stops 15) (does d m))))

unfoldable pub outcome : Program → Sizes → Taken → M → Outcome
outcome P z (takes d) m = judge z d (doing P d m)
outcome P z (refuses n) m = stops n

-- ---- A call as it goes
-- the machine, whether the host is awaited, and what is left of the slice: 64 is none begun
pub record World : Type 0 where
  pub machine : M
  pub wait : Bool
  pub slice : ℕ

abbrev pub world : M → Bool → ℕ → World
world m b left = record { machine = m; wait = b; slice = left }

pub record Step : Type 0 where
  pub before : M
  pub action : Action
  pub after : M

-- what a call gives beside its number: a value, or a part (0 of the image, 1 of the page, its start and length)
pub record Given : Type 0 where
  pub value : Cell
  pub from : ℕ
  pub start : ℕ
  pub size : ℕ

abbrev pub no_fuel : Fuel
no_fuel = empty

abbrev pub nothing : Given
nothing = record { value = null; from = 0; start = 0; size = 0 }

pub data Trace : Type 0 where
  steps : Step → Trace → Trace
  ends : (code : ℕ) → Given → Fuel → World → Trace

unfoldable pub steps_of : Trace → List Step
steps_of (steps s t) = s ∷ steps_of t
steps_of (ends n g fuel w) = []

unfoldable pub answer_of : Trace → ℕ
answer_of (steps s t) = answer_of t
answer_of (ends n g fuel w) = n

unfoldable pub given_of : Trace → Given
given_of (steps s t) = given_of t
given_of (ends n g fuel w) = g

unfoldable pub fuel_after : Trace → Fuel
fuel_after (steps s t) = fuel_after t
fuel_after (ends n g fuel w) = fuel

unfoldable pub world_after : Trace → World
world_after (steps s t) = world_after t
world_after (ends n g fuel w) = w

-- ---- A run
-- what a run finds before a step: "no frames or a result: done"
pub data Turn : Type 0 where
  is_done : Turn
  is_host : Turn
  is_ready : Turn

unfoldable pub turn_of : Result → List Frame → Turn
turn_of running [] = is_done
turn_of running (lucia c p l s hs ∷ fs) = is_ready
turn_of running (host n w s hs ∷ fs) = is_host
turn_of running (effect_callback e s hs ∷ fs) = is_ready
turn_of (returned v) fs = is_done
turn_of (failed x) fs = is_done
turn_of (unhandled e args) fs = is_done

-- how a step goes on in its slice
pub data Pace : Type 0 where
  free : Pace
  counted : Pace
  closing : Pace
  failing : Pace
  alone : Pace

-- "A taken jump costs nothing"; a call, return or return call closes the slice; "an opcode's own error charges 4 only"; an effect callback stands alone
unfoldable pub pace_of : Action → Pace
pace_of (goes F) = counted
pace_of (jumps F) = free
pace_of (makes o F) = counted
pace_of (sets g v F) = counted
pace_of (sets_builtin g v F) = counted
pace_of (calls f args F) = closing
pace_of (performs e args F) = alone
pace_of (throws x F) = failing
pace_of (returns v F) = closing
pace_of clears = counted

-- a charge of so much, then 4, and the test of the fuel after them
unfoldable pub charge : (Fuel → ℕ → M → Trace) → Fuel → ℕ → M → Trace
charge more fuel c m =
    let f = consume (consume fuel (pos c)) (pos 4) in
    if? (should_continue f) (more f 64 m) (ends 101 nothing f (world m false 64))

-- "Any other opcode ends the slice if the number is 0, else lowers it"; "`step` charges what is left, then 4"; "a callback charges 8, then 4"
unfoldable pub goes_on : (Fuel → ℕ → M → Trace) → Fuel → ℕ → M → Pace → Trace
goes_on more fuel left m free = more fuel left m
goes_on more fuel left m counted = if? (eqb left 0) (charge more fuel 0 m) (more fuel (left - 1) m)
goes_on more fuel left m closing = charge more fuel left m
goes_on more fuel left m failing = charge more fuel 0 m
goes_on more fuel left m alone = charge more fuel 8 m

-- "a host callback": 8 are charged and the wait opens
abbrev pub awaits : Fuel → ℕ → M → Trace
awaits fuel left m = ends 103 nothing (consume fuel (pos 8)) (world m true left)

unfoldable pub no_ticks : Fuel → ℕ → Turn → M → Trace
no_ticks fuel left is_done m = ends 100 nothing fuel (world m false left)
no_ticks fuel left is_host m = awaits fuel left m
no_ticks fuel left is_ready m = ends 102 nothing fuel (world m false left)

unfoldable pub tick : (Fuel → ℕ → M → Trace) → Fuel → ℕ → Turn → M → Outcome → Trace
tick more fuel left is_done m o = ends 100 nothing fuel (world m false left)
tick more fuel left is_host m o = awaits fuel left m
tick more fuel left is_ready m (does d m') = steps (record { before = m; action = d; after = m' }) (goes_on more fuel left m' (pace_of d))
tick more fuel left is_ready m (stops n) = ends n nothing fuel (world m false left)

-- a run of so many ticks: its steps are the opcodes and effect callbacks that it carries out
unfoldable pub run : Program → Sizes → ℕ → Fuel → ℕ → M → Trace
run P z zero fuel left m = no_ticks fuel left (turn_of m.result m.frames) m
run P z (suc t) fuel left m = tick (run P z t) fuel left (turn_of m.result m.frames) m (outcome P z (next_action P m m.frames) m)

-- ---- Values from the host: strict cells that name what exists
unfoldable pub is_closure_at : Lookup → Bool
is_closure_at (here (closure c us)) = true
is_closure_at (here (list vs)) = false
is_closure_at (here (continuation K)) = false
is_closure_at absent = false

unfoldable pub is_list_at : Lookup → Bool
is_list_at (here (closure c us)) = false
is_list_at (here (list vs)) = true
is_list_at (here (continuation K)) = false
is_list_at absent = false

unfoldable pub is_continuation_at : Lookup → Bool
is_continuation_at (here (closure c us)) = false
is_continuation_at (here (list vs)) = false
is_continuation_at (here (continuation K)) = true
is_continuation_at absent = false

-- a constant of this kind of the image
unfoldable pub is_constant : Program → ℕ → Cell → Bool
is_constant P k v = both (ltb v.payload (length (code_of P v.number).constants)) (eqb (constant_of P v).kind k)

-- whether a cell is a value, given what stands at its number: a list, a closure, a continuation
abbrev pub value_is : Program → Bool → Bool → Bool → Cell → Bool
value_is P list? closure? continuation? v =
    let plain = eqb v.payload 0 in
    if? (eqb v.tag 0) (both (eqb v.number 0) plain)
    (if? (eqb v.tag 1) (both (leb v.number 1) plain)
    (if? (eqb v.tag 2) (eqb v.number 0)
    (if? (eqb v.tag 3) (eqb v.number 0)
    (if? (eqb v.tag 4) (is_constant P 20 v)
    (if? (eqb v.tag 5) (is_constant P 21 v)
    (if? (eqb v.tag 6) (both plain list?)
    (if? (eqb v.tag 7) (both plain closure?)
    (if? (eqb v.tag 8) (both (leb v.number 2) plain)
    (if? (eqb v.tag 20) (both (both (leb 1 v.number) (leb v.number 6)) plain)
    (if? (eqb v.tag 23) (both plain continuation?)
    (if? (eqb v.tag 24) (both (is_constant P 23 v) (eqb (le_at 2 (bytes_at P v) 0) 3))
    (eqb v.tag 39))))))))))))

unfoldable pub is_value : Program → List Object → Cell → Bool
is_value P s v = let o = object_at s v.number in value_is P (is_list_at o) (is_closure_at o) (is_continuation_at o) v

unfoldable pub are_values : Program → List Object → List Cell → Bool
are_values P s [] = true
are_values P s (v ∷ vs) = both (is_value P s v) (are_values P s vs)

unfoldable pub are_effects : List Cell → Bool
are_effects [] = true
are_effects (v ∷ vs) = both (is_effect v) (are_effects vs)

-- a Function that the host may call: no effect
unfoldable pub is_function : Function → Bool
is_function (is_closure h c) = true
is_function (is_callback n w) = true
is_function (is_effect_callback e) = false
is_function (is_continuation k K) = true
is_function is_none = false

-- ---- Requests: every call but a run and a load
pub data CallbackReturn : Type 0 where
  call_with : (f : Cell) (args handlers : List Cell) → CallbackReturn
  perform : (e : Cell) (args : List Cell) → CallbackReturn
  tail_call : (f : Cell) (args : List Cell) → CallbackReturn
  tail_perform : (e : Cell) (args : List Cell) → CallbackReturn
  return_it : (v : Cell) → CallbackReturn
  error_with : (v : Cell) → CallbackReturn
  panic_with : (v : Cell) → CallbackReturn

pub data Request : Type 0 where
  start : (f : Cell) (args : List Cell) → Request
  answer : (word : ℕ) (fuel : Fuel) → CallbackReturn → Request
  clear : Request
  text : (page : List ℕ) (v : Cell) → Request
  bytes : (v : Cell) → Request
  set_global : (g : ℕ) (v : Cell) → Request
  get_global : (g : ℕ) → Request
  set_builtin : (g : ℕ) (v : Cell) → Request
  get_builtin : (g : ℕ) → Request

-- refusal 5, or the action
unfoldable pub fit : Bool → Action → Taken
fit b d = if? b (takes d) (refuses 5)

-- "over 4,096 values in one call"
abbrev pub few : List Cell → List Cell → Bool
few args handlers = leb (length args + length handlers) 4096

unfoldable pub without : Program → Cell → List Cell → List Cell
without P e [] = []
without P e (x ∷ xs) = if? (equal_effects P e x) (without P e xs) (x ∷ without P e xs)

-- "a repeat in an answer's handlers is dropped"
unfoldable pub distinct : Program → ℕ → List Cell → List Cell
distinct P zero es = []
distinct P (suc n) [] = []
distinct P (suc n) (e ∷ es) = e ∷ distinct P n (without P e es)

module _ (P : Program) (s : List Object) where
  abbrev called_fit : Cell → List Cell → List Cell → Bool
  called_fit f args hs = both (both (is_value P s f) (is_function (function_of s f))) (both (are_values P s args) (few args hs))

  abbrev performed_fit : Cell → List Cell → Bool
  performed_fit e args = both (both (is_value P s e) (is_effect e)) (both (are_values P s args) (few args []))

  -- the answer for the frame `self hs`, which has the new word, over the frames below
  unfoldable pub answer_action : (List Cell → Frame) → List Cell → List Frame → CallbackReturn → Taken
  answer_action self hs below (call_with f args new) =
      fit (both (called_fit f args new) (both (are_values P s new) (are_effects new))) (calls f args (self (distinct P (length new) new) ∷ below))
  answer_action self hs below (perform e args) = fit (performed_fit e args) (performs e args (self hs ∷ below))
  answer_action self hs below (tail_call f args) = fit (called_fit f args []) (calls f args below)
  answer_action self hs below (tail_perform e args) = fit (performed_fit e args) (performs e args below)
  answer_action self hs below (return_it v) = fit (is_value P s v) (returns v below)
  answer_action self hs below (error_with v) = fit (is_value P s v) (throws (lucia_error v) (self hs ∷ below))
  answer_action self hs below (panic_with v) = fit (is_value P s v) (throws (lucia_panic v) (self hs ∷ below))

  unfoldable pub answered : ℕ → CallbackReturn → List Frame → Taken
  answered word r [] = refuses 11
  answered word r (lucia c p l st hs ∷ below) = refuses 11
  answered word r (host n w st hs ∷ below) = answer_action (λ (new : List Cell). host n word st new) hs below r
  answered word r (effect_callback e st hs ∷ below) = refuses 11

unfoldable pub idle : Result → List Frame → Bool
idle running [] = true
idle running (f ∷ fs) = false
idle (returned v) fs = false
idle (failed x) fs = false
idle (unhandled e args) fs = false

unfoldable pub request_action : Program → Request → World → Taken
request_action P (start f args) w =
    if? (idle w.machine.result w.machine.frames) (fit (called_fit P w.machine.store f args []) (calls f args [])) (refuses 11)
request_action P (answer word fuel r) w = if? w.wait (answered P w.machine.store word r w.machine.frames) (refuses 11)
request_action P clear w = takes clears
request_action P (text page v) w = fit (both (is_value P w.machine.store v) (if? (eqb v.tag 4) true (eqb v.tag 20))) (goes w.machine.frames)
request_action P (bytes v) w = fit (both (is_value P w.machine.store v) (eqb v.tag 5)) (goes w.machine.frames)
request_action P (set_global g v) w = fit (both (ltb g 256) (is_value P w.machine.store v)) (sets g v w.machine.frames)
request_action P (get_global g) w = fit (ltb g 256) (goes w.machine.frames)
request_action P (set_builtin g v) w = fit (both (ltb g 256) (is_value P w.machine.store v)) (sets_builtin g v w.machine.frames)
request_action P (get_builtin g) w = fit (ltb g 256) (goes w.machine.frames)

-- all but text, bytes, globals and builtins end the wait and the slice
unfoldable pub request_world : Request → World → M → World
request_world (start f args) w m = world m false 64
request_world (answer word fuel r) w m = world m false 64
request_world clear w m = world m false 64
request_world (text page v) w m = world m w.wait w.slice
request_world (bytes v) w m = world m w.wait w.slice
request_world (set_global g v) w m = world m w.wait w.slice
request_world (get_global g) w m = world m w.wait w.slice
request_world (set_builtin g v) w m = world m w.wait w.slice
request_world (get_builtin g) w m = world m w.wait w.slice

-- ---- Text: "a part of the image or of the page of messages that the host lends (LF after each, missing ones empty)"
pub data Line : Type 0 where
  line : (start size : ℕ) → Line
  missing : Line

-- line k + 1 of a page that begins at `at`, of which n bytes were seen of the line under way
unfoldable pub line_of : ℕ → ℕ → ℕ → List ℕ → Line
line_of k at n [] = missing
line_of zero at n (x ∷ s) = if? (eqb x 10) (line at n) (line_of zero at (n + 1) s)
line_of (suc k) at n (x ∷ s) = if? (eqb x 10) (line_of k (at + n + 1) 0 s) (line_of (suc k) at (n + 1) s)

abbrev pub part : ℕ → ℕ → ℕ → Given
part from at n = record { value = null; from = from; start = at; size = n }

unfoldable pub of_page : List ℕ → Line → Given
of_page page (line at size) = part 1 at size
of_page page missing = part 1 (length page) 0

abbrev pub of_image : Program → Cell → Given
of_image P v = part 0 (constant_of P v).place (constant_of P v).size

abbrev pub gives : Cell → Given
gives v = record { value = v; from = 0; start = 0; size = 0 }

unfoldable pub given_by : Program → Request → M → Given
given_by P (start f args) m = nothing
given_by P (answer word fuel r) m = nothing
given_by P clear m = nothing
given_by P (text page v) m = if? (eqb v.tag 4) (of_image P v) (of_page page (line_of (v.number - 1) 0 0 page))
given_by P (bytes v) m = of_image P v
given_by P (set_global g v) m = nothing
given_by P (get_global g) m = gives (get_or m.globals g null)
given_by P (set_builtin g v) m = nothing
given_by P (get_builtin g) m = gives (get_or m.builtins g null)

-- "a host callback's 4 is charged by the answer, which then tests fuel and says "out of fuel" or "go on""
unfoldable pub end_of : Program → Request → World → M → Trace
end_of P (answer word fuel r) w m =
    let f = consume fuel (pos 4) in ends (if? (should_continue f) 104 101) nothing f (request_world (answer word fuel r) w m)
end_of P (start f args) w m = ends 0 nothing no_fuel (request_world (start f args) w m)
end_of P clear w m = ends 0 nothing no_fuel (request_world clear w m)
end_of P (text page v) w m = ends 0 (given_by P (text page v) m) no_fuel (request_world (text page v) w m)
end_of P (bytes v) w m = ends 0 (given_by P (bytes v) m) no_fuel (request_world (bytes v) w m)
end_of P (set_global g v) w m = ends 0 nothing no_fuel (request_world (set_global g v) w m)
end_of P (get_global g) w m = ends 0 (given_by P (get_global g) m) no_fuel (request_world (get_global g) w m)
end_of P (set_builtin g v) w m = ends 0 nothing no_fuel (request_world (set_builtin g v) w m)
end_of P (get_builtin g) w m = ends 0 (given_by P (get_builtin g) m) no_fuel (request_world (get_builtin g) w m)

-- a refused answer leaves its fuel; the others are lent none
unfoldable pub fuel_of : Request → Fuel
fuel_of (start f args) = no_fuel
fuel_of (answer word fuel r) = fuel
fuel_of clear = no_fuel
fuel_of (text page v) = no_fuel
fuel_of (bytes v) = no_fuel
fuel_of (set_global g v) = no_fuel
fuel_of (get_global g) = no_fuel
fuel_of (set_builtin g v) = no_fuel
fuel_of (get_builtin g) = no_fuel

unfoldable pub asked : Program → Request → World → Outcome → Trace
asked P q w (does d m) = steps (record { before = w.machine; action = d; after = m }) (end_of P q w m)
asked P q w (stops n) = ends n nothing (fuel_of q) w

-- ---- Load: the outermost closure, whose captures start null; globals and builtins null
unfoldable pub loaded_machine : Program → M
loaded_machine P = record {
  frames = [];
  store = closure 0 (replicate (length (code_of P 0).captures) null) ∷ [];
  globals = replicate 256 null;
  builtins = replicate 256 null;
  result = running;
}

abbrev pub loaded : Program → World
loaded P = world (loaded_machine P) false 64

-- the number that refuses a load, or the program
unfoldable pub load_of : List ℕ → Sizes → Answer Program → Answer Program
load_of image z (refused n) = refused n
load_of image z (accepted P) = if? (ltb z.store (used (loaded_machine P).store)) (refused 15) (accepted P)

unfoldable pub program_of : List ℕ → Answer (List Code) → Answer Program
program_of image (refused n) = refused n
program_of image (accepted cs) = accepted (record { image = image; codes = cs })

abbrev pub load : List ℕ → Sizes → Answer Program
load image z = load_of image z (program_of image (parse image))

pub data Call : Type 0 where
  runs : (ticks : ℕ) (fuel : Fuel) → Call
  asks : Request → Call
  loads : (image : List ℕ) → Call

unfoldable pub load_trace : World → Answer Program → Trace
load_trace w (refused n) = ends n nothing no_fuel w
load_trace w (accepted P) = ends 0 (gives (closure_at 0)) no_fuel (loaded P)

-- every call of the host; a refused one leaves the world as it was
unfoldable pub call_of : Program → Sizes → Call → World → Trace
call_of P z (runs t fuel) w = if? w.wait (ends 11 nothing fuel w) (run P z t fuel w.slice w.machine)
call_of P z (asks q) w = asked P q w (outcome P z (request_action P q w) w.machine)
call_of P z (loads image) w = load_trace w (load image z)

-- a call with the sizes of the memory that it is lent
pub record Lent : Type 0 where
  pub sizes : Sizes
  pub call : Call

abbrev pub lent : Sizes → Call → Lent
lent z c = record { sizes = z; call = c }

-- the world after a list of calls, each lent the image of P and what the last one left; an accepted load of another image is not in it but starts a new list
unfoldable pub calls_of : Program → List Lent → World → World
calls_of P [] w = w
calls_of P (c ∷ cs) w = calls_of P cs (world_after (call_of P c.sizes c.call w))
