-- What the host sends with a start or an answer, as it lies in the bytes that it lends, and the request that this is; 5 where it is none.
use Rattle.std.specs.Prelude.{List, [], ◌∷◌, ◌++◌, Bool, ℕ, ◌%◌, length, eqb}
use Rattle.cells.specs.Cells.{cells}
use Rattle.cells.specs.declared.Cell.{Cell}
use Rattle.fuel.specs.declared.Fuel.{Fuel}
use Rattle.image.specs.Records.{if?, both, Answer, refused, accepted}
use Rattle.machine.specs.Values.{Program}
use Rattle.machine.specs.Calls.{Sizes, Outcome, stops, outcome, World, Trace, ends, nothing, no_fuel, CallbackReturn, call_with, perform, tail_call, tail_perform, return_it, error_with, panic_with, Request, start, answer, idle, request_action, asks, call_of}

pub data Sent : Type 0 where
  starting : (f : Cell) (args : List ℕ) → Sent
  answering : (kind word : ℕ) (subject : Cell) (args handlers : List ℕ) → Sent

-- "start with frames or a result, answer with no host wait"
unfoldable pub in_turn : Sent → World → Bool
in_turn (starting f args) w = idle w.machine.result w.machine.frames
in_turn (answering kind word v args handlers) w = w.wait

-- a list of values is whole cells
abbrev pub whole : List ℕ → Bool
whole s = eqb (length s % 16) 0

-- what an answer of its kind does not use must be empty
unfoldable pub unused : List Cell → CallbackReturn → Answer CallbackReturn
unused [] r = accepted r
unused (v ∷ vs) r = refused 5

-- the kinds of an answer
unfoldable pub kind_of : ℕ → Cell → List Cell → List Cell → Answer CallbackReturn
kind_of kind v args handlers =
    if? (eqb kind 0) (accepted (call_with v args handlers))
    (if? (eqb kind 1) (unused handlers (perform v args))
    (if? (eqb kind 2) (unused handlers (tail_call v args))
    (if? (eqb kind 3) (unused handlers (tail_perform v args))
    (if? (eqb kind 4) (unused (args ++ handlers) (return_it v))
    (if? (eqb kind 5) (unused (args ++ handlers) (error_with v))
    (if? (eqb kind 6) (unused (args ++ handlers) (panic_with v))
    (refused 5)))))))

unfoldable pub return_of : ℕ → Cell → List ℕ → List ℕ → Answer CallbackReturn
return_of kind v args handlers = if? (both (whole args) (whole handlers)) (kind_of kind v (cells args) (cells handlers)) (refused 5)

unfoldable pub answer_with : ℕ → Fuel → Answer CallbackReturn → Answer Request
answer_with word fuel (refused n) = refused n
answer_with word fuel (accepted r) = accepted (answer word fuel r)

unfoldable pub request_of : Fuel → Sent → Answer Request
request_of fuel (starting f args) = if? (whole args) (accepted (start f (cells args))) (refused 5)
request_of fuel (answering kind word v args handlers) = answer_with word fuel (return_of kind v args handlers)

-- ---- What it comes to in a world: 11, then 5, then what the machine's definition says of the request
unfoldable pub asking : Program → Sizes → World → Answer Request → Outcome
asking P z w (refused n) = stops n
asking P z w (accepted q) = outcome P z (request_action P q w) w.machine

unfoldable pub sent_outcome : Program → Sizes → Sent → World → Outcome
sent_outcome P z s w = if? (in_turn s w) (asking P z w (request_of no_fuel s)) (stops 11)

-- the same as a call, with the fuel that it brings
unfoldable pub tracing : Program → Sizes → Fuel → World → Answer Request → Trace
tracing P z fuel w (refused n) = ends n nothing fuel w
tracing P z fuel w (accepted q) = call_of P z (asks q) w

unfoldable pub sent_trace : Program → Sizes → Fuel → Sent → World → Trace
sent_trace P z fuel s w = if? (in_turn s w) (tracing P z fuel w (request_of fuel s)) (ends 11 nothing fuel w)
