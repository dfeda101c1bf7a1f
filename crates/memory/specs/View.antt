-- The world that cells hold, read off them; in form, it is the only one that they are written as (`Exact`).
use Rattle.std.specs.Prelude.{List, [], ◌∷◌, reverse, Bool, ℕ, zero, suc, ◌+◌, ◌*◌, get_or, take, drop, ltb, eqb}
use Rattle.cells.specs.Cells.{null}
use Rattle.cells.specs.declared.Cell.{Cell}
use Rattle.image.specs.Records.{if?}
use Rattle.machine.specs.Values.{Error, call_arguments, un_operator, bin_operator, meta_un_operator, meta_bin_operator, zero_divisor, lucia_error, lucia_panic}
use Rattle.machine.specs.Machine.{Handler, Frame, lucia, host, effect_callback, Object, closure, list, continuation, Result, running, returned, failed, unhandled, effects}
use Rattle.machine.specs.Calls.{World}
use Rattle.memory.specs.Layout.{Written, Shown}

-- ---- The counts of the frame at the front of x
abbrev pub locals_of : List Cell → ℕ
locals_of x = (get_or x 0 null).number

abbrev pub handlers_of : List Cell → ℕ
handlers_of x = (get_or x 0 null).payload

abbrev pub stack_of : List Cell → ℕ
stack_of x = (get_or x 2 null).payload

abbrev pub place_of : List Cell → ℕ
place_of x = (get_or x 2 null).number

abbrev pub frame_size : List Cell → ℕ
frame_size x = 6 + locals_of x + 2 * handlers_of x + stack_of x

-- how many cells so many frames have
unfoldable pub frames_size : ℕ → List Cell → ℕ
frames_size zero x = 0
frames_size (suc n) x = frame_size x + frames_size n (drop (frame_size x) x)

-- ---- Frames
unfoldable pub handlers_at : ℕ → List Cell → List Handler
handlers_at zero x = []
handlers_at (suc n) x = record { effect = get_or x 0 null; target = (get_or x 1 null).number; stack_size = (get_or x 1 null).payload } ∷ handlers_at n (drop 2 x)

-- the frame at the front of x, as it is written
abbrev pub written_at : List Cell → Written
written_at x = record {
  kind = (get_or x 0 null).tag;
  subject = get_or x 1 null;
  place = place_of x;
  locals = take (locals_of x) (drop 6 x);
  handlers = handlers_at (handlers_of x) (drop (6 + locals_of x) x);
  stack = reverse (take (stack_of x) (drop (6 + locals_of x + 2 * handlers_of x) x));
}

unfoldable pub read_frame : Written → Frame
read_frame f =
    if? (eqb f.kind 64) (lucia f.subject.number f.place f.locals f.stack f.handlers)
    (if? (eqb f.kind 65) (host f.subject.number f.subject.payload f.stack (effects f.handlers)) (effect_callback f.subject f.stack (effects f.handlers)))

abbrev pub frame_at : List Cell → Frame
frame_at x = read_frame (written_at x)

-- so many frames at the front of x, on top of `below`
unfoldable pub frames_at : ℕ → List Frame → List Cell → List Frame
frames_at zero below x = below
frames_at (suc n) below x = frames_at n (frame_at x ∷ below) (drop (frame_size x) x)

-- ---- Objects: the one at `at`
unfoldable pub read_object : List Cell → ℕ → Object
read_object S at =
    let h = get_or S at null in
    let body = take h.payload (drop (at + 1) S) in
    if? (eqb h.tag 128) (closure h.number body) (if? (eqb h.tag 129) (list body) (continuation (frames_at h.number [] body)))

unfoldable pub objects_at : List Cell → ℕ → ℕ → ℕ → List Object
objects_at S end zero at = []
objects_at S end (suc n) at = if? (ltb at end) (read_object S at ∷ objects_at S end n (at + 1 + (get_or S at null).payload)) []

-- ---- Results
abbrev pub bit_of : ℕ → Bool
bit_of n = eqb n 1

unfoldable pub read_error : Shown → Error
read_error r =
    let v = r.value in
    if? (eqb r.kind 3) (call_arguments v.tag (bit_of v.number) v.payload)
    (if? (eqb r.kind 4) (un_operator v.tag v.number v.payload)
    (if? (eqb r.kind 5) (bin_operator v.tag v.number v.payload r.second)
    (if? (eqb r.kind 6) (meta_un_operator v.tag v.payload)
    (if? (eqb r.kind 7) (meta_bin_operator v.tag v.payload r.second)
    (if? (eqb r.kind 8) zero_divisor
    (if? (eqb r.kind 9) (lucia_error v) (lucia_panic v)))))))

unfoldable pub read_result : Shown → Result
read_result r =
    if? (eqb r.kind 0) running (if? (eqb r.kind 1) (returned r.value) (if? (eqb r.kind 2) (unhandled r.value r.args) (failed (read_error r))))

-- ---- The whole
unfoldable pub view : List Cell → List Cell → List Cell → World
view state live store =
    let used = (get_or state 0 null).payload in
    let count = (get_or state 0 null).number in
    record {
      machine = record {
        frames = frames_at count [] live;
        store = objects_at store used used 0;
        globals = take 256 (drop 4 state);
        builtins = drop 260 state;
        result = read_result (record {
          kind = (get_or state 1 null).payload;
          value = get_or state 2 null;
          second = (get_or state 3 null).tag;
          args = take (get_or state 3 null).payload (drop (frames_size count live) live);
        });
      };
      wait = bit_of (get_or state 1 null).number;
      slice = (get_or state 1 null).tag;
    }
