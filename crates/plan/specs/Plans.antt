-- What a plan does to a machine. What decides it (`call_function` and the others), what it costs, and what carries it out are three functions that agree on this.
use Rattle.std.specs.Prelude.{◌≡◌, List, [], ◌∷◌, ◌++◌, true, false, ℕ, ◌+◌, ◌-◌, ◌<◌, ◌≤◌, length, Result, Ok, Err}
use Rattle.cells.specs.declared.Cell.{Cell}
use Rattle.image.specs.Records.{if?}
use Rattle.machine.specs.Values as v
use Rattle.machine.specs.Values.{Program, continuation_at, thrown, shown}
use Rattle.machine.specs.Machine.{Frame, continuation, returned, failed, unhandled, M, with_frames, with_result, with_store, used, here, object_at, parse, enter, put_back, receive}
use Rattle.memory.specs.Layout.{written, error_shown}
use Rattle.moves.specs.Frames.{new_written}
use Rattle.moves.specs.Handlers.{First}
use Rattle.plan.specs.declared.Params.{Params}
use Rattle.plan.specs.declared.Error.{Error}
use Rattle.plan.specs.Kinds.{kind_of, frame_number}
use Rattle.plan.specs.declared.Start.{Start}
use Rattle.plan.specs.declared.Plan.{Plan}
use Rattle.plan.specs.declared.Plan.TheVariants.{Starts, Resumes, Handles, Catches, Unhandled, Fails, Receives, Returns, Stays}

-- ---- Parameters, errors and what operators give, as the code has them
abbrev pub params_of : v.Params → Params
params_of p = record { count = p.count; variadic = p.variadic }

abbrev pub error_of : v.Error → Error
error_of x = record { kind = kind_of x; value = (error_shown x).value; second = (error_shown x).second }

-- the builtin that an error performs, and what it shows
pub record Throws (x : Error) (r : Cell) : Type 0 where
  pub is : (y : v.Error) → x ≡ error_of y → r ≡ thrown y

pub record Shows (x : Error) (r : Cell) : Type 0 where
  pub is : (y : v.Error) → x ≡ error_of y → r ≡ shown y

unfoldable pub computed_of : v.Computed → Result Cell Error
computed_of (v.computes c) = Ok c
computed_of (v.fails x) = Err (error_of x)

-- ---- Arguments once they are parsed: how many values they are, and how many cells of the store the list of the rest takes
unfoldable pub taken_count : Params → ℕ → ℕ
taken_count p n = if? p.variadic (p.count + 1) n

unfoldable pub listed_cells : Params → ℕ → ℕ
listed_cells p n = if? p.variadic (1 + (n - p.count)) 0

-- a variadic has its count at least
abbrev pub Enough : Params → ℕ → Type 0
Enough p n = p.variadic ≡ true → p.count ≤ n

-- ---- What each plan does
-- a new frame, whose stack is the parsed arguments
pub record Started (f : Start) (p : Params) (args : List Cell) (m m' : M) : Type 0 where
  pub frame : Frame
  pub is : written frame ≡ new_written (frame_number f.kind) f.subject f.locals (parse p.variadic p.count args m.store).args
  pub enough : Enough p (length args)
  pub after : m' ≡ with_store (frame ∷ m.frames) (parse p.variadic p.count args m.store).store m

-- the frames of a continuation on top, with a value
pub record Resumed (h : ℕ) (v : Cell) (m m' : M) : Type 0 where
  pub frames : List Frame
  pub there : object_at m.store h ≡ here (continuation frames)
  pub after : m' ≡ with_frames (put_back v frames ++ m.frames) m

-- frame i from the bottom handles the effect by its j-th handler; the frames above it become a continuation
pub record Handled (P : Program) (i j : ℕ) (e : Cell) (p : Params) (args : List Cell) (m m' : M) : Type 0 where
  pub above : List Frame
  pub handler : Frame
  pub below : List Frame
  pub frames : m.frames ≡ above ++ (handler ∷ below)
  pub some : 0 < length above
  pub at : length below ≡ i
  pub first : First P e (written handler).handlers j
  pub enough : Enough p (length args)
  pub after : m' ≡ with_store
      (enter P e (continuation_at (used m.store)) (parse p.variadic p.count args (m.store ++ (continuation above ∷ []))).args handler ∷ below)
      (parse p.variadic p.count args (m.store ++ (continuation above ∷ []))).store m

-- a throw performs its builtin with what the error shows
abbrev pub one_param : Params
one_param = record { count = 1; variadic = false }

pub record Caught (P : Program) (i j : ℕ) (x : Error) (m m' : M) : Type 0 where
  pub error : v.Error
  pub is : x ≡ error_of error
  pub handled : Handled P i j (thrown error) one_param (shown error ∷ []) m m'

pub record Failed (x : Error) (m m' : M) : Type 0 where
  pub error : v.Error
  pub is : x ≡ error_of error
  pub after : m' ≡ with_result (failed error) m

-- the top frame gets the value
pub record Received (v : Cell) (m m' : M) : Type 0 where
  pub top : Frame
  pub below : List Frame
  pub frames : m.frames ≡ top ∷ below
  pub after : m' ≡ with_frames (receive v top ∷ below) m

abbrev pub Carries : Program → Plan → List Cell → M → M → Type 0
Carries P (Starts f p) args m m' = Started f p args m m'
Carries P (Resumes h v) args m m' = Resumed h v m m'
Carries P (Handles i j e p) args m m' = Handled P i j e p args m m'
Carries P (Catches i j x) args m m' = Caught P i j x m m'
Carries P (Unhandled e) args m m' = m' ≡ with_result (unhandled e args) m
Carries P (Fails x) args m m' = Failed x m m'
Carries P (Receives v) args m m' = Received v m m'
Carries P (Returns v) args m m' = m' ≡ with_result (returned v) m
Carries P Stays args m m' = m' ≡ m
