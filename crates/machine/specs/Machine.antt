-- The machine and its rules, named as in executor.rs. Lists have the top first: a stack, and the frames.
use Rattle.std.specs.Prelude.{List, [], ◌∷◌, ◌++◌, reverse, Bool, true, false, ℕ, zero, suc, ◌+◌, ◌*◌, ◌-◌, length, take, drop, replicate, leb, ltb, eqb}
use Rattle.cells.specs.Cells.{null}
use Rattle.cells.specs.declared.Cell.{Cell}
use Rattle.image.specs.Records.{if?}
use Rattle.image.specs.Program.{Code}
use Rattle.machine.specs.Values.{Program, code_of, Params, code_params, effect_params, equal_effects, is_effect, type_of, list_at, continuation_at, Error, call_arguments, meta_un_operator, thrown, shown}

-- ---- Frames, objects, machine
-- a handler of a Lucia frame; its `stack_size` is stored and not read
pub record Handler : Type 0 where
  pub effect : Cell
  pub target : ℕ
  pub stack_size : ℕ

-- a frame: a closure of the store at a place, a callback of the host with its word, or an effect called as a function
pub data Frame : Type 0 where
  lucia : (closure place : ℕ) (locals stack : List Cell) (handlers : List Handler) → Frame
  host : (number word : ℕ) (stack handlers : List Cell) → Frame
  effect_callback : (effect : Cell) (stack handlers : List Cell) → Frame

-- an object of the store; its handle is the cell where it begins, and it never changes
pub data Object : Type 0 where
  closure : (code : ℕ) (upvalues : List Cell) → Object
  list : (items : List Cell) → Object
  continuation : (frames : List Frame) → Object

pub data Result : Type 0 where
  running : Result
  returned : Cell → Result
  failed : Error → Result
  unhandled : (effect : Cell) (args : List Cell) → Result

-- objects in the order in which they were made; globals and builtins by name number
pub record M : Type 0 where
  pub frames : List Frame
  pub store : List Object
  pub globals : List Cell
  pub builtins : List Cell
  pub result : Result

abbrev pub with_frames : List Frame → M → M
with_frames F m = record { frames = F; store = m.store; globals = m.globals; builtins = m.builtins; result = m.result }

abbrev pub with_result : Result → M → M
with_result r m = record { frames = m.frames; store = m.store; globals = m.globals; builtins = m.builtins; result = r }

abbrev pub with_store : List Frame → List Object → M → M
with_store F s m = record { frames = F; store = s; globals = m.globals; builtins = m.builtins; result = m.result }

-- ---- Costs: "A frame costs 6, plus its locals, stack values and 2 per handler"
unfoldable pub frame_cost : Frame → ℕ
frame_cost (lucia c p l s hs) = 6 + length l + length s + 2 * length hs
frame_cost (host n w s hs) = 6 + length s + 2 * length hs
frame_cost (effect_callback e s hs) = 6 + length s + 2 * length hs

unfoldable pub frames_cost : List Frame → ℕ
frames_cost [] = 0
frames_cost (f ∷ fs) = frame_cost f + frames_cost fs

-- "A closure costs 1 plus upvalues, a list 1 plus items, a continuation 1 plus its frames"
unfoldable pub cost : Object → ℕ
cost (closure c us) = 1 + length us
cost (list vs) = 1 + length vs
cost (continuation K) = 1 + frames_cost K

-- the cells that the store uses: its next handle
unfoldable pub used : List Object → ℕ
used [] = 0
used (o ∷ os) = cost o + used os

-- "An effect result's arguments cost one live cell each"
unfoldable pub result_cost : Result → ℕ
result_cost running = 0
result_cost (returned v) = 0
result_cost (failed x) = 0
result_cost (unhandled e args) = length args

-- ---- The object whose first cell is k
pub data Lookup : Type 0 where
  here : Object → Lookup
  absent : Lookup

unfoldable pub object_at : List Object → ℕ → Lookup
object_at [] k = absent
object_at (o ∷ os) k = if? (eqb k 0) (here o) (if? (ltb k (cost o)) absent (object_at os (k - cost o)))

-- ---- `check_args`, `parse_args_to_stack`
unfoldable pub check_args : Params → List Cell → Bool
check_args p args = if? p.variadic (leb p.count (length args)) (eqb p.count (length args))

-- a count that is refused: too few for a variadic has no upper end
abbrev pub wrong_count : Params → List Cell → Error
wrong_count p args = call_arguments p.count p.variadic (length args)

pub record Parsed : Type 0 where
  pub args : List Cell
  pub store : List Object

-- a variadic takes the arguments past its count as one new list
unfoldable pub parse : (variadic : Bool) → ℕ → List Cell → List Object → Parsed
parse true n args s = record { args = take n args ++ (list_at (used s) ∷ []); store = s ++ (list (drop n args) ∷ []) }
parse false n args s = record { args = args; store = s }

abbrev pub parse_args : Params → List Cell → List Object → Parsed
parse_args p args s = parse p.variadic p.count args s

-- ---- The operation rule: "the highest frame holding the effect, the top frame excepted; the continuation is the frames above it"
unfoldable pub holds : Program → Cell → List Cell → Bool
holds P e [] = false
holds P e (x ∷ xs) = if? (equal_effects P x e) true (holds P e xs)

unfoldable pub effects : List Handler → List Cell
effects [] = []
effects (h ∷ hs) = h.effect ∷ effects hs

unfoldable pub target_of : Program → Cell → List Handler → ℕ
target_of P e [] = 0
target_of P e (h ∷ hs) = if? (equal_effects P h.effect e) h.target (target_of P e hs)

unfoldable pub handlers_of : Frame → List Cell
handlers_of (lucia c p l s hs) = effects hs
handlers_of (host n w s hs) = hs
handlers_of (effect_callback x s hs) = hs

-- a search for a handler: the frames above, the frame that has it, the frames below; or nowhere
pub data Found : Type 0 where
  found : (above : List Frame) (handler : Frame) (below : List Frame) → Found
  nowhere : Found

unfoldable pub under : Frame → Found → Found
under f (found above h below) = found (f ∷ above) h below
under f nowhere = nowhere

unfoldable pub find : Program → Cell → List Frame → Found
find P e [] = nowhere
find P e (f ∷ fs) = if? (holds P e (handlers_of f)) (found [] f fs) (under f (find P e fs))

unfoldable pub search : Program → Cell → List Frame → Found
search P e [] = nowhere
search P e (top ∷ fs) = under top (find P e fs)

-- "A Lucia frame loses its handlers, gets continuation, arguments and effect on its stack, and goes to the target. A callback frame loses its own too, and gets
-- effect, continuation, arguments on an emptied stack"
unfoldable pub enter : Program → Cell → Cell → List Cell → Frame → Frame
enter P e k args (lucia c p l s hs) = lucia c (target_of P e hs) l (e ∷ reverse args ++ k ∷ s) []
enter P e k args (host n w s hs) = host n w (reverse (e ∷ k ∷ args)) []
enter P e k args (effect_callback x s hs) = effect_callback x (reverse (e ∷ k ∷ args)) []

-- the frames above become a continuation; if nothing handles e, `left` is the result
unfoldable pub capture : Program → Params → Cell → List Cell → Result → M → Found → M
capture P p e args left m nowhere = with_result left m
capture P p e args left m (found above h below) =
    let a = parse_args p args (m.store ++ (continuation above ∷ [])) in
    with_store (enter P e (continuation_at (used m.store)) a.args h ∷ below) a.store m

-- `perform_effect_with`: a wrong count is thrown
unfoldable pub perform_by : (Error → M → M) → Program → Cell → List Cell → Result → M → M
perform_by throw P e args left m =
    if? (check_args (effect_params P e) args)
    (capture P (effect_params P e) e args left m (search P e m.frames))
    (throw (wrong_count (effect_params P e) args) m)

-- `throw_error` performs its builtin; throws left fall from one to none, since the error always fits
unfoldable pub throw_error : ℕ → Program → Error → M → M
throw_error zero P x m = m
throw_error (suc n) P x m = perform_by (throw_error n P) P (thrown x) (shown x ∷ []) (failed x) m

unfoldable pub perform_effect : Program → Cell → List Cell → M → M
perform_effect P e args m = perform_by (throw_error 1 P) P e args (unhandled e args) m

-- ---- Functions: what a value is when it is called
pub data Function : Type 0 where
  is_closure : (handle code : ℕ) → Function
  is_callback : (number word : ℕ) → Function
  is_effect_callback : (effect : Cell) → Function
  is_continuation : (handle : ℕ) (frames : List Frame) → Function
  is_none : Function

unfoldable pub closure_function : ℕ → Lookup → Function
closure_function k (here (closure c us)) = is_closure k c
closure_function k (here (list vs)) = is_none
closure_function k (here (continuation K)) = is_none
closure_function k absent = is_none

unfoldable pub continuation_function : ℕ → Lookup → Function
continuation_function k (here (closure c us)) = is_none
continuation_function k (here (list vs)) = is_none
continuation_function k (here (continuation K)) = is_continuation k K
continuation_function k absent = is_none

unfoldable pub function_of : List Object → Cell → Function
function_of s v =
    if? (is_effect v) (is_effect_callback v)
    (if? (eqb v.tag 39) (is_callback v.number v.payload)
    (if? (eqb v.tag 7) (closure_function v.number (object_at s v.number))
    (if? (eqb v.tag 23) (continuation_function v.number (object_at s v.number)) is_none)))

-- ---- Resume: the frames as captured, with the value on the last one's stack, or alone there in a callback frame
unfoldable pub give : Cell → Frame → Frame
give v (lucia c p l s hs) = lucia c p l (v ∷ s) hs
give v (host n w s hs) = host n w (v ∷ []) hs
give v (effect_callback e s hs) = effect_callback e (v ∷ []) hs

unfoldable pub put_back : Cell → List Frame → List Frame
put_back v [] = []
put_back v (f ∷ fs) = give v f ∷ fs

unfoldable pub resume : Program → List Frame → List Cell → M → M
resume P K [] m = throw_error 1 P (call_arguments 1 false 0) m
resume P K (v ∷ []) m = with_frames (put_back v K ++ m.frames) m
resume P K (v ∷ w ∷ vs) m = throw_error 1 P (call_arguments 1 false (length (v ∷ w ∷ vs))) m

-- ---- `call_function`, `return_value`
-- a new frame of a closure: its place is 0, its locals are null, its stack the parsed arguments
abbrev pub new_frame : ℕ → Code → List Cell → Frame
new_frame h c args = lucia h 0 (replicate c.locals null) (reverse args) []

unfoldable pub call_closure : Program → ℕ → Code → List Cell → M → M
call_closure P h c args m =
    if? (check_args (code_params c) args)
    (let a = parse_args (code_params c) args m.store in with_store (new_frame h c a.args ∷ m.frames) a.store m)
    (throw_error 1 P (wrong_count (code_params c) args) m)

unfoldable pub call_function : Program → Function → Cell → List Cell → M → M
call_function P (is_closure h c) f args m = call_closure P h (code_of P c) args m
call_function P (is_callback n w) f args m = with_frames (host n w (reverse args) [] ∷ m.frames) m
call_function P (is_effect_callback e) f args m = with_frames (effect_callback e (reverse args) [] ∷ m.frames) m
call_function P (is_continuation k K) f args m = resume P K args m
call_function P is_none f args m = throw_error 1 P (meta_un_operator 0 (type_of f)) m

-- a frame returned to loses its handlers
unfoldable pub receive : Cell → Frame → Frame
receive v (lucia c p l s hs) = lucia c p l (v ∷ s) []
receive v (host n w s hs) = host n w (v ∷ []) []
receive v (effect_callback e s hs) = effect_callback e (v ∷ []) []

unfoldable pub return_value : Cell → List Frame → M → M
return_value v [] m = with_result (returned v) m
return_value v (f ∷ fs) m = with_frames (receive v f ∷ fs) m
