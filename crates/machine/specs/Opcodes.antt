-- One step: the opcode of a Lucia frame, or an effect callback. It is first cut down to its action, which says what is asked and with which frames left, and then done.
use Rattle.std.specs.Prelude.{List, [], ◌∷◌, ◌++◌, reverse, map, Bool, true, false, ℕ, ◌+◌, ◌-◌, length, get_or, take, drop, set, ltb, leb, eqb}
use Rattle.cells.specs.Le.{le_at}
use Rattle.cells.specs.Cells.{null}
use Rattle.cells.specs.declared.Cell.{Cell}
use Rattle.image.specs.Records.{if?, both}
use Rattle.image.specs.Program.{Code, no_op}
use Rattle.image.specs.Fine.{no_constant, bytes_of}
use Rattle.image.specs.declared.Capture.{Capture}
use Rattle.image.specs.declared.Constant.{Constant}
use Rattle.machine.specs.Values.{Program, code_of, cell, bool, int, builtin, list_at, closure_at, type_of, is_null, is_effect, equal_effects, effect_params, match_effect_handler, Error, un_operator, bin_operator, meta_un_operator, Computed, computes, fails, unary, binary}
use Rattle.machine.specs.Machine.{Handler, Frame, lucia, host, effect_callback, Object, closure, list, continuation, running, M, with_frames, with_store, used, Lookup, here, absent, object_at, perform_effect, throw_error, Function, is_closure, is_callback, is_effect_callback, is_continuation, is_none, function_of, call_function, return_value}

-- What a step does. `left` is the frames once its operands are taken, an answer's word and handlers are put in, and a tail call's own frame is gone.
pub data Action : Type 0 where
  goes : (left : List Frame) → Action
  jumps : (left : List Frame) → Action
  makes : (o : Object) (left : List Frame) → Action
  sets : (global : ℕ) (v : Cell) (left : List Frame) → Action
  sets_builtin : (name : ℕ) (v : Cell) (left : List Frame) → Action
  calls : (f : Cell) (args : List Cell) (left : List Frame) → Action
  performs : (effect : Cell) (args : List Cell) (left : List Frame) → Action
  throws : (x : Error) (left : List Frame) → Action
  returns : (v : Cell) (left : List Frame) → Action
  clears : Action

-- The machine once the action is done.
unfoldable pub doing : Program → Action → M → M
doing P (goes F) m = with_frames F m
doing P (jumps F) m = with_frames F m
doing P (makes o F) m = with_store F (m.store ++ (o ∷ [])) m
doing P (sets g v F) m = record { frames = F; store = m.store; globals = set m.globals g v; builtins = m.builtins; result = m.result }
doing P (sets_builtin g v F) m = record { frames = F; store = m.store; globals = m.globals; builtins = set m.builtins g v; result = m.result }
doing P (calls f args F) m = call_function P (function_of m.store f) f args (with_frames F m)
doing P (performs e args F) m = perform_effect P e args (with_frames F m)
doing P (throws x F) m = throw_error 1 P x (with_frames F m)
doing P (returns v F) m = return_value v F (with_frames F m)
doing P clears m = record { frames = []; store = m.store; globals = m.globals; builtins = m.builtins; result = running }

-- An action, or the number that refuses it.
pub data Taken : Type 0 where
  takes : Action → Taken
  refuses : ℕ → Taken

-- ---- The running frame, whose place is already past the opcode
pub record Running : Type 0 where
  pub handle : ℕ
  pub number : ℕ
  pub code : Code
  pub upvalues : List Cell
  pub place : ℕ
  pub locals : List Cell
  pub stack : List Cell
  pub handlers : List Handler
  pub below : List Frame

-- the frames with another stack; at another place; with other locals or handlers
abbrev pub stacked : Running → List Cell → List Frame
stacked r st = lucia r.handle r.place r.locals st r.handlers ∷ r.below

abbrev pub placed : Running → ℕ → List Cell → List Frame
placed r t st = lucia r.handle t r.locals st r.handlers ∷ r.below

-- a value is pushed
abbrev pub pushes : Running → Cell → Taken
pushes r v = takes (goes (stacked r (v ∷ r.stack)))

-- the top value, or the two top values, go on; 12 where there are too few
unfoldable pub with_top : List Cell → (Cell → List Cell → Action) → Taken
with_top [] f = refuses 12
with_top (v ∷ st) f = takes (f v st)

unfoldable pub with_two : List Cell → (Cell → Cell → List Cell → Action) → Taken
with_two [] f = refuses 12
with_two (v ∷ []) f = refuses 12
with_two (v ∷ w ∷ st) f = takes (f v w st)

-- what an operator gives is pushed, or its own error thrown
unfoldable pub computed : Running → List Cell → Computed → Action
computed r st (computes v) = goes (stacked r (v ∷ st))
computed r st (fails x) = throws x (stacked r st)

-- ---- `Copy` and `Swap` count from 1, the top
abbrev pub reaches : ℕ → List Cell → Bool
reaches i st = both (leb 1 i) (leb i (length st))

abbrev pub swapped : ℕ → List Cell → List Cell
swapped k st = set (set st k (get_or st 0 null)) 0 (get_or st k null)

-- ---- Constants, and closures of inner codes with what they capture
unfoldable pub constant_value : Program → ℕ → ℕ → Constant → Cell
constant_value P c i k =
    let b = bytes_of P.image k in
    if? (eqb k.kind 17) (cell 1 (get_or b 0 0) 0)
    (if? (eqb k.kind 18) (int (le_at 8 b 0))
    (if? (eqb k.kind 19) (cell 3 0 (le_at 8 b 0))
    (if? (eqb k.kind 20) (cell 4 c i)
    (if? (eqb k.kind 21) (cell 5 c i)
    (if? (eqb k.kind 23) (if? (leb (le_at 2 b 0) 2) (builtin (le_at 2 b 0)) (cell 24 c i)) null)))))

abbrev pub captured : Running → Capture → Cell
captured r c = if? (eqb c.from 0) (get_or r.locals c.index null) (get_or r.upvalues c.index null)

unfoldable pub load_const : Program → M → Running → ℕ → Taken
load_const P m r i =
    let k = get_or r.code.constants i no_constant in
    let c = get_or r.code.codes (le_at 2 (bytes_of P.image k) 0) 0 in
    if? (eqb k.kind 22)
    (takes (makes (closure c (map (captured r) (code_of P c).captures)) (stacked r (closure_at (used m.store) ∷ r.stack))))
    (pushes r (constant_value P r.number i k))

-- "Globals and builtins .. null when never set": a null global falls to the builtin
unfoldable pub load_global : M → ℕ → Cell
load_global m g = if? (is_null (get_or m.globals g null)) (get_or m.builtins g null) (get_or m.globals g null)

-- ---- Calls: the function lies under its arguments
pub data Operands : Type 0 where
  operands : (f : Cell) (args rest : List Cell) → Operands
  too_few : Operands

unfoldable pub operands_of : ℕ → List Cell → Operands
operands_of n st = if? (ltb n (length st)) (operands (get_or st n null) (reverse (take n st)) (drop (n + 1) st)) too_few

unfoldable pub callable : Function → Bool
callable (is_closure h c) = true
callable (is_callback n w) = true
callable (is_effect_callback e) = true
callable (is_continuation k K) = true
callable is_none = false

-- a call, whose caller is `kept` if the value is no function, and else `left`
unfoldable pub call_taken : List Object → Operands → (List Cell → List Frame) → (List Cell → List Frame) → Taken
call_taken s too_few kept left = refuses 12
call_taken s (operands f args rest) kept left =
    if? (callable (function_of s f)) (takes (calls f args (left rest))) (takes (throws (meta_un_operator 0 (type_of f)) (kept rest)))

unfoldable pub build_list : M → Running → ℕ → Taken
build_list m r n =
    if? (leb n (length r.stack))
    (takes (makes (list (reverse (take n r.stack))) (stacked r (list_at (used m.store) ∷ drop n r.stack))))
    (refuses 12)

-- ---- Jumps by a Bool: `truth` is taken, the other falls through; a value that is none throws
abbrev pub by_bool : Cell → ℕ → Action → Action → Action → Action
by_bool v truth taken falls other = if? (eqb v.tag 1) (if? (eqb v.number truth) taken falls) other

-- 45, 46 pop first; 47, 48 pop only where they fall through
unfoldable pub pop_jump : Running → ℕ → ℕ → ℕ → Cell → List Cell → Action
pop_jump r op x truth v rest = by_bool v truth (jumps (placed r x rest)) (goes (stacked r rest)) (throws (un_operator op x (type_of v)) (stacked r rest))

unfoldable pub jump_or_pop : Running → ℕ → ℕ → ℕ → Cell → List Cell → Action
jump_or_pop r op x truth v rest = by_bool v truth (jumps (placed r x (v ∷ rest))) (goes (stacked r rest)) (throws (un_operator op x (type_of v)) (stacked r (v ∷ rest)))

-- ---- Handlers: registering an equal effect again only replaces what is stored with it
unfoldable pub registered : Program → Cell → ℕ → ℕ → List Handler → List Handler
registered P e t n [] = record { effect = e; target = t; stack_size = n } ∷ []
registered P e t n (h ∷ hs) =
    if? (equal_effects P h.effect e) (record { effect = h.effect; target = t; stack_size = n } ∷ hs) (h ∷ registered P e t n hs)

unfoldable pub register_handler : Program → Running → ℕ → Cell → List Cell → Action
register_handler P r t e rest =
    if? (is_effect e)
    (goes (lucia r.handle r.place r.locals rest (registered P e t (length rest) r.handlers) ∷ r.below))
    (throws (un_operator 49 t (type_of e)) (stacked r rest))

unfoldable pub check_effect : Program → Running → ℕ → Cell → Cell → List Cell → Action
check_effect P r x expected e rest =
    if? (both (both (is_effect e) (is_effect expected)) (match_effect_handler (effect_params P e) (effect_params P expected)))
    (goes (stacked r rest)) (throws (bin_operator 50 x (type_of expected) (type_of e)) (stacked r rest))

-- ---- The 39 opcodes, by number; the others are in no accepted image
abbrev pub between : ℕ → ℕ → ℕ → Bool
between a b op = both (leb a op) (leb op b)

unfoldable pub opcode_action : Program → M → Running → ℕ → ℕ → Taken
opcode_action P m r op x =
    if? (eqb op 0) (with_top r.stack (λ (v : Cell) (st : List Cell). goes (stacked r st)))
    (if? (eqb op 1) (if? (reaches x r.stack) (pushes r (get_or r.stack (x - 1) null)) (refuses 12))
    (if? (eqb op 2) (if? (reaches x r.stack) (takes (goes (stacked r (swapped (x - 1) r.stack)))) (refuses 12))
    (if? (eqb op 3) (pushes r (get_or r.locals x null))
    (if? (eqb op 4) (pushes r (load_global m (get_or r.code.globals x 0)))
    (if? (eqb op 5) (pushes r (get_or r.upvalues x null))
    (if? (eqb op 6) (load_const P m r x)
    (if? (eqb op 7) (with_top r.stack (λ (v : Cell) (st : List Cell). goes (lucia r.handle r.place (set r.locals x v) st r.handlers ∷ r.below)))
    (if? (eqb op 8) (with_top r.stack (λ (v : Cell) (st : List Cell). sets (get_or r.code.globals x 0) v (stacked r st)))
    (if? (eqb op 10) (build_list m r x)
    (if? (between 17 18 op) (with_top r.stack (λ (v : Cell) (st : List Cell). computed r st (unary op v)))
    (if? (between 19 29 op) (with_two r.stack (λ (b a : Cell) (st : List Cell). computed r st (binary P op a b)))
    (if? (eqb op 30) (with_top r.stack (λ (v : Cell) (st : List Cell). goes (stacked r (bool (eqb (type_of v) x) ∷ st))))
    (if? (eqb op 36) (call_taken m.store (operands_of x r.stack) (stacked r) (stacked r))
    (if? (eqb op 37) (with_top r.stack (λ (v : Cell) (st : List Cell). returns v r.below))
    (if? (eqb op 38) (call_taken m.store (operands_of x r.stack) (stacked r) (λ (st : List Cell). r.below))
    (if? (between 40 43 op) (takes (jumps (placed r x r.stack)))
    (if? (eqb op 44) (with_top r.stack (λ (v : Cell) (st : List Cell). if? (is_null v) (jumps (placed r x st)) (goes (stacked r (v ∷ st)))))
    (if? (eqb op 45) (with_top r.stack (pop_jump r op x 1))
    (if? (eqb op 46) (with_top r.stack (pop_jump r op x 0))
    (if? (eqb op 47) (with_top r.stack (jump_or_pop r op x 1))
    (if? (eqb op 48) (with_top r.stack (jump_or_pop r op x 0))
    (if? (eqb op 49) (with_top r.stack (register_handler P r x))
    (if? (eqb op 50) (with_two r.stack (check_effect P r x))
    (if? (eqb op 51) (takes (goes (stacked r r.stack))) (refuses 3)))))))))))))))))))))))))

-- the frame of a closure runs its code; a handle at no closure can't come from a load
unfoldable pub closure_action : Program → M → ℕ → ℕ → List Cell → List Cell → List Handler → List Frame → Lookup → Taken
closure_action P m h p l st hs below (here (closure c us)) =
    let o = get_or (code_of P c).opcodes p no_op in
    opcode_action P m (record { handle = h; number = c; code = code_of P c; upvalues = us; place = p + 1; locals = l; stack = st; handlers = hs; below = below }) o.number o.operand
closure_action P m h p l st hs below (here (list vs)) = refuses 7
closure_action P m h p l st hs below (here (continuation K)) = refuses 7
closure_action P m h p l st hs below absent = refuses 7

-- The opcode or the effect callback that is next.
unfoldable pub next_action : Program → M → List Frame → Taken
next_action P m [] = refuses 11
next_action P m (lucia h p l st hs ∷ below) = closure_action P m h p l st hs below (object_at m.store h)
next_action P m (host n w st hs ∷ below) = refuses 11
next_action P m (effect_callback e st hs ∷ below) = takes (performs e (reverse st) below)
