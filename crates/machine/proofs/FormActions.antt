-- What a step or a request takes from a machine in form is in form: the values that it leaves exist, and its counts are within their limits.
use Rattle.std.specs.Prelude.{◌≡◌, Option, Some, None, Bool, not, take, set, leb, ltb, eqb}
use Rattle.std.proofs.Math.Path.{refl}
use mathlib.Core.List.{List, [], ◌∷◌, ◌++◌, reverse, map}
use Rattle.std.proofs.Math.Bool.{true, false}
use Prim.Native.Nat.{ℕ, zero, suc, ◌+◌, ◌-◌, ◌<◌, ◌≤◌}
use native.Mathlib.Omega.{arith}
use Rattle.std.proofs.Math.ListN.{length, get_or, drop, length-map, length-reverse}
use Rattle.std.proofs.Common.{eqb-true, leb-true}
use Rattle.cells.specs.Cells.{null}
use Rattle.cells.specs.declared.Cell.{Cell}
use Rattle.cells.specs.Le.{le_at}
use Rattle.image.specs.Records.{if?, both}
use Rattle.image.specs.Program.{operand_kind, no_op}
use Rattle.image.specs.Fine.{Accepted, no_constant, bytes_of}
use Rattle.image.proofs.Parts.{first, second}
use Rattle.image.specs.declared.Capture.{Capture}
use Rattle.ints.specs.Ints.{half, div, rem, lt, le, gt, ge}
use Rattle.machine.specs.Values.{Program, code_of, type_of, is_null, is_effect, equal, equal_effects, match_effect_handler, effect_params, un_operator, Computed, computes, fails, divides, unary, of_ints, binary}
use Rattle.machine.specs.Machine.{Handler, Frame, lucia, host, effect_callback, Object, closure, list, continuation, M, frame_cost, frames_cost, Lookup, here, absent, object_at, effects, function_of}
use Rattle.machine.specs.Opcodes.{Action, performs, throws, clears, Taken, takes, refuses, Running, stacked, with_top, with_two, computed, reaches, swapped, captured, load_const, load_global, Operands, operands_of, callable, call_taken, build_list, pop_jump, jump_or_pop, registered, register_handler, check_effect, between, opcode_action, closure_action, next_action}
use Rattle.machine.specs.Calls.{World, is_value, are_values, is_function, CallbackReturn, call_with, perform, tail_call, tail_perform, return_it, error_with, panic_with, Request, start, answer, clear, text, bytes, set_global, get_global, set_builtin, get_builtin, fit, few, without, distinct, answer_action, answered, idle, request_action}
use Rattle.machine.specs.Demand.{All}
use Rattle.machine.specs.StepLaws.{Grown}
use Rattle.machine.proofs.StepLaws.{if_cases}
use Rattle.machine.proofs.Refusals.{take_short}
use Rattle.machine.proofs.Formed.{all_map}
use Rattle.machine.specs.Form.{FrameFits, ErrorFits}
use Rattle.machine.specs.ValueLaws.{Value, Effect}
use Rattle.machine.proofs.ValueLaws.{all_take, all_drop, all_reverse, all_get, all_set, all_mapped, all_values, values_all, effects_all, type_small, null_value, bool_value, constant_value_lem, new_list, new_closure}
use Rattle.machine.specs.FormRules.{Carried, Carries, Held, LeftCarries}
use Rattle.machine.proofs.FormRules.{carries, all_carry, carries_grown, object_at_lem}
use Rattle.machine.specs.FormActions.{Taking, took, none}
use Rattle.machine.proofs.Store.{same_code}

-- ---- Operators
module _ (P : Program) (s : List Object) where
  -- what an operator gives is a value, its error in form
  abbrev ComputedFits : Computed → Type 0
  ComputedFits (computes v) = Value P s v
  ComputedFits (fails x) = ErrorFits P s x

  unary_fits : (op : ℕ) (v : Cell) → op < 52 → Value P s v → ComputedFits (unary op v)
  unfolding unary is_value
  unary_fits op v l h =
      let t = type_small P s v h in
      if_cases ComputedFits (eqb op 17) _ _
      (λ _. if_cases ComputedFits (eqb v.tag 2) _ _ (λ _. refl) (λ _. (omega arith, t)))
      (λ _. if_cases ComputedFits (eqb v.tag 1) _ _ (λ _. bool_value P s (eqb v.number 0)) (λ _. (l, t)))

  divides_fits : (d : Option ℕ) → ComputedFits (divides d)
  unfolding divides is_value
  divides_fits (Some n) = refl
  divides_fits None = tt

  ints_fits : (op a b : ℕ) → ComputedFits (of_ints op a b)
  unfolding of_ints is_value
  ints_fits op a b =
      if_cases ComputedFits (eqb op 19) _ _ (λ _. refl) (λ _.
      if_cases ComputedFits (eqb op 20) _ _ (λ _. refl) (λ _.
      if_cases ComputedFits (eqb op 21) _ _ (λ _. refl) (λ _.
      if_cases ComputedFits (eqb op 22) _ _ (λ _. divides_fits (div half a b)) (λ _.
      if_cases ComputedFits (eqb op 23) _ _ (λ _. divides_fits (rem half a b)) (λ _.
      if_cases ComputedFits (eqb op 26) _ _ (λ _. bool_value P s (gt half a b)) (λ _.
      if_cases ComputedFits (eqb op 27) _ _ (λ _. bool_value P s (ge half a b)) (λ _.
      if_cases ComputedFits (eqb op 28) _ _ (λ _. bool_value P s (lt half a b)) (λ _. bool_value P s (le half a b)))))))))

  binary_fits : (op : ℕ) (a b : Cell) → op ≤ 29 → Value P s a → Value P s b → ComputedFits (binary P op a b)
  unfolding binary
  binary_fits op a b l h k =
      if_cases ComputedFits (eqb op 24) _ _ (λ _. bool_value P s (equal P a b)) (λ _.
      if_cases ComputedFits (eqb op 25) _ _ (λ _. bool_value P s (not (equal P a b))) (λ _.
      if_cases ComputedFits (both (eqb a.tag 2) (eqb b.tag 2)) _ _ (λ _. ints_fits op a.payload b.payload) (λ _. (omega (arith, l), type_small P s a h, type_small P s b k))))

  registered_named : (e : Cell) (t n : ℕ) (hs : List Handler) → Effect P s e → All (Effect P s) (effects hs) → All (Effect P s) (effects (registered P e t n hs))
  unfolding registered effects
  registered_named e t n [] x h = (x, tt)
  registered_named e t n (y ∷ hs) x h = if_cases (λ (l : List Handler). All (Effect P s) (effects l)) (equal_effects P y.effect e) _ _ (λ _. h) (λ _. (h.0, registered_named e t n hs x h.1))

-- ---- Opcodes
-- The running frame's values exist, and those of the frames below it; it and its code have their counts.
record Carrying (P : Program) (m : M) (r : Running) : Type 0 where
  held : Held P m
  locals : All (Value P m.store) r.locals
  upvalues : All (Value P m.store) r.upvalues
  stack : All (Value P m.store) r.stack
  named : All (Effect P m.store) (effects r.handlers)
  below : All (Carries P m.store) r.below
  few : suc (length r.below) ≤ 256
  short : length r.stack ≤ 4096
  known : r.number < length P.codes
  code : code_of P r.number ≡ r.code

module _ (P : Program) (a : Accepted P.image P.codes) (m : M) (r : Running) (w : Carrying P m r) where
  abbrev Has : Cell → Type 0
  Has = Value P m.store

  abbrev Q : Action → Type 0
  Q = LeftCarries P m.store

  abbrev If : Taken → Type 0
  If = Taking Q

  -- the frame at any place, with another stack
  onto : {p : ℕ} {st : List Cell} → All Has st → Carries P m.store (lucia r.handle p r.locals st r.handlers) × All (Carries P m.store) r.below
  onto h = (record { carried = (w.locals, h, w.named) }, w.below)

  -- and with a new object, of which v is the handle
  made : (o : Object) (v : Cell) (st : List Cell) → Value P (m.store ++ (o ∷ [])) v → All Has st → All (Carries P (m.store ++ (o ∷ []))) (stacked r (v ∷ st))
  made o v st x h =
      let g : Grown m.store (m.store ++ (o ∷ [])) = record { new = o ∷ []; store = refl } in
      let k = (carries_grown P g (lucia r.handle r.place r.locals st r.handlers) (record { carried = (w.locals, h, w.named) })).carried in
      (record { carried = (k.0, (x, k.1), k.2) }, all_map (carries_grown P g) r.below w.below)

  get : (l : List Cell) (i : ℕ) → All Has l → Has (get_or l i null)
  get l i h = all_get Has l i null (null_value P m.store) h

  or : (b : Bool) (x y : Action) → Q x → Q y → Q (if? b x y)
  or b x y h k = if_cases Q b x y (λ _. h) (λ _. k)

  top : (d : Cell → List Cell → Action) → ((v : Cell) (st : List Cell) → Has v → All Has st → Q (d v st)) → If (with_top r.stack d)
  unfolding with_top
  top d k = by r.stack w.stack
    where
      by : (st : List Cell) → All Has st → If (with_top st d)
      by [] h = none 12
      by (v ∷ st) h = took (d v st) (k v st h.0 h.1)

  two : (d : Cell → Cell → List Cell → Action) → ((v x : Cell) (st : List Cell) → Has v → Has x → All Has st → Q (d v x st)) → If (with_two r.stack d)
  unfolding with_two
  two d k = by r.stack w.stack
    where
      by : (st : List Cell) → All Has st → If (with_two st d)
      by [] h = none 12
      by (v ∷ []) h = none 12
      by (v ∷ x ∷ st) h = took (d v x st) (k v x st h.0 h.1.0 h.1.1)

  computed_carries : (st : List Cell) (c : Computed) → All Has st → ComputedFits P m.store c → Q (computed r st c)
  unfolding computed
  computed_carries st (computes v) h k = onto (k, h)
  computed_carries st (fails x) h k = (k, w.few, onto h)

  swapped_values : (k : ℕ) → All Has (swapped k r.stack)
  swapped_values k =
      let bottom = get_or r.stack 0 null in
      all_set Has (set r.stack k bottom) 0 (get_or r.stack k null) (get r.stack k w.stack) (all_set Has r.stack k bottom (get r.stack 0 w.stack) w.stack)

  global_value : (g : ℕ) → Has (load_global m g)
  unfolding load_global
  global_value g = if_cases Has (is_null (get_or m.globals g null)) _ _ (λ _. get m.builtins g w.held.builtins) (λ _. get m.globals g w.held.globals)

  captured_value : (c : Capture) → Has (captured r c)
  captured_value c = if_cases Has (eqb c.from 0) _ _ (λ _. get r.locals c.index w.locals) (λ _. get r.upvalues c.index w.upvalues)

  const_carries : (i : ℕ) → i < length r.code.constants → If (load_const P m r i)
  unfolding load_const
  const_carries i l =
      let k = get_or r.code.constants i no_constant in
      let n = le_at 2 (bytes_of P.image k) 0 in
      let c = get_or r.code.codes n 0 in
      let us = map (captured r) (code_of P c).captures in
      let f = rw w.code at (a.fine r.number w.known) in
      if_cases If (eqb k.kind 22) _ _
      (λ q. took _ (
        (f.below n ((f.valued i l).function (eqb-true _ 22 q)), length-map (code_of P c).captures (captured r), all_values P m.store us (all_mapped Has (captured r) (code_of P c).captures captured_value)),
        made (closure c us) _ r.stack (new_closure P m.store c us) w.stack,
      ))
      (λ _. took _ (onto (rw w.code at (constant_value_lem P m.store a r.number i w.known (rw w.code l)), w.stack)))

  taken_short : (n : ℕ) → length (reverse (take n r.stack)) ≤ 4096
  taken_short n = omega (arith, length-reverse (take n r.stack), take_short n r.stack, w.short)

  taken_values : (n : ℕ) → All Has (reverse (take n r.stack))
  taken_values n = all_reverse Has (take n r.stack) (all_take Has n r.stack w.stack)

  list_carries : (n : ℕ) → If (build_list m r n)
  unfolding build_list
  list_carries n =
      let vs = reverse (take n r.stack) in
      if_cases If (leb n (length r.stack)) _ _
      (λ _. took _ ((taken_short n, all_values P m.store vs (taken_values n)), made (list vs) _ (drop n r.stack) (new_list P m.store vs) (all_drop Has n r.stack w.stack))) (λ _. none 12)

  -- what a call leaves of the frames
  abbrev Leaves : (List Cell → List Frame) → Type 0
  Leaves F = (st : List Cell) → All Has st → (length (F st) ≤ 256) × All (Carries P m.store) (F st)

  call_carries : (n : ℕ) (kept left : List Cell → List Frame) → Leaves kept → Leaves left → If (call_taken m.store (operands_of n r.stack) kept left)
  unfolding operands_of call_taken
  call_carries n kept left h k =
      let f = get_or r.stack n null in
      let v = get r.stack n w.stack in
      let under = drop (n + 1) r.stack in
      let rest = all_drop Has (n + 1) r.stack w.stack in
      if_cases (λ (o : Operands). If (call_taken m.store o kept left)) (ltb n (length r.stack)) _ _
      (λ _. if_cases If (callable (function_of m.store f)) _ _
      (λ _. took _ (v, taken_values n, taken_short n, (k under rest).0, (k under rest).1)) (λ _. took _ ((omega arith, type_small P m.store f v), (h under rest).0, (h under rest).1)))
      (λ _. none 12)

  -- a throw of an operator's error over the frame
  un_thrown : (op x : ℕ) (v : Cell) (st : List Cell) → op < 52 → Has v → All Has st → Q (throws (un_operator op x (type_of v)) (stacked r st))
  un_thrown op x v st l h k = ((l, type_small P m.store v h), w.few, onto k)

  pop_carries : (op x truth : ℕ) → op < 52 → (v : Cell) (st : List Cell) → Has v → All Has st → Q (pop_jump r op x truth v st)
  unfolding pop_jump
  pop_carries op x truth l v st h k = or (eqb v.tag 1) _ _ (or (eqb v.number truth) _ _ (onto k) (onto k)) (un_thrown op x v st l h k)

  jump_carries : (op x truth : ℕ) → op < 52 → (v : Cell) (st : List Cell) → Has v → All Has st → Q (jump_or_pop r op x truth v st)
  unfolding jump_or_pop
  jump_carries op x truth l v st h k = or (eqb v.tag 1) _ _ (or (eqb v.number truth) _ _ (onto (h, k)) (onto k)) (un_thrown op x v (v ∷ st) l h (h, k))

  register_carries : (t : ℕ) (e : Cell) (st : List Cell) → Has e → All Has st → Q (register_handler P r t e st)
  unfolding register_handler
  register_carries t e st h k =
      if_cases Q (is_effect e) _ _ (λ q. (record { carried = (w.locals, k, registered_named P m.store e t (length st) r.handlers (h, q) w.named) }, w.below)) (λ _. un_thrown 49 t e st (omega arith) h k)

  check_carries : (x : ℕ) (expected e : Cell) (st : List Cell) → Has expected → Has e → All Has st → Q (check_effect P r x expected e st)
  unfolding check_effect
  check_carries x expected e st h j k =
      or (both (both (is_effect e) (is_effect expected)) (match_effect_handler (effect_params P e) (effect_params P expected))) _ _ (onto k)
      ((omega arith, type_small P m.store expected h, type_small P m.store e j), w.few, onto k)

  module _ (op x : ℕ) (constant : op ≡ 6 → x < length r.code.constants) where
    is : (k : ℕ) {t u : Taken} → (op ≡ k → If t) → If u → If (if? (eqb op k) t u)
    is k {t} {u} f g = if_cases If (eqb op k) t u (λ q. f (eqb-true op k q)) (λ _. g)

    up_to : (i j : ℕ) {t u : Taken} → (op ≤ j → If t) → If u → If (if? (between i j op) t u)
    up_to i j {t} {u} f g = if_cases If (between i j op) t u (λ q. f (leb-true op j (second (leb i op) _ q))) (λ _. g)

    reached : {t : Taken} → If t → If (if? (reaches x r.stack) t (refuses 12))
    reached {t} h = if_cases If (reaches x r.stack) t _ (λ _. h) (λ _. none 12)

    opcode_carries : If (opcode_action P m r op x)
    unfolding opcode_action
    opcode_carries =
        is 0 (λ e. top _ (λ v st h k. onto k))
        (is 1 (λ e. reached (took _ (onto (get r.stack (x - 1) w.stack, w.stack))))
        (is 2 (λ e. reached (took _ (onto (swapped_values (x - 1)))))
        (is 3 (λ e. took _ (onto (get r.locals x w.locals, w.stack)))
        (is 4 (λ e. took _ (onto (global_value (get_or r.code.globals x 0), w.stack)))
        (is 5 (λ e. took _ (onto (get r.upvalues x w.upvalues, w.stack)))
        (is 6 (λ e. const_carries x (constant e))
        (is 7 (λ e. top _ (λ v st h k. (record { carried = (all_set Has r.locals x v h w.locals, k, w.named) }, w.below)))
        (is 8 (λ e. top _ (λ v st h k. (h, onto k)))
        (is 10 (λ e. list_carries x)
        (up_to 17 18 (λ l. top _ (λ v st h k. computed_carries st (unary op v) k (unary_fits P m.store op v (omega (arith, l)) h)))
        (up_to 19 29 (λ l. two _ (λ b a st h j k. computed_carries st (binary P op a b) k (binary_fits P m.store op a b l j h)))
        (is 30 (λ e. top _ (λ v st h k. onto (bool_value P m.store (eqb (type_of v) x), k)))
        (is 36 (λ e. call_carries x _ _ (λ st h. (w.few, onto h)) (λ st h. (w.few, onto h)))
        (is 37 (λ e. top _ (λ v st h k. (h, w.below)))
        (is 38 (λ e. call_carries x _ _ (λ st h. (w.few, onto h)) (λ st h. (omega (arith, w.few), w.below)))
        (up_to 40 43 (λ l. took _ (onto w.stack))
        (is 44 (λ e. top _ (λ v st h k. or (is_null v) _ _ (onto k) (onto (h, k))))
        (is 45 (λ e. top _ (pop_carries op x 1 (omega arith)))
        (is 46 (λ e. top _ (pop_carries op x 0 (omega arith)))
        (is 47 (λ e. top _ (jump_carries op x 1 (omega arith)))
        (is 48 (λ e. top _ (jump_carries op x 0 (omega arith)))
        (is 49 (λ e. top _ (register_carries x))
        (is 50 (λ e. two _ (check_carries x))
        (is 51 (λ e. took _ (onto w.stack)) (none 3)))))))))))))))))))))))))

-- ---- The next action
module _ (P : Program) (a : Accepted P.image P.codes) where
  closure_carries : (m : M) (h p : ℕ) (l st : List Cell) (hs : List Handler) (below : List Frame) (o : Lookup) → object_at m.store h ≡ o → Held P m
      → All (FrameFits P m.store) (lucia h p l st hs ∷ below) → suc (length below) ≤ 256 → length st ≤ 4096 → Taking (LeftCarries P m.store) (closure_action P m h p l st hs below o)
  unfolding closure_action operand_kind
  closure_carries m h p l st hs below (here (closure c us)) q d w n k =
      let s = m.store in
      let i = w.0.formed.stands in
      let e : i.code ≡ c = same_code i.closure_there q in
      let known : c < length P.codes = rw e at i.known in
      let v = carries P s (lucia h p l st hs) w.0 in
      let operand = (a.fine c known).operand p (rw e at i.place) in
      opcode_carries P a m _ (record {
        held = d;
        locals = v.0;
        upvalues = values_all P s us (object_at_lem P [] s h (closure c us) d.store q).2;
        stack = v.1;
        named = v.2;
        below = all_carry P s below w.1;
        few = n;
        short = k;
        known = known;
        code = refl;
      })
      (get_or (code_of P c).opcodes p no_op).number (get_or (code_of P c).opcodes p no_op).operand (λ six. rw six at operand)
  closure_carries m h p l st hs below (here (list vs)) q d w n k = none 7
  closure_carries m h p l st hs below (here (continuation K)) q d w n k = none 7
  closure_carries m h p l st hs below absent q d w n k = none 7

  -- The next step of a machine in form, whose frames take at most 4,096 cells, takes what is in form.
  pub next_carries : (m : M) (F : List Frame) → Held P m → All (FrameFits P m.store) F → length F ≤ 256 → frames_cost F ≤ 4096 → Taking (LeftCarries P m.store) (next_action P m F)
  unfolding next_action frames_cost frame_cost
  next_carries m [] d w n k = none 11
  next_carries m (lucia h p l st hs ∷ below) d w n k = closure_carries m h p l st hs below (object_at m.store h) refl d w n (omega (arith, k))
  next_carries m (host i x st hs ∷ below) d w n k = none 11
  next_carries m (effect_callback e st hs ∷ below) d w n k =
      let v = carries P m.store (effect_callback e st hs) w.0 in
      took (performs e (reverse st) below) (v.0, all_reverse (Value P m.store) st v.1, omega (arith, k, length-reverse st), omega (arith, n), all_carry P m.store below w.1)

-- ---- What a request asks for
module _ (P : Program) (s : List Object) where
  fit_carries : (b : Bool) (d : Action) → (b ≡ true → LeftCarries P s d) → Taking (LeftCarries P s) (fit b d)
  unfolding fit
  fit_carries true d h = took d (h refl)
  fit_carries false d h = none 5

  without_all_lem : (Q : Cell → Type 0) (e : Cell) (es : List Cell) → All Q es → All Q (without P e es)
  unfolding without
  without_all_lem Q e [] h = tt
  without_all_lem Q e (x ∷ es) h = if_cases (All Q) (equal_effects P e x) _ _ (λ _. without_all_lem Q e es h.1) (λ _. (h.0, without_all_lem Q e es h.1))

  distinct_all : (Q : Cell → Type 0) (n : ℕ) (es : List Cell) → All Q es → All Q (distinct P n es)
  unfolding distinct
  distinct_all Q zero es h = tt
  distinct_all Q (suc n) [] h = tt
  distinct_all Q (suc n) (e ∷ es) h = (h.0, distinct_all Q n (without P e es) (without_all_lem Q e es h.1))

  -- the tests of the values of a call or perform
  called : (v is_it : Bool) (args hs : List Cell) → both (both v is_it) (both (are_values P s args) (few args hs)) ≡ true → (v ≡ true) × (is_it ≡ true) × All (Value P s) args × (length args ≤ 4096)
  called v is_it args hs h =
      let a = first (both v is_it) _ h in
      let b = second (both v is_it) _ h in
      (first _ _ a, second v _ a, values_all P s args (first _ _ b), omega (arith, leb-true (length args + length hs) _ (second (are_values P s args) _ b)))

  module _ (n word : ℕ) (st hs : List Cell) (below : List Frame) (w : Carried P s (host n word st hs)) (k : All (Carries P s) below) (l : suc (length below) ≤ 256) where
    abbrev self : List Cell → Frame
    self new = host n word st new

    answer_carries : (r : CallbackReturn) → Taking (LeftCarries P s) (answer_action P s self hs below r)
    unfolding answer_action
    answer_carries (call_with f args new) = fit_carries _ _ (λ h.
        let c = called _ _ args new (first _ _ h) in
        let b = second (both (both (is_value P s f) (is_function (function_of s f))) (both (are_values P s args) (few args new))) _ h in
        let e = effects_all P s new (first _ _ b) (second (are_values P s new) _ b) in
        (c.0, c.2, c.3, l, (record { carried = (w.0, distinct_all (Effect P s) (length new) new e) }, k)))
    answer_carries (perform e args) = fit_carries _ _ (λ h. let c = called _ _ args [] h in ((c.0, c.1), c.2, c.3, l, (record { carried = w }, k)))
    answer_carries (tail_call f args) = fit_carries _ _ (λ h. let c = called _ _ args [] h in (c.0, c.2, c.3, omega (arith, l), k))
    answer_carries (tail_perform e args) = fit_carries _ _ (λ h. let c = called _ _ args [] h in ((c.0, c.1), c.2, c.3, omega (arith, l), k))
    answer_carries (return_it v) = fit_carries _ _ (λ h. (h, k))
    answer_carries (error_with v) = fit_carries _ _ (λ h. (h, l, (record { carried = w }, k)))
    answer_carries (panic_with v) = fit_carries _ _ (λ h. (h, l, (record { carried = w }, k)))

  answered_carries : (word : ℕ) (r : CallbackReturn) (F : List Frame) → All (FrameFits P s) F → length F ≤ 256 → Taking (LeftCarries P s) (answered P s word r F)
  unfolding answered
  answered_carries word r [] w l = none 11
  answered_carries word r (lucia c p v st hs ∷ below) w l = none 11
  answered_carries word r (host n x st hs ∷ below) w l = answer_carries n word st hs below (carries P s (host n x st hs) w.0) (all_carry P s below w.1) l r
  answered_carries word r (effect_callback e st hs ∷ below) w l = none 11

pub request_carries : (P : Program) (q : Request) (w : World) → All (FrameFits P w.machine.store) w.machine.frames → length w.machine.frames ≤ 256 → Taking (LeftCarries P w.machine.store) (request_action P q w)
unfolding request_action
request_carries P q w h l = by q
  where
    s : List Object
    s = w.machine.store

    k : All (Carries P s) w.machine.frames
    k = all_carry P s w.machine.frames h

    by : (q : Request) → Taking (LeftCarries P s) (request_action P q w)
    by (start f args) = if_cases (Taking (LeftCarries P s)) (idle w.machine.result w.machine.frames) _ _
        (λ _. fit_carries P s _ _ (λ t. let c = called P s _ _ args [] t in (c.0, c.2, c.3, omega arith, tt))) (λ _. none 11)
    by (answer word fuel r) = if_cases (Taking (LeftCarries P s)) w.wait _ _ (λ _. answered_carries P s word r w.machine.frames h l) (λ _. none 11)
    by clear = took clears tt
    by (text page v) = fit_carries P s _ _ (λ _. k)
    by (bytes v) = fit_carries P s _ _ (λ _. k)
    by (set_global g v) = fit_carries P s _ _ (λ t. (second (ltb g 256) _ t, k))
    by (get_global g) = fit_carries P s _ _ (λ _. k)
    by (set_builtin g v) = fit_carries P s _ _ (λ t. (second (ltb g 256) _ t, k))
    by (get_builtin g) = fit_carries P s _ _ (λ _. k)

pub taken_carries : {Q : Action → Type 0} {t : Taken} (d : Action) → Taking Q t → t ≡ takes d → Q d
taken_carries d (took x h) q = let y : x ≡ d = cc in rw y at h
taken_carries d (none n) q = let z : ◌≡◌ {A = ℕ} 0 1 = cc in absurd (omega arith)
