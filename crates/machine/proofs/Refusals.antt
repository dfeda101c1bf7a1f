-- Which numbers refuse each kind of step: an effect callback, a throw, Return, RegisterHandler, Call and ReturnCall.
use Rattle.std.specs.Prelude.{◌≡◌, Bool, ℕ, zero, suc, ◌+◌, ◌≤◌, ◌<◌, get_or, take, drop, leb, ltb, eqb}
use Rattle.std.proofs.Math.Path.{refl, ap}
use mathlib.Core.List.{List, [], ◌∷◌, ◌++◌, reverse}
use Rattle.std.proofs.Math.Bool.{true, false}
use Rattle.std.proofs.Common.{arith, length-append, ltb-true}
use Rattle.std.proofs.Math.ListN.{length, length-drop}
use Rattle.std.proofs.lemmas.List.{length-reverse}
use Rattle.cells.specs.Cells.{null}
use Rattle.cells.specs.declared.Cell.{Cell}
use Rattle.image.specs.Records.{if?, both}
use Rattle.image.specs.Program.{no_op}
use Rattle.image.specs.Fine.{no_constant}
use Rattle.machine.specs.Values.{Program, code_of, continuation_at, type_of, Params, effect_params, is_null, is_effect, match_effect_handler, Error, meta_un_operator, Computed, computes, fails, unary, binary, thrown, shown}
use Rattle.machine.specs.Machine.{Handler, Frame, lucia, host, effect_callback, Object, closure, list, continuation, Result, failed, unhandled, M, with_frames, frame_cost, frames_cost, used, result_cost, Lookup, here, absent, object_at, check_args, wrong_count, parse, holds, effects, handlers_of, Found, found, nowhere, under, find, search, enter, capture, perform_by, throw_error, perform_effect, function_of, receive, return_value}
use Rattle.machine.specs.Opcodes.{Action, goes, jumps, makes, sets, sets_builtin, calls, performs, throws, returns, clears, doing, Taken, takes, refuses, Running, stacked, with_top, with_two, computed, reaches, Operands, operands, too_few, operands_of, callable, call_taken, build_list, load_const, by_bool, pop_jump, jump_or_pop, register_handler, check_effect, between, opcode_action, closure_action, next_action}
use Rattle.machine.specs.Calls.{Sizes, top_handlers, handlers_left, judge, outcome}
use Rattle.machine.specs.StepLaws.{Fits}
use Rattle.machine.proofs.StepLaws.{if_cases}
use Rattle.machine.specs.Refusals.{among, Only, live_cells, Within, AtOpcode}

-- Each of the four limits is kept, or its number is in the list.
pub judge_only : (ns : List ℕ) (z : Sizes) (d : Action) (m : M) → (16 < handlers_left d → among 16 ns ≡ true) → (256 < length m.frames → among 13 ns ≡ true) → (z.live < live_cells m → among 14 ns ≡ true) → (z.store < used m.store → among 15 ns ≡ true) → Only ns (judge z d m)
unfolding judge
judge_only ns z d m h k l s =
    if_cases (Only ns) _ _ _ (λ q. h (ltb-true _ _ q)) (λ _.
    if_cases (Only ns) _ _ _ (λ q. k (ltb-true _ _ q)) (λ _.
    if_cases (Only ns) _ _ _ (λ q. l (ltb-true _ _ q)) (λ _.
    if_cases (Only ns) _ _ _ (λ q. s (ltb-true _ _ q)) (λ _. tt))))

pub take_short : (n : ℕ) (l : List Cell) → length (take n l) ≤ length l
take_short zero l = omega arith
take_short (suc n) [] = omega arith
take_short (suc n) (v ∷ l) = omega (arith, take_short n l)

-- A variadic gets at most one argument more than it was given.
parse_short : (b : Bool) (n : ℕ) (args : List Cell) (s : List Object) → length (parse b n args s).args ≤ length args + 1
unfolding parse
parse_short true n args s = rw (length-append (take n args)) (omega (arith, take_short n args))
parse_short false n args s = omega arith

pub frame_cost_lem : (f : Frame) → 6 ≤ frame_cost f
unfolding frame_cost
frame_cost_lem (lucia c p l s hs) = omega arith
frame_cost_lem (host n w s hs) = omega arith
frame_cost_lem (effect_callback e s hs) = omega arith

-- There are no more frames than cells.
pub frames_few : (F : List Frame) → length F ≤ frames_cost F
unfolding frames_cost
frames_few [] = omega arith
frames_few (f ∷ F) = omega (arith, frames_few F, frame_cost_lem f)

holds_some : (P : Program) (e : Cell) (es : List Cell) → holds P e es ≡ true → 1 ≤ length es
unfolding holds
holds_some P e [] h = let z : ◌≡◌ {A = ℕ} 0 1 = cc in absurd (omega arith)
holds_some P e (x ∷ es) h = omega arith

pub effects_length : (hs : List Handler) → length (effects hs) ≡ length hs
unfolding effects
effects_length [] = refl
effects_length (h ∷ hs) = ap suc (effects_length hs)

-- A frame that holds the effect loses a handler at least, and gets the effect, the continuation and the arguments.
enter_cost : (P : Program) (e k : Cell) (args : List Cell) (f : Frame) → holds P e (handlers_of f) ≡ true → frame_cost (enter P e k args f) ≤ frame_cost f + length args
unfolding enter frame_cost handlers_of
enter_cost P e k args (lucia c p l s hs) h = omega (arith, length-append (reverse args) (k ∷ s), length-reverse args, holds_some P e (effects hs) h, effects_length hs)
enter_cost P e k args (host n w s hs) h = omega (arith, length-reverse (e ∷ k ∷ args), holds_some P e hs h)
enter_cost P e k args (effect_callback x s hs) h = omega (arith, length-reverse (e ∷ k ∷ args), holds_some P e hs h)

-- What a search finds: the frame holds the effect, and it and the frames below cost less than all, by n at least.
data Finds (P : Program) (e : Cell) (n : ℕ) (F : List Frame) : Found → Type 0 where
  finds : (above : List Frame) (f : Frame) (below : List Frame) → holds P e (handlers_of f) ≡ true → suc (length below) ≤ length F → frame_cost f + frames_cost below + n ≤ frames_cost F → Finds P e n F (found above f below)
  none : Finds P e n F nowhere

under_finds : (P : Program) (e : Cell) (n : ℕ) (f : Frame) (F : List Frame) (x : Found) → Finds P e 0 F x → n ≤ 6 → Finds P e n (f ∷ F) (under f x)
unfolding under frames_cost
under_finds P e n f F (found above h below) (finds _ _ _ q l c) s = finds _ h below q (omega (arith, l)) (omega (arith, c, s, frame_cost_lem f))
under_finds P e n f F nowhere none s = none

find_finds : (P : Program) (e : Cell) (F : List Frame) → Finds P e 0 F (find P e F)
unfolding find frames_cost
find_finds P e [] = none
find_finds P e (f ∷ F) = if_cases (Finds P e 0 (f ∷ F)) (holds P e (handlers_of f)) _ _ (λ q. finds [] f F q (omega arith) (omega arith)) (λ q. under_finds P e 0 f F (find P e F) (find_finds P e F) (omega arith))

search_finds : (P : Program) (e : Cell) (F : List Frame) → Finds P e 6 F (search P e F)
unfolding search
search_finds P e [] = none
search_finds P e (f ∷ F) = under_finds P e 6 f F (find P e F) (find_finds P e F) (omega arith)

-- The captured frames and the lost handlers make room for what the handler gets, but for the arguments past five; unhandled, the result is left.
capture_within : (P : Program) (p : Params) (e : Cell) (args : List Cell) (left : Result) (n : ℕ) (m : M) (x : Found) → Finds P e 6 m.frames x → length args ≤ n + 5 → result_cost left ≤ n → Within n m (capture P p e args left m x)
unfolding capture frames_cost
capture_within P p e args left n m nowhere none a r = record { frames = omega arith; live = omega (arith, r) }
capture_within P p e args left n m (found above h below) (finds _ _ _ q l c) a r =
    let s = m.store ++ (continuation above ∷ []) in
    let got = parse_short p.variadic p.count args s in
    let cost = enter_cost P e (continuation_at (used m.store)) (parse p.variadic p.count args s).args h q in
    record { frames = omega (arith, l); live = omega (arith, c, a, got, cost) }

perform_within : (throw : Error → M → M) (P : Program) (e : Cell) (args : List Cell) (left : Result) (n : ℕ) (m : M) → ((x : Error) → Within n m (throw x m)) → length args ≤ n + 5 → result_cost left ≤ n → Within n m (perform_by throw P e args left m)
unfolding perform_by
perform_within throw P e args left n m h a r =
    if_cases (Within n m) (check_args (effect_params P e) args) _ _ (λ q. capture_within P (effect_params P e) e args left n m (search P e m.frames) (search_finds P e m.frames) a r) (λ q. h (wrong_count (effect_params P e) args))

-- A throw takes no live cell.
pub throw_within : (k n : ℕ) (P : Program) (x : Error) (m : M) → Within n m (throw_error k P x m)
unfolding throw_error result_cost
throw_within zero n P x m = record { frames = omega arith; live = omega arith }
throw_within (suc k) n P x m = perform_within (throw_error k P) P (thrown x) (shown x ∷ []) (failed x) n m (λ y. throw_within k n P y m) (omega arith) (omega arith)

-- What stays within the room that its step freed, and sets no handler, is refused for the store alone.
room_only : (ns : List ℕ) (z : Sizes) (d : Action) (F : List Frame) (m after : M) (n : ℕ) → Fits z m → handlers_left d ≡ 0 → length F ≤ length m.frames → frames_cost F + n ≤ frames_cost m.frames → Within n (with_frames F m) after → (z.store < used after.store → among 15 ns ≡ true) → Only ns (judge z d after)
room_only ns z d F m after n t h l c w =
    judge_only ns z d after (λ q. absurd (omega (arith, h, q))) (λ q. absurd (omega (arith, q, l, w.frames, t.frames))) (λ q. absurd (omega (arith, q, c, w.live, t.live)))

-- An effect callback is refused with 15 alone: its own frame makes room for the arguments.
pub effect_callback_refusals : (P : Program) (z : Sizes) (m : M) (e : Cell) (st hs : List Cell) (below : List Frame) → m.frames ≡ effect_callback e st hs ∷ below → Fits z m → Only (15 ∷ []) (outcome P z (next_action P m m.frames) m)
unfolding outcome next_action doing perform_effect handlers_left frames_cost frame_cost result_cost
effect_callback_refusals P z m e st hs below q t =
    let left = with_frames below m in
    let w : Within (length st) left (perform_effect P e (reverse st) left) =
    perform_within (throw_error 1 P) P e (reverse st) (unhandled e (reverse st)) (length st) left (λ x. throw_within 1 (length st) P x left) (omega (arith, length-reverse st)) (omega (arith, length-reverse st)) in
    rw q (room_only (15 ∷ []) z (performs e (reverse st) below) below m _ (length st) t refl (omega (arith, ap length q)) (omega (arith, ap frames_cost q)) w (λ _. refl))

-- ---- A throw by an opcode
-- There are at most n frames, of at most c cells in all.
abbrev AtMost : ℕ → ℕ → List Frame → Type 0
AtMost n c F = (length F ≤ n) × (frames_cost F ≤ c)

-- If the action is a throw, it leaves at most n frames of at most c cells.
abbrev ThrowsOf : ℕ → ℕ → Action → Type 0
ThrowsOf n c (goes F) = Unit {0}
ThrowsOf n c (jumps F) = Unit {0}
ThrowsOf n c (makes o F) = Unit {0}
ThrowsOf n c (sets g v F) = Unit {0}
ThrowsOf n c (sets_builtin g v F) = Unit {0}
ThrowsOf n c (calls f args F) = Unit {0}
ThrowsOf n c (performs e args F) = Unit {0}
ThrowsOf n c (throws x F) = AtMost n c F
ThrowsOf n c (returns v F) = Unit {0}
ThrowsOf n c clears = Unit {0}

abbrev ThrowsIn : ℕ → ℕ → Taken → Type 0
ThrowsIn n c (takes d) = ThrowsOf n c d
ThrowsIn n c (refuses k) = Unit {0}

throws_only : (ns : List ℕ) (P : Program) (z : Sizes) (m : M) (x : Error) (F : List Frame) → AtMost (length m.frames) (frames_cost m.frames) F → among 15 ns ≡ true → Fits z m → Only ns (outcome P z (takes (throws x F)) m)
unfolding outcome doing handlers_left
throws_only ns P z m x F l s t = room_only ns z (throws x F) F m _ 0 t refl l.0 (omega (arith, l.1)) (throw_within 1 0 P x (with_frames F m)) (λ _. s)

-- A frame whose stack is no longer costs no more.
shorter : (r : Running) (st old : List Cell) → length st ≤ length old → AtMost (length (stacked r old)) (frames_cost (stacked r old)) (stacked r st)
unfolding frames_cost frame_cost
shorter r st old h = (omega arith, omega (arith, h))

module _ (r : Running) where
  -- If what is taken is a throw, it leaves no more than the running frame with this stack, and the frames below.
  abbrev Throws : List Cell → Taken → Type 0
  Throws st t = ThrowsIn (length (stacked r st)) (frames_cost (stacked r st)) t

  abbrev ThrowsBy : List Cell → Action → Type 0
  ThrowsBy st d = ThrowsOf (length (stacked r st)) (frames_cost (stacked r st)) d

  throws_top : (st : List Cell) (f : Cell → List Cell → Action) → ((v : Cell) (st : List Cell) → ThrowsBy (v ∷ st) (f v st)) → Throws st (with_top st f)
  unfolding with_top
  throws_top [] f h = tt
  throws_top (v ∷ st) f h = h v st

  throws_two : (st : List Cell) (f : Cell → Cell → List Cell → Action) → ((v w : Cell) (st : List Cell) → ThrowsBy (v ∷ w ∷ st) (f v w st)) → Throws st (with_two st f)
  unfolding with_two
  throws_two [] f h = tt
  throws_two (v ∷ []) f h = tt
  throws_two (v ∷ w ∷ st) f h = h v w st

  throws_computed : (old st : List Cell) (c : Computed) → length st ≤ length old → ThrowsBy old (computed r st c)
  unfolding computed
  throws_computed old st (computes v) h = tt
  throws_computed old st (fails x) h = shorter r st old h

  throws_choice : (st : List Cell) (b : Bool) (x y : Action) → ThrowsBy st x → ThrowsBy st y → ThrowsBy st (if? b x y)
  throws_choice st b x y h k = if_cases (ThrowsBy st) b x y (λ q. h) (λ q. k)

  throws_bool : (st : List Cell) (v : Cell) (truth : ℕ) (a b c : Action) → ThrowsBy st a → ThrowsBy st b → ThrowsBy st c → ThrowsBy st (by_bool v truth a b c)
  throws_bool st v truth a b c h k l = throws_choice st (eqb v.tag 1) _ c (throws_choice st (eqb v.number truth) a b h k) l

  throws_call : (s : List Object) (n : ℕ) (st : List Cell) (left : List Cell → List Frame) → Throws st (call_taken s (operands_of n st) (stacked r) left)
  unfolding operands_of call_taken
  throws_call s n st left = by (ltb n (length st))
    where
      by : (b : Bool) → Throws st (call_taken s (if? b (operands (get_or st n null) (reverse (take n st)) (drop (n + 1) st)) too_few) (stacked r) left)
      by true = if_cases (Throws st) (callable (function_of s (get_or st n null))) _ _ (λ q. tt) (λ q. shorter r (drop (n + 1) st) st (omega (arith, length-drop (n + 1) st)))
      by false = tt

  either : (b : Bool) (x y : Taken) → Throws r.stack x → Throws r.stack y → Throws r.stack (if? b x y)
  either b x y h k = if_cases (Throws r.stack) b x y (λ q. h) (λ q. k)

  throws_opcode : (P : Program) (m : M) (op x : ℕ) → Throws r.stack (opcode_action P m r op x)
  unfolding opcode_action load_const build_list pop_jump jump_or_pop register_handler check_effect
  throws_opcode P m op x =
      either (eqb op 0) _ _ (throws_top _ _ (λ v st. tt))
      (either (eqb op 1) _ _ (either (reaches x r.stack) _ _ tt tt)
      (either (eqb op 2) _ _ (either (reaches x r.stack) _ _ tt tt)
      (either (eqb op 3) _ _ tt
      (either (eqb op 4) _ _ tt
      (either (eqb op 5) _ _ tt
      (either (eqb op 6) _ _ (either (eqb (get_or r.code.constants x no_constant).kind 22) _ _ tt tt)
      (either (eqb op 7) _ _ (throws_top _ _ (λ v st. tt))
      (either (eqb op 8) _ _ (throws_top _ _ (λ v st. tt))
      (either (eqb op 10) _ _ (either (leb x (length r.stack)) _ _ tt tt)
      (either (between 17 18 op) _ _ (throws_top _ _ (λ v st. throws_computed (v ∷ st) st (unary op v) (omega arith)))
      (either (between 19 29 op) _ _ (throws_two _ _ (λ b a st. throws_computed (b ∷ a ∷ st) st (binary P op a b) (omega arith)))
      (either (eqb op 30) _ _ (throws_top _ _ (λ v st. tt))
      (either (eqb op 36) _ _ (throws_call _ _ _ _)
      (either (eqb op 37) _ _ (throws_top _ _ (λ v st. tt))
      (either (eqb op 38) _ _ (throws_call _ _ _ _)
      (either (between 40 43 op) _ _ tt
      (either (eqb op 44) _ _ (throws_top _ _ (λ v st. throws_choice (v ∷ st) (is_null v) _ _ tt tt))
      (either (eqb op 45) _ _ (throws_top _ _ (λ v st. throws_bool (v ∷ st) v 1 _ _ _ tt tt (shorter r st (v ∷ st) (omega arith))))
      (either (eqb op 46) _ _ (throws_top _ _ (λ v st. throws_bool (v ∷ st) v 0 _ _ _ tt tt (shorter r st (v ∷ st) (omega arith))))
      (either (eqb op 47) _ _ (throws_top _ _ (λ v st. throws_bool (v ∷ st) v 1 _ _ _ tt tt (shorter r (v ∷ st) (v ∷ st) (omega arith))))
      (either (eqb op 48) _ _ (throws_top _ _ (λ v st. throws_bool (v ∷ st) v 0 _ _ _ tt tt (shorter r (v ∷ st) (v ∷ st) (omega arith))))
      (either (eqb op 49) _ _ (throws_top _ _ (λ v st. throws_choice (v ∷ st) (is_effect v) _ _ tt (shorter r st (v ∷ st) (omega arith))))
      (either (eqb op 50) _ _ (throws_two _ _ (λ v w st. throws_choice (v ∷ w ∷ st) (both (both (is_effect w) (is_effect v)) (match_effect_handler (effect_params P w) (effect_params P v))) _ _ tt (shorter r st (v ∷ w ∷ st) (omega arith))))
      (either (eqb op 51) _ _ tt tt))))))))))))))))))))))))

throws_closure : (P : Program) (m : M) (h p : ℕ) (l st : List Cell) (hs : List Handler) (below : List Frame) (o : Lookup) → let F = lucia h p l st hs ∷ below in ThrowsIn (length F) (frames_cost F) (closure_action P m h p l st hs below o)
unfolding closure_action frames_cost frame_cost
throws_closure P m h p l st hs below (here (closure c us)) = throws_opcode _ P m _ _
throws_closure P m h p l st hs below (here (list vs)) = tt
throws_closure P m h p l st hs below (here (continuation K)) = tt
throws_closure P m h p l st hs below absent = tt

throws_next : (P : Program) (m : M) (F : List Frame) → ThrowsIn (length F) (frames_cost F) (next_action P m F)
unfolding next_action
throws_next P m [] = tt
throws_next P m (lucia h p l st hs ∷ below) = throws_closure P m h p l st hs below (object_at m.store h)
throws_next P m (host n w st hs ∷ below) = tt
throws_next P m (effect_callback e st hs ∷ below) = tt

-- A throw by an opcode is refused with 15 alone: the frames captured make room for what the handler gets.
pub throw_refusals : (P : Program) (z : Sizes) (m : M) (x : Error) (F : List Frame) → next_action P m m.frames ≡ takes (throws x F) → Fits z m → Only (15 ∷ []) (outcome P z (next_action P m m.frames) m)
throw_refusals P z m x F q t =
    let l : AtMost (length m.frames) (frames_cost m.frames) F = rw q at (throws_next P m m.frames) in
    rw q (throws_only (15 ∷ []) P z m x F l refl t)

-- A frame returned to gets one value.
receive_cost : (v : Cell) (f : Frame) → frame_cost (receive v f) ≤ frame_cost f + 1
unfolding receive frame_cost
receive_cost v (lucia c p l s hs) = omega arith
receive_cost v (host n w s hs) = omega arith
receive_cost v (effect_callback e s hs) = omega arith

return_within : (v : Cell) (F : List Frame) (m : M) → m.frames ≡ F → Within 1 m (return_value v F m)
unfolding return_value frames_cost result_cost
return_within v [] m q = record { frames = omega arith; live = omega (arith, ap frames_cost q) }
return_within v (f ∷ fs) m q = record { frames = omega (arith, ap length q); live = omega (arith, ap frames_cost q, receive_cost v f) }

return_store : (v : Cell) (F : List Frame) (m : M) → (return_value v F m).store ≡ m.store
unfolding return_value
return_store v [] m = refl
return_store v (f ∷ fs) m = refl

module _ (P : Program) (z : Sizes) (m : M) where
  -- The running frame, past its opcode.
  abbrev running_at : (op : ℕ) → AtOpcode P m op → Running
  running_at op a = record { handle = a.handle; number = a.code; code = code_of P a.code; upvalues = a.upvalues; place = a.place + 1; locals = a.locals; stack = a.stack; handlers = a.handlers; below = a.below }

  next_opcode : (op : ℕ) (a : AtOpcode P m op) → next_action P m m.frames ≡ opcode_action P m (running_at op a) op (get_or (code_of P a.code).opcodes a.place no_op).operand
  unfolding next_action closure_action
  next_opcode op a = rw (a.frames, a.object, a.opcode) refl

  -- The frames of the machine are the running frame, whose place costs nothing, and those below.
  frames_left_lem : (op : ℕ) (a : AtOpcode P m op) → (length m.frames ≡ suc (length a.below)) × (frames_cost m.frames ≡ frames_cost (stacked (running_at op a) a.stack))
  unfolding frames_cost frame_cost
  frames_left_lem op a = (ap length a.frames, ap frames_cost a.frames)

  -- Return is refused with 12 alone.
  pub return_refusals : AtOpcode P m 37 → Fits z m → Only (12 ∷ []) (outcome P z (next_action P m m.frames) m)
  unfolding opcode_action outcome doing handlers_left frames_cost frame_cost with_top both
  return_refusals a t = rw (next_opcode 37 a) (by a.stack)
    where
      by : (st : List Cell) → Only (12 ∷ []) (outcome P z (with_top st (λ (v : Cell) (st : List Cell). returns v a.below)) m)
      by [] = refl
      by (v ∷ st) =
          let F = a.below in
          let q = frames_left_lem 37 a in
          room_only (12 ∷ []) z (returns v F) F m _ 1 t refl (omega (arith, q.0)) (omega (arith, q.1)) (return_within v F (with_frames F m) refl) (λ l. absurd (omega (arith, l, ap used (return_store v F (with_frames F m)), t.store)))

  -- RegisterHandler is refused with 12, 16, 14 or 15.
  pub register_refusals : AtOpcode P m 49 → Fits z m → Only (12 ∷ 16 ∷ 14 ∷ 15 ∷ []) (outcome P z (next_action P m m.frames) m)
  unfolding opcode_action outcome doing with_top register_handler frames_cost frame_cost both
  register_refusals a t = rw (next_opcode 49 a) (by a.stack refl)
    where
      r : Running
      r = running_at 49 a

      ns : List ℕ
      ns = 12 ∷ 16 ∷ 14 ∷ 15 ∷ []

      by : (st : List Cell) → a.stack ≡ st → Only ns (outcome P z (with_top st (register_handler P r (get_or (code_of P a.code).opcodes a.place no_op).operand)) m)
      by [] e = refl
      by (v ∷ st) e =
          let q = frames_left_lem 49 a in
          if_cases (λ (d : Action). Only ns (outcome P z (takes d) m)) (is_effect v) _ _
          (λ _. judge_only ns z _ _ (λ _. refl) (λ l. absurd (omega (arith, l, q.0, t.frames))) (λ _. refl) (λ _. refl))
          (λ _. throws_only ns P z m _ _ (omega (arith, q.0), omega (arith, q.1, ap length e)) refl t)

  -- A call is refused with 12, 13, 14 or 15, if the frame that it leaves on top has at most 16 handlers.
  call_taken_only : (op : ℕ) (a : AtOpcode P m op) (x : ℕ) (left : List Cell → List Frame) → ((st : List Cell) → top_handlers (left st) ≤ 16) → Fits z m → Only (12 ∷ 13 ∷ 14 ∷ 15 ∷ []) (outcome P z (call_taken m.store (operands_of x a.stack) (stacked (running_at op a)) left) m)
  unfolding outcome doing call_taken handlers_left
  call_taken_only op a x left h t = by (operands_of x a.stack) (throws_call r m.store x a.stack left)
    where
      r : Running
      r = running_at op a

      ns : List ℕ
      ns = 12 ∷ 13 ∷ 14 ∷ 15 ∷ []

      by : (o : Operands) → Throws r a.stack (call_taken m.store o (stacked r) left) → Only ns (outcome P z (call_taken m.store o (stacked r) left) m)
      by too_few w = refl
      by (operands f args rest) w = called (callable (function_of m.store f)) w
        where
          call : Bool → Taken
          call b = if? b (takes (calls f args (left rest))) (takes (throws (meta_un_operator 0 (type_of f)) (stacked r rest)))

          called : (b : Bool) → Throws r a.stack (call b) → Only ns (outcome P z (call b) m)
          called true w = judge_only ns z _ _ (λ l. absurd (omega (arith, l, h rest))) (λ _. refl) (λ _. refl) (λ _. refl)
          called false w = let q = frames_left_lem op a in throws_only ns P z m _ _ (omega (arith, w.0, q.0), omega (arith, w.1, q.1)) refl t

  -- Call is refused with 12, 13, 14 or 15, if the running frame has at most 16 handlers.
  pub call_refusals : AtOpcode P m 36 → top_handlers m.frames ≤ 16 → Fits z m → Only (12 ∷ 13 ∷ 14 ∷ 15 ∷ []) (outcome P z (next_action P m m.frames) m)
  unfolding opcode_action top_handlers handlers_of both
  call_refusals a h t = rw (next_opcode 36 a) (call_taken_only 36 a _ (stacked (running_at 36 a)) (λ st. omega (arith, h, ap top_handlers a.frames)) t)

  -- ReturnCall is refused with 12, 13, 14 or 15, if the frame below has at most 16 handlers.
  pub return_call_refusals : (a : AtOpcode P m 38) → top_handlers a.below ≤ 16 → Fits z m → Only (12 ∷ 13 ∷ 14 ∷ 15 ∷ []) (outcome P z (next_action P m m.frames) m)
  unfolding opcode_action both
  return_call_refusals a h t = rw (next_opcode 38 a) (call_taken_only 38 a _ (λ st. a.below) (λ st. h) t)
