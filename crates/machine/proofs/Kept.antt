-- Each step of the machine is one of demand 3's rules.
use Rattle.std.proofs.Math.Path.{◌≡◌, refl, ap}
use Rattle.std.proofs.Common.{sym, ◌∙◌}
use mathlib.Core.List.{List, [], ◌∷◌, reverse}
use Rattle.std.specs.Prelude.{◌⊎◌, Option, Some, None, Bool, ℕ, ◌+◌, ◌≤◌, length, take, drop, eqb, ltb}
use Rattle.std.proofs.Math.Logic.{inl, inr, ⊎_elim}
use Rattle.std.proofs.Math.Bool.{true, false}
use native.Mathlib.Omega.{arith}
use Rattle.std.proofs.Math.ListN.{get_or}
use Rattle.std.proofs.Math.Dec.{leb}
use borrow.Author.Tests.{eqb-true, eqb-false, eq-eqb, leb-true}
use Rattle.cells.specs.Cells.{null}
use Rattle.cells.specs.declared.Cell.{Cell}
use Rattle.image.specs.Records.{if?, both}
use Rattle.image.specs.Program.{no_op}
use Rattle.image.specs.Fine.{no_constant}
use Rattle.ints.specs.Ints.{half, div, rem}
use Rattle.machine.specs.Values.{Program, code_of, builtin, divides, of_ints, is_null, is_effect, equal_effects, match_effect_handler, effect_params, type_of, Error, un_operator, bin_operator, meta_un_operator, thrown, Computed, computes, fails, unary, binary, lucia_error, lucia_panic, shown}
use Rattle.machine.specs.Machine.{Handler, Frame, lucia, host, effect_callback, Object, closure, list, continuation, M, Lookup, here, absent, object_at, function_of, Result, running, returned, failed, unhandled}
use Rattle.machine.specs.Opcodes.{Action, goes, jumps, makes, sets, performs, throws, returns, doing, Taken, takes, Running, with_top, with_two, computed, reaches, load_const, Operands, operands_of, callable, call_taken, build_list, pop_jump, jump_or_pop, registered, register_handler, check_effect, between, opcode_action, closure_action, next_action, sets_builtin, calls, clears, refuses}
use Rattle.machine.specs.Calls.{fit, CallbackReturn, call_with, perform, tail_call, tail_perform, return_it, error_with, panic_with, Request, start, answer, clear, text, bytes, set_global, get_global, set_builtin, get_builtin, answer_action, answered, idle, World, request_action, request_world, given_by, end_of, given_of, world_after}
use Rattle.machine.specs.Demand.{Deed, sets as set_deed, other, At, Plain, Takes, Registered, no_function, Calling, Ticks, stays, makes as tick_makes, registers, no_effect, sets_global, returns as tick_returns, throws as tick_throws, calls as tick_calls, tail_calls, performs as tick_performs, Operates, Performs, ending, returning, setting, setting_builtin, Calls, Asks}
use Rattle.machine.proofs.DemandLaws.{no, same_out, unsame, Known, Ruled, ruled}
use Rattle.machine.proofs.StepLaws.{if_cases}
use Rattle.fuel.specs.declared.Fuel.{Fuel}

-- The action is a tick of demand 3.
data Goes (P : Program) (ds : List Deed) (m : M) (a : Action) : Type 0 where
  went : (d : Deed) → Ticks P ds m d (doing P a m) → Goes P ds m a

-- The action, if one is taken, is such.
data If (Q : Action → Type 0) : Taken → Type 0 where
  took : (d : Action) → Q d → If Q (takes d)
  not : (n : ℕ) → If Q (refuses n)

module _ {Q : Action → Type 0} where
  either : (b : Bool) {x y : Taken} → If Q x → If Q y → If Q (if? b x y)
  either true h k = h
  either false h k = k

  top_left : (st : List Cell) (d : Cell → List Cell → Action) → ((v : Cell) (rest : List Cell) → st ≡ v ∷ rest → Q (d v rest)) → If Q (with_top st d)
  unfolding with_top
  top_left [] d h = not 12
  top_left (v ∷ st) d h = took (d v st) (h v st refl)

  two_left : (st : List Cell) (d : Cell → Cell → List Cell → Action) → ((v w : Cell) (rest : List Cell) → st ≡ v ∷ w ∷ rest → Q (d v w rest)) → If Q (with_two st d)
  unfolding with_two
  two_left [] d h = not 12
  two_left (v ∷ []) d h = not 12
  two_left (v ∷ w ∷ st) d h = took (d v w st) (h v w st refl)

  fit_left : (b : Bool) (d : Action) → Q d → If Q (fit b d)
  unfolding fit
  fit_left true d h = took d h
  fit_left false d h = not 5

or : (Q : Action → Type 0) (b : Bool) (x y : Action) → Q x → Q y → Q (if? b x y)
or Q true x y h k = h
or Q false x y h k = k

-- What an operator throws is an Error.
abbrev Errs : Computed → Type 0
Errs (computes v) = Unit {0}
Errs (fails e) = thrown e ≡ builtin 1

unary_errs : (op : ℕ) (v : Cell) → Errs (unary op v)
unfolding unary thrown
unary_errs op v =
    if_cases Errs (eqb op 17) _ _ (λ _. if_cases Errs (eqb v.tag 2) _ _ (λ _. tt) (λ _. refl)) (λ _. if_cases Errs (eqb v.tag 1) _ _ (λ _. tt) (λ _. refl))

divides_errs : (d : Option ℕ) → Errs (divides d)
unfolding divides thrown
divides_errs (Some n) = tt
divides_errs None = refl

ints_errs : (op a b : ℕ) → Errs (of_ints op a b)
unfolding of_ints
ints_errs op a b =
    if_cases Errs (eqb op 19) _ _ (λ _. tt) (λ _. if_cases Errs (eqb op 20) _ _ (λ _. tt) (λ _. if_cases Errs (eqb op 21) _ _ (λ _. tt)
    (λ _. if_cases Errs (eqb op 22) _ _ (λ _. divides_errs (div half a b)) (λ _. if_cases Errs (eqb op 23) _ _ (λ _. divides_errs (rem half a b))
    (λ _. if_cases Errs (eqb op 26) _ _ (λ _. tt) (λ _. if_cases Errs (eqb op 27) _ _ (λ _. tt) (λ _. if_cases Errs (eqb op 28) _ _ (λ _. tt) (λ _. tt))))))))

binary_errs : (P : Program) (op : ℕ) (a b : Cell) → Errs (binary P op a b)
unfolding binary thrown
binary_errs P op a b =
    if_cases Errs (eqb op 24) _ _ (λ _. tt) (λ _. if_cases Errs (eqb op 25) _ _ (λ _. tt)
    (λ _. if_cases Errs (both (eqb a.tag 2) (eqb b.tag 2)) _ _ (λ _. ints_errs op a.payload b.payload) (λ _. refl)))

-- An opcode of the frame that runs. What is said of performs, throws and calls is a premise, so that these laws stand or
-- fall by themselves.
module _ (P : Program) (ds : List Deed) (m : M) (rules : Ruled P ds m) (h p : ℕ) (l st : List Cell) (hs : List Handler) (below : List Frame) (c : ℕ) (us : List Cell) (stands : object_at m.store h ≡ here (closure c us)) (at : m.frames ≡ lucia h p l st hs ∷ below) where
  abbrev Q : Action → Type 0
  Q a = Goes P ds m a

  abbrev op : ℕ
  op = (get_or (code_of P c).opcodes p no_op).number

  abbrev x : ℕ
  x = (get_or (code_of P c).opcodes p no_op).operand

  abbrev r : Running
  r = record { handle = h; number = c; code = code_of P c; upvalues = us; place = p + 1; locals = l; stack = st; handlers = hs; below = below }

  runs_at : (k : ℕ) → op ≡ k → At P m r k x
  runs_at k e = (p, refl, at, stands, refl, ap (λ (n : ℕ). record { number = n; operand = x }) e)

  abbrev taken : List Cell → List Frame
  taken y = lucia h (p + 1) l y hs ∷ below

  throws_left : (e : Error) (n : ℕ) (rest : List Cell) → Takes op n → thrown e ≡ builtin 1 → rest ≡ drop n st → Q (throws e (taken rest))
  unfolding doing
  throws_left e n rest t b q = rw q (let w = rules.erring e (taken (drop n st)) b in went w.0 (tick_throws r op x n (runs_at op refl) t w.1))

  returns_left : (v : Cell) (rest : List Cell) → op ≡ 37 → st ≡ v ∷ rest → Q (returns v below)
  unfolding doing
  returns_left v rest e q = went other (rw (rules.returns_to v below) (tick_returns r x v rest (runs_at 37 e) q))

  sets_left : (v : Cell) (rest : List Cell) → op ≡ 8 → st ≡ v ∷ rest → Q (sets (get_or (code_of P c).globals x 0) v (taken rest))
  unfolding doing
  sets_left v rest e q = went (set_deed (get_or (code_of P c).globals x 0) v) (sets_global r x _ v rest (runs_at 8 e) q refl)

  module _ (own : Plain op) where
    still : {p' : ℕ} {l' st' : List Cell} → Q (goes (lucia h p' l' st' hs ∷ below))
    unfolding doing
    still = went other (stays r op x _ _ _ (runs_at op refl) own)

    jumped : {p' : ℕ} {l' st' : List Cell} → Q (jumps (lucia h p' l' st' hs ∷ below))
    unfolding doing
    jumped = went other (stays r op x _ _ _ (runs_at op refl) own)

    made : {p' : ℕ} {l' st' : List Cell} (o : Object) → ((K : List Frame) → o ≡ continuation K → ⊥) → Q (makes o (lucia h p' l' st' hs ∷ below))
    unfolding doing
    made o n = went other (tick_makes r op x _ _ _ o (runs_at op refl) own n)

    computed_left : (n : ℕ) (rest : List Cell) (y : Computed) → Takes op n → Errs y → rest ≡ drop n st → Q (computed r rest y)
    unfolding computed
    computed_left n rest (computes v) t b q = still
    computed_left n rest (fails e) t b q = throws_left e n rest t b q

    const_left : (i : ℕ) → If Q (load_const P m r i)
    unfolding load_const
    const_left i = either (eqb (get_or r.code.constants i no_constant).kind 22) (took _ (made _ (λ K e. let z : ◌≡◌ {A = ℕ} 0 1 = cc in omega arith))) (took _ still)

    list_left : (n : ℕ) → If Q (build_list m r n)
    unfolding build_list
    list_left n = either (leb n (length r.stack)) (took _ (made _ (λ K e. let z : ◌≡◌ {A = ℕ} 0 1 = cc in omega arith))) (not 12)

    pop_left : Takes op 1 → (o i truth : ℕ) (v : Cell) (rest : List Cell) → st ≡ v ∷ rest → Q (pop_jump r o i truth v rest)
    unfolding pop_jump thrown
    pop_left t o i truth v rest q = or Q (eqb v.tag 1) _ _ (or Q (eqb v.number truth) _ _ jumped still) (throws_left (un_operator o i (type_of v)) 1 rest t refl (sym (ap (drop 1) q)))

    jump_left : Takes op 0 → (o i truth : ℕ) (v : Cell) (rest : List Cell) → st ≡ v ∷ rest → Q (jump_or_pop r o i truth v rest)
    unfolding jump_or_pop thrown
    jump_left t o i truth v rest q = or Q (eqb v.tag 1) _ _ (or Q (eqb v.number truth) _ _ jumped still) (throws_left (un_operator o i (type_of v)) 0 (v ∷ rest) t refl (sym q))

    check_left : Takes op 2 → (i : ℕ) (expected e : Cell) (rest : List Cell) → st ≡ expected ∷ e ∷ rest → Q (check_effect P r i expected e rest)
    unfolding check_effect thrown
    check_left t i expected e rest q = or Q (both (both (is_effect e) (is_effect expected)) (match_effect_handler (effect_params P e) (effect_params P expected))) _ _ still (throws_left (bin_operator 50 i (type_of expected) (type_of e)) 2 rest t refl (sym (ap (drop 2) q)))

  registered_left : (e : Cell) (t n : ℕ) (hs : List Handler) → Registered P e t hs (registered P e t n hs)
  unfolding registered
  registered_left e t n [] = (n, refl)
  registered_left e t n (y ∷ ys) = by (equal_effects P y.effect e) refl (registered_left e t n ys)
    where
      by : (b : Bool) → equal_effects P y.effect e ≡ b → Registered P e t ys (registered P e t n ys)
          → Registered P e t (y ∷ ys) (if? b (record { effect = y.effect; target = t; stack_size = n } ∷ ys) (y ∷ registered P e t n ys))
      by true q ih = inl (same_out P y.effect e q, n, refl)
      by false q ih = inr (unsame P y.effect e q, registered P e t n ys, ih, refl)

  register_left : op ≡ 49 → (e : Cell) (rest : List Cell) → st ≡ e ∷ rest → Q (register_handler P r x e rest)
  unfolding register_handler thrown doing
  register_left k e rest q =
      if_cases Q (is_effect e) _ _
      (λ i. went other (registers r x e rest _ (runs_at 49 k) q (eqb-true (type_of e) 8 i) (registered_left e x (length rest) hs)))
      (λ i. let w = rules.erring (un_operator 49 x (type_of e)) (taken rest) refl in went w.0 (no_effect r x e rest (runs_at 49 k) q (eqb-false (type_of e) 8 i) w.1))

  -- a Call, or a ReturnCall
  call_left : (left : List Cell → List Frame) → ((d : Deed) (m' : M) → Calling P ds m r x (left (drop (x + 1) st)) d m' → Ticks P ds m d m')
      → If Q (call_taken m.store (operands_of x st) taken left)
  unfolding operands_of call_taken thrown doing callable
  call_left left o =
      let f = get_or st x null in
      let kept = taken (drop (x + 1) st) in
      let F = left (drop (x + 1) st) in
      if_cases (λ (y : Operands). If Q (call_taken m.store y taken left)) (ltb x (length st)) _ _
      (λ _. if_cases (If Q) (callable (function_of m.store f)) _ _
      (λ q. took _ (let w = rules.calling f (reverse (take x st)) kept F (λ z. no (sym (ap callable z) ∙ q)) in went w.0 (o _ _ w.1)))
      (λ q. took _ (let w = rules.erring (meta_un_operator 0 (type_of f)) kept refl in went w.0 (o _ _ (no_function (rules.no_call f q) w.1)))))
      (λ _. not 12)

  is : (k : ℕ) {t u : Taken} → (op ≡ k → If Q t) → If Q u → If Q (if? (eqb op k) t u)
  is k {t} {u} f g = if_cases (If Q) (eqb op k) t u (λ q. f (eqb-true op k q)) (λ _. g)

  up_to : (i j : ℕ) {t u : Taken} → (between i j op ≡ true → Plain op → If Q t) → ((op ≡ 8) ⊎ (op ≡ 36) ⊎ (op ≡ 37) ⊎ (op ≡ 38) ⊎ (op ≡ 49) → between i j op ≡ true → ⊥) → If Q u → If Q (if? (between i j op) t u)
  up_to i j {t} {u} f n g = if_cases (If Q) (between i j op) t u (λ q. f q ((λ e. n (inl e) q), (λ e. n (inr (inl e)) q), (λ e. n (inr (inr (inl e))) q), (λ e. n (inr (inr (inr (inl e)))) q), (λ e. n (inr (inr (inr (inr e)))) q))) (λ _. g)

  range : (i j : ℕ) → between i j op ≡ true → (i ≤ op) × (op ≤ j)
  unfolding both
  range i j q = by (leb i op) refl q
    where
      by : (b : Bool) → leb i op ≡ b → both b (leb op j) ≡ true → (i ≤ op) × (op ≤ j)
      by true e q = (leb-true i op e, leb-true op j q)
      by false e q = let z : ◌≡◌ {A = ℕ} 0 1 = cc in absurd (omega arith)

  -- an opcode k that is plain
  own : (k : ℕ) → op ≡ k → eqb k 8 ≡ false → eqb k 36 ≡ false → eqb k 37 ≡ false → eqb k 38 ≡ false → eqb k 49 ≡ false → Plain op
  own k e a b c d f = (
    (λ q. let z : eqb k 8 ≡ true = rw (sym e ∙ q) refl in let y : ◌≡◌ {A = ℕ} 0 1 = cc in omega arith),
    (λ q. let z : eqb k 36 ≡ true = rw (sym e ∙ q) refl in let y : ◌≡◌ {A = ℕ} 0 1 = cc in omega arith),
    (λ q. let z : eqb k 37 ≡ true = rw (sym e ∙ q) refl in let y : ◌≡◌ {A = ℕ} 0 1 = cc in omega arith),
    (λ q. let z : eqb k 38 ≡ true = rw (sym e ∙ q) refl in let y : ◌≡◌ {A = ℕ} 0 1 = cc in omega arith),
    (λ q. let z : eqb k 49 ≡ true = rw (sym e ∙ q) refl in let y : ◌≡◌ {A = ℕ} 0 1 = cc in omega arith),
  )

  is_p : (k : ℕ) {t u : Taken} → eqb k 8 ≡ false → eqb k 36 ≡ false → eqb k 37 ≡ false → eqb k 38 ≡ false → eqb k 49 ≡ false → (op ≡ k → Plain op → If Q t) → If Q u → If Q (if? (eqb op k) t u)
  is_p k {t} {u} a b c d i f g = is k (λ e. f e (own k e a b c d i)) g

  clash : (k : ℕ) {i : ℕ} → op ≡ i → op ≡ k → eqb i k ≡ false → ⊥
  clash k {i} e q n = let z : eqb i k ≡ true = rw (sym e ∙ q) (eq-eqb k k refl) in let y : ◌≡◌ {A = ℕ} 0 1 = cc in omega arith

  opcode_left : If Q (opcode_action P m r op x)
  unfolding opcode_action both
  opcode_left =
      is_p 0 refl refl refl refl refl (λ e w. top_left st _ (λ v rest q. still w))
      (is_p 1 refl refl refl refl refl (λ e w. either (reaches x st) (took _ (still w)) (not 12))
      (is_p 2 refl refl refl refl refl (λ e w. either (reaches x st) (took _ (still w)) (not 12))
      (is_p 3 refl refl refl refl refl (λ e w. took _ (still w))
      (is_p 4 refl refl refl refl refl (λ e w. took _ (still w))
      (is_p 5 refl refl refl refl refl (λ e w. took _ (still w))
      (is_p 6 refl refl refl refl refl (λ e w. const_left w x)
      (is_p 7 refl refl refl refl refl (λ e w. top_left st _ (λ v rest q. still w))
      (is 8 (λ e. top_left st _ (λ v rest q. sets_left v rest e q))
      (is_p 10 refl refl refl refl refl (λ e w. list_left w x)
      (up_to 17 18 (λ e w. top_left st _ (λ v rest q. computed_left w 1 rest (unary op v) (inr (inl (inl (range 17 18 e), refl))) (unary_errs op v) (sym (ap (drop 1) q)))) (apart 17 18 refl refl refl refl refl)
      (up_to 19 29 (λ e w. two_left st _ (λ b a rest q. computed_left w 2 rest (binary P op a b) (inr (inr (inl (range 19 29 e), refl))) (binary_errs P op a b) (sym (ap (drop 2) q)))) (apart 19 29 refl refl refl refl refl)
      (is_p 30 refl refl refl refl refl (λ e w. top_left st _ (λ v rest q. still w))
      (is 36 (λ e. call_left _ (λ d n. tick_calls r x (runs_at 36 e)))
      (is 37 (λ e. top_left st _ (λ v rest q. returns_left v rest e q))
      (is 38 (λ e. call_left _ (λ d n. tail_calls r x (runs_at 38 e)))
      (up_to 40 43 (λ e w. took _ (jumped w)) (apart 40 43 refl refl refl refl refl)
      (is_p 44 refl refl refl refl refl (λ e w. top_left st _ (λ v rest q. or Q (is_null v) _ _ (jumped w) (still w)))
      (is_p 45 refl refl refl refl refl (λ e w. top_left st _ (pop_left w (inr (inl (inr (inl e), refl))) op x 1))
      (is_p 46 refl refl refl refl refl (λ e w. top_left st _ (pop_left w (inr (inl (inr (inr e), refl))) op x 0))
      (is_p 47 refl refl refl refl refl (λ e w. top_left st _ (jump_left w (inl (inl e, refl)) op x 1))
      (is_p 48 refl refl refl refl refl (λ e w. top_left st _ (jump_left w (inl (inr e, refl)) op x 0))
      (is 49 (λ e. top_left st _ (register_left e))
      (is_p 50 refl refl refl refl refl (λ e w. two_left st _ (check_left w (inr (inr (inr e, refl))) x))
      (is_p 51 refl refl refl refl refl (λ e w. took _ (still w)) (not 3)))))))))))))))))))))))))
    where
      apart : (i j : ℕ) → between i j 8 ≡ false → between i j 36 ≡ false → between i j 37 ≡ false → between i j 38 ≡ false → between i j 49 ≡ false → (op ≡ 8) ⊎ (op ≡ 36) ⊎ (op ≡ 37) ⊎ (op ≡ 38) ⊎ (op ≡ 49) → between i j op ≡ true → ⊥
      apart i j a b c d f o q =
          ⊎_elim (λ e. clash 8 e a) (⊎_elim (λ e. clash 36 e b) (⊎_elim (λ e. clash 37 e c) (⊎_elim (λ e. clash 38 e d) (λ e. clash 49 e f)))) o
        where
          clash : (k : ℕ) → op ≡ k → between i j k ≡ false → ⊥
          clash k e n = let y : between i j k ≡ true = rw (sym e) q in let z : ◌≡◌ {A = ℕ} 0 1 = cc in omega arith

module _ (P : Program) (ds : List Deed) (m : M) (rules : Ruled P ds m) where
  closure_left : (h p : ℕ) (l st : List Cell) (hs : List Handler) (below : List Frame)
      → m.frames ≡ lucia h p l st hs ∷ below → (o : Lookup) → object_at m.store h ≡ o
      → If (Goes P ds m) (closure_action P m h p l st hs below o)
  unfolding closure_action
  closure_left h p l st hs below at (here (closure c us)) q = opcode_left P ds m rules h p l st hs below c us q at
  closure_left h p l st hs below at (here (list vs)) q = not 7
  closure_left h p l st hs below at (here (continuation K)) q = not 7
  closure_left h p l st hs below at absent q = not 7

  callback_left : (e : Cell) (st hs : List Cell) (below : List Frame) → m.frames ≡ effect_callback e st hs ∷ below
      → If (Goes P ds m) (next_action P m (effect_callback e st hs ∷ below))
  unfolding next_action doing
  callback_left e st hs below at = took (performs e (reverse st) below)
      (let w = rules.performing e (reverse st) below in went w.0 (tick_performs e st hs below at w.1))

  next_left : (F : List Frame) → m.frames ≡ F → If (Goes P ds m) (next_action P m F)
  unfolding next_action
  next_left [] at = not 11
  next_left (lucia h p l st hs ∷ below) at = closure_left h p l st hs below at (object_at m.store h) refl
  next_left (host n w st hs ∷ below) at = not 11
  next_left (effect_callback e st hs ∷ below) at = callback_left e st hs below at

module _ (P : Program) (ds : List Deed) where
  -- A request that is done as the action a.
  abbrev pub Asked : Request → World → Action → Type 0
  Asked q w a = let m = doing P a w.machine in (d : Deed) × Asks P ds w.machine w.wait q d m (world_after (end_of P q w m)).wait (given_of (end_of P q w m)).value

  module _ (w : World) (rules : Ruled P ds w.machine) where
    abbrev m : M
    m = w.machine

    called : (f : Cell) (args : List Cell) (F : List Frame) → (d : Deed) × Calls P ds m f args F F d (doing P (calls f args F) m)
    unfolding doing
    called f args F = rules.calling f args F F (λ _. refl)

    performed : (e : Cell) (args : List Cell) (F : List Frame) → (d : Deed) × Performs P m e args F d (doing P (performs e args F) m)
    unfolding doing
    performed e args F = rules.performing e args F

    done : (v : Cell) (F : List Frame) → doing P (returns v F) m ≡ returning v F m
    unfolding doing
    done v F = rules.returns_to v F

    erred : (v : Cell) (F : List Frame) → (d : Deed) × Operates P m (builtin 1) (v ∷ []) (failed (lucia_error v)) F d (doing P (throws (lucia_error v) F) m)
    unfolding doing thrown shown
    erred v F = rules.throwing (lucia_error v) F

    panicked : (v : Cell) (F : List Frame) → (d : Deed) × Operates P m (builtin 2) (v ∷ []) (failed (lucia_panic v)) F d (doing P (throws (lucia_panic v) F) m)
    unfolding doing thrown shown
    panicked v F = rules.throwing (lucia_panic v) F

    answer_left : (n v word : ℕ) (st hs : List Cell) (below : List Frame) (fuel : Fuel) (r : CallbackReturn) → w.wait ≡ true → m.frames ≡ host n v st hs ∷ below
        → If (Asked (answer word fuel r) w) (answer_action P m.store (λ (new : List Cell). host n word st new) hs below r)
    unfolding answer_action end_of request_world world_after given_of
    answer_left n v word st hs below fuel (call_with f args new) b at =
        fit_left _ _ (let c = called f args (host n word st _ ∷ below) in (c.0, (n, v, st, hs, below, b, at, (_, rules.putting new, c.1), refl)))
    answer_left n v word st hs below fuel (perform e args) b at =
        fit_left _ _ (let c = performed e args (host n word st hs ∷ below) in (c.0, (n, v, st, hs, below, b, at, c.1, refl)))
    answer_left n v word st hs below fuel (tail_call f args) b at = fit_left _ _ (let c = called f args below in (c.0, (n, v, st, hs, below, b, at, c.1, refl)))
    answer_left n v word st hs below fuel (tail_perform e args) b at = fit_left _ _ (let c = performed e args below in (c.0, (n, v, st, hs, below, b, at, c.1, refl)))
    answer_left n v word st hs below fuel (return_it x) b at = fit_left _ _ (other, (n, v, st, hs, below, b, at, (refl, done x below), refl))
    answer_left n v word st hs below fuel (error_with x) b at = fit_left _ _ (let c = erred x (host n word st hs ∷ below) in (c.0, (n, v, st, hs, below, b, at, c.1, refl)))
    answer_left n v word st hs below fuel (panic_with x) b at = fit_left _ _ (let c = panicked x (host n word st hs ∷ below) in (c.0, (n, v, st, hs, below, b, at, c.1, refl)))

    answered_left : (word : ℕ) (fuel : Fuel) (r : CallbackReturn) (F : List Frame) → w.wait ≡ true → m.frames ≡ F → If (Asked (answer word fuel r) w) (answered P m.store word r F)
    unfolding answered
    answered_left word fuel r [] b at = not 11
    answered_left word fuel r (lucia c p l st hs ∷ below) b at = not 11
    answered_left word fuel r (host n v st hs ∷ below) b at = answer_left n v word st hs below fuel r b at
    answered_left word fuel r (effect_callback e st hs ∷ below) b at = not 11

    start_left : (r : Result) (F : List Frame) → m.result ≡ r → m.frames ≡ F → (b : Bool) (f : Cell) (args : List Cell) → If (Asked (start f args) w) (if? (idle r F) (fit b (calls f args [])) (refuses 11))
    unfolding idle end_of request_world world_after
    start_left running [] p q b f args = fit_left _ _ (let c = called f args [] in (c.0, (q, p, c.1, refl)))
    start_left running (x ∷ fs) p q b f args = not 11
    start_left (returned v) fs p q b f args = not 11
    start_left (failed x) fs p q b f args = not 11
    start_left (unhandled e vs) fs p q b f args = not 11

    await_left : (word : ℕ) (fuel : Fuel) (r : CallbackReturn)
        → ((F : List Frame) → w.wait ≡ true → m.frames ≡ F
        → If (Asked (answer word fuel r) w) (answered P m.store word r F))
        → If (Asked (answer word fuel r) w) (request_action P (answer word fuel r) w)
    unfolding request_action
    await_left word fuel r h =
        if_cases (If (Asked (answer word fuel r) w)) w.wait _ _ (λ b. h m.frames b refl) (λ _. not 11)

    clear_done : doing P clears m ≡ ending running [] m
    unfolding doing
    clear_done = refl

    clear_left : doing P clears m ≡ ending running [] m → If (Asked clear w) (request_action P clear w)
    unfolding request_action end_of request_world world_after
    clear_left h = took clears (other, (refl, h, refl))

    set_done : (g : ℕ) (v : Cell) (F : List Frame) → doing P (sets g v F) m ≡ setting g v F m
    unfolding doing
    set_done g v F = refl

    set_left : (g : ℕ) (v : Cell) → (doing P (sets g v m.frames) m ≡ setting g v m.frames m)
        → If (Asked (set_global g v) w) (request_action P (set_global g v) w)
    unfolding request_action end_of request_world world_after
    set_left g v h = fit_left _ _ (set_deed g v, (refl, h, refl))

    builtin_done : (g : ℕ) (v : Cell) → doing P (sets_builtin g v m.frames) m ≡ setting_builtin g v m
    unfolding doing
    builtin_done g v = refl

    reads_done : doing P (goes m.frames) m ≡ m
    unfolding doing
    reads_done = refl

    get_left : (g : ℕ) → doing P (goes m.frames) m ≡ m
        → If (Asked (get_global g) w) (request_action P (get_global g) w)
    unfolding request_action end_of request_world world_after given_of given_by
    get_left g h = fit_left _ _ (other, (refl, h, refl, ap (λ (x : M). get_or x.globals g null) h))

    request_left : (q : Request) → If (Asked q w) (request_action P q w)
    unfolding request_action end_of request_world world_after given_of given_by
    request_left (start f args) = start_left m.result m.frames refl refl _ f args
    request_left (answer word fuel r) = await_left word fuel r (answered_left word fuel r)
    request_left clear = clear_left clear_done
    request_left (text page v) = fit_left _ _ (other, (refl, reads_done, refl))
    request_left (bytes v) = fit_left _ _ (other, (refl, reads_done, refl))
    request_left (set_global g v) = set_left g v (set_done g v m.frames)
    request_left (get_global g) = get_left g reads_done
    request_left (set_builtin g v) = fit_left _ _ (other, (refl, refl, builtin_done g v))
    request_left (get_builtin g) =
        fit_left _ _ (other, (refl, reads_done, refl, ap (λ (x : M). get_or x.builtins g null) reads_done))

taken_left : {Q : Action → Type 0} {t : Taken} (a : Action) → If Q t → t ≡ takes a → Q a
taken_left a (took x h) q = let y : x ≡ a = cc in rw y at h
taken_left a (not n) q = let z : ◌≡◌ {A = ℕ} 0 1 = cc in absurd (omega arith)

-- The next action of a run is a tick; a request that is taken is done.
abbrev pub TickLaw : Program → Type 0
TickLaw P = (ds : List Deed) (m : M) → Known ds m.store → (a : Action) → next_action P m m.frames ≡ takes a
    → (d : Deed) × Ticks P ds m d (doing P a m)

abbrev pub AskLaw : Program → Type 0
AskLaw P = (ds : List Deed) (q : Request) (w : World) → Known ds w.machine.store → (a : Action)
    → request_action P q w ≡ takes a → Asked P ds q w a

pub tick_law : (P : Program) → TickLaw P
tick_law P ds m known a h = by (taken_left a (next_left P ds m (ruled P ds m known) m.frames refl) h)
  where
    by : Goes P ds m a → (d : Deed) × Ticks P ds m d (doing P a m)
    by (went d t) = (d, t)

pub ask_law : (P : Program) → AskLaw P
ask_law P ds q w known a h = taken_left a (request_left P ds w (ruled P ds w.machine known) q) h
