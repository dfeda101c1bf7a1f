-- Every accepted step and request keeps a machine in form, so every machine that a list of calls leads to is.
use Rattle.std.specs.Prelude.{◌≡◌, Bool, ℕ, ◌<◌, ◌≤◌, leb, ltb, eqb}
use Rattle.std.proofs.Math.Path.{refl}
use mathlib.Core.List.{List, [], ◌∷◌}
use Rattle.std.proofs.Math.Bool.{true, false}
use Rattle.std.proofs.Common.{arith, length-set}
use Rattle.std.proofs.Math.ListN.{length, get_or, length-map}
use Rattle.std.proofs.lemmas.List.{length-replicate}
use borrow.Author.Tests.{eqb-true, leb-true, ltb-false, ne_eqb, le-leb, lt-leb}
use Rattle.cells.specs.Cells.{null}
use Rattle.cells.specs.declared.Cell.{Cell}
use Rattle.cells.specs.Le.{le_at}
use Rattle.fuel.specs.declared.Fuel.{Fuel}
use Rattle.image.specs.Records.{if?, both, Answer, refused, accepted}
use Rattle.image.specs.Program.{last_fine, operand_kind, no_op}
use Rattle.image.specs.Image.{parse}
use Rattle.image.specs.Fine.{Fine, Accepted, OperandIn, no_constant, bytes_of}
use Rattle.image.proofs.Accepted.{accepted_fine}
use Rattle.image.proofs.Parts.{first, second}
use Rattle.image.specs.declared.Op.{Op}
use Rattle.image.specs.declared.OperandKind.TheVariants.{Target}
use Rattle.machine.specs.Values.{Program, code_of, is_null, is_effect, equal_effects, match_effect_handler, effect_params, Computed, computes, fails, unary, binary}
use Rattle.machine.specs.Machine.{Handler, Frame, lucia, host, effect_callback, Object, closure, list, continuation, M, Lookup, here, absent, object_at, effects, handlers_of, function_of}
use Rattle.machine.specs.Opcodes.{Action, clears, doing, Taken, takes, refuses, Running, with_top, with_two, computed, reaches, captured, load_const, Operands, operands, too_few, operands_of, callable, call_taken, build_list, pop_jump, jump_or_pop, registered, register_handler, check_effect, between, opcode_action, closure_action, next_action}
use Rattle.machine.specs.Calls.{Lent, Sizes, top_handlers, handlers_left, Outcome, does, stops, judge, outcome, World, Step, Trace, world_after, steps_of, run, CallbackReturn, call_with, perform, tail_call, tail_perform, return_it, error_with, panic_with, Request, start, answer, clear, text, bytes, set_global, get_global, set_builtin, get_builtin, fit, answer_action, answered, idle, request_action, request_world, end_of, asked, loaded_machine, loaded, load, Call, runs, asks, loads, load_trace, call_of, calls_of}
use Rattle.machine.specs.Demand.{All, RefusedLoad, NoLoads}
use Rattle.machine.proofs.StepLaws.{if_cases}
use Rattle.machine.specs.RunLaws.{Lawful, Leads}
use Rattle.machine.proofs.RunLaws.{run_law}
use Rattle.machine.specs.Formed.{FrameFormed, Shaped, Formed, LeftFormed}
use Rattle.machine.proofs.Formed.{doing_shaped}
use Rattle.machine.specs.FormedLaws.{FormedIf, took, not, OutcomeFormed, made, stopped}
use Rattle.machine.proofs.Store.{same_code}

module _ {P : Program} {s : List Object} where
  either : (b : Bool) {x y : Taken} → FormedIf P s x → FormedIf P s y → FormedIf P s (if? b x y)
  either true h k = h
  either false h k = k

  top_formed : (st : List Cell) (d : Cell → List Cell → Action) → ((v : Cell) (rest : List Cell) → handlers_left (d v rest) ≤ 16 → LeftFormed P s (d v rest)) → FormedIf P s (with_top st d)
  unfolding with_top
  top_formed [] d h = not 12
  top_formed (v ∷ st) d h = took (d v st) (h v st)

  two_formed : (st : List Cell) (d : Cell → Cell → List Cell → Action) → ((v w : Cell) (rest : List Cell) → handlers_left (d v w rest) ≤ 16 → LeftFormed P s (d v w rest)) → FormedIf P s (with_two st d)
  unfolding with_two
  two_formed [] d h = not 12
  two_formed (v ∷ []) d h = not 12
  two_formed (v ∷ w ∷ st) d h = took (d v w st) (h v w st)

  call_formed : (o : Operands) (a b : List Cell → List Frame) → ((rest : List Cell) → All (FrameFormed P s) (a rest)) → ((rest : List Cell) → All (FrameFormed P s) (b rest)) → FormedIf P s (call_taken s o a b)
  unfolding call_taken
  call_formed too_few a b h k = not 12
  call_formed (operands f args rest) a b h k = either (callable (function_of s f)) (took _ (λ _. k rest)) (took _ (λ _. h rest))

  fit_formed : (b : Bool) (d : Action) → (handlers_left d ≤ 16 → LeftFormed P s d) → FormedIf P s (fit b d)
  unfolding fit
  fit_formed true d h = took d h
  fit_formed false d h = not 5

-- The running frame, but for its place, is in form, and so are the frames below it.
record Standing (P : Program) (s : List Object) (r : Running) : Type 0 where
  closure_there : object_at s r.handle ≡ here (closure r.number r.upvalues)
  known : r.number < length P.codes
  code : code_of P r.number ≡ r.code
  fine : Fine P.image P.codes r.number r.code
  locals : length r.locals ≡ r.code.locals
  targets : All (λ (x : Handler). x.target < length r.code.opcodes) r.handlers
  handlers : length (effects r.handlers) ≤ 16
  below : All (FrameFormed P s) r.below

registered_in : (P : Program) (e : Cell) (t k n : ℕ) (hs : List Handler) → t < n → All (λ (x : Handler). x.target < n) hs → All (λ (x : Handler). x.target < n) (registered P e t k hs)
unfolding registered
registered_in P e t k n [] l h = (l, tt)
registered_in P e t k n (x ∷ hs) l h = if_cases (All (λ (x : Handler). x.target < n)) (equal_effects P x.effect e) _ _ (λ _. (l, h.1)) (λ _. (h.0, registered_in P e t k n hs l h.1))

module _ (P : Program) (m : M) (r : Running) (w : Standing P m.store r) where
  abbrev size : ℕ
  size = length r.code.opcodes

  -- the frame at a place of its code, with other locals, stack or handlers
  framed : {p : ℕ} {l st : List Cell} {hs : List Handler} → p < size → length l ≡ r.code.locals → All (λ (x : Handler). x.target < size) hs → length (effects hs) ≤ 16
      → FrameFormed P m.store (lucia r.handle p l st hs) × All (FrameFormed P m.store) r.below
  unfolding handlers_of
  framed p l t k =
      (record { stands = record { code = r.number; upvalues = r.upvalues; closure_there = w.closure_there; known = w.known; place = rw w.code p; locals = rw w.code l; targets = rw w.code t }; handlers = k }, w.below)

  at_place : {p : ℕ} {st : List Cell} → p < size → FrameFormed P m.store (lucia r.handle p r.locals st r.handlers) × All (FrameFormed P m.store) r.below
  at_place p = framed p w.locals w.targets w.handlers

  or_formed : (b : Bool) (x y : Action) → (handlers_left x ≤ 16 → LeftFormed P m.store x) → (handlers_left y ≤ 16 → LeftFormed P m.store y) → handlers_left (if? b x y) ≤ 16 → LeftFormed P m.store (if? b x y)
  or_formed true x y h k = h
  or_formed false x y h k = k

  -- an opcode whose frame may stay: the place past it is inside
  module _ (past : r.place < size) where
    computed_formed : (st : List Cell) (c : Computed) → LeftFormed P m.store (computed r st c)
    unfolding computed
    computed_formed st (computes v) = at_place past
    computed_formed st (fails x) = at_place past

    const_formed : (i : ℕ) → i < length r.code.constants → FormedIf P m.store (load_const P m r i)
    unfolding load_const
    const_formed i l =
        let c = get_or r.code.codes (le_at 2 (bytes_of P.image (get_or r.code.constants i no_constant)) 0) 0 in
        if_cases (FormedIf P m.store) (eqb (get_or r.code.constants i no_constant).kind 22) _ _
        (λ q. took _ (λ _. ((w.fine.below _ ((w.fine.valued i l).function (eqb-true _ _ q)), length-map (code_of P c).captures (captured r)), at_place past))) (λ _. took _ (λ _. at_place past))

    list_formed : (n : ℕ) → FormedIf P m.store (build_list m r n)
    unfolding build_list
    list_formed n = either (leb n (length r.stack)) (took _ (λ _. (tt, at_place past))) (not 12)

    pop_formed : (op x truth : ℕ) → x < size → (v : Cell) (rest : List Cell) → handlers_left (pop_jump r op x truth v rest) ≤ 16 → LeftFormed P m.store (pop_jump r op x truth v rest)
    unfolding pop_jump
    pop_formed op x truth l v rest = or_formed (eqb v.tag 1) _ _ (or_formed (eqb v.number truth) _ _ (λ _. at_place l) (λ _. at_place past)) (λ _. at_place past)

    jump_formed : (op x truth : ℕ) → x < size → (v : Cell) (rest : List Cell) → handlers_left (jump_or_pop r op x truth v rest) ≤ 16 → LeftFormed P m.store (jump_or_pop r op x truth v rest)
    unfolding jump_or_pop
    jump_formed op x truth l v rest = or_formed (eqb v.tag 1) _ _ (or_formed (eqb v.number truth) _ _ (λ _. at_place l) (λ _. at_place past)) (λ _. at_place past)

    register_formed : (t : ℕ) → t < size → (e : Cell) (rest : List Cell) → handlers_left (register_handler P r t e rest) ≤ 16 → LeftFormed P m.store (register_handler P r t e rest)
    unfolding register_handler handlers_left top_handlers handlers_of
    register_formed t l e rest = or_formed (is_effect e) _ _ (λ k. framed past w.locals (registered_in P e t _ _ r.handlers l w.targets) k) (λ _. at_place past)

    check_formed : (x : ℕ) (expected e : Cell) (rest : List Cell) → handlers_left (check_effect P r x expected e rest) ≤ 16 → LeftFormed P m.store (check_effect P r x expected e rest)
    unfolding check_effect
    check_formed x expected e rest = or_formed (both (both (is_effect e) (is_effect expected)) (match_effect_handler (effect_params P e) (effect_params P expected))) _ _ (λ _. at_place past) (λ _. at_place past)

  module _ (o : Op) (operand : OperandIn r.code (operand_kind o.number) o.operand) (next : last_fine o ≡ false → r.place < size) where
    abbrev If : Taken → Type 0
    If = FormedIf P m.store

    -- opcode k, with which no code ends
    is : (k : ℕ) {a b : Taken} → if? (eqb k 37) true (both (leb 40 k) (leb k 43)) ≡ false → (o.number ≡ k → r.place < size → If a) → If b → If (if? (eqb o.number k) a b)
    unfolding last_fine
    is k {a} {b} l f g = if_cases If (eqb o.number k) a b (λ q. let e = eqb-true o.number k q in f e (next (rw e l))) (λ _. g)

    -- opcodes below `Return`
    early : (i j : ℕ) {a b : Taken} → j < 37 → (r.place < size → If a) → If b → If (if? (between i j o.number) a b)
    unfolding last_fine both
    early i j {a} {b} l f g = if_cases If (between i j o.number) a b
        (λ q. let k = leb-true o.number j (second (leb i o.number) _ q) in f (next (rw (ne_eqb o.number 37 (λ e. omega arith), lt-leb 40 o.number (omega arith)) refl))) (λ _. g)

    -- the plain jumps
    plain : {a b : Taken} → (o.operand < size → If a) → If b → If (if? (between 40 43 o.number) a b)
    unfolding operand_kind
    plain {a} {b} f g = if_cases If (between 40 43 o.number) a b
        (λ q. let i = leb-true 40 o.number (first _ _ q) in let j = leb-true o.number 43 (second _ _ q) in
        f (rw (lt-leb 52 o.number (omega arith), lt-leb 50 o.number (omega arith), le-leb 40 o.number i) at operand)) (λ _. g)

    target : (k : ℕ) → operand_kind k ≡ Target → o.number ≡ k → o.operand < size
    target k q e = rw (e, q) at operand

    opcode_formed : If (opcode_action P m r o.number o.operand)
    unfolding opcode_action both operand_kind
    opcode_formed =
        let st = r.stack in
        let x = o.operand in
        is 0 refl (λ e p. top_formed st _ (λ v rest _. at_place p))
        (is 1 refl (λ e p. either (reaches x st) (took _ (λ _. at_place p)) (not 12))
        (is 2 refl (λ e p. either (reaches x st) (took _ (λ _. at_place p)) (not 12))
        (is 3 refl (λ e p. took _ (λ _. at_place p))
        (is 4 refl (λ e p. took _ (λ _. at_place p))
        (is 5 refl (λ e p. took _ (λ _. at_place p))
        (is 6 refl (λ e p. const_formed p x (rw e at operand))
        (is 7 refl (λ e p. top_formed st _ (λ v rest _. framed p (rw (length-set r.locals x v) w.locals) w.targets w.handlers))
        (is 8 refl (λ e p. top_formed st _ (λ v rest _. at_place p))
        (is 10 refl (λ e p. list_formed p x)
        (early 17 18 (omega arith) (λ p. top_formed st _ (λ v rest _. computed_formed p rest (unary o.number v)))
        (early 19 29 (omega arith) (λ p. two_formed st _ (λ b a rest _. computed_formed p rest (binary P o.number a b)))
        (is 30 refl (λ e p. top_formed st _ (λ v rest _. at_place p))
        (is 36 refl (λ e p. call_formed (operands_of x st) _ _ (λ rest. at_place p) (λ rest. at_place p))
        (either (eqb o.number 37) (top_formed st _ (λ v rest _. w.below))
        (is 38 refl (λ e p. call_formed (operands_of x st) _ _ (λ rest. at_place p) (λ rest. w.below))
        (plain (λ t. took _ (λ _. at_place t))
        (is 44 refl (λ e p. top_formed st _ (λ v rest. or_formed (is_null v) _ _ (λ _. at_place (target 44 refl e)) (λ _. at_place p)))
        (is 45 refl (λ e p. top_formed st _ (pop_formed p o.number x 1 (target 45 refl e)))
        (is 46 refl (λ e p. top_formed st _ (pop_formed p o.number x 0 (target 46 refl e)))
        (is 47 refl (λ e p. top_formed st _ (jump_formed p o.number x 1 (target 47 refl e)))
        (is 48 refl (λ e p. top_formed st _ (jump_formed p o.number x 0 (target 48 refl e)))
        (is 49 refl (λ e p. top_formed st _ (register_formed p x (target 49 refl e)))
        (is 50 refl (λ e p. two_formed st _ (check_formed p x))
        (is 51 refl (λ e p. took _ (λ _. at_place p)) (not 3)))))))))))))))))))))))))

-- ---- The next action, and what a request asks for
module _ (P : Program) (a : Accepted P.image P.codes) where
  closure_formed : (m : M) (h p : ℕ) (l st : List Cell) (hs : List Handler) (below : List Frame) (o : Lookup) → object_at m.store h ≡ o
      → All (FrameFormed P m.store) (lucia h p l st hs ∷ below) → FormedIf P m.store (closure_action P m h p l st hs below o)
  unfolding closure_action handlers_of
  closure_formed m h p l st hs below (here (closure c us)) q w =
      let i = w.0.stands in
      let e : i.code ≡ c = same_code i.closure_there q in
      let f = a.fine c (rw e at i.known) in
      let inside : p < length (code_of P c).opcodes = rw e at i.place in
      opcode_formed P m _ (record { closure_there = q; known = rw e at i.known; code = refl; fine = f; locals = rw e at i.locals; targets = rw e at i.targets; handlers = w.0.handlers; below = w.1 })
      (get_or (code_of P c).opcodes p no_op) (f.operand p inside) (f.next p inside)
  closure_formed m h p l st hs below (here (list vs)) q w = not 7
  closure_formed m h p l st hs below (here (continuation K)) q w = not 7
  closure_formed m h p l st hs below absent q w = not 7

  pub next_formed : (m : M) (F : List Frame) → All (FrameFormed P m.store) F → FormedIf P m.store (next_action P m F)
  unfolding next_action
  next_formed m [] w = not 11
  next_formed m (lucia h p l st hs ∷ below) w = closure_formed m h p l st hs below (object_at m.store h) refl w
  next_formed m (host n x st hs ∷ below) w = not 11
  next_formed m (effect_callback e st hs ∷ below) w = took _ (λ _. w.1)

module _ (P : Program) (s : List Object) where
  answer_formed : (n word : ℕ) (st hs : List Cell) (below : List Frame) (r : CallbackReturn) → length hs ≤ 16 → All (FrameFormed P s) below → FormedIf P s (answer_action P s (λ (new : List Cell). host n word st new) hs below r)
  unfolding answer_action handlers_left top_handlers handlers_of
  answer_formed n word st hs below (call_with f args new) k w = fit_formed _ _ (λ l. (record { stands = tt; handlers = l }, w))
  answer_formed n word st hs below (perform e args) k w = fit_formed _ _ (λ _. (record { stands = tt; handlers = k }, w))
  answer_formed n word st hs below (tail_call f args) k w = fit_formed _ _ (λ _. w)
  answer_formed n word st hs below (tail_perform e args) k w = fit_formed _ _ (λ _. w)
  answer_formed n word st hs below (return_it v) k w = fit_formed _ _ (λ _. w)
  answer_formed n word st hs below (error_with v) k w = fit_formed _ _ (λ _. (record { stands = tt; handlers = k }, w))
  answer_formed n word st hs below (panic_with v) k w = fit_formed _ _ (λ _. (record { stands = tt; handlers = k }, w))

  answered_formed : (word : ℕ) (r : CallbackReturn) (F : List Frame) → All (FrameFormed P s) F → FormedIf P s (answered P s word r F)
  unfolding answered handlers_of
  answered_formed word r [] w = not 11
  answered_formed word r (lucia c p l st hs ∷ below) w = not 11
  answered_formed word r (host n x st hs ∷ below) w = answer_formed n word st hs below r w.0.handlers w.1
  answered_formed word r (effect_callback e st hs ∷ below) w = not 11

pub request_formed : (P : Program) (q : Request) (w : World) → All (FrameFormed P w.machine.store) w.machine.frames → FormedIf P w.machine.store (request_action P q w)
unfolding request_action
request_formed P (start f args) w h = either (idle w.machine.result w.machine.frames) (fit_formed _ _ (λ _. tt)) (not 11)
request_formed P (answer word fuel r) w h = either w.wait (answered_formed P w.machine.store word r w.machine.frames h) (not 11)
request_formed P clear w h = took clears (λ _. tt)
request_formed P (text page v) w h = fit_formed _ _ (λ _. h)
request_formed P (bytes v) w h = fit_formed _ _ (λ _. h)
request_formed P (set_global g v) w h = fit_formed _ _ (λ _. h)
request_formed P (get_global g) w h = fit_formed _ _ (λ _. h)
request_formed P (set_builtin g v) w h = fit_formed _ _ (λ _. h)
request_formed P (get_builtin g) w h = fit_formed _ _ (λ _. h)

judge_formed : (P : Program) (z : Sizes) (d : Action) (m : M) → (handlers_left d ≤ 16 → Shaped P m) → OutcomeFormed P (judge z d m)
unfolding judge
judge_formed P z d m h = by _ _ (ltb z.live _) (ltb z.store _) (ltb-false 16 (handlers_left d)) (ltb-false 256 (length m.frames))
  where
    by : (a b c e : Bool) → (a ≡ false → handlers_left d ≤ 16) → (b ≡ false → length m.frames ≤ 256) → OutcomeFormed P (if? a (stops 16) (if? b (stops 13) (if? c (stops 14) (if? e (stops 15) (does d m)))))
    by true b c e k l = stopped
    by false true c e k l = stopped
    by false false true e k l = stopped
    by false false false true k l = stopped
    by false false false false k l = made (record { shaped = h (k refl); few = l refl })

outcome_formed : (P : Program) → Accepted P.image P.codes → (z : Sizes) (m : M) (t : Taken) → Shaped P m → FormedIf P m.store t → OutcomeFormed P (outcome P z t m)
unfolding outcome
outcome_formed P a z m (takes d) w (took _ h) = judge_formed P z d (doing P d m) (λ l. doing_shaped P a d m w (h l))
outcome_formed P a z m (refuses n) w (not _) = stopped

-- the machine after a request that is done
end_machine : (P : Program) (q : Request) (w : World) (m : M) → (world_after (end_of P q w m)).machine ≡ m
unfolding end_of request_world world_after
end_machine P (start f args) w m = refl
end_machine P (answer word fuel r) w m = refl
end_machine P clear w m = refl
end_machine P (text page v) w m = refl
end_machine P (bytes v) w m = refl
end_machine P (set_global g v) w m = refl
end_machine P (get_global g) w m = refl
end_machine P (set_builtin g v) w m = refl
end_machine P (get_builtin g) w m = refl

pub taken_formed : {P : Program} {s : List Object} {t : Taken} (d : Action) → FormedIf P s t → t ≡ takes d → handlers_left d ≤ 16 → LeftFormed P s d
taken_formed d (took x h) q = let y : x ≡ d = cc in rw y at h
taken_formed d (not n) q = let z : ◌≡◌ {A = ℕ} 0 1 = cc in absurd (omega arith)

module _ (P : Program) (z : Sizes) (a : Accepted P.image P.codes) where
  -- An accepted step leads from a machine in form to one in form.
  pub next_keeps : (m : M) → Formed P m → OutcomeFormed P (outcome P z (next_action P m m.frames) m)
  next_keeps m w = outcome_formed P a z m (next_action P m m.frames) w.shaped (next_formed P a m m.frames w.shaped.frames)

  -- An accepted request does so too.
  pub request_keeps : (q : Request) (w : World) → Formed P w.machine → OutcomeFormed P (outcome P z (request_action P q w) w.machine)
  request_keeps q w k = outcome_formed P a z w.machine (request_action P q w) k.shaped (request_formed P q w k.shaped.frames)

  step_formed : (s : Step) → Lawful P z s → Formed P s.before → Formed P s.after
  step_formed s l w =
      let c = l.accepted in
      let left = taken_formed s.action (next_formed P a s.before s.before.frames w.shaped.frames) c.next c.handlers in
      record { shaped = rw c.done (doing_shaped P a s.action s.before w.shaped left); few = c.fits.frames }

  leads_formed : (m : M) (ss : List Step) (final : M) → Leads P z m ss final → Formed P m → Formed P final
  leads_formed m [] final l w = rw l at w
  leads_formed m (s ∷ ss) final l w = leads_formed s.after ss final l.2 (step_formed s l.1 (rw l.0 at w))

  -- A run leads from a machine in form to one in form.
  pub run_formed : (t : ℕ) (fuel : Fuel) (left : ℕ) (m : M) → Formed P m → Formed P (world_after (run P z t fuel left m)).machine
  run_formed t fuel left m = leads_formed m (steps_of (run P z t fuel left m)) _ (run_law P z t fuel left m).leads

  asked_formed : (q : Request) (w : World) (o : Outcome) → OutcomeFormed P o → Formed P w.machine → Formed P (world_after (asked P q w o)).machine
  unfolding asked world_after
  asked_formed q w (does d m) (made h) k = rw (end_machine P q w m) h
  asked_formed q w (stops n) stopped k = k

  -- Every call but an accepted load does so too.
  pub call_keeps : (c : Call) (w : World) → RefusedLoad z c → Formed P w.machine → Formed P (world_after (call_of P z c w)).machine
  unfolding call_of load_trace world_after
  call_keeps (runs t fuel) w h k = if_cases (λ (r : Trace). Formed P (world_after r).machine) w.wait _ _ (λ _. k) (λ _. run_formed t fuel w.slice w.machine k)
  call_keeps (asks q) w h k = asked_formed q w _ (request_keeps q w k) k
  call_keeps (loads image) w h k = by (load image z) refl
    where
      by : (x : Answer Program) → load image z ≡ x → Formed P (world_after (load_trace w x)).machine
      by (refused n) e = k
      by (accepted Q) e = absurd (h Q e)

calls_keep : (P : Program) (a : Accepted P.image P.codes) (cs : List Lent) (w : World) → NoLoads cs → Formed P w.machine → Formed P (calls_of P cs w).machine
unfolding calls_of
calls_keep P a [] w h k = k
calls_keep P a (c ∷ cs) w h k = calls_keep P a cs (world_after (call_of P c.sizes c.call w)) h.1 (call_keeps P c.sizes a c.call w h.0 k)

-- The machine that an accepted load makes is in form.
pub loaded_formed : (P : Program) → Accepted P.image P.codes → Formed P (loaded_machine P)
unfolding loaded_machine
loaded_formed P a = record { shaped = record { frames = tt; store = ((omega (arith, a.some), length-replicate (length (code_of P 0).captures) null), tt) }; few = omega arith }

-- Every machine that a list of calls leads to from an accepted image is in form.
pub formed_law : (P : Program) → parse P.image ≡ accepted P.codes → (cs : List Lent) → NoLoads cs → Formed P (calls_of P cs (loaded P)).machine
formed_law P e cs h = let a = accepted_fine P.image P.codes e in calls_keep P a cs (loaded P) h (loaded_formed P a)
