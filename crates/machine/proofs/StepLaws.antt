-- Laws of one step: what it keeps, what it fits in, and which numbers refuse it.
use Rattle.std.specs.Prelude.{◌≡◌, refl, List, [], ◌∷◌, ◌++◌, Bool, true, false, ℕ, zero, suc, ◌<◌, length, get_or, drop, leb, eqb}
use Rattle.std.proofs.Common.{sym, ap, ◌∙◌, append_assoc, append-nil, arith, length-set, ltb-false}
use Rattle.cells.specs.declared.Cell.{Cell}
use Rattle.image.specs.Records.{if?, both}
use Rattle.image.specs.Program.{Code}
use Rattle.image.specs.Fine.{no_constant}
use Rattle.machine.specs.Values.{Program, code_of, Params, code_params, effect_params, is_null, is_effect, match_effect_handler, Error, Computed, computes, fails, unary, binary, thrown, shown}
use Rattle.machine.specs.Machine.{Handler, Frame, lucia, host, effect_callback, Object, closure, list, continuation, Result, running, returned, failed, unhandled, M, with_frames, Lookup, here, absent, object_at, check_args, wrong_count, parse, Found, found, nowhere, search, capture, perform_by, throw_error, perform_effect, Function, is_closure, is_callback, is_effect_callback, is_continuation, is_none, function_of, resume, call_closure, call_function, return_value}
use Rattle.machine.specs.Opcodes.{Action, goes, jumps, makes, sets, sets_builtin, calls, performs, throws, returns, clears, doing, Taken, takes, refuses, Running, with_top, with_two, reaches, Operands, operands, too_few, computed, callable, call_taken, by_bool, pop_jump, jump_or_pop, register_handler, check_effect, load_const, build_list, between, opcode_action, closure_action, next_action}
use Rattle.machine.specs.Calls.{Sizes, does, stops, judge, outcome, is_ready, turn_of}
use Rattle.machine.specs.StepLaws.{Grown, Kept, lucia_top, StaysOn, Accepted, Refusal, wrong_opcode, wrong_handle, few_values, many_frames, no_live, no_store, many_handlers, Judged, does_it, stops_it}

-- What holds of both branches, each with its test, holds of the choice.
pub if_cases : {A : Type 0} (Q : A → Type 0) (b : Bool) (x y : A) → (b ≡ true → Q x) → (b ≡ false → Q y) → Q (if? b x y)
if_cases Q true x y h k = h refl
if_cases Q false x y h k = k refl

grown_none : (s : List Object) → Grown s s
grown_none s = record { new = []; store = sym (append-nil s) }

pub grown_both : (a b c : List Object) → Grown a b → Grown b c → Grown a c
grown_both a b c g h = record { new = g.new ++ h.new; store = h.store ∙ ap (λ (s : List Object). s ++ h.new) g.store ∙ append_assoc a g.new h.new }

pub kept_none : (m : M) → Kept m m
kept_none m = record { grown = grown_none m.store; globals = refl; builtins = refl }

pub kept_both : (a b c : M) → Kept a b → Kept b c → Kept a c
kept_both a b c k l = record { grown = grown_both a.store b.store c.store k.grown l.grown; globals = l.globals ∙ k.globals; builtins = l.builtins ∙ k.builtins }

-- The store only grew, and the tables are the same.
abbrev Grows : M → M → Type 0
Grows m after = Grown m.store after.store × (after.globals ≡ m.globals) × (after.builtins ≡ m.builtins)

pub parse_grown : (b : Bool) (n : ℕ) (args : List Cell) (s : List Object) → Grown s (parse b n args s).store
unfolding parse
parse_grown true n args s = record { new = list (drop n args) ∷ []; store = refl }
parse_grown false n args s = grown_none s

capture_grown : (P : Program) (p : Params) (e : Cell) (args : List Cell) (left : Result) (m : M) (x : Found) → Grows m (capture P p e args left m x)
unfolding capture
capture_grown P p e args left m nowhere = (grown_none m.store, refl, refl)
capture_grown P p e args left m (found above h below) =
    (grown_both m.store (m.store ++ (continuation above ∷ [])) _ (record { new = continuation above ∷ []; store = refl }) (parse_grown p.variadic p.count args (m.store ++ (continuation above ∷ []))), refl, refl)

perform_grown : (throw : Error → M → M) (P : Program) (e : Cell) (args : List Cell) (left : Result) (m : M) → ((x : Error) → Grows m (throw x m)) → Grows m (perform_by throw P e args left m)
unfolding perform_by
perform_grown throw P e args left m h =
    if_cases (Grows m) (check_args (effect_params P e) args) _ _ (λ q. capture_grown P (effect_params P e) e args left m (search P e m.frames)) (λ q. h (wrong_count (effect_params P e) args))

throw_grown : (n : ℕ) (P : Program) (x : Error) (m : M) → Grows m (throw_error n P x m)
unfolding throw_error
throw_grown zero P x m = (grown_none m.store, refl, refl)
throw_grown (suc n) P x m = perform_grown (throw_error n P) P (thrown x) (shown x ∷ []) (failed x) m (λ y. throw_grown n P y m)

closure_grown : (P : Program) (h : ℕ) (c : Code) (args : List Cell) (m : M) → Grows m (call_closure P h c args m)
unfolding call_closure
closure_grown P h c args m =
    if_cases (Grows m) (check_args (code_params c) args) _ _ (λ q. (parse_grown (code_params c).variadic (code_params c).count args m.store, refl, refl)) (λ q. throw_grown 1 P (wrong_count (code_params c) args) m)

resume_grown : (P : Program) (K : List Frame) (args : List Cell) (m : M) → Grows m (resume P K args m)
unfolding resume
resume_grown P K [] m = throw_grown 1 P _ m
resume_grown P K (v ∷ []) m = (grown_none m.store, refl, refl)
resume_grown P K (v ∷ w ∷ vs) m = throw_grown 1 P _ m

call_grown : (P : Program) (x : Function) (f : Cell) (args : List Cell) (m : M) → Grows m (call_function P x f args m)
unfolding call_function
call_grown P (is_closure h c) f args m = closure_grown P h (code_of P c) args m
call_grown P (is_callback n w) f args m = (grown_none m.store, refl, refl)
call_grown P (is_effect_callback e) f args m = (grown_none m.store, refl, refl)
call_grown P (is_continuation k K) f args m = resume_grown P K args m
call_grown P is_none f args m = throw_grown 1 P _ m

return_grown : (v : Cell) (F : List Frame) (m : M) → Grows m (return_value v F m)
unfolding return_value
return_grown v [] m = (grown_none m.store, refl, refl)
return_grown v (f ∷ fs) m = (grown_none m.store, refl, refl)

tables : (m after : M) → Grows m after → Kept m after
tables m after g = record { grown = g.0; globals = ap length g.1; builtins = ap length g.2 }

-- Whatever is done appends to the store, and keeps the lengths of the tables.
pub doing_kept : (P : Program) (d : Action) (m : M) → Kept m (doing P d m)
unfolding doing perform_effect
doing_kept P (goes F) m = tables m _ (grown_none m.store, refl, refl)
doing_kept P (jumps F) m = tables m _ (grown_none m.store, refl, refl)
doing_kept P (makes o F) m = tables m _ (record { new = o ∷ []; store = refl }, refl, refl)
doing_kept P (sets g v F) m = record { grown = grown_none m.store; globals = length-set m.globals g v; builtins = refl }
doing_kept P (sets_builtin g v F) m = record { grown = grown_none m.store; globals = refl; builtins = length-set m.builtins g v }
doing_kept P (calls f args F) m = tables m _ (call_grown P (function_of m.store f) f args (with_frames F m))
doing_kept P (performs e args F) m = tables m _ (perform_grown (throw_error 1 P) P e args (unhandled e args) (with_frames F m) (λ x. throw_grown 1 P x (with_frames F m)))
doing_kept P (throws x F) m = tables m _ (throw_grown 1 P x (with_frames F m))
doing_kept P (returns v F) m = tables m _ (return_grown v F (with_frames F m))
doing_kept P clears m = tables m _ (grown_none m.store, refl, refl)

-- A refusal is a number from 1 to 16.
pub refusal_some : (n : ℕ) → Refusal n → 0 < n
refusal_some n wrong_opcode = omega arith
refusal_some n wrong_handle = omega arith
refusal_some n few_values = omega arith
refusal_some n many_frames = omega arith
refusal_some n no_live = omega arith
refusal_some n no_store = omega arith
refusal_some n many_handlers = omega arith

pub refusal_small : (n : ℕ) → Refusal n → n < 17
refusal_small n wrong_opcode = omega arith
refusal_small n wrong_handle = omega arith
refusal_small n few_values = omega arith
refusal_small n many_frames = omega arith
refusal_small n no_live = omega arith
refusal_small n no_store = omega arith
refusal_small n many_handlers = omega arith

judge_law : (P : Program) (z : Sizes) (d : Action) (m : M) → StaysOn d → Judged P z (takes d) m (judge z d (doing P d m))
unfolding judge
judge_law P z d m t =
    if_cases (Judged P z (takes d) m) _ _ _ (λ q. stops_it 16 many_handlers) (λ a.
    if_cases (Judged P z (takes d) m) _ _ _ (λ q. stops_it 13 many_frames) (λ b.
    if_cases (Judged P z (takes d) m) _ _ _ (λ q. stops_it 14 no_live) (λ c.
    if_cases (Judged P z (takes d) m) _ _ _ (λ q. stops_it 15 no_store) (λ e.
    does_it d _ (record { next = refl; done = refl; stays = t; handlers = ltb-false _ _ a; fits = record { frames = ltb-false _ _ b; live = ltb-false _ _ c; store = ltb-false _ _ e } })))))

-- An action, or refusal 3, 7 or 12.
data Next : Taken → Type 0 where
  taken : (d : Action) → StaysOn d → Next (takes d)
  not : (n : ℕ) → Refusal n → Next (refuses n)

few : Next (refuses 12)
few = not 12 few_values

top_next : (st : List Cell) (f : Cell → List Cell → Action) → ((v : Cell) (st : List Cell) → StaysOn (f v st)) → Next (with_top st f)
unfolding with_top
top_next [] f h = few
top_next (v ∷ st) f h = taken (f v st) (h v st)

two_next : (st : List Cell) (f : Cell → Cell → List Cell → Action) → ((v w : Cell) (st : List Cell) → StaysOn (f v w st)) → Next (with_two st f)
unfolding with_two
two_next [] f h = few
two_next (v ∷ []) f h = few
two_next (v ∷ w ∷ st) f h = taken (f v w st) (h v w st)

stays_computed : (r : Running) (st : List Cell) (c : Computed) → StaysOn (computed r st c)
unfolding computed
stays_computed r st (computes v) = lucia_top
stays_computed r st (fails x) = tt

-- A choice of actions stays on if both do.
stays_choice : (b : Bool) (x y : Action) → StaysOn x → StaysOn y → StaysOn (if? b x y)
stays_choice b x y h k = if_cases StaysOn b x y (λ q. h) (λ q. k)

stays_bool : (v : Cell) (truth : ℕ) (a b c : Action) → StaysOn a → StaysOn b → StaysOn c → StaysOn (by_bool v truth a b c)
stays_bool v truth a b c h k l = stays_choice (eqb v.tag 1) _ c (stays_choice (eqb v.number truth) a b h k) l

choice : (b : Bool) (x y : Taken) → Next x → Next y → Next (if? b x y)
choice b x y h k = if_cases Next b x y (λ q. h) (λ q. k)

call_next : (s : List Object) (o : Operands) (kept left : List Cell → List Frame) → Next (call_taken s o kept left)
unfolding call_taken
call_next s too_few kept left = few
call_next s (operands f args rest) kept left = choice (callable (function_of s f)) _ _ (taken _ tt) (taken _ tt)

opcode_next : (P : Program) (m : M) (r : Running) (op x : ℕ) → Next (opcode_action P m r op x)
unfolding opcode_action load_const build_list pop_jump jump_or_pop register_handler check_effect
opcode_next P m r op x =
    choice (eqb op 0) _ _ (top_next _ _ (λ v st. lucia_top))
    (choice (eqb op 1) _ _ (choice (reaches x r.stack) _ _ (taken _ lucia_top) few)
    (choice (eqb op 2) _ _ (choice (reaches x r.stack) _ _ (taken _ lucia_top) few)
    (choice (eqb op 3) _ _ (taken _ lucia_top)
    (choice (eqb op 4) _ _ (taken _ lucia_top)
    (choice (eqb op 5) _ _ (taken _ lucia_top)
    (choice (eqb op 6) _ _ (choice (eqb (get_or r.code.constants x no_constant).kind 22) _ _ (taken _ lucia_top) (taken _ lucia_top))
    (choice (eqb op 7) _ _ (top_next _ _ (λ v st. lucia_top))
    (choice (eqb op 8) _ _ (top_next _ _ (λ v st. lucia_top))
    (choice (eqb op 10) _ _ (choice (leb x (length r.stack)) _ _ (taken _ lucia_top) few)
    (choice (between 17 18 op) _ _ (top_next _ _ (λ v st. stays_computed r st (unary op v)))
    (choice (between 19 29 op) _ _ (two_next _ _ (λ b a st. stays_computed r st (binary P op a b)))
    (choice (eqb op 30) _ _ (top_next _ _ (λ v st. lucia_top))
    (choice (eqb op 36) _ _ (call_next _ _ _ _)
    (choice (eqb op 37) _ _ (top_next _ _ (λ v st. tt))
    (choice (eqb op 38) _ _ (call_next _ _ _ _)
    (choice (between 40 43 op) _ _ (taken _ lucia_top)
    (choice (eqb op 44) _ _ (top_next _ _ (λ v st. stays_choice (is_null v) _ _ lucia_top lucia_top))
    (choice (eqb op 45) _ _ (top_next _ _ (λ v st. stays_bool v 1 _ _ _ lucia_top lucia_top tt))
    (choice (eqb op 46) _ _ (top_next _ _ (λ v st. stays_bool v 0 _ _ _ lucia_top lucia_top tt))
    (choice (eqb op 47) _ _ (top_next _ _ (λ v st. stays_bool v 1 _ _ _ lucia_top lucia_top tt))
    (choice (eqb op 48) _ _ (top_next _ _ (λ v st. stays_bool v 0 _ _ _ lucia_top lucia_top tt))
    (choice (eqb op 49) _ _ (top_next _ _ (λ e st. stays_choice (is_effect e) _ _ lucia_top tt))
    (choice (eqb op 50) _ _ (two_next _ _ (λ expected e st. stays_choice (both (both (is_effect e) (is_effect expected)) (match_effect_handler (effect_params P e) (effect_params P expected))) _ _ lucia_top tt))
    (choice (eqb op 51) _ _ (taken _ lucia_top) (not 3 wrong_opcode)))))))))))))))))))))))))

closure_next : (P : Program) (m : M) (h p : ℕ) (l st : List Cell) (hs : List Handler) (below : List Frame) (o : Lookup) → Next (closure_action P m h p l st hs below o)
unfolding closure_action
closure_next P m h p l st hs below (here (closure c us)) = opcode_next P m _ _ _
closure_next P m h p l st hs below (here (list vs)) = not 7 wrong_handle
closure_next P m h p l st hs below (here (continuation K)) = not 7 wrong_handle
closure_next P m h p l st hs below absent = not 7 wrong_handle

-- A step is ready only where there is no result.
pub ready_running : (r : Result) (F : List Frame) → turn_of r F ≡ is_ready → r ≡ running
unfolding turn_of
ready_running running F q = refl
ready_running (returned v) F q = let z : ◌≡◌ {A = ℕ} 0 1 = cc in absurd (omega arith)
ready_running (failed x) F q = let z : ◌≡◌ {A = ℕ} 0 1 = cc in absurd (omega arith)
ready_running (unhandled e args) F q = let z : ◌≡◌ {A = ℕ} 0 1 = cc in absurd (omega arith)

ready_next : (P : Program) (m : M) (r : Result) (fs : List Frame) → turn_of r fs ≡ is_ready → Next (next_action P m fs)
unfolding next_action turn_of
ready_next P m running [] q = let z : ◌≡◌ {A = ℕ} 0 1 = cc in absurd (omega arith)
ready_next P m running (lucia h p l st hs ∷ below) q = closure_next P m h p l st hs below (object_at m.store h)
ready_next P m running (host n w st hs ∷ below) q = let z : ◌≡◌ {A = ℕ} 0 1 = cc in absurd (omega arith)
ready_next P m running (effect_callback e st hs ∷ below) q = taken _ tt
ready_next P m (returned v) fs q = let z : ◌≡◌ {A = ℕ} 0 1 = cc in absurd (omega arith)
ready_next P m (failed x) fs q = let z : ◌≡◌ {A = ℕ} 0 1 = cc in absurd (omega arith)
ready_next P m (unhandled e args) fs q = let z : ◌≡◌ {A = ℕ} 0 1 = cc in absurd (omega arith)

next_judged : (P : Program) (z : Sizes) (m : M) (t : Taken) → Next t → Judged P z t m (outcome P z t m)
unfolding outcome
next_judged P z m (takes d) (taken _ t) = judge_law P z d m t
next_judged P z m (refuses n) (not k r) = stops_it k r

-- A step that is ready is done and fits, or is refused with one of the seven numbers.
pub step_law : (P : Program) (z : Sizes) (m : M) → turn_of m.result m.frames ≡ is_ready → Judged P z (next_action P m m.frames) m (outcome P z (next_action P m m.frames) m)
step_law P z m q = next_judged P z m (next_action P m m.frames) (ready_next P m m.result m.frames q)

pub accepted_step : (P : Program) (z : Sizes) (t : Taken) (m : M) (d : Action) (after : M) → Judged P z t m (does d after) → Accepted P z t d m after
accepted_step P z t m d after (does_it _ _ a) = a

pub refused_step : (P : Program) (z : Sizes) (t : Taken) (m : M) (n : ℕ) → Judged P z t m (stops n) → Refusal n
refused_step P z t m n (stops_it _ r) = r
