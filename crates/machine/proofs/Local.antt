-- A step reads nothing of the frames under the running ones but their handlers and sizes.
use Rattle.std.specs.Prelude.{◌≡◌, Bool, length, get_or, take, drop, eqb, leb, ltb}
use Rattle.std.proofs.Math.Path.{refl, ap}
use Rattle.std.proofs.Common.{sym, ◌∙◌, subst, arith, length-append}
use mathlib.Core.List.{List, [], ◌∷◌, ◌++◌, reverse, append_assoc}
use Rattle.std.proofs.Math.Bool.{true, false}
use Prim.Native.Nat.{ℕ, zero, suc, ◌+◌, ◌≤◌, ◌<◌}
use Rattle.cells.specs.declared.Cell.{Cell}
use Rattle.image.specs.Records.{if?, both}
use Rattle.image.specs.Program.{Code}
use Rattle.image.specs.Fine.{no_constant}
use Rattle.machine.specs.Values.{Program, code_of, Params, code_params, effect_params, is_null, is_effect, type_of, match_effect_handler, list_at, continuation_at, Error, meta_un_operator, Computed, computes, fails, unary, binary, thrown, shown}
use Rattle.machine.specs.Machine.{Handler, Frame, lucia, host, effect_callback, Object, closure, list, continuation, Result, running, returned, failed, unhandled, M, with_frames, frame_cost, frames_cost, cost, used, result_cost, Lookup, here, absent, object_at, check_args, wrong_count, parse, parse_args, holds, handlers_of, Found, found, nowhere, under, find, search, enter, capture, perform_by, throw_error, perform_effect, Function, is_closure, is_callback, is_effect_callback, is_continuation, is_none, function_of, new_frame, put_back, resume, call_closure, call_function, receive, return_value}
use Rattle.machine.specs.Opcodes.{Action, goes, jumps, makes, sets, sets_builtin, calls, performs, throws, returns, clears, doing, Taken, takes, refuses, Running, with_top, with_two, computed, reaches, load_const, load_global, Operands, operands, too_few, operands_of, callable, call_taken, build_list, pop_jump, jump_or_pop, register_handler, check_effect, between, opcode_action, closure_action, next_action}
use Rattle.machine.specs.Calls.{Sizes, top_handlers, handlers_left, Outcome, stops, judge, outcome, turn_of}
use Rattle.machine.proofs.Store.{used_append}
use Rattle.machine.specs.Local.{AlikeFrame, alike_lucia, alike_host, alike_effect, Alike, alike_none, alike_more, onto, taken_onto, Over, After, still, within, Same, both_stop, both_do}

same_frame : (f : Frame) → AlikeFrame f f
same_frame (lucia c p l s hs) = alike_lucia refl refl
same_frame (host n w s hs) = alike_host refl
same_frame (effect_callback e s hs) = alike_effect refl

alike_over : (A : List Frame) {F G : List Frame} → Alike F G → Alike (A ++ F) (A ++ G)
alike_over [] h = h
alike_over (f ∷ A) h = alike_more (same_frame f) (alike_over A h)

frame_cost_lem : {f g : Frame} → AlikeFrame f g → frame_cost f ≡ frame_cost g
unfolding frame_cost
frame_cost_lem (alike_lucia p q) = omega (arith, p, q)
frame_cost_lem (alike_host q) = omega (arith, q)
frame_cost_lem (alike_effect q) = omega (arith, q)

-- Alike frames cost the same.
pub alike_cost : {F G : List Frame} → Alike F G → frames_cost F ≡ frames_cost G
unfolding frames_cost
alike_cost alike_none = refl
alike_cost (alike_more h k) = omega (arith, frame_cost_lem h, alike_cost k)

pub alike_length : {F G : List Frame} → Alike F G → length F ≡ length G
alike_length alike_none = refl
alike_length (alike_more h k) = omega (arith, alike_length k)

alike_handlers : {f g : Frame} → AlikeFrame f g → handlers_of f ≡ handlers_of g
unfolding handlers_of
alike_handlers (alike_lucia p q) = refl
alike_handlers (alike_host q) = refl
alike_handlers (alike_effect q) = refl

module _ (L : List Frame) where
  either : (b : Bool) {x y : Taken} (u v : Taken) → x ≡ taken_onto L u → y ≡ taken_onto L v → if? b x y ≡ taken_onto L (if? b u v)
  either true u v h k = h
  either false u v h k = k

  or : (b : Bool) {x y : Action} (u v : Action) → x ≡ onto L u → y ≡ onto L v → if? b x y ≡ onto L (if? b u v)
  or true u v h k = h
  or false u v h k = k

  took : {d : Action} (c : Action) → d ≡ onto L c → takes d ≡ taken_onto L (takes c)
  unfolding taken_onto
  took c h = ap takes h

  not : (n : ℕ) → refuses n ≡ taken_onto L (refuses n)
  unfolding taken_onto
  not n = refl

  top_onto : (st : List Cell) (d c : Cell → List Cell → Action) → ((v : Cell) (rest : List Cell) → d v rest ≡ onto L (c v rest)) → with_top st d ≡ taken_onto L (with_top st c)
  unfolding with_top
  top_onto [] d c h = not 12
  top_onto (v ∷ st) d c h = took _ (h v st)

  two_onto : (st : List Cell) (d c : Cell → Cell → List Cell → Action) → ((v w : Cell) (rest : List Cell) → d v w rest ≡ onto L (c v w rest)) → with_two st d ≡ taken_onto L (with_two st c)
  unfolding with_two
  two_onto [] d c h = not 12
  two_onto (v ∷ []) d c h = not 12
  two_onto (v ∷ w ∷ st) d c h = took _ (h v w st)

  call_onto : (s : List Object) (o : Operands) (a b c d : List Cell → List Frame) → ((rest : List Cell) → a rest ≡ c rest ++ L) → ((rest : List Cell) → b rest ≡ d rest ++ L)
      → call_taken s o a b ≡ taken_onto L (call_taken s o c d)
  unfolding call_taken onto
  call_onto s too_few a b c d h k = not 12
  call_onto s (operands f args rest) a b c d h k = either (callable (function_of s f)) _ _ (took _ (ap (calls f args) (k rest))) (took _ (ap (throws (meta_un_operator 0 (type_of f))) (h rest)))

  -- The running frame with L under the frames below it.
  abbrev over : Running → Running
  over r = record { handle = r.handle; number = r.number; code = r.code; upvalues = r.upvalues; place = r.place; locals = r.locals; stack = r.stack; handlers = r.handlers; below = r.below ++ L }

  computed_onto : (r : Running) (st : List Cell) (c : Computed) → computed (over r) st c ≡ onto L (computed r st c)
  unfolding computed onto
  computed_onto r st (computes v) = refl
  computed_onto r st (fails x) = refl

  opcode_onto : (P : Program) (m : M) (r : Running) (op x : ℕ) → opcode_action P m (over r) op x ≡ taken_onto L (opcode_action P m r op x)
  unfolding opcode_action load_const build_list pop_jump jump_or_pop register_handler check_effect onto
  opcode_onto P m r op x =
      either (eqb op 0) _ _ (top_onto r.stack _ _ (λ v rest. refl))
      (either (eqb op 1) _ _ (either (reaches x r.stack) _ _ (took _ refl) (not 12))
      (either (eqb op 2) _ _ (either (reaches x r.stack) _ _ (took _ refl) (not 12))
      (either (eqb op 3) _ _ (took _ refl)
      (either (eqb op 4) _ _ (took _ refl)
      (either (eqb op 5) _ _ (took _ refl)
      (either (eqb op 6) _ _ (either (eqb (get_or r.code.constants x no_constant).kind 22) _ _ (took _ refl) (took _ refl))
      (either (eqb op 7) _ _ (top_onto r.stack _ _ (λ v rest. refl))
      (either (eqb op 8) _ _ (top_onto r.stack _ _ (λ v rest. refl))
      (either (eqb op 10) _ _ (either (leb x (length r.stack)) _ _ (took _ refl) (not 12))
      (either (between 17 18 op) _ _ (top_onto r.stack _ _ (λ v rest. computed_onto r rest (unary op v)))
      (either (between 19 29 op) _ _ (two_onto r.stack _ _ (λ b a rest. computed_onto r rest (binary P op a b)))
      (either (eqb op 30) _ _ (top_onto r.stack _ _ (λ v rest. refl))
      (either (eqb op 36) _ _ (call_onto m.store (operands_of x r.stack) _ _ _ _ (λ rest. refl) (λ rest. refl))
      (either (eqb op 37) _ _ (top_onto r.stack _ _ (λ v rest. refl))
      (either (eqb op 38) _ _ (call_onto m.store (operands_of x r.stack) _ _ _ _ (λ rest. refl) (λ rest. refl))
      (either (between 40 43 op) _ _ (took _ refl)
      (either (eqb op 44) _ _ (top_onto r.stack _ _ (λ v rest. or (is_null v) _ _ refl refl))
      (either (eqb op 45) _ _ (top_onto r.stack _ _ (λ v rest. or (eqb v.tag 1) _ _ (or (eqb v.number 1) _ _ refl refl) refl))
      (either (eqb op 46) _ _ (top_onto r.stack _ _ (λ v rest. or (eqb v.tag 1) _ _ (or (eqb v.number 0) _ _ refl refl) refl))
      (either (eqb op 47) _ _ (top_onto r.stack _ _ (λ v rest. or (eqb v.tag 1) _ _ (or (eqb v.number 1) _ _ refl refl) refl))
      (either (eqb op 48) _ _ (top_onto r.stack _ _ (λ v rest. or (eqb v.tag 1) _ _ (or (eqb v.number 0) _ _ refl refl) refl))
      (either (eqb op 49) _ _ (top_onto r.stack _ _ (λ e rest. or (is_effect e) _ _ refl refl))
      (either (eqb op 50) _ _ (two_onto r.stack _ _ (λ expected e rest. or (both (both (is_effect e) (is_effect expected)) (match_effect_handler (effect_params P e) (effect_params P expected))) _ _ refl refl))
      (either (eqb op 51) _ _ (took _ refl) (not 3)))))))))))))))))))))))))

  closure_onto : (P : Program) (m : M) (h p : ℕ) (l st : List Cell) (hs : List Handler) (below : List Frame) (o : Lookup) → closure_action P m h p l st hs (below ++ L) o ≡ taken_onto L (closure_action P m h p l st hs below o)
  unfolding closure_action
  closure_onto P m h p l st hs below (here (closure c us)) = opcode_onto P m _ _ _
  closure_onto P m h p l st hs below (here (list vs)) = not 7
  closure_onto P m h p l st hs below (here (continuation K)) = not 7
  closure_onto P m h p l st hs below absent = not 7

  -- The next action is that of the frames above L, with L handed on.
  pub next_onto : (P : Program) (m : M) (f : Frame) (A : List Frame) → next_action P m ((f ∷ A) ++ L) ≡ taken_onto L (next_action P m (f ∷ A))
  unfolding next_action onto
  next_onto P m (lucia h p l st hs) A = closure_onto P m h p l st hs A (object_at m.store h)
  next_onto P m (host n w st hs) A = not 11
  next_onto P m (effect_callback e st hs) A = took _ refl

-- ---- The search: the same split above, or alike splits in the frames below
-- A handler in alike frames, of which fewer than k are below it; or nowhere.
data Deep (k : ℕ) : Found → Found → Type 0 where
  deep : {a c b d : List Frame} {h i : Frame} → Alike a c → AlikeFrame h i → Alike b d → length b < k → Deep k (found a h b) (found c i d)
  no_deep : Deep k nowhere nowhere

deep_under : {k : ℕ} {f g : Frame} {x y : Found} → AlikeFrame f g → Deep k x y → Deep k (under f x) (under g y)
unfolding under
deep_under h (deep a i b q) = deep (alike_more h a) i b q
deep_under h no_deep = no_deep

-- Alike frames are split alike by a search.
find_alike : (k : ℕ) (P : Program) (e : Cell) {F G : List Frame} → Alike F G → length F ≤ k → Deep k (find P e F) (find P e G)
unfolding find
find_alike k P e alike_none q = no_deep
find_alike k P e (alike_more {f = f} {g = g} {F = F} {G = G} h a) q = by (holds P e (handlers_of f)) (holds P e (handlers_of g)) (ap (holds P e) (alike_handlers h)) (find_alike k P e a (omega (arith, q)))
  where
    by : (b c : Bool) → b ≡ c → Deep k (find P e F) (find P e G) → Deep k (if? b (found [] f F) (under f (find P e F))) (if? c (found [] g G) (under g (find P e G)))
    by true true p d = deep alike_none h a (omega (arith, q))
    by false false p d = deep_under h d
    by true false p d = let z : ◌≡◌ {A = ℕ} 0 1 = cc in absurd (omega arith)
    by false true p d = let z : ◌≡◌ {A = ℕ} 0 1 = cc in absurd (omega arith)

module _ {L K : List Frame} (alike : Alike L K) where
  -- The handler is above L and K, and all above it the same; or it is in them.
  data Split : Found → Found → Type 0 where
    high : (a : List Frame) (h : Frame) (b : List Frame) → Split (found a h (b ++ L)) (found a h (b ++ K))
    low : {x y : Found} → Deep (length L) x y → Split x y

  split_under : (f : Frame) {x y : Found} → Split x y → Split (under f x) (under f y)
  unfolding under
  split_under f (high a h b) = high (f ∷ a) h b
  split_under f (low d) = low (deep_under (same_frame f) d)

  find_split : (P : Program) (e : Cell) (B : List Frame) → Split (find P e (B ++ L)) (find P e (B ++ K))
  unfolding find
  find_split P e [] = low (find_alike (length L) P e alike (omega arith))
  find_split P e (f ∷ B) = by (holds P e (handlers_of f)) (find_split P e B)
    where
      by : (b : Bool) → Split (find P e (B ++ L)) (find P e (B ++ K)) → Split (if? b (found [] f (B ++ L)) (under f (find P e (B ++ L)))) (if? b (found [] f (B ++ K)) (under f (find P e (B ++ K))))
      by true d = high [] f B
      by false d = split_under f d

search_alike : (P : Program) (e : Cell) {F G : List Frame} → Alike F G → Deep (length F) (search P e F) (search P e G)
unfolding search
search_alike P e alike_none = no_deep
search_alike P e (alike_more {F = F} h a) = deep_under h (find_alike (suc (length F)) P e a (omega arith))

search_split : {L K : List Frame} (a : Alike L K) (P : Program) (e : Cell) (B : List Frame) → Split a (search P e (B ++ L)) (search P e (B ++ K))
unfolding search
search_split a P e [] = low (search_alike P e a)
search_split a P e (f ∷ B) = split_under a f (find_split a P e B)

above : {L K : List Frame} {m n : M} (B : List Frame) → m.frames ≡ B ++ L → n ≡ with_frames (B ++ K) m → After L K m n
above B p q = still (record { above = B; frames = p; other = q })

enter_cost : (P : Program) (e k : Cell) (args : List Cell) {f g : Frame} → AlikeFrame f g → frame_cost (enter P e k args g) ≡ frame_cost (enter P e k args f)
unfolding frame_cost enter
enter_cost P e k args (alike_lucia {s = s} {t = t} p q) = omega (arith, p, q, length-append (reverse args) (k ∷ s), length-append (reverse args) (k ∷ t))
enter_cost P e k args (alike_host q) = refl
enter_cost P e k args (alike_effect q) = refl

receive_cost : (v : Cell) {f g : Frame} → AlikeFrame f g → frame_cost (receive v g) ≡ frame_cost (receive v f)
unfolding frame_cost receive
receive_cost v (alike_lucia p q) = omega (arith, p, q)
receive_cost v (alike_host q) = refl
receive_cost v (alike_effect q) = refl

-- Captured frames that are alike take as much of the store.
captured_used : (s : List Object) {F G : List Frame} → Alike F G → used (s ++ (continuation G ∷ [])) ≡ used (s ++ (continuation F ∷ []))
unfolding used cost
captured_used s {F} {G} a = omega (arith, alike_cost a, used_append s (continuation F ∷ []), used_append s (continuation G ∷ []))

parse_args_lem : (b : Bool) (n : ℕ) (args : List Cell) (s t : List Object) → used t ≡ used s → (parse b n args t).args ≡ (parse b n args s).args
unfolding parse
parse_args_lem true n args s t q = ap (λ (k : ℕ). take n args ++ (list_at k ∷ [])) q
parse_args_lem false n args s t q = refl

parse_used : (b : Bool) (n : ℕ) (args : List Cell) (s t : List Object) → used t ≡ used s → used (parse b n args t).store ≡ used (parse b n args s).store
unfolding parse
parse_used true n args s t q = omega (arith, q, used_append s (list (drop n args) ∷ []), used_append t (list (drop n args) ∷ []))
parse_used false n args s t q = q

after_choice : {L K : List Frame} (b : Bool) (x y u v : M) → After L K x u → After L K y v → After L K (if? b x y) (if? b u v)
after_choice true x y u v h k = h
after_choice false x y u v h k = k

module _ {L K : List Frame} (alike : Alike L K) (P : Program) (m : M) where
  -- The frames B of the machine over L, and over K.
  abbrev on : List Frame → List Frame → M
  on B F = with_frames (B ++ F) m

  capture_after : (p : Params) (e : Cell) (args : List Cell) (left : Result) (B : List Frame) (x y : Found) → Split alike x y → After L K (capture P p e args left (on B L) x) (capture P p e args left (on B K) y)
  unfolding capture frames_cost
  capture_after p e args left B _ _ (high a h b) = above (enter P e _ _ h ∷ b) refl refl
  capture_after p e args left B _ _ (low no_deep) = above B refl refl
  capture_after p e args left B _ _ (low (deep {a = a} {c = c} {d = d} {i = i} q r b less)) =
      let s = m.store ++ (continuation a ∷ []) in
      let t = m.store ++ (continuation c ∷ []) in
      let u : used t ≡ used s = captured_used m.store q in
      let v : (parse p.variadic p.count args t).args ≡ (parse p.variadic p.count args s).args = parse_args_lem p.variadic p.count args s t u in
      let w = enter_cost P e (continuation_at (used m.store)) (parse p.variadic p.count args s).args r in
      within (omega (arith, less)) (omega (arith, alike_length b))
      (ap (λ (vs : List Cell). frame_cost (enter P e (continuation_at (used m.store)) vs i) + frames_cost d) v ∙ omega (arith, w, alike_cost b))
      (parse_used p.variadic p.count args s t u) refl

  perform_after : (throw : Error → M → M) (e : Cell) (args : List Cell) (left : Result) (B : List Frame) → ((x : Error) → After L K (throw x (on B L)) (throw x (on B K)))
      → After L K (perform_by throw P e args left (on B L)) (perform_by throw P e args left (on B K))
  unfolding perform_by
  perform_after throw e args left B h =
      after_choice (check_args (effect_params P e) args) _ _ _ _ (capture_after (effect_params P e) e args left B _ _ (search_split alike P e B)) (h (wrong_count (effect_params P e) args))

  throw_after : (n : ℕ) (x : Error) (B : List Frame) → After L K (throw_error n P x (on B L)) (throw_error n P x (on B K))
  unfolding throw_error
  throw_after zero x B = above B refl refl
  throw_after (suc n) x B = perform_after (throw_error n P) (thrown x) (shown x ∷ []) (failed x) B (λ y. throw_after n y B)

  closure_after : (h : ℕ) (c : Code) (args : List Cell) (B : List Frame) → After L K (call_closure P h c args (on B L)) (call_closure P h c args (on B K))
  unfolding call_closure
  closure_after h c args B = after_choice (check_args (code_params c) args) _ _ _ _ (above (new_frame h c (parse_args (code_params c) args m.store).args ∷ B) refl refl) (throw_after 1 (wrong_count (code_params c) args) B)

  resume_after : (F : List Frame) (args : List Cell) (B : List Frame) → After L K (resume P F args (on B L)) (resume P F args (on B K))
  unfolding resume
  resume_after F [] B = throw_after 1 _ B
  resume_after F (v ∷ []) B = above (put_back v F ++ B) (sym (append_assoc (put_back v F) B L)) (ap (λ (G : List Frame). with_frames G m) (sym (append_assoc (put_back v F) B K)))
  resume_after F (v ∷ w ∷ vs) B = throw_after 1 _ B

  call_after : (x : Function) (f : Cell) (args : List Cell) (B : List Frame) → After L K (call_function P x f args (on B L)) (call_function P x f args (on B K))
  unfolding call_function
  call_after (is_closure h c) f args B = closure_after h (code_of P c) args B
  call_after (is_callback n w) f args B = above (host n w (reverse args) [] ∷ B) refl refl
  call_after (is_effect_callback e) f args B = above (effect_callback e (reverse args) [] ∷ B) refl refl
  call_after (is_continuation k F) f args B = resume_after F args B
  call_after is_none f args B = throw_after 1 _ B

return_alike : (v : Cell) {F G : List Frame} (m : M) → Alike F G → After F G (return_value v F (with_frames F m)) (return_value v G (with_frames G m))
unfolding return_value frames_cost
return_alike v m alike_none = above [] refl refl
return_alike v m (alike_more h a) = within (omega arith) (omega (arith, alike_length a)) (omega (arith, receive_cost v h, alike_cost a)) refl refl

return_after : {L K : List Frame} (alike : Alike L K) (v : Cell) (m : M) (B : List Frame) → After L K (return_value v (B ++ L) (with_frames (B ++ L) m)) (return_value v (B ++ K) (with_frames (B ++ K) m))
unfolding return_value
return_after alike v m [] = return_alike v m alike
return_after alike v m (f ∷ B) = above (receive v f ∷ B) refl refl

-- Whatever is done over L and over K, which are alike, leaves machines that are the same but for L and K, or that cost the same.
pub doing_after : {L K : List Frame} → Alike L K → (P : Program) (d : Action) (m : M) (F G : List Frame) → After L K (doing P (onto L d) (with_frames F m)) (doing P (onto K d) (with_frames G m))
unfolding doing onto perform_effect
doing_after a P (goes B) m F G = above B refl refl
doing_after a P (jumps B) m F G = above B refl refl
doing_after a P (makes o B) m F G = above B refl refl
doing_after a P (sets g v B) m F G = above B refl refl
doing_after a P (sets_builtin g v B) m F G = above B refl refl
doing_after a P (calls f args B) m F G = call_after a P m (function_of m.store f) f args B
doing_after a P (performs e args B) m F G = perform_after a P m (throw_error 1 P) e args (unhandled e args) B (λ x. throw_after a P m 1 x B)
doing_after a P (throws x B) m F G = throw_after a P m 1 x B
doing_after a P (returns v B) m F G = return_after a v m B
doing_after a P clears m F G = within (omega arith) refl refl refl refl

-- What the limits are tested on.
record Measured (m n : M) : Type 0 where
  frames : length n.frames ≡ length m.frames
  live : frames_cost n.frames + result_cost n.result ≡ frames_cost m.frames + result_cost m.result
  store : used n.store ≡ used m.store

measured : {L K : List Frame} → Alike L K → (m n : M) → After L K m n → Measured m n
measured a m n (still o) =
    let p = o.frames in
    let q = o.other in
    let b = alike_over o.above a in
    record {
      frames = ap (λ (x : M). length x.frames) q ∙ sym (ap length p ∙ alike_length b);
      live = ap (λ (x : M). frames_cost x.frames + result_cost x.result) q ∙ ap (λ (c : ℕ). c + result_cost m.result) (sym (ap frames_cost p ∙ alike_cost b));
      store = ap (λ (x : M). used x.store) q;
    }
measured a m n (within p q r s t) = record { frames = q; live = omega (arith, r, t); store = s }

top_same : {L K : List Frame} → Alike L K → (B : List Frame) → top_handlers (B ++ K) ≡ top_handlers (B ++ L)
unfolding top_handlers
top_same alike_none [] = refl
top_same (alike_more h a) [] = ap length (sym (alike_handlers h))
top_same a (f ∷ B) = refl

handlers_same : {L K : List Frame} → Alike L K → (d : Action) → handlers_left (onto K d) ≡ handlers_left (onto L d)
unfolding handlers_left onto
handlers_same a (goes B) = top_same a B
handlers_same a (jumps B) = refl
handlers_same a (makes o B) = refl
handlers_same a (sets g v B) = refl
handlers_same a (sets_builtin g v B) = refl
handlers_same a (calls f args B) = top_same a B
handlers_same a (performs e args B) = refl
handlers_same a (throws x B) = refl
handlers_same a (returns v B) = refl
handlers_same a clears = refl

same_choice : {L K : List Frame} (k i j n : ℕ) (x y : Outcome) → j ≡ i → Same L K x y → Same L K (if? (ltb k i) (stops n) x) (if? (ltb k j) (stops n) y)
same_choice {L} {K} k i j n x y q s = by (ltb k i) (ltb k j) (ap (ltb k) q)
  where
    by : (b c : Bool) → c ≡ b → Same L K (if? b (stops n) x) (if? c (stops n) y)
    by true true p = both_stop n
    by false false p = s
    by true false p = let z : ◌≡◌ {A = ℕ} 0 1 = cc in absurd (omega arith)
    by false true p = let z : ◌≡◌ {A = ℕ} 0 1 = cc in absurd (omega arith)

-- The limits judge both machines the same.
pub judge_same : {L K : List Frame} → Alike L K → (z : Sizes) (d : Action) (m n : M) → After L K m n → Same L K (judge z (onto L d) m) (judge z (onto K d) n)
unfolding judge
judge_same a z d m n h =
    let e = measured a m n h in
    same_choice 16 _ _ 16 _ _ (handlers_same a d)
    (same_choice 256 _ _ 13 _ _ e.frames
    (same_choice z.live _ _ 14 _ _ e.live
    (same_choice z.store _ _ 15 _ _ e.store (both_do d m n h))))

outcome_same : {L K : List Frame} → Alike L K → (P : Program) (z : Sizes) (t : Taken) (m : M) (F G : List Frame) → Same L K (outcome P z (taken_onto L t) (with_frames F m)) (outcome P z (taken_onto K t) (with_frames G m))
unfolding outcome taken_onto
outcome_same a P z (takes d) m F G = judge_same a z d _ _ (doing_after a P d m F G)
outcome_same a P z (refuses n) m F G = both_stop n

-- The next action reads no frames of the machine but those it is given.
next_machine : (P : Program) (m : M) (F G : List Frame) → next_action P (with_frames G m) F ≡ next_action P m F
unfolding next_action closure_action opcode_action load_const load_global build_list
next_machine P m [] G = refl
next_machine P m (lucia h p l st hs ∷ A) G = of (object_at m.store h)
  where
    of : (o : Lookup) → closure_action P (with_frames G m) h p l st hs A o ≡ closure_action P m h p l st hs A o
    of (here (closure c us)) = refl
    of (here (list vs)) = refl
    of (here (continuation K)) = refl
    of absent = refl
next_machine P m (host n w st hs ∷ A) G = refl
next_machine P m (effect_callback e st hs ∷ A) G = refl

step_over : {L K : List Frame} → Alike L K → (P : Program) (z : Sizes) (m : M) (f : Frame) (A : List Frame)
    → let x = with_frames ((f ∷ A) ++ L) m in let y = with_frames ((f ∷ A) ++ K) m in Same L K (outcome P z (next_action P x x.frames) x) (outcome P z (next_action P y y.frames) y)
step_over {L} {K} a P z m f A =
    let p : next_action P (with_frames ((f ∷ A) ++ L) m) ((f ∷ A) ++ L) ≡ taken_onto L (next_action P m (f ∷ A)) = next_machine P m ((f ∷ A) ++ L) ((f ∷ A) ++ L) ∙ next_onto L P m f A in
    let q : next_action P (with_frames ((f ∷ A) ++ K) m) ((f ∷ A) ++ K) ≡ taken_onto K (next_action P m (f ∷ A)) = next_machine P m ((f ∷ A) ++ K) ((f ∷ A) ++ K) ∙ next_onto K P m f A in
    rw (sym p) at (rw (sym q) at (outcome_same a P z (next_action P m (f ∷ A)) m ((f ∷ A) ++ L) ((f ∷ A) ++ K)))

-- A step of two machines over alike L and K, with more frames than these, is refused with the same number, or does the same action and leaves them as `After` says.
pub step_local : {L K : List Frame} → Alike L K → (P : Program) (z : Sizes) (m n : M) → Over L K m n → length L < length m.frames
    → Same L K (outcome P z (next_action P m m.frames) m) (outcome P z (next_action P n n.frames) n)
step_local {L} {K} a P z m n o more = by o.above o.frames o.other
  where
    by : (B : List Frame) → m.frames ≡ B ++ L → n ≡ with_frames (B ++ K) m → Same L K (outcome P z (next_action P m m.frames) m) (outcome P z (next_action P n n.frames) n)
    by [] p q = let e : length m.frames ≡ length L = ap length p in absurd (omega (arith, e, more))
    by (f ∷ A) p q =
        let e : with_frames ((f ∷ A) ++ L) m ≡ m = ap (λ (F : List Frame). with_frames F m) (sym p) in
        subst (λ (x : M). Same L K (outcome P z (next_action P x x.frames) x) (outcome P z (next_action P n n.frames) n)) e
        (subst (λ (y : M). Same L K (outcome P z (next_action P (with_frames ((f ∷ A) ++ L) m) ((f ∷ A) ++ L)) (with_frames ((f ∷ A) ++ L) m)) (outcome P z (next_action P y y.frames) y)) (sym q)
        (step_over a P z m f A))

-- While more frames than L are left, the machines after are over L and over K still.
pub after_over : {L K : List Frame} (m n : M) → After L K m n → length L < length m.frames → Over L K m n
after_over m n (still o) more = o
after_over m n (within p q r s t) more = absurd (omega (arith, p, more))

turn_frames : (r : Result) (f : Frame) (F G : List Frame) → turn_of r (f ∷ G) ≡ turn_of r (f ∷ F)
unfolding turn_of
turn_frames running (lucia c p l st hs) F G = refl
turn_frames running (host n w st hs) F G = refl
turn_frames running (effect_callback e st hs) F G = refl
turn_frames (returned v) f F G = refl
turn_frames (failed x) f F G = refl
turn_frames (unhandled e args) f F G = refl

-- Two such machines are done, wait for the host or are ready together.
pub turn_same : {L K : List Frame} (m n : M) → Over L K m n → length L < length m.frames → turn_of n.result n.frames ≡ turn_of m.result m.frames
turn_same {L} {K} m n o more = ap (λ (x : M). turn_of x.result x.frames) o.other ∙ by o.above o.frames
  where
    by : (B : List Frame) → m.frames ≡ B ++ L → turn_of m.result (B ++ K) ≡ turn_of m.result m.frames
    by [] p = let e : length m.frames ≡ length L = ap length p in absurd (omega (arith, e, more))
    by (f ∷ A) p = turn_frames m.result f (A ++ L) (A ++ K) ∙ ap (turn_of m.result) (sym p)
