-- Every machine that a list of calls leads to is in form: each frame, running or captured, stands inside its code.
use Rattle.std.specs.Prelude.{◌≡◌, refl, Bool, length, eqb, ltb}
use mathlib.Core.List.{List, [], ◌∷◌, ◌++◌}
use Rattle.std.proofs.Math.Bool.{true, false}
use Prim.Native.Nat.{ℕ, zero, suc, ◌-◌, ◌<◌}
use native.Mathlib.Omega.{arith}
use Rattle.std.proofs.Math.ListN.{length-replicate}
use Rattle.cells.specs.Cells.{null}
use Rattle.cells.specs.declared.Cell.{Cell}
use Rattle.image.specs.Records.{if?}
use Rattle.image.specs.Fine.{Accepted}
use Rattle.machine.specs.Values.{Program, code_of, Params, code_params, effect_params, is_effect, equal_effects, Error, thrown, shown}
use Rattle.machine.specs.Machine.{Handler, Frame, lucia, host, effect_callback, Object, closure, list, continuation, Result, failed, unhandled, M, with_frames, cost, Lookup, here, absent, object_at, check_args, wrong_count, parse, parse_args, holds, effects, target_of, handlers_of, Found, found, nowhere, under, find, search, enter, capture, perform_by, throw_error, perform_effect, Function, is_closure, is_callback, is_effect_callback, is_continuation, is_none, closure_function, continuation_function, function_of, give, put_back, resume, new_frame, call_closure, call_function, receive, return_value}
use Rattle.machine.specs.Opcodes.{Action, goes, jumps, makes, sets, sets_builtin, calls, performs, throws, returns, clears, doing}
use Rattle.machine.specs.Demand.{All}
use Rattle.machine.proofs.Store.{at_keeps}
use Rattle.machine.proofs.StepLaws.{if_cases}
use Rattle.machine.specs.Formed.{FrameFormed, ObjectFormed, Shaped, FoundAll, LeftFormed}

-- ---- All of a list
module _ {A : Type 0} where
  pub all_map : {Q R : A → Type 0} → ((x : A) → Q x → R x) → (l : List A) → All Q l → All R l
  all_map f [] h = tt
  all_map f (x ∷ l) h = (f x h.0, all_map f l h.1)

  pub all_append : (Q : A → Type 0) (a b : List A) → All Q a → All Q b → All Q (a ++ b)
  all_append Q [] b h k = k
  all_append Q (x ∷ a) b h k = (h.0, all_append Q a b h.1 k)

-- What holds of all objects of a store holds of the one at a handle.
all_at : (Q : Object → Type 0) (s : List Object) (k : ℕ) (o : Object) → All Q s → object_at s k ≡ here o → Q o
unfolding object_at
all_at Q [] k o a h = let z : ◌≡◌ {A = ℕ} 0 1 = cc in absurd (omega arith)
all_at Q (x ∷ s) k o a h = by (eqb k 0) (ltb k (cost x)) (all_at Q s (k - cost x) o a.1) h
  where
    by : (b c : Bool) → (object_at s (k - cost x) ≡ here o → Q o) → if? b (here x) (if? c absent (object_at s (k - cost x))) ≡ here o → Q o
    by true c ih h = let e : x ≡ o = cc in rw e at a.0
    by false true ih h = let z : ◌≡◌ {A = ℕ} 0 1 = cc in absurd (omega arith)
    by false false ih h = ih h

-- ---- The store grows
module _ (P : Program) (s new : List Object) where
  pub frame_grown : (f : Frame) → FrameFormed P s f → FrameFormed P (s ++ new) f
  frame_grown (lucia h p l st hs) w =
      let i = w.stands in
      record {
        stands = record { code = i.code; upvalues = i.upvalues; closure_there = at_keeps s new h _ i.closure_there; known = i.known; place = i.place; locals = i.locals; targets = i.targets };
        handlers = w.handlers;
      }
  frame_grown (host n v st hs) w = record { stands = tt; handlers = w.handlers }
  frame_grown (effect_callback e st hs) w = record { stands = tt; handlers = w.handlers }

  object_grown : (o : Object) → ObjectFormed P s o → ObjectFormed P (s ++ new) o
  object_grown (closure c us) w = w
  object_grown (list vs) w = tt
  object_grown (continuation K) w = all_map frame_grown K w

  store_grown : All (ObjectFormed P s) s → All (ObjectFormed P s) new → All (ObjectFormed P (s ++ new)) (s ++ new)
  store_grown h k = all_map object_grown (s ++ new) (all_append (ObjectFormed P s) s new h k)

module _ (Q : Frame → Type 0) where
  under_all : (f : Frame) (x : Found) → Q f → FoundAll Q x → FoundAll Q (under f x)
  unfolding under
  under_all f (found above h below) w k = ((w, k.0), k.1, k.2)
  under_all f nowhere w k = tt

  find_all : (P : Program) (e : Cell) (F : List Frame) → All Q F → FoundAll Q (find P e F)
  unfolding find
  find_all P e [] h = tt
  find_all P e (f ∷ F) h = if_cases (FoundAll Q) (holds P e (handlers_of f)) _ _ (λ _. (tt, h.0, h.1)) (λ _. under_all f (find P e F) h.0 (find_all P e F h.1))

  pub search_all : (P : Program) (e : Cell) (F : List Frame) → All Q F → FoundAll Q (search P e F)
  unfolding search
  search_all P e [] h = tt
  search_all P e (f ∷ F) h = under_all f (find P e F) h.0 (find_all P e F h.1)

-- What holds of each kind of function holds of the one that a value is.
pub function_cases : (Q : Function → Type 0) (s : List Object) (v : Cell) → (is_effect v ≡ true → Q (is_effect_callback v)) → Q (is_callback v.number v.payload)
    → ((c : ℕ) (us : List Cell) → object_at s v.number ≡ here (closure c us) → Q (is_closure v.number c))
    → ((K : List Frame) → object_at s v.number ≡ here (continuation K) → Q (is_continuation v.number K)) → Q is_none → Q (function_of s v)
unfolding function_of closure_function continuation_function
function_cases Q s v effect callback closed continued none =
    if_cases Q (is_effect v) _ _ effect (λ _.
    if_cases Q (eqb v.tag 39) _ _ (λ _. callback) (λ _.
    if_cases Q (eqb v.tag 7) _ _ (λ _. of_closure (object_at s v.number) refl) (λ _.
    if_cases Q (eqb v.tag 23) _ _ (λ _. of_continuation (object_at s v.number) refl) (λ _. none))))
  where
    of_closure : (o : Lookup) → object_at s v.number ≡ o → Q (closure_function v.number o)
    of_closure (here (closure c us)) q = closed c us q
    of_closure (here (list vs)) q = none
    of_closure (here (continuation K)) q = none
    of_closure absent q = none

    of_continuation : (o : Lookup) → object_at s v.number ≡ o → Q (continuation_function v.number o)
    of_continuation (here (closure c us)) q = none
    of_continuation (here (list vs)) q = none
    of_continuation (here (continuation K)) q = continued K q
    of_continuation absent q = none

module _ (P : Program) where
  parse_frames : (b : Bool) (n : ℕ) (args : List Cell) (s : List Object) (F : List Frame) → All (FrameFormed P s) F → All (FrameFormed P (parse b n args s).store) F
  unfolding parse
  parse_frames true n args s F h = all_map (frame_grown P s _) F h
  parse_frames false n args s F h = h

  parse_store : (b : Bool) (n : ℕ) (args : List Cell) (s : List Object) → All (ObjectFormed P s) s → All (ObjectFormed P (parse b n args s).store) (parse b n args s).store
  unfolding parse
  parse_store true n args s h = store_grown P s _ h (tt, tt)
  parse_store false n args s h = h

  -- ---- The operation rule
  target_in : (n : ℕ) (e : Cell) (hs : List Handler) → 0 < n → All (λ (x : Handler). x.target < n) hs → target_of P e hs < n
  unfolding target_of
  target_in n e [] z h = z
  target_in n e (x ∷ hs) z h = if_cases (λ t. t < n) (equal_effects P x.effect e) _ _ (λ _. h.0) (λ _. target_in n e hs z h.1)

  pub enter_formed : (s : List Object) (e k : Cell) (args : List Cell) (f : Frame) → FrameFormed P s f → FrameFormed P s (enter P e k args f)
  unfolding enter handlers_of effects
  enter_formed s e k args (lucia h p l st hs) w =
      let i = w.stands in
      record {
        stands = record { code = i.code; upvalues = i.upvalues; closure_there = i.closure_there; known = i.known; place = target_in _ e hs (omega (arith, i.place)) i.targets; locals = i.locals; targets = tt };
        handlers = omega arith;
      }
  enter_formed s e k args (host n v st hs) w = record { stands = tt; handlers = omega arith }
  enter_formed s e k args (effect_callback x st hs) w = record { stands = tt; handlers = omega arith }

  capture_shaped : (p : Params) (e : Cell) (args : List Cell) (left : Result) (m : M) (x : Found) → Shaped P m → FoundAll (FrameFormed P m.store) x → Shaped P (capture P p e args left m x)
  unfolding capture
  capture_shaped p e args left m nowhere w k = record { frames = w.frames; store = w.store }
  capture_shaped p e args left m (found above h below) w k =
      let new = continuation above ∷ [] in
      let g = parse_frames p.variadic p.count args (m.store ++ new) (h ∷ below) (frame_grown P m.store new h k.1, all_map (frame_grown P m.store new) below k.2) in
      record {
        frames = (enter_formed _ e _ _ h g.0, g.1);
        store = parse_store p.variadic p.count args (m.store ++ new) (store_grown P m.store new w.store (k.0, tt));
      }

  perform_shaped : (throw : Error → M → M) (e : Cell) (args : List Cell) (left : Result) (m : M) → Shaped P m → ((x : Error) → Shaped P (throw x m)) → Shaped P (perform_by throw P e args left m)
  unfolding perform_by
  perform_shaped throw e args left m w h =
      if_cases (Shaped P) (check_args (effect_params P e) args) _ _ (λ _. capture_shaped (effect_params P e) e args left m _ w (search_all (FrameFormed P m.store) P e m.frames w.frames)) (λ _. h (wrong_count (effect_params P e) args))

  throw_shaped : (n : ℕ) (x : Error) (m : M) → Shaped P m → Shaped P (throw_error n P x m)
  unfolding throw_error
  throw_shaped zero x m w = w
  throw_shaped (suc n) x m w = perform_shaped (throw_error n P) (thrown x) (shown x ∷ []) (failed x) m w (λ y. throw_shaped n y m w)

  -- ---- Calls and returns
  abbrev pub FunctionFormed : List Object → Function → Type 0
  FunctionFormed s (is_closure h c) = (us : List Cell) × (object_at s h ≡ here (closure c us)) × (c < length P.codes)
  FunctionFormed s (is_callback n w) = Unit {0}
  FunctionFormed s (is_effect_callback e) = Unit {0}
  FunctionFormed s (is_continuation k K) = All (FrameFormed P s) K
  FunctionFormed s is_none = Unit {0}

  function_formed : (s : List Object) (v : Cell) → All (ObjectFormed P s) s → FunctionFormed s (function_of s v)
  function_formed s v h =
      function_cases (FunctionFormed s) s v (λ _. tt) tt (λ c us q. (us, q, (all_at (ObjectFormed P s) s _ (closure c us) h q).0)) (λ K q. all_at (ObjectFormed P s) s _ (continuation K) h q) tt

  pub give_formed : (s : List Object) (v : Cell) (f : Frame) → FrameFormed P s f → FrameFormed P s (give v f)
  unfolding give handlers_of
  give_formed s v (lucia h p l st hs) w = record { stands = w.stands; handlers = w.handlers }
  give_formed s v (host n x st hs) w = record { stands = tt; handlers = w.handlers }
  give_formed s v (effect_callback e st hs) w = record { stands = tt; handlers = w.handlers }

  put_formed : (s : List Object) (v : Cell) (K : List Frame) → All (FrameFormed P s) K → All (FrameFormed P s) (put_back v K)
  unfolding put_back
  put_formed s v [] h = tt
  put_formed s v (f ∷ K) h = (give_formed s v f h.0, h.1)

  resume_shaped : (K : List Frame) (args : List Cell) (m : M) → Shaped P m → All (FrameFormed P m.store) K → Shaped P (resume P K args m)
  unfolding resume
  resume_shaped K [] m w k = throw_shaped 1 _ m w
  resume_shaped K (v ∷ []) m w k = record { frames = all_append (FrameFormed P m.store) (put_back v K) m.frames (put_formed m.store v K k) w.frames; store = w.store }
  resume_shaped K (v ∷ x ∷ vs) m w k = throw_shaped 1 _ m w

  pub receive_formed : (s : List Object) (v : Cell) (f : Frame) → FrameFormed P s f → FrameFormed P s (receive v f)
  unfolding receive handlers_of effects
  receive_formed s v (lucia h p l st hs) w =
      let i = w.stands in
      record {
        stands = record { code = i.code; upvalues = i.upvalues; closure_there = i.closure_there; known = i.known; place = i.place; locals = i.locals; targets = tt };
        handlers = omega arith;
      }
  receive_formed s v (host n x st hs) w = record { stands = tt; handlers = omega arith }
  receive_formed s v (effect_callback e st hs) w = record { stands = tt; handlers = omega arith }

  return_shaped : (v : Cell) (m : M) → Shaped P m → (F : List Frame) → All (FrameFormed P m.store) F → Shaped P (return_value v F m)
  unfolding return_value
  return_shaped v m w [] h = record { frames = w.frames; store = w.store }
  return_shaped v m w (f ∷ F) h = record { frames = (receive_formed m.store v f h.0, h.1); store = w.store }

  pub new_formed : (s : List Object) (h c : ℕ) (args : List Cell) → Accepted P.image P.codes → FunctionFormed s (is_closure h c) → FrameFormed P s (new_frame h (code_of P c) args)
  unfolding handlers_of effects
  new_formed s h c args a k = record {
    stands = record {
      code = c;
      upvalues = k.0;
      closure_there = k.1;
      known = k.2;
      place = omega (arith, (a.fine c k.2).some);
      locals = length-replicate (code_of P c).locals null;
      targets = tt;
    };
    handlers = omega arith;
  }

  closure_shaped : (h c : ℕ) (args : List Cell) (m : M) → Accepted P.image P.codes → Shaped P m → FunctionFormed m.store (is_closure h c) → Shaped P (call_closure P h (code_of P c) args m)
  unfolding call_closure
  closure_shaped h c args m a w k =
      let p = code_params (code_of P c) in
      let got = (parse_args p args m.store).args in
      if_cases (Shaped P) (check_args p args) _ _ (λ _. record {
        frames = parse_frames p.variadic p.count args m.store (new_frame h (code_of P c) got ∷ m.frames) (new_formed m.store h c got a k, w.frames);
        store = parse_store p.variadic p.count args m.store w.store;
      })
      (λ _. throw_shaped 1 (wrong_count p args) m w)

  call_shaped : (x : Function) (f : Cell) (args : List Cell) (m : M) → Accepted P.image P.codes → Shaped P m → FunctionFormed m.store x → Shaped P (call_function P x f args m)
  unfolding call_function handlers_of
  call_shaped (is_closure h c) f args m a w k = closure_shaped h c args m a w k
  call_shaped (is_callback n x) f args m a w k = record { frames = (record { stands = tt; handlers = omega arith }, w.frames); store = w.store }
  call_shaped (is_effect_callback e) f args m a w k = record { frames = (record { stands = tt; handlers = omega arith }, w.frames); store = w.store }
  call_shaped (is_continuation h K) f args m a w k = resume_shaped K args m w k
  call_shaped is_none f args m a w k = throw_shaped 1 _ m w

-- An action that leaves what is in form makes a machine in form.
pub doing_shaped : (P : Program) → Accepted P.image P.codes → (d : Action) (m : M) → Shaped P m → LeftFormed P m.store d → Shaped P (doing P d m)
unfolding doing perform_effect
doing_shaped P a (goes F) m w h = record { frames = h; store = w.store }
doing_shaped P a (jumps F) m w h = record { frames = h; store = w.store }
doing_shaped P a (makes o F) m w h = record { frames = all_map (frame_grown P m.store (o ∷ [])) F h.1; store = store_grown P m.store (o ∷ []) w.store (h.0, tt) }
doing_shaped P a (sets g v F) m w h = record { frames = h; store = w.store }
doing_shaped P a (sets_builtin g v F) m w h = record { frames = h; store = w.store }
doing_shaped P a (calls f args F) m w h = call_shaped P (function_of m.store f) f args (with_frames F m) a (record { frames = h; store = w.store }) (function_formed P m.store f w.store)
doing_shaped P a (performs e args F) m w h =
    let v : Shaped P (with_frames F m) = record { frames = h; store = w.store } in perform_shaped P (throw_error 1 P) e args (unhandled e args) (with_frames F m) v (λ x. throw_shaped P 1 x (with_frames F m) v)
doing_shaped P a (throws x F) m w h = throw_shaped P 1 x (with_frames F m) (record { frames = h; store = w.store })
doing_shaped P a (returns v F) m w h = return_shaped P v (with_frames F m) (record { frames = h; store = w.store }) F h
doing_shaped P a clears m w h = record { frames = tt; store = w.store }
