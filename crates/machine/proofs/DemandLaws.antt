-- The machine's rules for performs, throws and calls are those of demand 3.
use Rattle.std.specs.Prelude.{◌≡◌, ◌⊎◌, Bool, drop, leb}
use Rattle.std.proofs.Math.Path.{refl, ap}
use Rattle.std.proofs.Common.{sym, ◌∙◌, arith}
use mathlib.Core.List.{List, [], ◌∷◌, ◌++◌}
use Rattle.std.proofs.Math.Logic.{inl, inr, ⊎_elim}
use Rattle.std.proofs.Math.Bool.{true, false}
use Prim.Native.Nat.{ℕ, zero, suc, ◌%◌, ◌≤◌}
use Rattle.std.proofs.Math.ListN.{length}
use Rattle.std.proofs.Math.Dec.{eqb}
use borrow.Author.Tests.{eqb-true, eqb-false, leb-true, eq-eqb as is, ne_eqb as isnt, le-leb as up_to}
use Rattle.cells.specs.Le.{le_at}
use Rattle.cells.specs.declared.Cell.{Cell}
use Rattle.image.specs.Records.{if?, both}
use Rattle.image.proofs.Parts.{both_in}
use Rattle.image.specs.Effects.{same, same_effect}
use Rattle.machine.specs.Values.{Program, code_of, builtin, bytes_at, is_effect, equal_effects, Params, code_params, effect_params, Error, call_arguments, un_operator, bin_operator, meta_un_operator, meta_bin_operator, zero_divisor, lucia_error, lucia_panic, thrown, shown, type_of}
use Rattle.machine.specs.Machine.{Handler, Frame, lucia, host, effect_callback, effects, target_of, enter, Object, closure, list, continuation, Result, failed, M, with_frames, with_store, used, Lookup, here, absent, object_at, check_args, wrong_count, Parsed, parse, parse_args, holds, handlers_of, Found, found, nowhere, under, find, search, capture, perform_by, throw_error, perform_effect, Function, is_closure, is_callback, is_effect_callback, is_continuation, is_none, closure_function, continuation_function, function_of, give, put_back, resume, new_frame, call_closure, call_function, receive, return_value}
use Rattle.machine.specs.Opcodes.{callable}
use Rattle.machine.specs.Calls.{without, distinct}
use Rattle.machine.specs.Demand.{All, Any, Deed, captures, other, Same, count_of, mark_of, Fits, Passed, Handles, Captured, Entered, Operates, handled, nobody, Throws, Performs, gets, bare, returning, Stored, Callable, Calls, begins, asks_host, as_effect, resumes, unfit, unfit_values, no_function, PutIn, From}

pub no : {A : Type 0} → false ≡ true → A
no e = absurd (let z : ◌≡◌ {A = ℕ} 0 1 = cc in omega arith)

both_out : (a b : Bool) → both a b ≡ true → (a ≡ true) × (b ≡ true)
unfolding both
both_out true b h = (refl, h)
both_out false b h = no h

-- ---- Equal effects
same_true : (s t : List ℕ) → same s t ≡ true → s ≡ t
unfolding same
same_true [] [] h = refl
same_true [] (y ∷ t) h = no h
same_true (x ∷ s) [] h = no h
same_true (x ∷ s) (y ∷ t) h =
    let w = both_out (eqb x y) (same s t) h in
    let a : x ≡ y = eqb-true x y w.0 in
    let b : s ≡ t = same_true s t w.1 in
    cc

same_refl : (s : List ℕ) → same s s ≡ true
unfolding same
same_refl [] = refl
same_refl (x ∷ s) = both_in (is x x refl) (same_refl s)

module _ (P : Program) (a b : Cell) where
  abbrev A : List ℕ
  A = bytes_at P a

  abbrev B : List ℕ
  B = bytes_at P b

  abbrev Named : Type 0
  Named = (le_at 2 A 0 ≤ 2) ⊎ ((le_at 2 A 2 ≡ le_at 2 B 2) × (le_at 2 A 4 ≡ le_at 2 B 4) × (drop 6 A ≡ drop 6 B))

  abbrev named : Bool → Bool
  named k = if? k true (both (eqb (le_at 2 A 2) (le_at 2 B 2)) (both (eqb (le_at 2 A 4) (le_at 2 B 4)) (same (drop 6 A) (drop 6 B))))

  named_out : (k : Bool) → leb (le_at 2 A 0) 2 ≡ k → named k ≡ true → Named
  named_out true q h = inl (leb-true _ _ q)
  named_out false q h =
      let u = both_out (eqb (le_at 2 A 2) (le_at 2 B 2)) _ h in
      let t = both_out (eqb (le_at 2 A 4) (le_at 2 B 4)) (same (drop 6 A) (drop 6 B)) u.1 in
      inr (eqb-true _ _ u.0, eqb-true _ _ t.0, same_true _ _ t.1)

  named_in : (k : Bool) → leb (le_at 2 A 0) 2 ≡ k → Named → named k ≡ true
  named_in true q w = refl
  named_in false q w =
      ⊎_elim (λ l. no (sym q ∙ up_to _ _ l))
      (λ s. both_in (is _ _ s.0) (both_in (is _ _ s.1) (rw (← s.2) (same_refl (drop 6 A))))) w

  pub same_out : equal_effects P a b ≡ true → Same P a b
  unfolding equal_effects same_effect
  same_out h = by (eqb a.tag 8) refl h
    where
      by : (c : Bool) → eqb a.tag 8 ≡ c → if? c (both (eqb b.tag 8) (eqb a.number b.number)) (both (eqb b.tag 24) (same_effect A B)) ≡ true → Same P a b
      by true q h = let w = both_out (eqb b.tag 8) _ h in inl (eqb-true _ _ q, eqb-true _ _ w.0, eqb-true _ _ w.1)
      by false q h =
          let w = both_out (eqb b.tag 24) (same_effect A B) h in
          let v = both_out (eqb (le_at 2 A 0) (le_at 2 B 0)) _ w.1 in
          inr (eqb-false _ _ q, eqb-true _ _ w.0, eqb-true _ _ v.0, named_out (leb (le_at 2 A 0) 2) refl v.1)

  same_in : Same P a b → equal_effects P a b ≡ true
  unfolding equal_effects same_effect
  same_in w =
      ⊎_elim (λ s. rw (is a.tag 8 s.0) (both_in (is _ _ s.1) (is _ _ s.2)))
      (λ s. rw (isnt a.tag 8 s.0) (both_in (is _ _ s.1) (both_in (is _ _ s.2) (named_in (leb (le_at 2 A 0) 2) refl s.3)))) w

pub unsame : (P : Program) (a b : Cell) → equal_effects P a b ≡ false → Same P a b → ⊥
unsame P a b q w = no (sym q ∙ same_in P a b w)

-- ---- Counts
fits_in : (n v : ℕ) (args : List Cell) → Fits n v args → check_args (record { count = n; variadic = eqb v 1 }) args ≡ true
unfolding check_args
fits_in n v args w = ⊎_elim (λ e. rw (is v 1 e.0) (up_to _ _ e.1)) (λ e. rw (isnt v 1 e.0) (is _ _ e.1)) w

fits_out : (n v : ℕ) (args : List Cell) → check_args (record { count = n; variadic = eqb v 1 }) args ≡ true → Fits n v args
unfolding check_args
fits_out n v args h = by (eqb v 1) refl h
  where
    by : (b : Bool) → eqb v 1 ≡ b → if? b (leb n (length args)) (eqb n (length args)) ≡ true → Fits n v args
    by true q h = inl (eqb-true _ _ q, leb-true _ _ h)
    by false q h = inr (eqb-false _ _ q, eqb-true _ _ h)

params_law : (P : Program) (e : Cell) → effect_params P e ≡ record { count = count_of P e; variadic = eqb (mark_of P e) 1 }
unfolding effect_params
params_law P e = by (eqb e.tag 8)
  where
    by : (b : Bool) → ◌≡◌ {A = Params} (if? b (record { count = 1; variadic = false }) (record { count = le_at 2 (bytes_at P e) 2; variadic = eqb (le_at 2 (bytes_at P e) 4) 1 }))
        (record { count = if? b 1 (le_at 2 (bytes_at P e) 2); variadic = eqb (if? b 0 (le_at 2 (bytes_at P e) 4)) 1 })
    by true = refl
    by false = refl

passed_law : (n v : ℕ) (args : List Cell) (s : List Object) → Passed n v args (parse (eqb v 1) n args s).args s (parse (eqb v 1) n args s).store
unfolding parse
passed_law n v args s = by (eqb v 1) refl
  where
    by : (b : Bool) → eqb v 1 ≡ b → Passed n v args (parse b n args s).args s (parse b n args s).store
    by true q = inr (eqb-true _ _ q, refl, refl)
    by false q = inl (eqb-false _ _ q, refl, refl)

passed_effect : (P : Program) (e : Cell) (args : List Cell) (s : List Object) → Passed (count_of P e) (mark_of P e) args (parse_args (effect_params P e) args s).args s (parse_args (effect_params P e) args s).store
passed_effect P e args s = rw (params_law P e) (passed_law (count_of P e) (mark_of P e) args s)

-- ---- The search
module _ (P : Program) (e : Cell) where
  -- Some x of the list is equal to e.
  abbrev Held : List Cell → Type 0
  Held xs = Any (λ x. Same P x e) xs

  pub holds_true : (xs : List Cell) → holds P e xs ≡ true → Held xs
  unfolding holds
  holds_true [] h = no h
  holds_true (x ∷ xs) h = by (equal_effects P x e) refl (holds_true xs) h
    where
      by : (b : Bool) → equal_effects P x e ≡ b → (holds P e xs ≡ true → Held xs) → if? b true (holds P e xs) ≡ true → Held (x ∷ xs)
      by true q ih h = inl (same_out P x e q)
      by false q ih h = inr (ih h)

  pub holds_false : (xs : List Cell) → holds P e xs ≡ false → Held xs → ⊥
  unfolding holds
  holds_false [] h m = m
  holds_false (x ∷ xs) h m = by (equal_effects P x e) refl (holds_false xs) h m
    where
      by : (b : Bool) → equal_effects P x e ≡ b → (holds P e xs ≡ false → Held xs → ⊥) → if? b true (holds P e xs) ≡ false → Held (x ∷ xs) → ⊥
      by true q ih h m = no (sym h)
      by false q ih h m = ⊎_elim (unsame P x e q) (ih h) m

  -- The frame's handlers are those that the search looks at.
  lucia_in : (hs : List Handler) → Held (effects hs) → Any (λ h. Same P h.effect e) hs
  unfolding effects
  lucia_in [] w = w
  lucia_in (h ∷ hs) w = ⊎_elim inl (λ v. inr (lucia_in hs v)) w

  lucia_out : (hs : List Handler) → Any (λ h. Same P h.effect e) hs → Held (effects hs)
  unfolding effects
  lucia_out [] w = w
  lucia_out (h ∷ hs) w = ⊎_elim inl (λ v. inr (lucia_out hs v)) w

  handles_in : (f : Frame) → Held (handlers_of f) → Handles P e f
  unfolding handlers_of
  handles_in (lucia c p l s hs) w = lucia_in hs w
  handles_in (host n x s hs) w = w
  handles_in (effect_callback x s hs) w = w

  handles_out : (f : Frame) → Handles P e f → Held (handlers_of f)
  unfolding handlers_of
  handles_out (lucia c p l s hs) w = lucia_out hs w
  handles_out (host n x s hs) w = w
  handles_out (effect_callback x s hs) w = w

  -- The target is that of a handler for e.
  target_law : (hs : List Handler) → Any (λ h. Same P h.effect e) hs → Any (λ h. Same P h.effect e × (target_of P e hs ≡ h.target)) hs
  unfolding target_of
  target_law [] w = w
  target_law (h ∷ hs) w = by (equal_effects P h.effect e) refl (target_law hs) w
    where
      by : (b : Bool) → equal_effects P h.effect e ≡ b → (Any (λ x. Same P x.effect e) hs → Any (λ x. Same P x.effect e × (target_of P e hs ≡ x.target)) hs)
          → Any (λ x. Same P x.effect e) (h ∷ hs)
          → (Same P h.effect e × (if? b h.target (target_of P e hs) ≡ h.target)) ⊎ Any (λ x. Same P x.effect e × (if? b h.target (target_of P e hs) ≡ x.target)) hs
      by true q ih w = inl (same_out P h.effect e q, refl)
      by false q ih w = ⊎_elim (λ t. absurd (unsame P h.effect e q t)) (λ v. inr (ih v)) w

  enter_law : (k : Cell) (args : List Cell) (f : Frame) → Handles P e f → Entered P e k args f (enter P e k args f)
  unfolding enter
  enter_law k args (lucia c p l s hs) w = (target_of P e hs, target_law hs w, refl)
  enter_law k args (host n x s hs) w = refl
  enter_law k args (effect_callback x s hs) w = refl

  -- What `find` tells of the frames.
  abbrev Finds : List Frame → Found → Type 0
  Finds fs (found above h below) = (fs ≡ above ++ h ∷ below) × Handles P e h × All (λ f. Handles P e f → ⊥) above
  Finds fs nowhere = All (λ f. Handles P e f → ⊥) fs

  find_under : (f : Frame) (fs : List Frame) (x : Found) → (Handles P e f → ⊥) → Finds fs x → Finds (f ∷ fs) (under f x)
  unfolding under
  find_under f fs (found above h below) n w = (ap (λ (l : List Frame). f ∷ l) w.0, w.1, (n, w.2))
  find_under f fs nowhere n w = (n, w)

  find_law : (fs : List Frame) → Finds fs (find P e fs)
  unfolding find
  find_law [] = tt
  find_law (f ∷ fs) = by (holds P e (handlers_of f)) refl (find_law fs)
    where
      by : (b : Bool) → holds P e (handlers_of f) ≡ b → Finds fs (find P e fs) → Finds (f ∷ fs) (if? b (found [] f fs) (under f (find P e fs)))
      by true q w = (refl, handles_in f (holds_true (handlers_of f) q), tt)
      by false q w = find_under f fs (find P e fs) (λ v. holds_false (handlers_of f) q (handles_out f v)) w

  -- What `search` tells of the frames.
  abbrev pub Searches : List Frame → Found → Type 0
  Searches F (found above h below) = Captured P e F above h below
  Searches F nowhere = All (λ f. Handles P e f → ⊥) (drop 1 F)

  search_under : (f : Frame) (fs : List Frame) (x : Found) → Finds fs x → Searches (f ∷ fs) (under f x)
  unfolding under
  search_under f fs (found above h below) w = record { top = f; between = above; frames = ap (λ (l : List Frame). f ∷ l) w.0; captured = refl; handles = w.1; highest = w.2 }
  search_under f fs nowhere w = w

  pub search_law : (F : List Frame) → Searches F (search P e F)
  unfolding search
  search_law [] = tt
  search_law (f ∷ fs) = search_under f fs (find P e fs) (find_law fs)

-- ---- Performs and throws
-- The builtin that a throw performs takes what the throw shows.
thrown_fits : (P : Program) (x : Error) → check_args (effect_params P (thrown x)) (shown x ∷ []) ≡ true
unfolding thrown effect_params check_args
thrown_fits P (call_arguments s o g) = refl
thrown_fits P (un_operator o x t) = refl
thrown_fits P (bin_operator o x t u) = refl
thrown_fits P (meta_un_operator n t) = refl
thrown_fits P (meta_bin_operator n t u) = refl
thrown_fits P zero_divisor = refl
thrown_fits P (lucia_error v) = refl
thrown_fits P (lucia_panic v) = refl

module _ (P : Program) (m : M) where
  nobody_law : (e : Cell) (args : List Cell) (left : Result) (F : List Frame) → All (λ f. Handles P e f → ⊥) (drop 1 F)
      → Operates P m e args left F other (capture P (effect_params P e) e args left (with_frames F m) nowhere)
  unfolding capture
  nobody_law e args left F w = nobody w

  -- The arguments that the handler is passed, and the store with them behind the frames K that are captured.
  abbrev passed : Cell → List Cell → List Frame → Parsed
  passed e args K = parse_args (effect_params P e) args (m.store ++ (continuation K ∷ []))

  handled_law : (e : Cell) (args : List Cell) (left : Result) (F K below : List Frame) (h : Frame)
      → Captured P e F K h below
      → Passed (count_of P e) (mark_of P e) args (passed e args K).args (m.store ++ (continuation K ∷ []))
      (passed e args K).store
      → ((k : Cell) (given : List Cell) → Entered P e k given h (enter P e k given h))
      → Operates P m e args left F (captures (used m.store) K)
      (capture P (effect_params P e) e args left (with_frames F m) (found K h below))
  unfolding capture
  handled_law e args left F K below h w p n = handled K below h _ _ _ w p (n _ (passed e args K).args)

  capture_law : (e : Cell) (args : List Cell) (left : Result) (F : List Frame) (x : Found) → Searches P e F x
      → (d : Deed) × Operates P m e args left F d (capture P (effect_params P e) e args left (with_frames F m) x)
  capture_law e args left F nowhere w = (other, nobody_law e args left F w)
  capture_law e args left F (found K h below) w = (
    captures (used m.store) K,
    handled_law e args left F K below h w
        (passed_effect P e args (m.store ++ (continuation K ∷ []))) (λ k given. enter_law P e k given h w.handles),
  )

  throw_law : (x : Error) (F : List Frame) → (d : Deed) × Operates P m (thrown x) (shown x ∷ []) (failed x) F d (throw_error 1 P x (with_frames F m))
  unfolding throw_error perform_by
  throw_law x F = rw (thrown_fits P x) (capture_law (thrown x) _ _ F (search P (thrown x) F) (search_law P (thrown x) F))

  -- A throw of an error that is not the script's performs Error.
  abbrev pub ErrorLaw : Type 0
  ErrorLaw =
      (x : Error) (F : List Frame) → thrown x ≡ builtin 1 → (d : Deed) × Throws P m F d (throw_error 1 P x (with_frames F m))

  error_law : ErrorLaw
  error_law x F q = let w = throw_law x F in (w.0, (x, shown x, rw q at w.1))

  perform_law : (e : Cell) (args : List Cell) (F : List Frame) → (d : Deed) × Performs P m e args F d (perform_effect P e args (with_frames F m))
  unfolding perform_effect perform_by thrown
  perform_law e args F = by (check_args (effect_params P e) args) refl
    where
      by : (b : Bool) → check_args (effect_params P e) args ≡ b
          → (d : Deed) × Performs P m e args F d (if? b (capture P (effect_params P e) e args (Result.unhandled e args) (with_frames F m) (search P e F)) (throw_error 1 P (wrong_count (effect_params P e) args) (with_frames F m)))
      by true q = let w = capture_law e args (Result.unhandled e args) F (search P e F) (search_law P e F) in (w.0, inl (fits_out (count_of P e) (mark_of P e) args (rw (params_law P e) at q), w.1))
      by false q = let w = error_law (wrong_count (effect_params P e) args) F refl in (w.0, inr ((λ f. no (sym q ∙ rw (params_law P e) (fits_in (count_of P e) (mark_of P e) args f))), w.1))

-- ---- Functions
module _ (s : List Object) (f : Cell) where
  abbrev at : Lookup
  at = object_at s f.number

  -- What the value is as a function.
  abbrev pub Is : Function → Type 0
  Is (is_closure h c) = (f.tag ≡ 7) × (h ≡ f.number) × (us : List Cell) × (at ≡ here (closure c us))
  Is (is_callback n w) = (f.tag ≡ 39) × (n ≡ f.number) × (w ≡ f.payload)
  Is (is_effect_callback e) = (f.tag % 16 ≡ 8) × (e ≡ f)
  Is (is_continuation k K) = (f.tag ≡ 23) × (k ≡ f.number) × (at ≡ here (continuation K))
  Is is_none = Unit {0}

  closure_is : (o : Lookup) → at ≡ o → f.tag ≡ 7 → Is (closure_function f.number o)
  unfolding closure_function
  closure_is (here (closure c us)) q t = (t, refl, us, q)
  closure_is (here (list vs)) q t = tt
  closure_is (here (continuation K)) q t = tt
  closure_is absent q t = tt

  continuation_is : (o : Lookup) → at ≡ o → f.tag ≡ 23 → Is (continuation_function f.number o)
  unfolding continuation_function
  continuation_is (here (closure c us)) q t = tt
  continuation_is (here (list vs)) q t = tt
  continuation_is (here (continuation K)) q t = (t, refl, q)
  continuation_is absent q t = tt

  function_is : Is (function_of s f)
  unfolding function_of
  function_is = by (is_effect f) (eqb f.tag 39) (eqb f.tag 7) (eqb f.tag 23) refl refl refl refl
    where
      by : (a b c d : Bool) → is_effect f ≡ a → eqb f.tag 39 ≡ b → eqb f.tag 7 ≡ c → eqb f.tag 23 ≡ d
          → Is (if? a (is_effect_callback f) (if? b (is_callback f.number f.payload) (if? c (closure_function f.number at) (if? d (continuation_function f.number at) is_none))))
      by true b c d p q r t = (eqb-true _ _ p, refl)
      by false true c d p q r t = (eqb-true _ _ q, refl, refl)
      by false false true d p q r t = closure_is at refl (eqb-true _ _ r)
      by false false false true p q r t = continuation_is at refl (eqb-true _ _ t)
      by false false false false p q r t = tt

  callable_out : Callable s f → callable (function_of s f) ≡ true
  unfolding function_of callable closure_function continuation_function
  callable_out w =
      ⊎_elim (λ e. rw (is (f.tag % 16) 8 e) refl)
      (⊎_elim (λ e. rw (off 39 refl e, ap (λ (t : ℕ). eqb t 39) e) refl)
      (⊎_elim (λ e. rw (off 23 refl e.0, ap (λ (t : ℕ). eqb t 39) e.0, ap (λ (t : ℕ). eqb t 7) e.0, ap (λ (t : ℕ). eqb t 23) e.0, e.2) refl)
      (λ e. rw (off 7 refl e.0, ap (λ (t : ℕ). eqb t 39) e.0, ap (λ (t : ℕ). eqb t 7) e.0, e.3) refl))) w
    where
      off : (k : ℕ) → is_effect (record { tag = k; number = f.number; payload = f.payload }) ≡ false → f.tag ≡ k → is_effect f ≡ false
      off k n e = rw e n

  uncallable : callable (function_of s f) ≡ false → Callable s f → ⊥
  uncallable h w = no (sym h ∙ callable_out w)

-- ---- Calls and returns
gets_law : (v : Cell) (f : Frame) → give v f ≡ gets v f
unfolding give
gets_law v (lucia c p l s hs) = refl
gets_law v (host n w s hs) = refl
gets_law v (effect_callback e s hs) = refl

returned_law : (v : Cell) (F : List Frame) (m : M) → return_value v F (with_frames F m) ≡ returning v F m
unfolding return_value receive
returned_law v [] m = refl
returned_law v (f ∷ F) m = ap (λ (g : Frame). with_frames (g ∷ F) m) (by f)
  where
    by : (f : Frame) → receive v f ≡ bare (gets v f)
    by (lucia c p l s hs) = refl
    by (host n w s hs) = refl
    by (effect_callback e s hs) = refl

-- What is known of the past: each continuation of the store comes from it, with at least one frame.
pub record Known (past : List Deed) (s : List Object) : Type 0 where
  pub known : (k : ℕ) (K : List Frame) → Stored s k K → From past k K
  pub some : (k : ℕ) → From past k [] → ⊥

-- A call. What is said of a throw is a premise, so that these laws stand or fall by themselves.
module _ (P : Program) (past : List Deed) (m : M) (known : Known past m.store) (erring : ErrorLaw P m) (f : Cell)
    (args : List Cell) (kept F : List Frame) where
  abbrev Done : Function → Type 0
  Done g = (d : Deed) × Calls P past m f args kept F d (call_function P g f args (with_frames F m))

  closure_law : (c : ℕ) (us : List Cell) → f.tag ≡ 7 → object_at m.store f.number ≡ here (closure c us)
      → Done (is_closure f.number c)
  unfolding call_function call_closure thrown
  closure_law c us t q = by (check_args p args) refl
    where
      p : Params
      p = code_params (code_of P c)

      a : Parsed
      a = parse_args p args m.store

      by : (b : Bool) → check_args p args ≡ b
          → (d : Deed) × Calls P past m f args kept F d (if? b
          (with_store (new_frame f.number (code_of P c) a.args ∷ F) a.store (with_frames F m))
          (throw_error 1 P (wrong_count p args) (with_frames F m)))
      by true h = (
        other,
        begins c us _ _ t q (fits_out _ _ args h)
            (passed_law (code_of P c).params (code_of P c).variadic args m.store),
      )
      by false h =
          let w = erring (wrong_count p args) F refl in
          (w.0, unfit c us t q (λ k. no (sym h ∙ fits_in _ _ args k)) w.1)

  callback_law : (n w : ℕ) → f.tag ≡ 39 → n ≡ f.number → w ≡ f.payload → Done (is_callback n w)
  unfolding call_function
  callback_law n w t p q = (other, rw (p, q) (asks_host t))

  resume_law : ((v : Cell) (x : Frame) → give v x ≡ gets v x) → (K : List Frame) → f.tag ≡ 23
      → Stored m.store f.number K → Done (is_continuation f.number K)
  unfolding call_function resume put_back thrown
  resume_law given K t q = by args refl K q
    where
      by : (vs : List Cell) → args ≡ vs → (K : List Frame) → Stored m.store f.number K
          → (d : Deed) × Calls P past m f args kept F d (resume P K vs (with_frames F m))
      by [] e K q =
          let w = erring (call_arguments 1 false 0) F refl in
          (w.0, unfit_values K t q (λ n. omega (arith, ap length e, n)) w.1)
      by (v ∷ []) e [] q = absurd (known.some _ (known.known _ _ q))
      by (v ∷ []) e (x ∷ K) q = (other, rw (given v x) (resumes v x K t e (known.known _ _ q)))
      by (v ∷ u ∷ vs) e K q =
          let w = erring (call_arguments 1 false (length (v ∷ u ∷ vs))) F refl in
          (w.0, unfit_values K t q (λ n. omega (arith, ap length e, n)) w.1)

  call_law : (g : Function) → function_of m.store f ≡ g → Is m.store f g → (g ≡ is_none → kept ≡ F) → Done g
  unfolding call_function thrown callable
  call_law (is_closure h c) q i k = rw i.1 (closure_law c i.2 i.0 i.3)
  call_law (is_callback n w) q i k = callback_law n w i.0 i.1 i.2
  call_law (is_effect_callback e) q i k = (other, rw i.1 (as_effect i.0))
  call_law (is_continuation h K) q i k = resume_law gets_law K i.0 i.2
  call_law is_none q i k = rw (k refl) (let w = erring (meta_un_operator 0 (type_of f)) F refl in
      (w.0, no_function (uncallable m.store f (ap callable q)) w.1))

-- ---- An answer's handlers
module _ (P : Program) where
  abbrev all : List Cell → List Cell → List Cell
  all [] es = es
  all (x ∷ seen) es = without P x (all seen es)

  all_none : (seen : List Cell) → all seen [] ≡ []
  unfolding without
  all_none [] = refl
  all_none (x ∷ seen) = ap (without P x) (all_none seen)

  all_next : (seen : List Cell) (e : Cell) (es : List Cell) → all seen (e ∷ es) ≡ if? (holds P e seen) (all seen es) (e ∷ all seen es)
  unfolding holds without
  all_next [] e es = refl
  all_next (x ∷ seen) e es = ap (without P x) (all_next seen e es) ∙ by (holds P e seen) (equal_effects P x e) refl
    where
      by : (b c : Bool) → equal_effects P x e ≡ c → without P x (if? b (all seen es) (e ∷ all seen es)) ≡ if? (if? c true b) (without P x (all seen es)) (e ∷ without P x (all seen es))
      by true true q = refl
      by true false q = refl
      by false true q = rw q refl
      by false false q = rw q refl

  put_all : (seen es : List Cell) (n : ℕ) → length es ≤ n → PutIn P seen es (distinct P n (all seen es))
  unfolding distinct
  put_all seen [] zero h = refl
  put_all seen [] (suc n) h = rw (all_none seen) refl
  put_all seen (e ∷ es) zero h = absurd (omega arith)
  put_all seen (e ∷ es) (suc n) h = rw (all_next seen e es) (by (put_all seen es (suc n)) (put_all (e ∷ seen) es n) (holds P e seen) refl)
    where
      by : (length es ≤ suc n → PutIn P seen es (distinct P (suc n) (all seen es))) → (length es ≤ n → PutIn P (e ∷ seen) es (distinct P n (all (e ∷ seen) es))) → (b : Bool) → holds P e seen ≡ b → PutIn P seen (e ∷ es) (distinct P (suc n) (if? b (all seen es) (e ∷ all seen es)))
      by a b true q = inl (holds_true P e seen q, a (omega (arith, h)))
      by a b false q = inr (holds_false P e seen q, distinct P n (all (e ∷ seen) es), refl, b (omega (arith, h)))

  put_law : (new : List Cell) → PutIn P [] new (distinct P (length new) new)
  put_law new = put_all [] new (length new) (omega arith)

-- ---- What these laws say of a machine, as one premise of the laws on opcodes and requests
pub record Ruled (P : Program) (past : List Deed) (m : M) : Type 0 where
  pub throwing : (x : Error) (F : List Frame)
      → (d : Deed) × Operates P m (thrown x) (shown x ∷ []) (failed x) F d (throw_error 1 P x (with_frames F m))
  pub erring : ErrorLaw P m
  pub performing : (e : Cell) (args : List Cell) (F : List Frame)
      → (d : Deed) × Performs P m e args F d (perform_effect P e args (with_frames F m))
  pub calling : (f : Cell) (args : List Cell) (kept F : List Frame) → (function_of m.store f ≡ is_none → kept ≡ F)
      → (d : Deed) × Calls P past m f args kept F d (call_function P (function_of m.store f) f args (with_frames F m))
  pub no_call : (f : Cell) → callable (function_of m.store f) ≡ false → Callable m.store f → ⊥
  pub returns_to : (v : Cell) (F : List Frame) → return_value v F (with_frames F m) ≡ returning v F m
  pub putting : (new : List Cell) → PutIn P [] new (distinct P (length new) new)

pub ruled : (P : Program) (past : List Deed) (m : M) → Known past m.store → Ruled P past m
ruled P past m known = record {
  throwing = throw_law P m;
  erring = error_law P m;
  performing = perform_law P m;
  calling = λ f args kept F k.
      call_law P past m known (error_law P m) f args kept F (function_of m.store f) refl (function_is m.store f) k;
  no_call = uncallable m.store;
  returns_to = λ v F. returned_law v F m;
  putting = put_law P;
}
