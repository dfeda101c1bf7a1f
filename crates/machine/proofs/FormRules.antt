-- The rules keep form: calls, returns, performs, throws and resumes make of frames, objects and values in form others in form.
use Rattle.std.specs.Prelude.{◌≡◌, Bool, take, drop, eqb, ltb}
use Rattle.std.proofs.Math.Path.{refl}
use Rattle.std.proofs.Common.{ap, length-append}
use mathlib.Core.List.{List, [], ◌∷◌, ◌++◌, reverse, append_assoc, append-nil}
use Rattle.std.proofs.Math.Bool.{true, false}
use Prim.Native.Nat.{ℕ, zero, suc, ◌-◌, ◌≤◌}
use native.Mathlib.Omega.{arith}
use Rattle.std.proofs.Math.ListN.{length, length-drop}
use Rattle.cells.specs.Cells.{null}
use Rattle.cells.specs.declared.Cell.{Cell}
use Rattle.image.specs.Records.{if?, both}
use Rattle.image.specs.Fine.{Accepted}
use Rattle.machine.specs.Values.{Program, code_of, Params, code_params, effect_params, type_of, Error, call_arguments, un_operator, bin_operator, meta_un_operator, meta_bin_operator, zero_divisor, lucia_error, lucia_panic, thrown, shown}
use Rattle.machine.specs.Machine.{Frame, lucia, host, effect_callback, Object, closure, list, continuation, Result, running, returned, failed, unhandled, M, with_frames, with_store, cost, here, absent, object_at, check_args, wrong_count, parse, parse_args, effects, handlers_of, Found, found, nowhere, search, enter, capture, perform_by, throw_error, perform_effect, Function, is_closure, is_callback, is_effect_callback, is_continuation, is_none, function_of, give, put_back, resume, call_closure, call_function, receive, return_value}
use Rattle.machine.specs.Opcodes.{Action, goes, jumps, makes, sets, sets_builtin, calls, performs, throws, returns, clears, doing}
use Rattle.machine.specs.Calls.{is_value, are_values}
use Rattle.machine.specs.Demand.{All}
use Rattle.machine.proofs.DemandLaws.{Searches, search_law}
use Rattle.machine.specs.StepLaws.{Grown}
use Rattle.machine.proofs.StepLaws.{if_cases, grown_both, parse_grown}
use Rattle.machine.specs.Formed.{FrameFormed, LeftFormed, FoundAll}
use Rattle.machine.proofs.Formed.{FunctionFormed, all_map, all_append, frame_grown, search_all, function_cases, enter_formed, give_formed, receive_formed, new_formed}
use Rattle.machine.specs.Form.{values_of, effects_of, FrameFits, ObjectFits, StoreFits, ErrorFits, ResultFits}
use Rattle.machine.specs.ValueLaws.{Value, Effect}
use Rattle.machine.proofs.ValueLaws.{all_take, all_drop, all_reverse, all_set, all_replicate, values_all, all_values, effects_all, all_effects, value_grown, values_grown, effect_grown, type_small, effect_few, null_value, new_list, new_continuation}
use Rattle.machine.specs.FormRules.{Carried, Carries, Held, LeftCarries}

all_split : {A : Type 0} (Q : A → Type 0) (a b : List A) → All Q (a ++ b) → All Q a × All Q b
all_split Q [] b h = (tt, h)
all_split Q (x ∷ a) b h = let k = all_split Q a b h.1 in ((h.0, k.0), k.1)

module _ (P : Program) (s : List Object) where
  pub carries : (f : Frame) → FrameFits P s f → Carried P s f
  unfolding values_of effects_of
  carries (lucia h p l st hs) w = let v = all_split (Value P s) l st (values_all P s _ w.values) in (v.0, v.1, effects_all P s _ w.named w.effects)
  carries (host n x st hs) w = (values_all P s _ w.values, effects_all P s _ w.named w.effects)
  carries (effect_callback e st hs) w = let n = effects_all P s _ w.named w.effects in (n.0, values_all P s _ w.values, n.1)

  fits_of : (f : Frame) → FrameFormed P s f → All (Value P s) (values_of f) → All (Effect P s) (effects_of f) → FrameFits P s f
  fits_of f k v e = record { formed = k; values = all_values P s _ v; named = all_values P s _ (all_map (λ x h. h.0) (effects_of f) e); effects = all_effects P s _ e }

  fits : (f : Frame) → FrameFormed P s f → Carried P s f → FrameFits P s f
  unfolding values_of effects_of
  fits (lucia h p l st hs) k c = fits_of _ k (all_append (Value P s) l st c.0 c.1) c.2
  fits (host n x st hs) k c = fits_of _ k c.0 c.1
  fits (effect_callback e st hs) k c = fits_of _ k c.1 (c.0, c.2)

  pub all_carry : (F : List Frame) → All (FrameFits P s) F → All (Carries P s) F
  all_carry F h = all_map (λ f w. record { carried = carries f w }) F h

  all_fits : (F : List Frame) → All (FrameFormed P s) F → All (Carries P s) F → All (FrameFits P s) F
  all_fits [] k c = tt
  all_fits (f ∷ F) k c = (fits f k.0 c.0.carried, all_fits F k.1 c.1)

module _ (P : Program) {s t : List Object} (g : Grown s t) where
  carried_grown : (f : Frame) → Carried P s f → Carried P t f
  carried_grown (lucia h p l st hs) c = (values_grown P g l c.0, values_grown P g st c.1, all_map (effect_grown P g) (effects hs) c.2)
  carried_grown (host n w st hs) c = (values_grown P g st c.0, all_map (effect_grown P g) hs c.1)
  carried_grown (effect_callback e st hs) c = (effect_grown P g e c.0, values_grown P g st c.1, all_map (effect_grown P g) hs c.2)

  pub carries_grown : (f : Frame) → Carries P s f → Carries P t f
  carries_grown f c = record { carried = carried_grown f c.carried }

  formed_grown : (f : Frame) → FrameFormed P s f → FrameFormed P t f
  formed_grown f k = rw g.store (frame_grown P s g.new f k)

  frame_grows : (f : Frame) → FrameFits P s f → FrameFits P t f
  frame_grows f w = fits P t f (formed_grown f w.formed) (carried_grown f (carries P s f w))

  are_grown : (vs : List Cell) → are_values P s vs ≡ true → are_values P t vs ≡ true
  are_grown vs h = all_values P t vs (values_grown P g vs (values_all P s vs h))

  object_grows : (o : Object) → ObjectFits P s o → ObjectFits P t o
  object_grows (closure c us) w = (w.0, w.1, are_grown us w.2)
  object_grows (list vs) w = (w.0, are_grown vs w.1)
  object_grows (continuation K) w = (w.0, w.1, all_map frame_grows K w.2)

  error_grows : (x : Error) → ErrorFits P s x → ErrorFits P t x
  error_grows (call_arguments n u k) w = w
  error_grows (un_operator o x y) w = w
  error_grows (bin_operator o x y u) w = w
  error_grows (meta_un_operator n y) w = w
  error_grows (meta_bin_operator n y u) w = w
  error_grows zero_divisor w = tt
  error_grows (lucia_error v) w = value_grown P g v w
  error_grows (lucia_panic v) w = value_grown P g v w

  result_grows : (r : Result) → ResultFits P s r → ResultFits P t r
  result_grows running w = tt
  result_grows (returned v) w = value_grown P g v w
  result_grows (failed x) w = error_grows x w
  result_grows (unhandled e args) w = (are_grown (e ∷ args) w.0, w.1)

-- ---- The store
-- An object of the store is in form in it.
pub object_at_lem : (P : Program) (before s : List Object) (k : ℕ) (o : Object) → StoreFits P before s → object_at s k ≡ here o → ObjectFits P (before ++ s) o
unfolding object_at
object_at_lem P before [] k o w h = let z : ◌≡◌ {A = ℕ} 0 1 = cc in absurd (omega arith)
object_at_lem P before (x ∷ s) k o w h = by (eqb k 0) (ltb k (cost x)) (object_at_lem P (before ++ (x ∷ [])) s (k - cost x) o w.1) h
  where
    by : (b c : Bool) → (object_at s (k - cost x) ≡ here o → ObjectFits P ((before ++ (x ∷ [])) ++ s) o) → if? b (here x) (if? c absent (object_at s (k - cost x))) ≡ here o → ObjectFits P (before ++ (x ∷ s)) o
    by true c ih h = let e : x ≡ o = cc in object_grows P (record { new = x ∷ s; store = refl }) o (rw e at w.0)
    by false true ih h = let z : ◌≡◌ {A = ℕ} 0 1 = cc in absurd (omega arith)
    by false false ih h = rw (append_assoc before (x ∷ []) s) at (ih h)

-- One more object, whose values exist.
pub store_add : (P : Program) (before s : List Object) (o : Object) → StoreFits P before s → ObjectFits P (before ++ s) o → StoreFits P before (s ++ (o ∷ []))
store_add P before [] o w h = (rw (append-nil before) at h, tt)
store_add P before (x ∷ s) o w h = (w.0, store_add P (before ++ (x ∷ [])) s o w.1 (rw (append_assoc before (x ∷ []) s) h))

module _ (P : Program) where
  held_frames : (F : List Frame) (m : M) → Held P m → All (FrameFits P m.store) F → Held P (with_frames F m)
  held_frames F m w h = record { frames = h; store = w.store; result = w.result; globals = w.globals; builtins = w.builtins }

  held_store : (F : List Frame) (t : List Object) (m : M) → Held P m → Grown m.store t → All (FrameFits P t) F → StoreFits P [] t → Held P (with_store F t m)
  held_store F t m w g h k = record { frames = h; store = k; result = result_grows P g m.result w.result; globals = values_grown P g m.globals w.globals; builtins = values_grown P g m.builtins w.builtins }

  parse_values : (b : Bool) (n : ℕ) (args : List Cell) (s : List Object) → All (Value P s) args → All (Value P (parse b n args s).store) (parse b n args s).args
  unfolding parse
  parse_values true n args s h =
      let t = s ++ (list (drop n args) ∷ []) in
      all_append (Value P t) (take n args) _ (all_take (Value P t) n args (values_grown P (record { new = list (drop n args) ∷ []; store = refl }) args h)) (new_list P s (drop n args), tt)
  parse_values false n args s h = h

  parse_stored : (b : Bool) (n : ℕ) (args : List Cell) (s : List Object) → All (Value P s) args → length args ≤ 4096 → StoreFits P [] s → StoreFits P [] (parse b n args s).store
  unfolding parse
  parse_stored true n args s h l w = store_add P [] s _ w (omega (arith, length-drop n args), all_values P s _ (all_drop (Value P s) n args h))
  parse_stored false n args s h l w = w

  -- ---- The operation rule
  enter_fits : (s : List Object) (e k : Cell) (args : List Cell) (f : Frame) → Effect P s e → Value P s k → All (Value P s) args → FrameFits P s f → FrameFits P s (enter P e k args f)
  unfolding enter effects
  enter_fits s e k args f x y h w = fits P s _ (enter_formed P s e k args f w.formed) (by f (carries P s f w))
    where
      by : (f : Frame) → Carried P s f → Carried P s (enter P e k args f)
      by (lucia c p l st hs) v = (v.0, (x.0, all_append (Value P s) (reverse args) (k ∷ st) (all_reverse (Value P s) args h) (y, v.1)), tt)
      by (host n u st hs) v = (all_reverse (Value P s) (e ∷ k ∷ args) (x.0, (y, h)), tt)
      by (effect_callback o st hs) v = (v.0, all_reverse (Value P s) (e ∷ k ∷ args) (x.0, (y, h)), tt)

  -- 1 to 256 frames are captured
  abbrev Above : Found → Type 0
  Above (found K h below) = (1 ≤ length K) × (length K ≤ 256)
  Above nowhere = Unit {0}

  above : (e : Cell) (F : List Frame) (x : Found) → length F ≤ 256 → Searches P e F x → Above x
  above e F (found K h below) n c =
      let k : length K ≡ suc (length c.between) = ap length c.captured in
      let f : length F ≡ suc (length (c.between ++ h ∷ below)) = ap length c.frames in
      (omega arith, omega (arith, length-append c.between (h ∷ below)))
  above e F nowhere n c = tt

  capture_held : (p : Params) (e : Cell) (args : List Cell) (left : Result) (m : M) (x : Found) → Held P m → Effect P m.store e → All (Value P m.store) args → length args ≤ 4096 → ResultFits P m.store left
      → FoundAll (FrameFits P m.store) x → Above x → Held P (capture P p e args left m x)
  unfolding capture
  capture_held p e args left m nowhere w v h l r k n = record { frames = w.frames; store = w.store; result = r; globals = w.globals; builtins = w.builtins }
  capture_held p e args left m (found K f below) w v h l r k n =
      let s = m.store ++ (continuation K ∷ []) in
      let a = parse_args p args s in
      let one : Grown m.store s = record { new = continuation K ∷ []; store = refl } in
      let two : Grown s a.store = parse_grown p.variadic p.count args s in
      let g = grown_both m.store s a.store one two in
      let given = values_grown P one args h in
      held_store _ a.store m w g
      (enter_fits a.store e _ a.args f (effect_grown P g e v) (value_grown P two _ (new_continuation P m.store K)) (parse_values p.variadic p.count args s given) (frame_grows P g f k.1), all_map (frame_grows P g) below k.2)
      (parse_stored p.variadic p.count args s given l (store_add P [] m.store (continuation K) w.store (n.0, n.1, k.0)))

  perform_held : (throw : Error → M → M) (e : Cell) (args : List Cell) (left : Result) (m : M) → Accepted P.image P.codes → Held P m → length m.frames ≤ 256 → Effect P m.store e → All (Value P m.store) args → length args ≤ 4096
      → ResultFits P m.store left → ((x : Error) → ErrorFits P m.store x → Held P (throw x m)) → Held P (perform_by throw P e args left m)
  unfolding perform_by
  perform_held throw e args left m a w n v h l r k =
      let x = search P e m.frames in
      if_cases (Held P) (check_args (effect_params P e) args) _ _
      (λ _. capture_held (effect_params P e) e args left m x w v h l r (search_all (FrameFits P m.store) P e m.frames w.frames) (above e m.frames x n (search_law P e m.frames)))
      (λ _. k (wrong_count (effect_params P e) args) (effect_few P a m.store e v, l))

  thrown_effect : (s : List Object) (x : Error) → Effect P s (thrown x)
  unfolding thrown is_value both
  thrown_effect s (call_arguments n u k) = (refl, refl)
  thrown_effect s (un_operator o y t) = (refl, refl)
  thrown_effect s (bin_operator o y t u) = (refl, refl)
  thrown_effect s (meta_un_operator n t) = (refl, refl)
  thrown_effect s (meta_bin_operator n t u) = (refl, refl)
  thrown_effect s zero_divisor = (refl, refl)
  thrown_effect s (lucia_error v) = (refl, refl)
  thrown_effect s (lucia_panic v) = (refl, refl)

  shown_value : (s : List Object) (x : Error) → ErrorFits P s x → Value P s (shown x)
  unfolding shown is_value both
  shown_value s (call_arguments n u k) h = refl
  shown_value s (un_operator o y t) h = refl
  shown_value s (bin_operator o y t u) h = refl
  shown_value s (meta_un_operator n t) h = refl
  shown_value s (meta_bin_operator n t u) h = refl
  shown_value s zero_divisor h = refl
  shown_value s (lucia_error v) h = h
  shown_value s (lucia_panic v) h = h

  throw_held : (n : ℕ) (x : Error) (m : M) → Accepted P.image P.codes → Held P m → length m.frames ≤ 256 → ErrorFits P m.store x → Held P (throw_error n P x m)
  unfolding throw_error
  throw_held zero x m a w l h = w
  throw_held (suc n) x m a w l h =
      perform_held (throw_error n P) (thrown x) (shown x ∷ []) (failed x) m a w l (thrown_effect m.store x) (shown_value m.store x h, tt) (omega arith) h (λ y k. throw_held n y m a w l k)

  -- ---- Calls and returns
  put_fits : (s : List Object) (v : Cell) (K : List Frame) → Value P s v → All (FrameFits P s) K → All (FrameFits P s) (put_back v K)
  unfolding put_back give
  put_fits s v [] h w = tt
  put_fits s v (f ∷ K) h w = (fits P s _ (give_formed P s v f w.0.formed) (by f (carries P s f w.0)), w.1)
    where
      by : (f : Frame) → Carried P s f → Carried P s (give v f)
      by (lucia c p l st hs) k = (k.0, (h, k.1), k.2)
      by (host n x st hs) k = ((h, tt), k.1)
      by (effect_callback e st hs) k = (k.0, (h, tt), k.2)

  receive_fits : (s : List Object) (v : Cell) (f : Frame) → Value P s v → FrameFits P s f → FrameFits P s (receive v f)
  unfolding receive effects
  receive_fits s v f h w = fits P s _ (receive_formed P s v f w.formed) (by f (carries P s f w))
    where
      by : (f : Frame) → Carried P s f → Carried P s (receive v f)
      by (lucia c p l st hs) k = (k.0, (h, k.1), tt)
      by (host n x st hs) k = ((h, tt), tt)
      by (effect_callback e st hs) k = (k.0, (h, tt), tt)

  return_held : (v : Cell) (F : List Frame) (m : M) → Held P m → Value P m.store v → All (FrameFits P m.store) F → Held P (return_value v F m)
  unfolding return_value
  return_held v [] m w h k = record { frames = w.frames; store = w.store; result = h; globals = w.globals; builtins = w.builtins }
  return_held v (f ∷ F) m w h k = held_frames _ m w (receive_fits m.store v f h k.0, k.1)

  -- what a function is, in form
  abbrev FunctionFits : List Object → Function → Type 0
  FunctionFits s (is_closure h c) = FunctionFormed P s (is_closure h c)
  FunctionFits s (is_callback n w) = Unit {0}
  FunctionFits s (is_effect_callback e) = Effect P s e
  FunctionFits s (is_continuation k K) = All (FrameFits P s) K
  FunctionFits s is_none = Unit {0}

  function_fits : (s : List Object) (v : Cell) → StoreFits P [] s → Value P s v → FunctionFits s (function_of s v)
  function_fits s v w h =
      function_cases (FunctionFits s) s v (λ q. (h, q)) tt (λ c us q. (us, q, (object_at_lem P [] s v.number (closure c us) w q).0)) (λ K q. (object_at_lem P [] s v.number (continuation K) w q).2) tt

  module _ (a : Accepted P.image P.codes) (args : List Cell) (l : length args ≤ 4096) (m : M) (n : length m.frames ≤ 256) (w : Held P m) (h : All (Value P m.store) args) where
    resume_held : (K : List Frame) → All (FrameFits P m.store) K → Held P (resume P K args m)
    unfolding resume
    resume_held K k = by args l h
      where
        by : (args : List Cell) → length args ≤ 4096 → All (Value P m.store) args → Held P (resume P K args m)
        by [] l h = throw_held 1 (call_arguments 1 false 0) m a w n (omega arith, omega arith)
        by (v ∷ []) l h = held_frames _ m w (all_append (FrameFits P m.store) (put_back v K) m.frames (put_fits m.store v K h.0 k) w.frames)
        by (v ∷ x ∷ vs) l h = throw_held 1 (call_arguments 1 false (length (v ∷ x ∷ vs))) m a w n (omega arith, l)

    closure_held : (k c : ℕ) → FunctionFits m.store (is_closure k c) → Held P (call_closure P k (code_of P c) args m)
    unfolding call_closure effects
    closure_held k c f =
        let p = code_params (code_of P c) in
        let got = parse_args p args m.store in
        let t = got.store in
        let g = parse_grown p.variadic p.count args m.store in
        let v = parse_values p.variadic p.count args m.store h in
        if_cases (Held P) (check_args p args) _ _
        (λ _. held_store _ t m w g (fits P t _ (formed_grown P g _ (new_formed P m.store k c got.args a f)) (all_replicate (Value P t) (code_of P c).locals null (null_value P t), all_reverse (Value P t) got.args v, tt), all_map (frame_grows P g) m.frames w.frames)
        (parse_stored p.variadic p.count args m.store h l w.store))
        (λ _. throw_held 1 (wrong_count p args) m a w n ((a.fine c f.2).params, l))

    call_held : (x : Function) (f : Cell) → FunctionFits m.store x → Value P m.store f → Held P (call_function P x f args m)
    unfolding call_function handlers_of effects
    call_held (is_closure k c) f x v = closure_held k c x
    call_held (is_callback k y) f x v = held_frames _ m w (fits P m.store _ (record { stands = tt; handlers = omega arith }) (all_reverse (Value P m.store) args h, tt), w.frames)
    call_held (is_effect_callback e) f x v = held_frames _ m w (fits P m.store _ (record { stands = tt; handlers = omega arith }) (x, all_reverse (Value P m.store) args h, tt), w.frames)
    call_held (is_continuation k K) f x v = resume_held K x
    call_held is_none f x v = throw_held 1 (meta_un_operator 0 (type_of f)) m a w n (omega arith, type_small P m.store f v)

-- An action that leaves what is in form makes a machine in form.
pub doing_held : (P : Program) → Accepted P.image P.codes → (d : Action) (m : M) → Held P m → LeftFormed P m.store d → LeftCarries P m.store d → Held P (doing P d m)
unfolding doing perform_effect
doing_held P a (goes F) m w k c = held_frames P F m w (all_fits P m.store F k c)
doing_held P a (jumps F) m w k c = held_frames P F m w (all_fits P m.store F k c)
doing_held P a (makes o F) m w k c =
    let t = m.store ++ (o ∷ []) in
    held_store P F t m w (record { new = o ∷ []; store = refl }) (all_fits P t F (all_map (frame_grown P m.store (o ∷ [])) F k.1) c.1) (store_add P [] m.store o w.store c.0)
doing_held P a (sets g v F) m w k c =
    record { frames = all_fits P m.store F k c.1; store = w.store; result = w.result; globals = all_set (Value P m.store) m.globals g v c.0 w.globals; builtins = w.builtins }
doing_held P a (sets_builtin g v F) m w k c =
    record { frames = all_fits P m.store F k c.1; store = w.store; result = w.result; globals = w.globals; builtins = all_set (Value P m.store) m.builtins g v c.0 w.builtins }
doing_held P a (calls f args F) m w k c =
    call_held P a args c.2 (with_frames F m) c.3 (held_frames P F m w (all_fits P m.store F k c.4)) c.1 (function_of m.store f) f (function_fits P m.store f w.store c.0) c.0
doing_held P a (performs e args F) m w k c =
    let x = with_frames F m in
    let v = held_frames P F m w (all_fits P m.store F k c.4) in
    perform_held P (throw_error 1 P) e args (unhandled e args) x a v c.3 c.0 c.1 c.2 (all_values P m.store (e ∷ args) (c.0.0, c.1), all_effects P m.store (e ∷ []) (c.0, tt)) (λ y h. throw_held P 1 y x a v c.3 h)
doing_held P a (throws x F) m w k c = throw_held P 1 x (with_frames F m) a (held_frames P F m w (all_fits P m.store F k c.2)) c.1 c.0
doing_held P a (returns v F) m w k c =
    let h = all_fits P m.store F k c.1 in return_held P v F (with_frames F m) (held_frames P F m w h) c.0 h
doing_held P a clears m w k c = record { frames = tt; store = w.store; result = tt; globals = w.globals; builtins = w.builtins }
