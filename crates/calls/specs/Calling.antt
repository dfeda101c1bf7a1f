-- A call and a return: what a value is when it is called, and one law for each return.
use Rattle.std.specs.Prelude.{◌≡◌, Bool, not, ◌⊎◌, ℕ, ◌+◌, ◌%◌, ◌<◌, ◌≤◌, Option, Some, None}
use Rattle.std.proofs.Math.Path.{refl, sym, ap, subst}
use Rattle.std.proofs.Common.{◌∙◌, arith, length-append}
use mathlib.Core.List.{List, [], ◌∷◌, ◌++◌, reverse}
use Rattle.std.proofs.Math.Bool.{true, false}
use Rattle.std.proofs.Math.Logic.{inl, inr, ⊎_elim}
use Rattle.std.proofs.Math.Decide.{ℕ_discrete}
use Rattle.std.proofs.Math.ListN.{length, get_or}
use Rattle.std.proofs.lemmas.List.{get_or_at}
use Rattle.std.proofs.Math.Dec.{eqb}
use borrow.Author.Tests.{not-true, not-false, eqb-true, ne_eqb}
use Rattle.cells.specs.Cells.{null, room, cells}
use Rattle.cells.specs.CellsLaws.{length_cells}
use Rattle.cells.specs.declared.Cell.{Cell}
use Rattle.image.specs.Records.{if?, both}
use Rattle.image.specs.Program.{Code}
use Rattle.image.specs.Layout.{code_at}
use Rattle.std.proofs.lemmas.Bool.{false≢true}
use Rattle.image.proofs.Parts.{first, second, length_tab}
use Rattle.program.specs.Looks.{body_at}
use Rattle.machine.specs.Values.{Program, cell, closure_at, code_of, code_params, type_of, is_effect, call_arguments, meta_un_operator}
use Rattle.machine.specs.Machine.{Frame, host, effect_callback, Object, closure, list, continuation, returned, M, with_frames, with_result, with_store, Lookup, here, absent, object_at, wrong_count, parse, parse_args, throw_error, Function, is_closure, is_callback, is_effect_callback, is_continuation, is_none, closure_function, continuation_function, function_of, put_back, resume, new_frame, call_closure, call_function, return_value}
use Rattle.machine.specs.Opcodes.{callable}
use Rattle.machine.specs.Calls.{is_closure_at, is_continuation_at, is_value, is_function}
use Rattle.machine.proofs.FormRules.{object_at_lem}
use Rattle.memory.specs.Layout.{written, object_cells}
use Rattle.moves.specs.Frames.{new_written}
use Rattle.moves.specs.Objects.{object_there}
use Rattle.scan.specs.Tables.{program_in}
use Rattle.scan.specs.Values.{code_in}
use Rattle.plan.specs.Rest.{Under, Held}
use Rattle.plan.specs.Plans.{params_of, error_of, Carries, Received}
use Rattle.plan.specs.Searches.{Lies}
use Rattle.plan.specs.declared.Counts.{Counts}
use Rattle.plan.specs.declared.Params.{Params}
use Rattle.plan.specs.declared.Error.{Error}
use Rattle.plan.specs.declared.Plan.{Plan}
use Rattle.plan.specs.declared.Plan.TheVariants.{Starts, Resumes, Receives, Returns}
use Rattle.calls.specs.declared.Beginning.{Beginning}
use Rattle.calls.specs.Called.{checks, callback_frame, code_named, Callable, ThrowsError, CallsFunction, BeginsNone, BeginsCall, ReturnsValue}
use Rattle.calls.specs.Performing.{checks_args, wrong_is, args_enough}
use Rattle.plan.specs.declared.FrameKind.TheVariants as kinds

-- ---- What a value is
pub record Closed (s : List Object) (f : Cell) : Type 0 where
  pub code : ℕ
  pub upvalues : List Cell
  pub there : object_at s f.number ≡ here (closure code upvalues)
  pub is : f ≡ closure_at f.number

pub record Continued (s : List Object) (f : Cell) : Type 0 where
  pub frames : List Frame
  pub there : object_at s f.number ≡ here (continuation frames)

-- what holds where the test holds, and where what comes after it does
test : {R : Type 0} (b x y : Bool) → (b ≡ true → R) → (y ≡ true → R) → if? b x y ≡ true → R
test true x y f g h = f refl
test false x y f g h = g h

module _ (P : Program) (s : List Object) (f : Cell) (h : is_value P s f ≡ true) where
  value_closed : f.tag ≡ 7 → Closed s f
  unfolding is_value is_closure_at
  value_closed e =
      let w : both (eqb f.payload 0) (is_closure_at (object_at s f.number)) ≡ true = simp e at h in
      by (object_at s f.number) refl (second (eqb f.payload 0) _ w) (eqb-true f.payload 0 (first _ _ w))
    where
      by : (o : Lookup) → object_at s f.number ≡ o → is_closure_at o ≡ true → f.payload ≡ 0 → Closed s f
      by (here (closure c us)) q t z = record { code = c; upvalues = us; there = q; is = λ i. record { tag = e i; number = f.number; payload = z i } }
      by (here (list vs)) q t z = absurd (false≢true t)
      by (here (continuation K)) q t z = absurd (false≢true t)
      by absent q t z = absurd (false≢true t)

  value_continued : f.tag ≡ 23 → Continued s f
  unfolding is_value is_continuation_at
  value_continued e =
      let w : both (eqb f.payload 0) (is_continuation_at (object_at s f.number)) ≡ true = simp e at h in by (object_at s f.number) refl (second (eqb f.payload 0) _ w)
    where
      by : (o : Lookup) → object_at s f.number ≡ o → is_continuation_at o ≡ true → Continued s f
      by (here (closure c us)) q t = absurd (false≢true t)
      by (here (list vs)) q t = absurd (false≢true t)
      by (here (continuation K)) q t = record { frames = K; there = q }
      by absent q t = absurd (false≢true t)

  -- an effect is a builtin, or one that the image declares
  effect_tag : type_of f ≡ 8 → (f.tag ≡ 8) ⊎ (f.tag ≡ 24)
  unfolding is_value
  effect_tag e =
      let other : (k : ℕ) → (k % 16 ≡ 8 → ⊥) → eqb f.tag k ≡ true → (f.tag ≡ 8) ⊎ (f.tag ≡ 24) = λ k n q. absurd (n (ap (λ (t : ℕ). t % 16) (sym (eqb-true f.tag k q)) ∙ e)) in
      (test _ _ _ (other 0 (λ z. omega arith)) (test _ _ _ (other 1 (λ z. omega arith)) (test _ _ _ (other 2 (λ z. omega arith)) (test _ _ _ (other 3 (λ z. omega arith))
      (test _ _ _ (other 4 (λ z. omega arith)) (test _ _ _ (other 5 (λ z. omega arith)) (test _ _ _ (other 6 (λ z. omega arith)) (test _ _ _ (other 7 (λ z. omega arith))
      (test _ _ _ (λ q. inl (eqb-true f.tag 8 q)) (test _ _ _ (other 20 (λ z. omega arith)) (test _ _ _ (other 23 (λ z. omega arith))
      (test _ _ _ (λ q. inr (eqb-true f.tag 24 q)) (other 39 (λ z. omega arith)))))))))))))) h

-- ---- Which function it is
module _ (s : List Object) (f : Cell) where
  function_effect : (f.tag ≡ 8) ⊎ (f.tag ≡ 24) → function_of s f ≡ is_effect_callback f
  unfolding function_of
  function_effect = ⊎_elim (λ e. simp e) (λ e. simp e)

  function_callback : f.tag ≡ 39 → function_of s f ≡ is_callback f.number f.payload
  unfolding function_of
  function_callback e = simp e

  function_closure : f.tag ≡ 7 → (w : Closed s f) → function_of s f ≡ is_closure f.number w.code
  unfolding function_of closure_function
  function_closure e w = simp (e, w.there)

  function_continuation : f.tag ≡ 23 → (w : Continued s f) → function_of s f ≡ is_continuation f.number w.frames
  unfolding function_of continuation_function
  function_continuation e w = simp (e, w.there)

  function_none : (P : Program) → is_value P s f ≡ true → (f.tag ≡ 7 → ⊥) → (f.tag ≡ 8 → ⊥) → (f.tag ≡ 23 → ⊥) → (f.tag ≡ 24 → ⊥) → (f.tag ≡ 39 → ⊥) → function_of s f ≡ is_none
  unfolding function_of
  function_none P h a b c d e =
      let n : is_effect f ≡ false = ne_eqb (type_of f) 8 (λ q. ⊎_elim b d (effect_tag P s f h q)) in simp (n, ne_eqb f.tag 39 e, ne_eqb f.tag 7 a, ne_eqb f.tag 23 c)

-- ---- `callable`, `is_function`: by the tags that the code tells apart
module _ (f : Cell) where
  abbrev Tells : Bool → (Function → Bool) → Type 0
  Tells b test = (P : Program) (s : List Object) → is_value P s f ≡ true → b ≡ test (function_of s f)

  none_called : (test : Function → Bool) → test is_none ≡ false → (f.tag ≡ 7 → ⊥) → (f.tag ≡ 8 → ⊥) → (f.tag ≡ 23 → ⊥) → (f.tag ≡ 24 → ⊥) → (f.tag ≡ 39 → ⊥) → Tells false test
  none_called test z a b c d e P s h = sym (ap test (function_none s f P h a b c d e) ∙ z)

  pub callable_below : f.tag < 7 → Tells false callable
  unfolding callable
  callable_below l = none_called callable refl (λ e. omega arith) (λ e. omega arith) (λ e. omega arith) (λ e. omega arith) (λ e. omega arith)

  pub callable_between : 9 ≤ f.tag → f.tag < 23 → Tells false callable
  unfolding callable
  callable_between k l = none_called callable refl (λ e. omega arith) (λ e. omega arith) (λ e. omega arith) (λ e. omega arith) (λ e. omega arith)

  pub callable_above : 25 ≤ f.tag → (f.tag ≡ 39 → ⊥) → Tells false callable
  unfolding callable
  callable_above k n = none_called callable refl (λ e. omega arith) (λ e. omega arith) (λ e. omega arith) (λ e. omega arith) n

  closure_called : (test : Function → Bool) → ((h c : ℕ) → test (is_closure h c) ≡ true) → f.tag ≡ 7 → Tells true test
  closure_called test z e P s h = let w = value_closed P s f h e in sym (ap test (function_closure s f e w) ∙ z _ _)

  continuation_called : (test : Function → Bool) → ((k : ℕ) (K : List Frame) → test (is_continuation k K) ≡ true) → f.tag ≡ 23 → Tells true test
  continuation_called test z e P s h = let w = value_continued P s f h e in sym (ap test (function_continuation s f e w) ∙ z _ _)

  effect_called : (b : Bool) (test : Function → Bool) → ((e : Cell) → test (is_effect_callback e) ≡ b) → (f.tag ≡ 8) ⊎ (f.tag ≡ 24) → Tells b test
  effect_called b test z e P s h = sym (ap test (function_effect s f e) ∙ z f)

  callback_called : (test : Function → Bool) → ((n w : ℕ) → test (is_callback n w) ≡ true) → f.tag ≡ 39 → Tells true test
  callback_called test z e P s h = sym (ap test (function_callback s f e) ∙ z _ _)

  either : {R : Type 0} (k : ℕ) → k ≤ f.tag → f.tag < k + 2 → (f.tag ≡ k → R) → (f.tag ≡ k + 1 → R) → R
  either {R} k l u x y = by (ℕ_discrete f.tag k)
    where
      by : Dec (f.tag ≡ k) → R
      by (yes e) = x e
      by (no n) = y (omega (arith, n))

  pub callable_low : 7 ≤ f.tag → f.tag < 9 → Tells true callable
  unfolding callable
  callable_low l u = either 7 l u (closure_called callable (λ h c. refl)) (λ e. effect_called true callable (λ x. refl) (inl e))

  pub callable_high : 23 ≤ f.tag → f.tag < 25 → Tells true callable
  unfolding callable
  callable_high l u = either 23 l u (continuation_called callable (λ k K. refl)) (λ e. effect_called true callable (λ x. refl) (inr e))

  pub callable_host : f.tag ≡ 39 → Tells true callable
  unfolding callable
  callable_host = callback_called callable (λ n w. refl)

  abbrev Three : Type 0
  Three = (f.tag ≡ 7) ⊎ ((f.tag ≡ 23) ⊎ (f.tag ≡ 39))

  pub function_is : Three → Tells true is_function
  unfolding is_function
  function_is = ⊎_elim (closure_called is_function (λ h c. refl)) (⊎_elim (continuation_called is_function (λ k K. refl)) (callback_called is_function (λ n w. refl)))

  pub function_not : (Three → ⊥) → Tells false is_function
  unfolding is_function
  function_not n = by (ℕ_discrete f.tag 8) (ℕ_discrete f.tag 24)
    where
      by : Dec (f.tag ≡ 8) → Dec (f.tag ≡ 24) → Tells false is_function
      by (yes e) d = effect_called false is_function (λ x. refl) (inl e)
      by (no a) (yes e) = effect_called false is_function (λ x. refl) (inr e)
      by (no a) (no b) = none_called is_function refl (λ e. n (inl e)) a (λ e. n (inr (inl e))) b (λ e. n (inr (inr e)))

-- ---- `return_value`
module _ {frames : ℕ} (v : Cell) where
  pub return_last : frames ≡ 0 → ReturnsValue frames v (Returns v)
  unfolding return_value
  return_last z = record { carries = λ P m args l. by m.frames m (l ∙ z) }
    where
      by : (F : List Frame) (m : M) → length F ≡ 0 → return_value v F m ≡ with_result (returned v) m
      by [] m l = refl
      by (f ∷ F) m l = absurd (omega arith)

  pub return_more : (frames ≡ 0 → ⊥) → ReturnsValue frames v (Receives v)
  unfolding return_value
  return_more z = record { carries = λ P m args l. by m.frames m refl (λ e. z (sym l ∙ e)) }
    where
      by : (F : List Frame) (m : M) → m.frames ≡ F → (length F ≡ 0 → ⊥) → Received v m (return_value v F m)
      by [] m q n = absurd (n refl)
      by (f ∷ F) m q n = record { top = f; below = F; frames = q; after = refl }

-- ---- What a call is asked with
pub callable_lies : {P : Program} {f : Cell} {n : ℕ} {L S : List Cell} {starts : List ℕ} → Callable P f n L S starts → Lies n L starts
callable_lies h = record { frames = h.machine.frames; count = sym (ap (λ (c : Counts). c.frames) h.held.counts) ∙ h.count; under = h.held.under; table = h.table }

pub callable_fits : {P : Program} {f : Cell} {n : ℕ} {L : List Cell} (store : List ℕ) {starts : List ℕ} → Callable P f n L (cells store) starts → f.tag ≡ 7 → f.number < room store
unfolding object_cells
callable_fits {P} {f} store h e =
    let w = value_closed P h.machine.store f h.value e in
    let t = object_there h.held.store w.there in
    omega (arith, t.at, sym (length_cells store) ∙ ap length t.is ∙ length-append t.pre (object_cells (closure w.code w.upvalues) ++ t.post))

-- every machine that is held, in which f exists, is asked of; its frames are so many
calls_by : {P : Program} {frames : ℕ} {f : Cell} {args L S : List Cell} {starts : List ℕ} {r : Plan} (to : List Object → M → M)
    → ((m : M) (c : Counts) → Held P m c L S starts → is_value P m.store f ≡ true → call_function P (function_of m.store f) f args m ≡ to m.store m)
    → ((m : M) → length m.frames ≡ frames → Under m.frames L starts → is_value P m.store f ≡ true → Carries P r args m (to m.store m))
    → CallsFunction P frames f args L S starts r
calls_by {P} {args = args} {r = r} to same does = record {
  carries = λ m c k h w.
      subst (Carries P r args m) (sym (same m c h w)) (does m (sym (ap (λ (x : Counts). x.frames) h.counts) ∙ k) h.under w);
}

-- ---- Frames of a callback of the host and of an effect
module _ (P : Program) (frames : ℕ) (f : Cell) (n : ℕ) (L S : List Cell) (starts : List ℕ) {r : Option Beginning} where
  pub begins_effect : (f.tag ≡ 8) ⊎ (f.tag ≡ 24) → r ≡ callback_frame kinds.Effect f → BeginsCall P frames f n L S starts r
  unfolding call_function parse written
  begins_effect e q = rw q λ args l.
      calls_by (λ s m. with_frames (effect_callback f (reverse args) [] ∷ m.frames) m)
      (λ m c h w. ap (λ (g : Function). call_function P g f args m) (function_effect m.store f e))
      (λ m l u w. record { frame = effect_callback f (reverse args) []; is = refl; enough = λ z. absurd (false≢true z); after = refl })

  pub begins_host : f.tag ≡ 39 → r ≡ callback_frame kinds.Host f → BeginsCall P frames f n L S starts r
  unfolding call_function parse written
  begins_host e q = rw q λ args l.
      calls_by (λ s m. with_frames (host f.number f.payload (reverse args) [] ∷ m.frames) m)
      (λ m c h w. ap (λ (g : Function). call_function P g f args m) (function_callback m.store f e))
      (λ m l u w. record {
        frame = host f.number f.payload (reverse args) [];
        is = λ i. new_written 65 (record { tag = sym e i; number = f.number; payload = f.payload }) 0 args;
        enough = λ z. absurd (false≢true z);
        after = refl;
      })

-- ---- A closure
module _ {P : Program} (f : Cell) {L S : List Cell} {starts : List ℕ} where
  -- the closure of any machine held has the code that its first cell names
  closure_code : {m : M} {c : Counts} → Held P m c L S starts → (w : Closed m.store f) → code_named S f ≡ w.code
  unfolding object_cells
  closure_code h w =
      let t = object_there h.store w.there in
      ap (λ (l : List Cell). (get_or l f.number null).number) t.is
      ∙ ap (λ (x : Cell). x.number) (get_or_at t.pre (cell 128 w.code (length w.upvalues)) (w.upvalues ++ t.post) null f.number t.at)

  closure_is : f.tag ≡ 7 → (args : List Cell) (m : M) (c : Counts) → Held P m c L S starts → is_value P m.store f ≡ true
      → call_function P (function_of m.store f) f args m ≡ call_closure P f.number (code_of P (code_named S f)) args m
  unfolding call_function
  closure_is e args m c h v =
      let w = value_closed P m.store f v e in
      ap (λ (g : Function). call_function P g f args m) (function_closure m.store f e w) ∙ ap (λ (k : ℕ). call_closure P f.number (code_of P k) args m) (sym (closure_code h w))

-- a machine with a new frame of the code
abbrev framed : Cell → List Cell → Code → M → M
framed f args c m = let a = parse_args (code_params c) args m.store in with_store (new_frame f.number c a.args ∷ m.frames) a.store m

closure_by : (P : Program) (f : Cell) (c : Code) (args : List Cell) (m : M) {n : ℕ} {b : Bool} → length args ≡ n → checks (params_of (code_params c)) n ≡ b
    → call_closure P f.number c args m ≡ if? b (framed f args c m) (throw_error 1 P (wrong_count (code_params c) args) m)
unfolding call_closure
closure_by P f c args m l h = ap (λ (b : Bool). if? b (framed f args c m) (throw_error 1 P (wrong_count (code_params c) args) m)) (checks_args (code_params c) args l refl ∙ h)

-- the parameters are read by the tables
pub closure_read : (image rows : List ℕ) (S : List Cell) (f : Cell) {code count mark : ℕ} → code ≡ code_named S f → count ≡ (body_at image rows code).params → mark ≡ (body_at image rows code).variadic
    → ◌≡◌ {A = Params} (record { count = count; variadic = eqb mark 1 }) (params_of (code_params (body_at image rows (code_named S f))))
closure_read image rows S f k p v = (λ i. record { count = p i; variadic = eqb (v i) 1 }) ∙ ap (λ (c : ℕ). params_of (code_params (body_at image rows c))) k

module _ (image rows constants inner : List ℕ) (codes : ℕ) where
  abbrev P : Program
  P = program_in image rows constants inner codes

  module _ {frames : ℕ} {f : Cell} {L S : List Cell} {starts : List ℕ} (e : f.tag ≡ 7) (h : Callable P f frames L S starts) where
    -- the program's code is that of the tables
    closure_known : code_of P (code_named S f) ≡ code_at image rows constants inner (code_named S f)
    closure_known =
        let w = value_closed P h.machine.store f h.value e in
        let k : w.code < codes = rw length_tab at (object_at_lem P [] h.machine.store f.number (closure w.code w.upvalues) h.held.objects w.there).0 in
        code_in image rows constants inner codes (code_named S f) (rw (sym (closure_code f h.held w)) at k)

    module _ {p : Params} (is : p ≡ params_of (code_params (body_at image rows (code_named S f)))) where
      params_are : p ≡ params_of (code_params (code_of P (code_named S f)))
      params_are = is ∙ ap (λ (c : Code). params_of (code_params c)) (sym closure_known)

      module _ (n : ℕ) {t : Bool} (tested : t ≡ checks p n) where
        checks_are : checks (params_of (code_params (code_of P (code_named S f)))) n ≡ t
        checks_are = ap (λ (q : Params). checks q n) (sym params_are) ∙ sym tested

        pub closure_none : not t ≡ true → BeginsNone P f n S
        closure_none off = record {
          no_effect_lem = ⊎_elim (λ z. omega arith) (λ z. omega arith);
          no_callback = λ z. omega arith;
          wrong = λ z. checks_are ∙ not-true t off;
        }

        pub closure_starts : {code locals : ℕ} → not t ≡ false → code ≡ code_named S f → locals ≡ (body_at image rows code).locals → (args : List Cell) → length args ≡ n
            → CallsFunction P frames f args L S starts (Starts (record { kind = kinds.Lucia; subject = f; locals = locals }) p)
        unfolding written
        closure_starts {locals = locals} on k q args l =
            let c = code_of P (code_named S f) in
            let fits : checks (params_of (code_params c)) n ≡ true = checks_are ∙ not-false t on in
            let same : locals ≡ c.locals = q ∙ ap (λ (x : ℕ). (body_at image rows x).locals) k ∙ ap (λ (x : Code). x.locals) (sym closure_known) in
            calls_by (λ s m. call_closure P f.number c args m) (closure_is f e args)
            (λ m j u v.
            let w = value_closed P m.store f v e in
            subst (Carries P (Starts (record { kind = kinds.Lucia; subject = f; locals = locals }) p) args m) (sym (closure_by P f c args m l fits))
            (subst (λ (r : Plan). Carries P r args m (framed f args c m)) (λ i. Starts (record { kind = kinds.Lucia; subject = sym w.is i; locals = sym same i }) (sym params_are i))
            (record {
              frame = new_frame f.number c (parse_args (code_params c) args m.store).args;
              is = refl;
              enough = args_enough (code_params c) args l refl fits;
              after = refl;
            })))

      -- the count does not fit
      pub closure_wrong : (args : List ℕ) {n : ℕ} {x : Error} {r : Plan} → BeginsNone P f (room args) S → n ≡ room args → x ≡ error_of (call_arguments p.count p.variadic n)
          → ThrowsError P frames 1 x L starts r → CallsFunction P frames f (cells args) L S starts r
      closure_wrong args {r = r} none l q w =
          let c = code_of P (code_named S f) in
          calls_by (λ s m. call_closure P f.number c (cells args) m) (closure_is f e (cells args))
          (λ m k u v. subst (Carries P r (cells args) m) (sym (closure_by P f c (cells args) m (length_cells args) (none.wrong e)))
          (w.carries m (cells args) (wrong_count (code_params c) (cells args)) k u (wrong_is (code_params c) (cells args) (length_cells args ∙ sym l) params_are q)))

-- ---- Neither
module _ {P : Program} {f : Cell} {S : List Cell} where
  pub begins_none : {n : ℕ} → ((f.tag ≡ 8) ⊎ (f.tag ≡ 24) → ⊥) → (f.tag ≡ 39 → ⊥) → (f.tag ≡ 7 → ⊥) → BeginsNone P f n S
  begins_none a b c = record { no_effect_lem = a; no_callback = b; wrong = λ e. absurd (c e) }

  -- a value that is no function
  pub call_none : {frames : ℕ} {args L : List Cell} {starts : List ℕ} {r : Plan} {x : Error} {k n : ℕ} → BeginsNone P f n S → (f.tag ≡ 7 → ⊥) → (f.tag ≡ 23 → ⊥) → k ≡ type_of f → x ≡ error_of (meta_un_operator 0 k)
      → ThrowsError P frames 1 x L starts r → CallsFunction P frames f args L S starts r
  unfolding call_function
  call_none {args} h c d t q w =
      calls_by (λ s m. throw_error 1 P (meta_un_operator 0 (type_of f)) m)
      (λ m _ o v. ap (λ (g : Function). call_function P g f args m) (function_none m.store f P v c (λ e. h.no_effect_lem (inl e)) d (λ e. h.no_effect_lem (inr e)) h.no_callback))
      (λ m l u v. w.carries m args (meta_un_operator 0 (type_of f)) l u (q ∙ ap (λ (n : ℕ). error_of (meta_un_operator 0 n)) t))

-- ---- What a call does with what it begins
module _ (P : Program) (frames : ℕ) (f : Cell) (args : List ℕ) (L S : List Cell) (starts : List ℕ) {n : ℕ} (l : n ≡ room args) {o : Option Beginning} (h : BeginsCall P frames f n L S starts o) where
  pub call_begins : {b : Beginning} → o ≡ Some b → CallsFunction P frames f (cells args) L S starts (Starts b.start b.params)
  call_begins q = subst (BeginsCall P frames f n L S starts) q h (cells args) (length_cells args ∙ sym l)

  pub call_other : o ≡ None → BeginsNone P f (room args) S
  call_other q = subst (λ (i : ℕ). BeginsNone P f i S) l (subst (BeginsCall P frames f n L S starts) q h)

-- ---- A continuation
continuation_is : (P : Program) (f : Cell) → f.tag ≡ 23 → (args : List Cell) (m : M) (w : Continued m.store f) → call_function P (function_of m.store f) f args m ≡ resume P w.frames args m
unfolding call_function
continuation_is P f e args m w = ap (λ (g : Function). call_function P g f args m) (function_continuation m.store f e w)

module _ {P : Program} {frames : ℕ} {f : Cell} {L S : List Cell} {starts : List ℕ} (e : f.tag ≡ 23) where
  pub resume_one : (args : List ℕ) {n : ℕ} {v : Cell} → n ≡ room args → n ≡ 1 → v ≡ get_or (cells args) 0 null → CallsFunction P frames f (cells args) L S starts (Resumes f.number v)
  unfolding resume
  resume_one args {v = v} l one q = record {
    carries = λ m c k h t.
        let w = value_continued P m.store f t e in
        record { frames = w.frames; there = w.there; after = continuation_is P f e (cells args) m w ∙ by (cells args) m w.frames (length_cells args ∙ sym l ∙ one) q };
  }
    where
      by : (us : List Cell) (m : M) (K : List Frame) → length us ≡ 1 → v ≡ get_or us 0 null → resume P K us m ≡ with_frames (put_back v K ++ m.frames) m
      by [] m K o q = absurd (omega arith)
      by (x ∷ []) m K o q = ap (λ (y : Cell). with_frames (put_back y K ++ m.frames) m) (sym q)
      by (x ∷ y ∷ us) m K o q = absurd (omega arith)

  pub resume_wrong : (args : List ℕ) {n : ℕ} {x : Error} {r : Plan} → n ≡ room args → (n ≡ 1 → ⊥) → x ≡ error_of (call_arguments 1 false n) → ThrowsError P frames 1 x L starts r
      → CallsFunction P frames f (cells args) L S starts r
  unfolding resume
  resume_wrong args {n} {x} {r} l off q w = record {
    carries = λ m c k h t.
        let o = value_continued P m.store f t e in
        let same : length (cells args) ≡ n = length_cells args ∙ sym l in
        subst (Carries P r (cells args) m) (sym (continuation_is P f e (cells args) m o ∙ by (cells args) m o.frames (λ z. off (sym same ∙ z))))
        (w.carries m (cells args) (call_arguments 1 false (length (cells args))) (sym (ap (λ (y : Counts). y.frames) h.counts) ∙ k) h.under
        (q ∙ ap (λ (y : ℕ). error_of (call_arguments 1 false y)) (sym same)));
  }
    where
      by : (us : List Cell) (m : M) (K : List Frame) → (length us ≡ 1 → ⊥) → resume P K us m ≡ throw_error 1 P (call_arguments 1 false (length us)) m
      by [] m K o = refl
      by (x ∷ []) m K o = absurd (o refl)
      by (x ∷ y ∷ us) m K o = refl
