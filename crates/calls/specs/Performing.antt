-- A perform and a throw: one law for each return.
use Rattle.std.specs.Prelude.{◌≡◌, List, [], ◌∷◌, Bool, true, false, not, ◌⊎◌, length, eqb, leb, Option, Some, None}
use Rattle.std.proofs.Math.Path.{refl, sym, ap, subst}
use Rattle.std.proofs.Common.{◌∙◌, ⊎_elim}
use Prim.Native.Nat.{ℕ, zero, suc, ◌-◌}
use native.Mathlib.Omega.{arith}
use borrow.Author.Tests.{not-true, not-false, leb-true}
use Rattle.cells.specs.declared.Cell.{Cell}
use Rattle.image.specs.Records.{if?}
use Rattle.machine.specs.Values as v
use Rattle.machine.specs.Values.{Program, effect_params, call_arguments, un_operator, bin_operator, meta_un_operator, meta_bin_operator, zero_divisor, lucia_error, lucia_panic, thrown, shown}
use Rattle.machine.specs.Machine as machine
use Rattle.machine.specs.Machine.{Frame, Result, failed, M, with_result, check_args, wrong_count, search, capture, perform_by, throw_error}
use Rattle.memory.specs.Layout.{error_shown}
use Rattle.plan.specs.Rest.{Under}
use Rattle.plan.specs.Plans.{params_of, error_of, Throws, Enough, Handled, one_param, Carries}
use Rattle.plan.specs.Searches.{SearchedIn, Searched}
use Rattle.plan.specs.declared.Params.{Params}
use Rattle.plan.specs.declared.Error.{Error}
use Rattle.plan.specs.declared.Found.{Found}
use Rattle.plan.specs.declared.Plan.{Plan}
use Rattle.plan.specs.declared.Plan.TheVariants.{Handles, Catches, Unhandled, Fails, Stays}
use Rattle.calls.specs.Called.{checks, Caused, Handling, Lacking, Performs, ThrowsError}
use Rattle.results.specs.declared.ErrorKind.TheVariants.{CallArguments}
use Rattle.plan.specs.Kinds.{kind_of}

-- ---- How many arguments fit
module _ (p : Params) (n : ℕ) where
  pub checks_more : p.variadic ≡ true → leb p.count n ≡ checks p n
  unfolding checks
  checks_more e = sym (ap (λ (b : Bool). if? b (leb p.count n) (eqb p.count n)) e)

  pub checks_same : p.variadic ≡ false → eqb p.count n ≡ checks p n
  unfolding checks
  checks_same e = sym (ap (λ (b : Bool). if? b (leb p.count n) (eqb p.count n)) e)

  checks_enough : checks p n ≡ true → Enough p n
  checks_enough h e = leb-true p.count n (checks_more e ∙ h)

-- a refused count, shown: one bit says that it has no upper end
pub wrong_shown : (count n : ℕ) {b : Bool} {u : ℕ} → ((b ≡ true) × (u ≡ 1)) ⊎ ((b ≡ false) × (u ≡ 0))
    → ◌≡◌ {A = Error} (record { kind = CallArguments; value = record { tag = count; number = u; payload = n }; second = 0 }) (error_of (call_arguments count b n))
unfolding error_shown kind_of
wrong_shown count n h = ⊎_elim (λ w. rw (w.0, w.1) refl) (λ w. rw (w.0, w.1) refl) h

-- ---- The plan by the error that was thrown, if any
module _ {thrown : Option Error} (e : Cell) where
  module _ (i j : ℕ) (p : Params) where
    pub handling_performed : thrown ≡ None → Handling i j e p thrown (Handles i j e p)
    handling_performed q = rw q refl

    pub handling_thrown : {x : Error} → thrown ≡ Some x → Handling i j e p thrown (Catches i j x)
    handling_thrown q = rw q refl

  pub lacking_performed : thrown ≡ None → Lacking e thrown (Unhandled e)
  lacking_performed q = rw q refl

  pub lacking_thrown : {x : Error} → thrown ≡ Some x → Lacking e thrown (Fails x)
  lacking_thrown q = rw q refl

-- the same of the machine's parameters and arguments
module _ (of : v.Params) (args : List Cell) {n : ℕ} (l : length args ≡ n) {p : Params} (is : p ≡ params_of of) where
  pub checks_args : check_args of args ≡ checks p n
  unfolding checks check_args
  checks_args = ap (checks (params_of of)) l ∙ ap (λ (q : Params). checks q n) (sym is)

  pub wrong_is : {x : Error} → x ≡ error_of (call_arguments p.count p.variadic n) → x ≡ error_of (wrong_count of args)
  wrong_is q = q ∙ ap (λ (o : Params). error_of (call_arguments o.count o.variadic n)) is ∙ ap (λ (k : ℕ). error_of (call_arguments of.count of.variadic k)) (sym l)

  pub args_enough : checks p n ≡ true → Enough (params_of of) (length args)
  unfolding checks check_args
  args_enough h = checks_enough (params_of of) (length args) (checks_args ∙ h)

-- ---- What a perform comes to
module _ (P : Program) (e : Cell) (args : List Cell) {n : ℕ} (l : length args ≡ n) {p : Params} (is : p ≡ params_of (effect_params P e)) where
  module _ (throw : v.Error → M → M) (left : Result) (m : M) where
    perform_is : {b : Bool} → checks p n ≡ b
        → perform_by throw P e args left m ≡ if? b (capture P (effect_params P e) e args left m (search P e m.frames)) (throw (wrong_count (effect_params P e) args) m)
    unfolding perform_by
    perform_is h =
        ap (λ (b : Bool). if? b (capture P (effect_params P e) e args left m (search P e m.frames)) (throw (wrong_count (effect_params P e) args) m))
        (checks_args (effect_params P e) args l is ∙ h)

  -- a frame handles it
  handled_there : (i j : ℕ) (left : Result) (m : M) → checks p n ≡ true → SearchedIn P e m.frames i j → Handled P i j e p args m (capture P (effect_params P e) e args left m (search P e m.frames))
  unfolding capture
  handled_there i j left m h s =
      subst (λ (q : Params). Handled P i j e q args m (capture P (effect_params P e) e args left m (search P e m.frames))) (sym is) (record {
        above = s.above;
        handler = s.handler;
        below = s.below;
        frames = s.frames;
        some = s.some;
        at = s.at;
        first = s.first;
        enough = args_enough (effect_params P e) args l is h;
        after = ap (capture P (effect_params P e) e args left m) s.finds;
      })

-- a throw's builtin has one parameter
thrown_params : (P : Program) (y : v.Error) → params_of (effect_params P (thrown y)) ≡ one_param
unfolding effect_params thrown
thrown_params P (call_arguments s o g) = refl
thrown_params P (un_operator o x t) = refl
thrown_params P (bin_operator o x t u) = refl
thrown_params P (meta_un_operator n t) = refl
thrown_params P (meta_bin_operator n t u) = refl
thrown_params P zero_divisor = refl
thrown_params P (lucia_error c) = refl
thrown_params P (lucia_panic c) = refl

module _ {P : Program} {e : Cell} {p : Params} (is : p ≡ params_of (effect_params P e)) (r : Plan) {m m' : M} {args : List Cell} (given : List Cell) (left : Result) where
  handling_carries : (i j : ℕ) (thrown : Option Error) → Handling i j e p thrown r → Caused thrown e args given left → Handled P i j e p args m m' → Carries P r given m m'
  handling_carries i j None h k w = rw (h, k.0) w
  handling_carries i j (Some x) h k w =
      rw h
      (record {
        error = k.error;
        is = k.is;
        handled =
            let one : p ≡ one_param = is ∙ ap (λ (z : Cell). params_of (effect_params P z)) k.effect ∙ thrown_params P k.error in
            subst (λ (z : Cell). Handled P i j z one_param (shown k.error ∷ []) m m') k.effect
            (subst (λ (a : List Cell). Handled P i j e one_param a m m') k.arguments (subst (λ (q : Params). Handled P i j e q args m m') one w));
      })

lacking_carries : (P : Program) (e : Cell) (r : Plan) (m : M) (args given : List Cell) (left : Result) (thrown : Option Error) → Lacking e thrown r → Caused thrown e args given left → Carries P r given m (with_result left m)
lacking_carries P e r m args given left None h k = rw (h, k.0) (ap (λ (x : Result). with_result x m) k.1)
lacking_carries P e r m args given left (Some x) h k = rw h (record { error = k.error; is = k.is; after = ap (λ (y : Result). with_result y m) k.fails })

-- ---- `perform_effect_with`
module _ {P : Program} {frames throws n : ℕ} {e : Cell} {thrown : Option Error} {L : List Cell} {starts : List ℕ} {p : Params} (is : p ≡ params_of (effect_params P e)) {t : Bool} (test : t ≡ checks p n) {r : Plan} where
  pub performs_wrong : {x : Error} → not t ≡ true → x ≡ error_of (call_arguments p.count p.variadic n) → ThrowsError P frames throws x L starts r → Performs P frames throws e n thrown L starts r
  performs_wrong f q w = record {
    carries = λ m args given left c u l k.
        subst (Carries P r given m) (sym (perform_is P e args l is (throw_error throws P) left m (sym test ∙ not-true t f)))
        (w.carries m given (wrong_count (effect_params P e) args) c u (wrong_is (effect_params P e) args l is q));
  }

  module _ {o : Option Found} (f : not t ≡ false) (s : (F : List Frame) → length F ≡ frames → Under F L starts → Searched P e F o) where
    pub performs_handled : {y : Found} → o ≡ Some y → Handling y.frame y.handler e p thrown r → Performs P frames throws e n thrown L starts r
    performs_handled {y} q h = record {
      carries = λ m args given left c u l k.
          let fits : checks p n ≡ true = sym test ∙ not-false t f in
          let found : SearchedIn P e m.frames y.frame y.handler = subst (Searched P e m.frames) q (s m.frames c u) in
          subst (Carries P r given m) (sym (perform_is P e args l is (throw_error throws P) left m fits))
          (handling_carries is r given left y.frame y.handler thrown h k (handled_there P e args l is y.frame y.handler left m fits found));
    }

    pub performs_unhandled : o ≡ None → Lacking e thrown r → Performs P frames throws e n thrown L starts r
    unfolding capture
    performs_unhandled q h = record {
      carries = λ m args given left c u l k.
          let none : search P e m.frames ≡ machine.nowhere = subst (Searched P e m.frames) q (s m.frames c u) in
          subst (Carries P r given m)
          (sym (perform_is P e args l is (throw_error throws P) left m (sym test ∙ not-false t f) ∙ ap (capture P (effect_params P e) e args left m) none))
          (lacking_carries P e r m args given left thrown h k);
    }

-- ---- `throw_error`
module _ {P : Program} {frames : ℕ} (throws : ℕ) {x : Error} {L : List Cell} {starts : List ℕ} where
  pub throw_none : throws ≡ 0 → ThrowsError P frames throws x L starts Stays
  unfolding throw_error
  throw_none z = record { carries = λ m args y c u q. ap (λ (k : ℕ). throw_error k P y m) z }

  pub throw_some : {e : Cell} {r : Plan} → (throws ≡ 0 → ⊥) → Throws x e → Performs P frames (throws - 1) e 1 (Some x) L starts r → ThrowsError P frames throws x L starts r
  unfolding throw_error
  throw_some {e} {r} z h w = record {
    carries = λ m args y c u q.
        subst (Carries P r args m) (by m y throws z (ap (λ (a : Cell). perform_by (throw_error (throws - 1) P) P a (shown y ∷ []) (failed y) m) (h.is y q)))
        (w.carries m (shown y ∷ []) args (failed y) c u refl (record { error = y; is = q; effect = h.is y q; arguments = refl; fails = refl }));
  }
    where
      by : (m : M) (y : v.Error) {m' : M} (k : ℕ) → (k ≡ 0 → ⊥) → m' ≡ perform_by (throw_error (k - 1) P) P (thrown y) (shown y ∷ []) (failed y) m → m' ≡ throw_error k P y m
      by m y zero z e = absurd (z refl)
      by m y (suc k) z e = rw (let d : suc k - 1 ≡ k = omega arith in d) at e
