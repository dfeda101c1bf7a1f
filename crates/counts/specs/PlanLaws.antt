-- Each plan, as `counts_after` takes it: what its numbers need, and that they are what it leaves.
use Rattle.std.specs.Prelude.{◌≡◌, List, ℕ, ◌+◌, ◌<◌, length}
use Rattle.std.proofs.Math.Path.{refl}
use Rattle.std.proofs.Common.{sym, ap, subst, ◌∙◌, arith}
use Rattle.cells.specs.declared.Cell.{Cell}
use Rattle.machine.specs.Values.{Program}
use Rattle.machine.specs.Machine.{M, result_cost}
use Rattle.plan.specs.Rest.{counts_of, Held}
use Rattle.plan.specs.Plans.{Enough, one_param, Carries}
use Rattle.plan.specs.declared.Counts.{Counts}
use Rattle.plan.specs.declared.Error.{Error}
use Rattle.plan.specs.declared.Params.{Params}
use Rattle.plan.specs.declared.Start.{Start}
use Rattle.plan.specs.declared.Plan.{Plan}
use Rattle.plan.specs.declared.Plan.TheVariants.{Starts, Resumes, Handles, Catches, Unhandled, Fails, Receives, Returns, Stays}
use Rattle.counts.specs.Counted.{Ready, Countable, started_counts, resumed_counts, handled_counts, received_counts, Resumable, Handleable, Receivable}
use Rattle.counts.specs.CountedLaws.{frames_under, started_is, resumed_is, resumed_reads, handled_is, handled_reads, received_is, received_reads, resulted_is, ended_is}

-- ---- What the numbers need
module _ {plan : Plan} {n : ℕ} {c : Counts} {L S : List Cell} {starts : List ℕ} (k : Countable plan n c L S starts) where
  carried : (x : Plan) → plan ≡ x → Carries k.program x k.args k.machine k.after
  carried x e = subst (λ (y : Plan). Carries k.program y k.args k.machine k.after) e k.carries

  pub starts_needs : {f : Start} {p : Params} {locals : ℕ} → plan ≡ Starts f p → locals < 4294967296
      → (c.frames < 4294967296) × (c.live < 4294967296) × (c.store < 4294967296) × (locals < 4294967296) × (n < 4294967296) × Enough p n
  starts_needs {f} {p} e l = (
    omega (arith, frames_under k.held, k.few),
    k.few.0,
    omega (arith, k.used, k.few),
    l,
    k.few.3,
    subst (λ (a : ℕ). Enough p a) k.given (carried (Starts f p) e).enough,
  )

  pub resumes_needs : {h : ℕ} {v : Cell} → plan ≡ Resumes h v → Resumable c h S
  resumes_needs {h} {v} e = resumed_reads k.held (carried (Resumes h v) e) k.few.0 k.few.1

  pub handles_needs : {i j : ℕ} {x : Cell} {p : Params} → plan ≡ Handles i j x p → Handleable c i n L starts × Enough p n
  handles_needs {i} {j} {x} {p} e =
      let s = carried (Handles i j x p) e in
      subst (λ (a : ℕ). Handleable c i a L starts × Enough p a) k.given
      (handled_reads k.held s k.table k.few.0 (omega (arith, k.used, k.few)) k.few.2 (omega (arith, k.given, k.few)), s.enough)

  pub catches_needs : {i j : ℕ} {x : Error} → plan ≡ Catches i j x → Handleable c i 1 L starts × Enough one_param 1
  catches_needs {i} {j} {x} e =
      let s = (carried (Catches i j x) e).handled in
      (handled_reads k.held s k.table k.few.0 (omega (arith, k.used, k.few)) k.few.2 (omega arith), s.enough)

  pub receives_needs : {v : Cell} → plan ≡ Receives v → Receivable c L starts
  receives_needs {v} e = received_reads k.held (carried (Receives v) e) (subst (λ (y : Plan). Ready y k.machine L) e k.ready) k.table k.few.2

-- ---- What is left
-- r is what the plan leaves of any machine that is held
abbrev After : Plan → ℕ → Counts → List Cell → List Cell → List ℕ → Counts → Type 0
After plan n c L S starts r = (P : Program) (m m' : M) (args : List Cell) → length args ≡ n → Carries P plan args m m' → Held P m c L S starts → Ready plan m L → r ≡ counts_of m'

module _ {plan : Plan} {n : ℕ} {c r : Counts} {L S : List Cell} {starts : List ℕ} where
  pub starts_leaves : {f : Start} {p : Params} → plan ≡ Starts f p → r ≡ started_counts c f.locals p n → After plan n c L S starts r
  starts_leaves {f} {p} e q P m m' args g w o y =
      q ∙ ap (λ (a : ℕ). started_counts c f.locals p a) (sym g) ∙ started_is o (subst (λ (x : Plan). Carries P x args m m') e w)

  pub resumes_leaves : {h : ℕ} {v : Cell} → plan ≡ Resumes h v → r ≡ resumed_counts c h S → After plan n c L S starts r
  resumes_leaves e q P m m' args g w o y = q ∙ resumed_is o (subst (λ (x : Plan). Carries P x args m m') e w)

  pub handles_leaves : {i j : ℕ} {x : Cell} {p : Params} → plan ≡ Handles i j x p → r ≡ handled_counts c i p n L starts → After plan n c L S starts r
  handles_leaves {i} {p = p} e q P m m' args g w o y =
      q ∙ ap (λ (a : ℕ). handled_counts c i p a L starts) (sym g) ∙ handled_is o (subst (λ (x : Plan). Carries P x args m m') e w)

  pub catches_leaves : {i j : ℕ} {x : Error} → plan ≡ Catches i j x → r ≡ handled_counts c i one_param 1 L starts → After plan n c L S starts r
  catches_leaves e q P m m' args g w o y = q ∙ handled_is o (subst (λ (x : Plan). Carries P x args m m') e w).handled

  pub receives_leaves : {v : Cell} → plan ≡ Receives v → r ≡ received_counts c L starts → After plan n c L S starts r
  receives_leaves e q P m m' args g w o y = q ∙ received_is o (subst (λ (x : Plan). Carries P x args m m') e w) (subst (λ (x : Plan). Ready x m L) e y)

module _ {plan : Plan} {n : ℕ} {c : Counts} {L S : List Cell} {starts : List ℕ} where
  pub unhandled_leaves : {x : Cell} → plan ≡ Unhandled x → After plan n c L S starts (record { frames = c.frames; live = c.live + n; store = c.store })
  unfolding result_cost
  unhandled_leaves {x} e P m m' args g w o y = resulted_is o n g (subst (λ (z : Plan). Carries P z args m m') e w)

  pub fails_leaves : {x : Error} → plan ≡ Fails x → After plan n c L S starts c
  unfolding result_cost
  fails_leaves e P m m' args g w o y = ended_is o refl (subst (λ (z : Plan). Carries P z args m m') e w).after

  pub returns_leaves : {v : Cell} → plan ≡ Returns v → After plan n c L S starts c
  unfolding result_cost
  returns_leaves e P m m' args g w o y = ended_is o refl (subst (λ (z : Plan). Carries P z args m m') e w)

  pub stays_leaves : plan ≡ Stays → After plan n c L S starts c
  stays_leaves e P m m' args g w o y = o.counts ∙ sym (ap (λ (x : M). counts_of x) (subst (λ (z : Plan). Carries P z args m m') e w))
