-- A plan over what is left of the running frame, and one once it is gone, alike: each law by whether anything is left.
use Rattle.std.specs.Prelude.{◌≡◌, List, ℕ, ◌+◌, ◌<◌, ◌≤◌, Option, None, Some, Result, Ok, Err}
use Rattle.std.proofs.Math.Path.{sym, subst}
use Rattle.cells.specs.Cells.{room, cells}
use Rattle.moves.specs.Runs.{Settles}
use Rattle.moves.specs.declared.Running.{Running}
use Rattle.plan.specs.declared.Counts.{Counts}
use Rattle.plan.specs.declared.Plan.{Plan}
use Rattle.actions.specs.Acted.{Carriable, CarriesOut}
use Rattle.refusals.specs.declared.Refusal.{Refusal}
use Rattle.acts.specs.Acted.{Judgeable, Judges, Eases, Standing, standing_counts, Leavable, SettlesLeft, Actable, ActsOn}
use Rattle.acts.specs.ActedLaws.{over_settles, over_settles_left, over_judges, over_carries, over_done, over_refused, below_settles, below_judges, below_carries, below_done, below_refused}
use Rattle.acts.specs.Eased.{over_easy, over_few, over_stands, over_eased, below_easy, below_few, below_stands, below_eased}

module _ {plan : Plan} (bytes : List ℕ) {c : Counts} {g : Running} {state live store starts : List ℕ} where
  pub act_settles : (left : Option Running) → Actable plan (cells bytes) c g left state live store starts → (g.base + 6 ≤ room live) × (g.place < 4294967296)
  act_settles None o = below_settles bytes o.able
  act_settles (Some l) o = over_settles bytes o.able

  pub act_leaves : (left : Option Running) → Actable plan (cells bytes) c g left state live store starts → Leavable left live
  act_leaves None o = tt
  act_leaves (Some l) o = over_settles_left bytes o.able

  module _ {n : ℕ} (q : n ≡ room bytes) where
    pub act_judges : (left : Option Running) → Actable plan (cells bytes) c g left state live store starts → Judgeable plan n c live store starts
    act_judges None o = below_judges bytes o.able q
    act_judges (Some l) o = over_judges bytes o.able q

    pub act_refused : (left : Option Running) {d : Result Counts Refusal} {k : Refusal} {live₁ : List ℕ} → Judges plan n c live store starts d → d ≡ Err k → Settles g live live₁ → ActsOn plan (cells bytes) c g left (Err k) state live store starts state live₁ store starts
    act_refused None j e s = record { on = below_refused bytes q j e s }
    act_refused (Some l) j e s = record { on = over_refused bytes q j e s }

    -- judged
    module _ {d : Result Counts Refusal} {after : Counts} {live₁ : List ℕ} (j : Judges plan n c live store starts d) (e : d ≡ Ok after) where
      pub act_carries : (left : Option Running) → Actable plan (cells bytes) c g left state live store starts → SettlesLeft left live live₁ → Carriable plan (cells bytes) c state live₁ store starts
      act_carries None o s = subst (λ (x : List ℕ). Carriable plan (cells bytes) c state x store starts) (sym s.settles) (below_carries bytes o.able q j e)
      act_carries (Some l) o s = over_carries bytes o.able q j e s.settles

      pub act_done : (left : Option Running) → Actable plan (cells bytes) c g left state live store starts → SettlesLeft left live live₁ → {state' live' store' starts' : List ℕ}
          → CarriesOut plan (cells bytes) c state live₁ store starts state' live' store' starts' → ActsOn plan (cells bytes) c g left (Ok after) state live store starts state' live' store' starts'
      act_done None o s {state'} {live'} {store'} {starts'} x =
          record { on = below_done bytes o.able q j e (subst (λ (y : List ℕ). CarriesOut plan (cells bytes) c state y store starts state' live' store' starts') s.settles x) }
      act_done (Some l) o s x = record { on = over_done bytes o.able q j e s.settles x }

    -- easy
    module _ {more : ℕ} {live₁ : List ℕ} (z : Eases plan n c live store starts (Some more)) where
      pub act_easy : (left : Option Running) → Actable plan (cells bytes) c g left state live store starts → SettlesLeft left live live₁ → Carriable plan (cells bytes) c state live₁ store starts
      act_easy None o s = subst (λ (x : List ℕ). Carriable plan (cells bytes) c state x store starts) (sym s.settles) (below_easy bytes o.able q z)
      act_easy (Some l) o s = over_easy bytes o.able q z s.settles

      pub act_few : (left : Option Running) → Actable plan (cells bytes) c g left state live store starts → SettlesLeft left live live₁ → c.frames + more ≤ 256
      act_few None o s = below_few bytes o.able q z
      act_few (Some l) o s = over_few bytes o.able q z s.settles

      module _ {state' live' store' starts' : List ℕ} (x : CarriesOut plan (cells bytes) c state live₁ store starts state' live' store' starts') where
        pub act_stands : (left : Option Running) → Actable plan (cells bytes) c g left state live store starts → SettlesLeft left live live₁ → Standing (cells live') starts' (c.frames + more)
        act_stands None o s = below_stands bytes o.able q z (subst (λ (y : List ℕ). CarriesOut plan (cells bytes) c state y store starts state' live' store' starts') s.settles x)
        act_stands (Some l) o s = over_stands bytes o.able q z s.settles x

        pub act_eased : (left : Option Running) → Actable plan (cells bytes) c g left state live store starts → SettlesLeft left live live₁ → {r : Counts} → r ≡ standing_counts (cells live') starts' (c.frames + more) c.store
            → ActsOn plan (cells bytes) c g left (Ok r) state live store starts state' live' store' starts'
        act_eased None o s e = record { on = below_eased bytes o.able q z (subst (λ (y : List ℕ). CarriesOut plan (cells bytes) c state y store starts state' live' store' starts') s.settles x) e }
        act_eased (Some l) o s e = record { on = over_eased bytes o.able q z s.settles x e }
