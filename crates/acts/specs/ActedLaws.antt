-- A plan that is judged, and carried out or not: memory has the machine that it leads to, or the one that was.
use Rattle.std.specs.Prelude.{◌≡◌, refl, List, ◌∷◌, ℕ, ◌+◌, ◌/◌, ◌<◌, ◌≤◌, length, Result, Ok, Err}
use Rattle.std.proofs.Math.Path.{sym, subst}
use Rattle.std.proofs.Common.{ap, ◌∙◌, arith}
use Rattle.cells.specs.Cells.{room, cells}
use Rattle.cells.specs.CellsLaws.{length_cells}
use Rattle.cells.specs.declared.Cell.{Cell}
use Rattle.machine.specs.Values.{Program}
use Rattle.machine.specs.Machine.{Frame, running, M}
use Rattle.memory.specs.Layout.{written, flat}
use Rattle.moves.specs.Runs.{Top, Settles}
use Rattle.moves.specs.Frames.{Live, stands_live}
use Rattle.moves.specs.Objects.{Stored}
use Rattle.moves.specs.declared.Running.{Running}
use Rattle.plan.specs.Rest.{Same, Appends, counts_of, Begins, Held, Block, Rests}
use Rattle.plan.proofs.RestLaws.{same_refl, same_join}
use Rattle.plan.proofs.Appended.{appends_refl}
use Rattle.plan.specs.Plans.{Carries}
use Rattle.plan.specs.declared.Counts.{Counts}
use Rattle.plan.specs.declared.Plan.{Plan}
use Rattle.counts.specs.Counted.{refusal_by, Ready, Countable}
use Rattle.counts.specs.Judged.{granted}
use Rattle.actions.specs.Acted.{Roomy, Carriable, CarriesOut}
use Rattle.acts.specs.Acted.{rooms_of, JudgedAs, Small, Judgeable, Judges, Changed, Gone, Bounded, Overable, ActsOver, Belowable, ActsBelow}
use Rattle.acts.specs.Left.{begins_other, top_live, top_room, live_rests, held_rests, held_again, held_room, block_left}
use Rattle.refusals.specs.declared.Refusal.{Refusal}
use Rattle.refusals.specs.Refusals.{number_of}
use Rattle.refusals.proofs.NumberLaws.{number_above}

-- ---- A plan is judged
judged_is : (live store : List ℕ) {after after' : Counts} {a b code : ℕ} → a ≡ room live → b ≡ room store → code ≡ refusal_by (record { live = a; store = b }) after → after ≡ after' → code ≡ refusal_by (rooms_of live store) after'
judged_is live store x y e q = e ∙ (λ j. refusal_by (record { live = x j; store = y j }) (q j))

module _ {plan : Plan} {n : ℕ} {c : Counts} {live store starts : List ℕ} where
  pub judge_counts : Judgeable plan n c live store starts → Countable plan n c (cells live) (cells store) starts
  judge_counts j = record {
    program = j.program;
    machine = j.machine;
    after = j.after;
    args = j.args;
    given = j.given;
    carries = j.carries;
    held = j.held;
    ready = j.ready;
    table = j.small.table;
    few = (j.small.few.0, omega (arith, j.small.few.1, length_cells store), omega (arith, j.small.few.2, length_cells live), j.small.few.3);
    used = omega (arith, j.small.used, length_cells store);
  }

  module _ {after : Counts} (k : (P : Program) (m m' : M) (args : List Cell) → length args ≡ n → Carries P plan args m m' → Held P m c (cells live) (cells store) starts → Ready plan m (cells live) → after ≡ counts_of m')
      {a b : ℕ} {w : Result (Unit {0}) Refusal} (x : a ≡ room live) (y : b ≡ room store) (e : number_of w ≡ refusal_by (record { live = a; store = b }) after) where
    pub judge_refused : {o : Refusal} → w ≡ Err o → Judges plan n c live store starts (Err o)
    judge_refused {o} is = record { judged = λ P m m' args g d h r. (sym (ap number_of is) ∙ judged_is live store x y e (k P m m' args g d h r), number_above o) }

    pub judge_done : {o : Unit {0}} → w ≡ Ok o → Judges plan n c live store starts (Ok after)
    judge_done is = record { judged = λ P m m' args g d h r. (sym (judged_is live store x y e (k P m m' args g d h r)) ∙ ap number_of is, k P m m' args g d h r) }

-- ---- What stays as it was
settles_same : {g : Running} {a b : List ℕ} → Settles g a b → Same a b
settles_same s = record { rest = s.rest; len = s.len }

pub bounded_settled : {g : Running} {live live₁ : List ℕ} (state store starts : List ℕ) → Settles g live live₁ → Bounded state live store starts state live₁ store starts
bounded_settled state store starts s = record { same_state = same_refl state; same_live = settles_same s; same_store = same_refl store; table = refl }

bounded_carried : {plan : Plan} {args : List Cell} {c : Counts} {state live live₁ store starts state' live' store' starts' : List ℕ} → Same live live₁ → CarriesOut plan args c state live₁ store starts state' live' store' starts' → Bounded state live store starts state' live' store' starts'
bounded_carried s x = record { same_state = x.same_state; same_live = same_join s x.same_live; same_store = x.same_store; table = x.table }

-- the store holds what the machine has then, and nothing behind that changes
carried_appends : {plan : Plan} {args : List Cell} {c after : Counts} {state live store starts state' live' store' starts' : List ℕ} (k : Carriable plan args c state live store starts) → after ≡ counts_of k.after → CarriesOut plan args c state live store starts state' live' store' starts'
    → Appends c.store after.store store store'
carried_appends {c = c} {store = store} {store' = store'} k e x =
    subst (λ (i : Counts). Appends c.store i.store store store') (sym e) (x.appends k.program k.machine k.after k.carries k.held.running k.rests k.behind)

-- ---- The frame is written as it was
pub settled_rests : {g : Running} {live live₁ : List ℕ} {B S : List Cell} (m : M) (top : Frame) (below : List Frame) (starts : List ℕ) → m.frames ≡ top ∷ below → m.result ≡ running → Top (written top) (flat below) g (cells live)
    → Settles g live live₁ → Begins m.frames starts → Stored m.store S → Block m B → Rests m (counts_of m) B (cells live₁) S starts
settled_rests {live₁ = live₁} m top below starts q run t s b st x =
    live_rests starts run (subst (λ (F : List Frame). Live F (cells live₁)) (sym q) (stands_live (s.stands _ _ t))) refl b st x

-- ---- Room for what is left and for what it leads to
pub roomy_left : {P : Program} {m : M} {c : Counts} {L S : List Cell} {n : ℕ} {live live₁ store starts : List ℕ} → Held P m c L S starts → Live m.frames (cells live₁) → Small c n live store starts → length live₁ ≡ length live → Roomy c live₁ store starts
roomy_left {live = live} {live₁} h l s e =
    let r : room live₁ ≡ room live = ap (λ (k : ℕ). k / 16) e in
    record { table = s.table; cells_live = omega (arith, held_room h l, length_cells live₁); cells_store = s.used; small = (omega (arith, s.few.2, r), s.few.1) }

pub roomy_after : {c : Counts} {n : ℕ} {live live₁ store starts : List ℕ} (k : Counts) → refusal_by (rooms_of live store) k ≡ 0 → Small c n live store starts → length live₁ ≡ length live → Roomy k live₁ store starts
roomy_after {live = live} {live₁} {store} k e s q =
    let r : room live₁ ≡ room live = ap (λ (i : ℕ). i / 16) q in
    let f = granted (rooms_of live store) k e in
    record { table = omega (arith, f.0, s.whole); cells_live = omega (arith, f.1, r); cells_store = f.2; small = (omega (arith, s.few.2, r), s.few.1) }

-- ---- A plan over the running frame
module _ {m m_f : M} {g left : Running} {live : List ℕ} (x : Changed m m_f g left (cells live)) where
  pub left_live : {live₁ : List ℕ} → Settles left live live₁ → Live m_f.frames (cells live₁)
  left_live {live₁} s = subst (λ (F : List Frame). Live F (cells live₁)) (sym (ap (λ (y : M). y.frames) x.leaves)) (stands_live (s.stands _ _ x.runs_left))

  was_rests : {P : Program} {c : Counts} {B S : List Cell} {starts live₁ : List ℕ} → Held P m_f c (cells live) S starts → Settles g live live₁ → Block m B → Rests m (counts_of m) B (cells live₁) S starts
  was_rests {S = S} {starts} h s b =
      let e = x.leaves in
      let b_f : Begins (x.left_top ∷ x.below) starts = subst (λ (y : M). Begins y.frames starts) e h.under.begins in
      let bm : Begins m.frames starts = subst (λ (F : List Frame). Begins F starts) (sym x.frames) (begins_other x.left_top x.below x.top starts b_f) in
      settled_rests m x.top x.below starts x.frames (subst (λ (y : M). y.result ≡ running) e h.running) x.runs s bm (subst (λ (y : M). Stored y.store S) e h.store) b

module _ {plan : Plan} (bytes : List ℕ) {c : Counts} {g left : Running} {state live store starts : List ℕ} where
  module _ (o : Overable plan (cells bytes) c g left state live store starts) where
    pub over_settles : (g.base + 6 ≤ room live) × (g.place < 4294967296)
    over_settles = ((top_room live o.changed.runs).1, o.places.0)

    pub over_settles_left : (left.base + 6 ≤ room live) × (left.place < 4294967296)
    over_settles_left = ((top_room live o.changed.runs_left).1, o.places.1)

    module _ {n : ℕ} (q : n ≡ room bytes) where
      pub over_judges : Judgeable plan n c live store starts
      over_judges = record {
        program = o.program;
        machine = o.leaves;
        after = o.after;
        args = cells bytes;
        given = length_cells bytes ∙ sym q;
        carries = o.carries;
        held = o.held;
        ready = o.ready;
        small = subst (λ (k : ℕ). Small c k live store starts) (length_cells bytes ∙ sym q) o.small;
      }

      module _ {d : Result Counts Refusal} {after : Counts} {live₁ : List ℕ} (j : Judges plan n c live store starts d) (e : d ≡ Ok after) (s : Settles left live live₁) where
        pub over_judged : JudgedAs (rooms_of live store) o.after (Ok after)
        over_judged = subst (JudgedAs (rooms_of live store) o.after) e (j.judged o.program o.leaves o.after (cells bytes) (length_cells bytes ∙ sym q) o.carries o.held o.ready)

        unfoldable pub over_carries : Carriable plan (cells bytes) c state live₁ store starts
        over_carries =
            let l = left_live o.changed s in
            record {
              program = o.program;
              machine = o.leaves;
              after = o.after;
              carries = o.carries;
              rests = held_rests o.held l (block_left _ o.changed.leaves o.block);
              held = held_again o.held l;
              before = roomy_left o.held l o.small s.len;
              behind = roomy_after (counts_of o.after) over_judged.0 o.small s.len;
              block = o.len;
            }

        pub over_done : {state' live' store' starts' : List ℕ} → CarriesOut plan (cells bytes) c state live₁ store starts state' live' store' starts'
            → ActsOver plan (cells bytes) c g left (Ok after) state live store starts state' live' store' starts'
        unfolding over_carries
        over_done {state'} {live'} {store'} {starts'} x = record {
          acts = λ P m m_f m' ch h r y b.
              let k = subst (JudgedAs (rooms_of live store) m') e (j.judged P m_f m' (cells bytes) (length_cells bytes ∙ sym q) y h r) in
              let t = x.rests P m_f m' y h.running (held_rests h (left_live ch s) (block_left _ ch.leaves b)) (roomy_after (counts_of m') k.0 o.small s.len) in
              (k.0, k.1, subst (λ (i : Counts). Rests m' i (cells state') (cells live') (cells store') starts') (sym k.1) t);
          bounded = bounded_carried (settles_same s) x;
          appends = carried_appends over_carries over_judged.1 x;
        }

  module _ {n : ℕ} (q : n ≡ room bytes) {d : Result Counts Refusal} (j : Judges plan n c live store starts d) where
    pub over_refused : {k : Refusal} {live₁ : List ℕ} → d ≡ Err k → Settles g live live₁ → ActsOver plan (cells bytes) c g left (Err k) state live store starts state live₁ store starts
    over_refused e s = record {
      acts = λ P m m_f m' ch h r y b.
          let k = subst (JudgedAs (rooms_of live store) m') e (j.judged P m_f m' (cells bytes) (length_cells bytes ∙ sym q) y h r) in
          (k.0, k.1, was_rests ch h s b);
      bounded = bounded_settled state store starts s;
      appends = appends_refl c.store store;
    }

-- ---- A plan once the running frame is gone
pub gone_live : {m m_f : M} {g : Running} {L : List Cell} → Gone m m_f g L → Live m_f.frames L
gone_live {L = L} x = subst (λ (F : List Frame). Live F L) (sym (ap (λ (y : M). y.frames) x.leaves)) (top_live x.runs)

module _ {m m_f : M} {g : Running} {live : List ℕ} (x : Gone m m_f g (cells live)) where
  gone_rests : {P : Program} {c : Counts} {B S : List Cell} {starts live₁ : List ℕ} → Held P m_f c (cells live) S starts → Begins m.frames starts → Settles g live live₁ → Block m B → Rests m (counts_of m) B (cells live₁) S starts
  gone_rests {S = S} {starts} h bm s b =
      let e = x.leaves in
      settled_rests m x.top x.below starts x.frames (subst (λ (y : M). y.result ≡ running) e h.running) x.runs s bm (subst (λ (y : M). Stored y.store S) e h.store) b

module _ {plan : Plan} (bytes : List ℕ) {c : Counts} {g : Running} {state live store starts : List ℕ} where
  module _ (o : Belowable plan (cells bytes) c g state live store starts) where
    pub below_settles : (g.base + 6 ≤ room live) × (g.place < 4294967296)
    below_settles = ((top_room live o.gone.runs).1, o.places)

    module _ {n : ℕ} (q : n ≡ room bytes) where
      pub below_judges : Judgeable plan n c live store starts
      below_judges = record {
        program = o.program;
        machine = o.leaves;
        after = o.after;
        args = cells bytes;
        given = length_cells bytes ∙ sym q;
        carries = o.carries;
        held = o.held;
        ready = o.ready;
        small = subst (λ (k : ℕ). Small c k live store starts) (length_cells bytes ∙ sym q) o.small;
      }

      module _ {d : Result Counts Refusal} {after : Counts} (j : Judges plan n c live store starts d) (e : d ≡ Ok after) where
        pub below_judged : JudgedAs (rooms_of live store) o.after (Ok after)
        below_judged = subst (JudgedAs (rooms_of live store) o.after) e (j.judged o.program o.leaves o.after (cells bytes) (length_cells bytes ∙ sym q) o.carries o.held o.ready)

        unfoldable pub below_carries : Carriable plan (cells bytes) c state live store starts
        below_carries =
            let l = gone_live o.gone in
            record {
              program = o.program;
              machine = o.leaves;
              after = o.after;
              carries = o.carries;
              rests = held_rests o.held l (block_left _ o.gone.leaves o.block);
              held = o.held;
              before = roomy_left o.held l o.small refl;
              behind = roomy_after (counts_of o.after) below_judged.0 o.small refl;
              block = o.len;
            }

        pub below_done : {state' live' store' starts' : List ℕ} → CarriesOut plan (cells bytes) c state live store starts state' live' store' starts'
            → ActsBelow plan (cells bytes) c g (Ok after) state live store starts state' live' store' starts'
        unfolding below_carries
        below_done {state'} {live'} {store'} {starts'} x = record {
          acts = λ P m m_f m' go h bm r y b.
              let k = subst (JudgedAs (rooms_of live store) m') e (j.judged P m_f m' (cells bytes) (length_cells bytes ∙ sym q) y h r) in
              let t = x.rests P m_f m' y h.running (held_rests h (gone_live go) (block_left _ go.leaves b)) (roomy_after (counts_of m') k.0 o.small refl) in
              (k.0, k.1, subst (λ (i : Counts). Rests m' i (cells state') (cells live') (cells store') starts') (sym k.1) t);
          bounded = bounded_carried (same_refl live) x;
          appends = carried_appends below_carries below_judged.1 x;
        }

  module _ {n : ℕ} (q : n ≡ room bytes) {d : Result Counts Refusal} (j : Judges plan n c live store starts d) where
    pub below_refused : {k : Refusal} {live₁ : List ℕ} → d ≡ Err k → Settles g live live₁ → ActsBelow plan (cells bytes) c g (Err k) state live store starts state live₁ store starts
    below_refused e s = record {
      acts = λ P m m_f m' go h bm r y b.
          let k = subst (JudgedAs (rooms_of live store) m') e (j.judged P m_f m' (cells bytes) (length_cells bytes ∙ sym q) y h r) in
          (k.0, k.1, gone_rests go h bm s b);
      bounded = bounded_settled state store starts s;
      appends = appends_refl c.store store;
    }
