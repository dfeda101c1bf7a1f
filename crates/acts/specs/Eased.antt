-- A resume that surely has room is carried out unjudged, so that its frames are walked over once; what the machine has then is read off the top frame.
use Rattle.std.specs.Prelude.{◌≡◌, Bool, true, false, ℕ, ◌+◌, ◌-◌, ◌/◌, ◌<◌, ◌≤◌, ltb, Option, Some, Ok}
use Rattle.std.proofs.Math.Path.{refl, sym, ap, subst}
use Rattle.std.proofs.Common.{◌∙◌, arith, ltb-true}
use mathlib.Core.List.{List, [], ◌∷◌, ◌++◌}
use Rattle.std.proofs.Math.ListN.{length, get_or, length-append}
use Rattle.std.proofs.Math.Nat.{pos_of_ne-zero}
use Rattle.std.proofs.Math.Seq.{get_or_at}
use Rattle.cells.specs.Cells.{null, room, cells}
use Rattle.cells.specs.CellsLaws.{length_cells}
use Rattle.cells.specs.declared.Cell.{Cell}
use Rattle.image.specs.Records.{if?}
use Rattle.machine.specs.Values.{Program}
use Rattle.machine.specs.Machine.{Frame, lucia, host, effect_callback, continuation, Result, running, M, frame_cost, frames_cost, result_cost, give, put_back}
use Rattle.machine.specs.Calls.{Sizes}
use Rattle.memory.specs.Layout.{written, flat, object_cells, result_shown}
use Rattle.memory.proofs.Lists.{length_flat, cost_append}
use Rattle.moves.specs.Runs.{Top, Settles, end_of, opened, opened_top, top_length}
use Rattle.moves.specs.Frames.{Live, live_stands}
use Rattle.moves.specs.Objects.{There, object_there}
use Rattle.moves.specs.declared.Running.{Running}
use Rattle.plan.specs.Rest.{counts_of, Begins, Held, Rests}
use Rattle.plan.specs.Plans.{Resumed, Carries}
use Rattle.plan.specs.declared.Counts.{Counts}
use Rattle.plan.specs.declared.Plan.{Plan}
use Rattle.plan.specs.declared.Plan.TheVariants.{Resumes}
use Rattle.counts.specs.Counted.{refusal_by, resumed_counts, Resumable}
use Rattle.counts.specs.CountedLaws.{resumed_is, resumed_reads}
use Rattle.actions.specs.Acted.{Carriable, CarriesOut}
use Rattle.actions.specs.Tables.{lower_all}
use Rattle.acts.specs.Acted.{rooms_of, Judgeable, Eases, Standing, standing_counts, Overable, ActsOver, Belowable, ActsBelow}
use Rattle.acts.specs.Left.{lower_under, top_cost}
use Rattle.acts.specs.ActedLaws.{over_judged, over_carries, over_done, below_judged, below_carries, below_done}

-- ---- There is room
room_there : (z : Sizes) (c : Counts) → c.frames ≤ 256 → c.live ≤ z.live → c.store ≤ z.store → refusal_by z c ≡ 0
unfolding refusal_by
room_there z c f l s = by _ _ _ refl refl refl
  where
    by : (x y w : Bool) → ltb 256 c.frames ≡ x → ltb z.live c.live ≡ y → ltb z.store c.store ≡ w → ◌≡◌ {A = ℕ} (if? x 13 (if? y 14 (if? w 15 0))) 0
    by true y w a b d = absurd (omega (arith, ltb-true 256 c.frames a))
    by false true w a b d = absurd (omega (arith, ltb-true z.live c.live b))
    by false false true a b d = absurd (omega (arith, ltb-true z.store c.store d))
    by false false false a b d = refl

-- a frame that gets a value has one cell more at most
give_most : (v : Cell) (f : Frame) → frame_cost (give v f) ≤ frame_cost f + 1
unfolding give frame_cost
give_most v (lucia c p l s hs) = omega arith
give_most v (host n w s hs) = omega arith
give_most v (effect_callback e s hs) = omega arith

back_most : (v : Cell) (K : List Frame) → frames_cost (put_back v K) ≤ frames_cost K + 1
unfolding put_back frames_cost
back_most v [] = omega arith
back_most v (f ∷ K) = omega (arith, give_most v f)

-- the first cell of a continuation has the number of its cells
module _ {K : List Frame} {h : ℕ} {S : List Cell} (t : There (continuation K) h S) where
  head_size : (get_or S h null).payload ≡ frames_cost K
  unfolding object_cells
  head_size = ap (λ (c : Cell). c.payload) (ap (λ (l : List Cell). get_or l h null) t.is ∙ get_or_at t.pre _ _ null h t.at)

  cost_fits : frames_cost K ≤ length S
  unfolding object_cells
  cost_fits = omega (arith, length_flat K, ap length t.is ∙ length-append t.pre (object_cells (continuation K) ++ t.post), length-append (flat K) t.post)

resumes_most : {P : Program} {m m' : M} {c : Counts} {L S : List Cell} {starts : List ℕ} {h : ℕ} {v : Cell} → Held P m c L S starts → Resumed h v m m'
    → (resumed_counts c h S).live ≤ c.live + (get_or S h null).payload + 1
resumes_most {m = m} {m'} {c} {S = S} {h = h} {v} o s =
    let k : resumed_counts c h S ≡ counts_of m' = resumed_is o s in
    let t = object_there o.store s.there in
    omega (arith, ap (λ (x : Counts). x.live) k, ap (λ (x : M). frames_cost x.frames + result_cost x.result) s.after, cost_append (put_back v s.frames) m.frames, back_most v s.frames, head_size t, ap (λ (x : Counts). x.live) o.counts)

module _ {plan : Plan} {n : ℕ} {c : Counts} {live store starts : List ℕ} where
  -- it is known
  pub eases_some : {found : Option ℕ} {more : ℕ} → Eases plan n c live store starts found → found ≡ Some more → Eases plan n c live store starts (Some more)
  eases_some z is = subst (λ (x : Option ℕ). Eases plan n c live store starts x) is z

  module _ {h : ℕ} {v : Cell} (e : plan ≡ Resumes h v) (j : Judgeable plan n c live store starts) where
    does : Resumed h v j.machine j.after
    does = subst (λ (p : Plan). Carries j.program p j.args j.machine j.after) e j.carries

    pub easy_reads : Resumable c h (cells store)
    easy_reads = resumed_reads j.held does j.small.few.0 (omega (arith, length_cells store, j.small.few.1))

    pub easy_size : (get_or (cells store) h null).payload < 4294967296
    easy_size = let t = object_there j.held.store does.there in omega (arith, head_size t, cost_fits t, length_cells store, j.small.few.1)

    pub eases : {count size r : ℕ} → (count ≡ 0 → ⊥) → count ≡ (get_or (cells store) h null).number → size ≡ (get_or (cells store) h null).payload → r ≡ room live → c.frames + count ≤ 256 → c.live + size + 1 ≤ r
        → Eases plan n c live store starts (Some count)
    eases {count} {size} {r} ne a b d f l = (
      pos_of_ne-zero ne,
      record {
        after = resumed_counts c h (cells store);
        judges = record {
          judged = λ P m m' args g y o x.
              let s : Resumed h v m m' = subst (λ (p : Plan). Carries P p args m m') e y in
              let k : resumed_counts c h (cells store) ≡ counts_of m' = resumed_is o s in (
                ap (λ (i : Counts). refusal_by (rooms_of live store) i) (sym k)
                    ∙ room_there (rooms_of live store) (resumed_counts c h (cells store)) (omega arith) (omega (arith, resumes_most o s)) j.small.used,
                k,
              );
        };
        frames = omega arith;
        uses = refl;
        runs = λ P args m m' y. ap (λ (x : M). x.result) (subst (λ (p : Plan). Carries P p args m m') e y).after;
      },
    )

-- ---- What stands once the frames are put back
-- the top frame can be read, and it ends where the frames do
top_stands : {L : List Cell} {frames : ℕ} (starts : List ℕ) (F : List Frame) → length F ≡ frames → 0 < frames → frames ≤ length starts → length L < 4294967296 → Live F L → Begins F starts
    → Standing L starts frames × (end_of (opened L (get_or starts (frames - 1) 0)) ≡ frames_cost F)
top_stands starts [] e some le small o b = absurd (omega arith)
top_stands {L} {frames} starts (f ∷ F) e some le small o b =
    let i : frames - 1 ≡ length F = omega arith in
    let at : get_or starts (frames - 1) 0 ≡ length (flat F) =
    rw i (b (length F) (omega arith) ∙ ap (λ (x : List Frame). length (flat x)) (lower_under f F (length F) (omega arith) ∙ lower_all F)) in
    let t : Top (written f) (flat F) (opened L (get_or starts (frames - 1) 0)) L = opened_top (get_or starts (frames - 1) 0) (live_stands o) at in
    (record { some = some; table = le; inside = omega (arith, top_length t); small = small }, sym (top_cost f F t))

pub standing_is : (L : List Cell) (starts : List ℕ) (frames u : ℕ) {end : ℕ} {g : Running} → g ≡ opened L (get_or starts (frames - 1) 0) → end ≡ end_of g
    → ◌≡◌ {A = Counts} (record { frames = frames; live = end; store = u }) (standing_counts L starts frames u)
standing_is L starts frames u e q =
    let l = q ∙ ap (λ (k : Running). end_of k) e in
    λ i. record { frames = frames; live = l i; store = u }

module _ {plan : Plan} {args : List Cell} {c after : Counts} {more : ℕ} {state live store starts state' live' store' starts' : List ℕ}
    (k : Carriable plan args c state live store starts) (x : CarriesOut plan args c state live store starts state' live' store' starts')
    (w : after ≡ counts_of k.after) (f : after.frames ≡ c.frames + more) (u : after.store ≡ c.store) (same : k.after.result ≡ k.machine.result) (lt : 0 < more) where
  runs : k.after.result ≡ running
  runs = same ∙ k.held.running

  rests : Rests k.after (counts_of k.after) (cells state') (cells live') (cells store') starts'
  rests = x.rests k.program k.machine k.after k.carries k.held.running k.rests k.behind

  all_live : Live k.after.frames (cells live')
  unfolding result_shown
  all_live = record { free = rests.free; is = rests.live ∙ ap (λ (y : Result). flat k.after.frames ++ ((result_shown y).args ++ rests.free)) runs }

  there : Standing (cells live') starts' (c.frames + more) × (end_of (opened (cells live') (get_or starts' (c.frames + more - 1) 0)) ≡ frames_cost k.after.frames)
  there =
      let l : length k.after.frames ≡ c.frames + more = ap (λ (i : Counts). i.frames) (sym w) ∙ f in
      let r : room live' ≡ room live = ap (λ (i : ℕ). i / 16) x.same_live.len in
      top_stands starts' k.after.frames l (omega (arith, lt)) (omega (arith, l, k.behind.table, x.table)) (omega (arith, length_cells live', r, k.behind.small.0)) all_live rests.begins

  carried_counts : {r : Counts} → r ≡ standing_counts (cells live') starts' (c.frames + more) c.store → r ≡ after
  unfolding result_cost
  carried_counts e =
      let l : end_of (opened (cells live') (get_or starts' (c.frames + more - 1) 0)) ≡ after.live =
      omega (arith, there.1, ap (λ (i : Counts). i.live) w, ap (λ (y : Result). result_cost y) runs) in
      let a = sym f in
      let b = sym u in
      e ∙ (λ i. record { frames = a i; live = l i; store = b i })

-- ---- A plan over the running frame, or once it is gone
module _ {plan : Plan} (bytes : List ℕ) {c : Counts} {g left : Running} {state live store starts : List ℕ} {n more : ℕ} (o : Overable plan (cells bytes) c g left state live store starts) (q : n ≡ room bytes)
    (z : Eases plan n c live store starts (Some more)) {live₁ : List ℕ} (s : Settles left live live₁) where
  unfoldable pub over_easy : Carriable plan (cells bytes) c state live₁ store starts
  over_easy = over_carries bytes o q z.1.judges refl s

  is_over_lem : z.1.after ≡ counts_of o.after
  is_over_lem = (over_judged bytes o q z.1.judges refl s).1

  pub over_few : c.frames + more ≤ 256
  unfolding over_carries over_easy
  over_few = omega (arith, ap (λ (i : Counts). i.frames) is_over_lem, z.1.frames, over_easy.behind.table, o.small.whole)

  module _ {state' live' store' starts' : List ℕ} (x : CarriesOut plan (cells bytes) c state live₁ store starts state' live' store' starts') where
    same_over : o.after.result ≡ o.leaves.result
    same_over = z.1.runs o.program (cells bytes) o.leaves o.after o.carries

    pub over_stands : Standing (cells live') starts' (c.frames + more)
    unfolding over_carries over_easy
    over_stands = (there over_easy x is_over_lem z.1.frames z.1.uses same_over z.0).0

    pub over_eased : {r : Counts} → r ≡ standing_counts (cells live') starts' (c.frames + more) c.store → ActsOver plan (cells bytes) c g left (Ok r) state live store starts state' live' store' starts'
    unfolding over_carries over_easy
    over_eased e =
        let w = carried_counts over_easy x is_over_lem z.1.frames z.1.uses same_over z.0 e in
        subst (λ (i : Counts). ActsOver plan (cells bytes) c g left (Ok i) state live store starts state' live' store' starts') (sym w) (over_done bytes o q z.1.judges refl s x)

module _ {plan : Plan} (bytes : List ℕ) {c : Counts} {g : Running} {state live store starts : List ℕ} {n more : ℕ} (o : Belowable plan (cells bytes) c g state live store starts) (q : n ≡ room bytes)
    (z : Eases plan n c live store starts (Some more)) where
  unfoldable pub below_easy : Carriable plan (cells bytes) c state live store starts
  below_easy = below_carries bytes o q z.1.judges refl

  is_below : z.1.after ≡ counts_of o.after
  is_below = (below_judged bytes o q z.1.judges refl).1

  pub below_few : c.frames + more ≤ 256
  unfolding below_carries below_easy
  below_few = omega (arith, ap (λ (i : Counts). i.frames) is_below, z.1.frames, below_easy.behind.table, o.small.whole)

  module _ {state' live' store' starts' : List ℕ} (x : CarriesOut plan (cells bytes) c state live store starts state' live' store' starts') where
    same_below : o.after.result ≡ o.leaves.result
    same_below = z.1.runs o.program (cells bytes) o.leaves o.after o.carries

    pub below_stands : Standing (cells live') starts' (c.frames + more)
    unfolding below_carries below_easy
    below_stands = (there below_easy x is_below z.1.frames z.1.uses same_below z.0).0

    pub below_eased : {r : Counts} → r ≡ standing_counts (cells live') starts' (c.frames + more) c.store → ActsBelow plan (cells bytes) c g (Ok r) state live store starts state' live' store' starts'
    unfolding below_carries below_easy
    below_eased e =
        let w = carried_counts below_easy x is_below z.1.frames z.1.uses same_below z.0 e in
        subst (λ (i : Counts). ActsBelow plan (cells bytes) c g (Ok i) state live store starts state' live' store' starts') (sym w) (below_done bytes o q z.1.judges refl x)
