-- The table of starts: its entries for frames that are put on top, and for those that stay.
use Rattle.std.specs.Prelude.{◌≡◌, refl, ℕ, suc, ◌+◌, ◌-◌, ◌<◌, ◌≤◌, length, get_or, set, drop}
use Rattle.std.proofs.Common.{sym, subst, ◌∙◌, inl, inr, ⊎_elim, add-one, arith, length-set, length-append, drop-drop, get_or-set_same, get_or-set_other}
use Rattle.std.proofs.Math.Path.{ap}
use mathlib.Core.List.{List, [], ◌∷◌, ◌++◌, append_assoc}
use Rattle.std.proofs.Math.Decide.{dec_lt}
use Rattle.std.proofs.Math.Seq.{drop_at, drop-append-add}
use Rattle.cells.specs.declared.Cell.{Cell}
use Rattle.machine.specs.Machine.{Frame, give, put_back}
use Rattle.memory.specs.Layout.{flat}
use Rattle.memory.specs.View.{frame_size, frames_size}
use Rattle.memory.proofs.Lists.{flat_append}
use Rattle.moves.specs.Runs.{end_of, opened}
use Rattle.moves.specs.Frames.{Live}
use Rattle.moves.specs.Objects.{end_opened, sizes}
use Rattle.moves.specs.Starts.{lower, frames_lower, frames_last, frames_up}
use Rattle.moves.specs.declared.Running.{Running}
use Rattle.plan.specs.Rest.{Begins}
use Rattle.actions.specs.Acted as acted
use Rattle.actions.specs.Acted.{Begun}

-- ---- The loop: i starts are in the table, the last of those frames begins at `last`, the next at `place`, and that ends at `next`
pub record Passed (first from at i : ℕ) (S : List Cell) (old : List ℕ) (last place : ℕ) (new : List ℕ) : Type 0 where
  pub begun : Begun first at i (drop from S) old new
  pub reached : place ≡ from + frames_size i (drop from S)
  pub left : last ≡ from + frames_size (i - 1) (drop from S)

pub passed_none : (first from at : ℕ) (S : List Cell) (starts : List ℕ) → Passed first from at 0 S starts from from starts
unfolding frames_size
passed_none first from at S starts = record {
  begun = record { starts = λ i h. absurd (omega arith); other = λ i h. refl; len = refl };
  reached = omega arith;
  left = omega arith;
}

module _ {first from at i : ℕ} {S : List Cell} {old : List ℕ} {last place next : ℕ} {new : List ℕ} {g : Running} (b : Passed first from at i S old last place new) (e : g ≡ opened S place) (q : next ≡ end_of g) where
  next_opened : next ≡ end_of (opened S place)
  next_opened = q ∙ ap (λ (k : Running). end_of k) e

  next_is : next ≡ from + frames_size (suc i) (drop from S)
  next_is =
      let d : drop place S ≡ drop (frames_size i (drop from S)) (drop from S) = ap (λ (k : ℕ). drop k S) b.reached ∙ sym (drop-drop (frames_size i (drop from S)) from S) in
      omega (arith, next_opened, end_opened S place, frames_last i (drop from S), ap (λ (l : List Cell). frame_size l) d, b.reached)

  -- where this frame begins and ends among n
  pub passed_fits : {n : ℕ} → i < n → (place + 6 ≤ next) × (next ≤ from + frames_size n (drop from S)) × (place ≤ from + frames_size (n - 1) (drop from S)) × (from ≤ place)
  passed_fits {n} lt = (
    omega (arith, next_opened),
    omega (arith, next_is, frames_up (suc i) n (drop from S) (omega arith)),
    omega (arith, b.reached, frames_up i (n - 1) (drop from S) (omega arith)),
    omega (arith, b.reached),
  )

  pub passed_next : {x : ℕ} → first + i < length old → x ≡ at + (place - from) → Passed first from at (i + 1) S old place next (set new (first + i) x)
  passed_next {x} lt w = record {
    begun = record {
      starts = λ j h. by j h (dec_lt j i);
      other = λ j h.
          get_or-set_other new (first + i) j x 0 (λ k. ⊎_elim (λ w. omega arith) (λ w. omega arith) h)
          ∙ b.begun.other j (⊎_elim (λ w. inl w) (λ w. inr (omega arith)) h);
      len = length-set new (first + i) x ∙ b.begun.len;
    };
    reached = next_is ∙ ap (λ (k : ℕ). from + frames_size k (drop from S)) (sym (add-one i));
    left = b.reached ∙ ap (λ (k : ℕ). from + frames_size k (drop from S)) (omega arith);
  }
    where
      by : (j : ℕ) → j < i + 1 → Dec (j < i) → get_or (set new (first + i) x) (first + j) 0 ≡ at + frames_size j (drop from S)
      by j h (yes p) = get_or-set_other new (first + i) (first + j) x 0 (λ k. omega arith) ∙ b.begun.starts j p
      by j h (no p) = let e : j ≡ i = omega arith in rw e (get_or-set_same new (first + i) x 0 (omega (arith, b.begun.len)) ∙ omega (arith, w, b.reached))

pub passed_all : {first from at i n : ℕ} {S : List Cell} {old new : List ℕ} {last place : ℕ} → Passed first from at i S old last place new → i ≤ n → n ≤ i → acted.Begins first from at n S old last new
passed_all {first} {from} {at} {i} {n} {S} {old} {new} {last} b le ge =
    let e : i ≡ n = omega arith in
    subst (λ (k : ℕ). acted.Begins first from at k S old last new) e (record { begun = b.begun; reached = b.left })

-- the frames are as long where they lie then
pub begun_there : {first at n : ℕ} {x y : List Cell} {old new : List ℕ} → ((i : ℕ) → i < n → frames_size i x ≡ frames_size i y) → Begun first at n x old new → Begun first at n y old new
begun_there {at = at} f b = record { starts = λ i h. b.starts i h ∙ ap (λ (k : ℕ). at + k) (f i h); other = b.other; len = b.len }

-- ---- Frames on others: below they begin where they did
pub lower_onto : (A F : List Frame) (i : ℕ) → i ≤ length F → lower i (A ++ F) ≡ lower i F
lower_onto A F i le =
    let n : length (A ++ F) - i ≡ length A + (length F - i) = omega (arith, length-append A F) in
    ap (λ (k : ℕ). drop k (A ++ F)) n ∙ drop-append-add A F (length F - i)

pub begins_below : (f : Frame) (below : List Frame) (starts : List ℕ) → Begins (f ∷ below) starts → Begins below starts
begins_below f below starts b i lt = b i (omega arith) ∙ ap (λ (fs : List Frame). length (flat fs)) (lower_onto (f ∷ []) below i (omega arith))

pub lower_all : (F : List Frame) → lower (length F) F ≡ F
lower_all F = let z : length F - length F ≡ 0 = omega arith in ap (λ (k : ℕ). drop k F) z

-- another frame in the place of some
pub begins_top : (A : List Frame) (x : Frame) (F : List Frame) (starts : List ℕ) → 0 < length A → Begins (A ++ F) starts → Begins (x ∷ F) starts
begins_top A x F starts some b i lt =
    b i (omega (arith, length-append A F)) ∙ ap (λ (fs : List Frame). length (flat fs)) (lower_onto A F i (omega arith) ∙ sym (lower_onto (x ∷ []) F i (omega arith)))

-- one frame more
pub begins_new : (x : Frame) (F : List Frame) (starts : List ℕ) (n at : ℕ) → n ≡ length F → at ≡ length (flat F) → n < length starts → Begins F starts → Begins (x ∷ F) (set starts n at)
begins_new x F starts n at e q lt b i h = by (dec_lt i n)
  where
    by : Dec (i < n) → get_or (set starts n at) i 0 ≡ length (flat (lower i (x ∷ F)))
    by (yes p) = get_or-set_other starts n i at 0 (λ k. omega arith) ∙ b i (omega arith) ∙ ap (λ (fs : List Frame). length (flat fs)) (sym (lower_onto (x ∷ []) F i (omega arith)))
    by (no p) =
        let k : i ≡ n = omega arith in
        let j : i ≡ length F = omega arith in
        rw k (get_or-set_same starts n at 0 lt) ∙ q ∙ ap (λ (fs : List Frame). length (flat fs)) (sym (rw j (lower_onto (x ∷ []) F (length F) (omega arith) ∙ lower_all F)))

-- frames at the front of x have their cells there
pub frames_inside : {fs : List Frame} {x : List Cell} → Live fs x → frames_size (length fs) x ≤ length x
frames_inside {fs} {x} o =
    omega (arith, frames_lower (length fs) o (omega arith), ap (λ (l : List Frame). length (flat l)) (lower_all fs), ap length o.is ∙ length-append (flat fs) o.free)

-- what the last frame gets moves none of them
pub sizes_back : (v : Cell) (K : List Frame) {x y : List Cell} → Live K x → Live (put_back v K) y → (i : ℕ) → i < length K → frames_size i x ≡ frames_size i y
unfolding put_back
sizes_back v [] o p i lt = absurd (omega arith)
sizes_back v (f ∷ K) o p i lt =
    frames_lower i o (omega arith) ∙ ap (λ (fs : List Frame). length (flat fs)) (lower_onto (f ∷ []) K i (omega arith) ∙ sym (lower_onto (give v f ∷ []) K i (omega arith)))
    ∙ sym (frames_lower i p (omega arith))

-- the frames A on F, of which F ends at `at`
module _ (A F : List Frame) {L : List Cell} (o : Live (A ++ F) L) {at : ℕ} (e : at ≡ length (flat F)) where
  after : List Cell
  after = flat A ++ o.free

  in_front : L ≡ flat F ++ after
  unfolding after
  in_front = o.is ∙ ap (λ (l : List Cell). l ++ o.free) (flat_append A F) ∙ append_assoc (flat F) (flat A) o.free

  size_on : (d : ℕ) → frames_size (length F + d) L ≡ at + frames_size d (drop at L)
  size_on d =
      let k : drop at L ≡ after = ap (drop at) in_front ∙ drop_at (flat F) after at (sym e) in
      ap (frames_size (length F + d)) in_front ∙ sizes F d after ∙ omega (arith, ap (frames_size d) k)

  pub live_above : Live A (drop at L)
  unfolding after
  live_above = record { free = o.free; is = ap (drop at) in_front ∙ drop_at (flat F) after at (sym e) }

  pub begins_more : {first : ℕ} {old new : List ℕ} → first ≡ length F → Begun first at (length A) (drop at L) old new → Begins F old → Begins (A ++ F) new
  begins_more {first} {old} {new} f b g i h = by (dec_lt i first)
    where
      by : Dec (i < first) → get_or new i 0 ≡ length (flat (lower i (A ++ F)))
      by (yes p) = b.other i (inl p) ∙ g i (omega arith) ∙ ap (λ (fs : List Frame). length (flat fs)) (sym (lower_onto A F i (omega arith)))
      by (no p) =
          let d : ℕ = i - first in
          let k : first + d ≡ i = omega arith in
          let n : length F + d ≡ i = omega arith in
          ap (λ (j : ℕ). get_or new j 0) (sym k) ∙ b.starts d (omega (arith, length-append A F)) ∙ sym (size_on d) ∙ ap (λ (j : ℕ). frames_size j L) n ∙ frames_lower i o (omega arith)
