-- A walk down the frames under the top: one law for each return of `search`.
use Rattle.std.specs.Prelude.{◌≡◌, ℕ, ◌+◌, ◌-◌, ◌<◌, ◌≤◌, get_or, drop, Option, Some, None, IfSome}
use Rattle.std.specs.Option.{unwrap_or}
use Rattle.std.proofs.Math.Path.{refl, sym, ap}
use Rattle.std.proofs.Common.{subst, ◌∙◌, arith, drop_at}
use mathlib.Core.List.{List, [], ◌∷◌, ◌++◌, append_assoc, append-nil}
use Rattle.std.proofs.Math.Bool.{true, false}
use Rattle.std.proofs.Math.ListN.{length, length-append}
use Rattle.cells.specs.Cells.{cells, room}
use Rattle.cells.specs.CellsLaws.{length_cells}
use Rattle.cells.specs.declared.Cell.{Cell}
use Rattle.machine.specs.Values.{Program}
use Rattle.machine.specs.Machine.{Frame, lucia, host, effect_callback, effects, handlers_of, holds, Found, found, nowhere, under, find, search}
use Rattle.memory.specs.Layout.{Written, written, flat}
use Rattle.memory.proofs.Lists.{effects_untargeted}
use Rattle.moves.specs.Runs.{Top, end_of, opened, opened_top, top_length}
use Rattle.moves.specs.Frames.{Live, live_stands, live_drop}
use Rattle.moves.specs.Handlers.{First, holds_at, holds_none}
use Rattle.moves.specs.declared.Running.{Running}
use Rattle.plan.specs.Rest.{Under}
use Rattle.plan.specs.Searches.{Finds, Lies, SearchedIn}

-- ---- What the cells of a frame show is what the frame has
effects_written : (f : Frame) → effects (written f).handlers ≡ handlers_of f
unfolding written handlers_of
effects_written (lucia c p l s hs) = refl
effects_written (host n w s hs) = effects_untargeted hs
effects_written (effect_callback x s hs) = effects_untargeted hs

-- ---- A find under more frames
unfoldable pub onto : List Frame → Found → Found
onto above (found a h b) = found (above ++ a) h b
onto above nowhere = nowhere

onto_one : (f : Frame) (o : Found) → under f o ≡ onto (f ∷ []) o
unfolding onto under
onto_one f (found a h b) = refl
onto_one f nowhere = refl

onto_under : (above : List Frame) (f : Frame) (o : Found) → onto above (under f o) ≡ onto (above ++ (f ∷ [])) o
unfolding onto under
onto_under above f (found a h b) = ap (λ (l : List Frame). found l h b) (sym (append_assoc above (f ∷ []) a))
onto_under above f nowhere = refl

-- ---- The frames lie where the table says
module _ {L : List Cell} where
  live_past : (above below : List Frame) → Live (above ++ below) L → Live below L
  live_past [] below o = o
  live_past (f ∷ above) below o = live_past above below (live_drop o)

  live_under : (above below : List Frame) → 0 < length above → Live (drop 1 (above ++ below)) L → Live below L
  live_under [] below lt o = absurd (omega arith)
  live_under (f ∷ above) below lt o = live_past above below o

  top_under : {starts : List ℕ} (above : List Frame) (f : Frame) (below : List Frame) → 0 < length above → Under (above ++ (f ∷ below)) L starts
      → Top (written f) (flat below) (opened L (get_or starts (length below) 0)) L
  top_under {starts} above f below lt u =
      let n : length (above ++ (f ∷ below)) ≡ length above + (length below + 1) = length-append above (f ∷ below) ∙ omega arith in
      let k : length (above ++ (f ∷ [])) ≡ length (above ++ (f ∷ below)) - length below = length-append above (f ∷ []) ∙ omega arith in
      let b : drop (length (above ++ (f ∷ below)) - length below) (above ++ (f ∷ below)) ≡ below =
      ap (drop (length (above ++ (f ∷ below)) - length below)) (sym (append_assoc above (f ∷ []) below)) ∙ drop_at (above ++ (f ∷ [])) below _ k in
      opened_top _ (live_stands (live_under above (f ∷ below) lt u.below)) (u.begins (length below) (omega arith) ∙ ap (λ (l : List Frame). length (flat l)) b)

module _ (P : Program) (e : Cell) where
  -- the i frames at the bottom are still to be searched
  pub record Searching (F : List Frame) (i : ℕ) : Type 0 where
    pub above : List Frame
    pub below : List Frame
    pub frames : F ≡ above ++ below
    pub some : 0 < length above
    pub at : length below ≡ i
    pub left : search P e F ≡ onto above (find P e below)

  -- whatever the n frames are
  pub record Left (n : ℕ) (L : List Cell) (starts : List ℕ) (i : ℕ) : Type 0 where
    pub lies : Lies n L starts
    pub inside : i < n
    pub each : (F : List Frame) → length F ≡ n → Under F L starts → Searching F i

  -- the frame of place i is to be searched next
  record Reached (F : List Frame) (L : List Cell) (starts : List ℕ) (i : ℕ) : Type 0 where
    above : List Frame
    frame : Frame
    below : List Frame
    frames : F ≡ above ++ (frame ∷ below)
    some : 0 < length above
    at : length below ≡ i
    left : search P e F ≡ onto above (find P e (frame ∷ below))
    top : Top (written frame) (flat below) (opened L (get_or starts i 0)) L

  reached : {F : List Frame} {L : List Cell} {starts : List ℕ} {i : ℕ} → Searching F i → 0 < i → Under F L starts → Reached F L starts (i - 1)
  reached {F} {L} {starts} {i} s lt u = by s.above s.below s.frames s.some s.at s.left
    where
      by : (above below : List Frame) → F ≡ above ++ below → 0 < length above → length below ≡ i → search P e F ≡ onto above (find P e below) → Reached F L starts (i - 1)
      by above [] q some at left = absurd (omega arith)
      by above (f ∷ below) q some at left =
          let n : length below ≡ i - 1 = omega arith in
          record {
            above = above;
            frame = f;
            below = below;
            frames = q;
            some = some;
            at = n;
            left = left;
            top = subst (λ (k : ℕ). Top (written f) (flat below) (opened L (get_or starts k 0)) L) n (top_under above f below some (subst (λ (l : List Frame). Under l L starts) q u));
          }

  -- ---- The ends of the walk
  pub search_none : {n : ℕ} {L : List Cell} {starts : List ℕ} → n ≡ 0 → (F : List Frame) → length F ≡ n → Under F L starts → search P e F ≡ nowhere
  unfolding search
  search_none z [] q u = refl
  search_none z (f ∷ F) q u = absurd (omega arith)

  pub left_first : {n : ℕ} {L : List Cell} {starts : List ℕ} → Lies n L starts → (n ≡ 0 → ⊥) → Left n L starts (n - 1)
  unfolding search
  left_first {n} o h = record { lies = o; inside = omega arith; each = λ F q u. first F q }
    where
      first : (F : List Frame) → length F ≡ n → Searching F (n - 1)
      first [] q = absurd (h (sym q))
      first (f ∷ F) q = record { above = f ∷ []; below = F; frames = refl; some = omega arith; at = omega arith; left = onto_one f (find P e F) }

  module _ {n : ℕ} {L : List Cell} {starts : List ℕ} {i : ℕ} (s : Left n L starts i) where
    pub left_none : i ≤ 0 → (F : List Frame) → length F ≡ n → Under F L starts → search P e F ≡ nowhere
    unfolding find onto
    left_none le F q u = by (s.each F q u).above (s.each F q u).below (s.each F q u).at (s.each F q u).left
      where
        by : (above below : List Frame) → length below ≡ i → search P e F ≡ onto above (find P e below) → search P e F ≡ nowhere
        by above [] at left = left
        by above (f ∷ below) at left = absurd (omega arith)

    module _ (lt : 0 < i) where
      reach : (F : List Frame) → length F ≡ n → Under F L starts → Reached F L starts (i - 1)
      reach F q u = reached (s.each F q u) lt u

      module _ {g : Running} {j : ℕ} (is : (g ≡ opened L (get_or starts (i - 1) 0)) × (g.place < 4294967296))
          (finds : (w : Written) (pre : List Cell) → Top w pre g L → Finds P e w.handlers j) where
        module _ (F : List Frame) (q : length F ≡ n) (u : Under F L starts) where
          r : Reached F L starts (i - 1)
          r = reach F q u

          top : Top (written r.frame) (flat r.below) g L
          top = subst (λ (k : Running). Top (written r.frame) (flat r.below) k L) (sym is.0) r.top

          has : Finds P e (written r.frame).handlers j
          has = finds _ _ top

        pub left_in : j < g.handlers → (F : List Frame) → length F ≡ n → Under F L starts → SearchedIn P e F (i - 1) j
        unfolding find onto
        left_in h F q u =
            let o : Reached F L starts (i - 1) = r F q u in
            let w : First P e (written o.frame).handlers j =
            record { within = omega (arith, (top F q u).counts.handlers); before = (has F q u).misses; has = (has F q u).has (omega (arith, (top F q u).counts.handlers)) } in
            let d : holds P e (handlers_of o.frame) ≡ true = ap (holds P e) (sym (effects_written o.frame)) ∙ holds_at P e _ j w in
            record {
              above = o.above;
              handler = o.frame;
              below = o.below;
              finds = o.left ∙ rw (d, append-nil);
              frames = o.frames;
              some = o.some;
              at = o.at;
              first = w;
            }

        pub left_next : g.handlers ≤ j → Left n L starts (i - 1)
        unfolding find
        left_next h = record {
          lies = s.lies;
          inside = omega (arith, s.inside);
          each = λ F q u.
              let o : Reached F L starts (i - 1) = r F q u in
              let m : j ≡ length (written o.frame).handlers = omega (arith, (has F q u).most, (top F q u).counts.handlers) in
              let d : holds P e (handlers_of o.frame) ≡ false = ap (holds P e) (sym (effects_written o.frame)) ∙ holds_none P e _ (λ k l. (has F q u).misses k (omega arith)) in
              record {
                above = o.above ++ (o.frame ∷ []);
                below = o.below;
                frames = o.frames ∙ sym (append_assoc o.above (o.frame ∷ []) o.below);
                some = omega (arith, o.some, length-append o.above (o.frame ∷ []));
                at = o.at;
                left = o.left ∙ rw d (onto_under o.above o.frame (find P e o.below));
              };
        }

      -- what `find_handler` says of it
      module _ {g : Running} {r : Option ℕ} (is : (g ≡ opened L (get_or starts (i - 1) 0)) × (g.place < 4294967296))
          (finds : (w : Written) (pre : List Cell) → Top w pre g L → Finds P e w.handlers (unwrap_or r g.handlers)) where
        pub left_found : {j : ℕ} → r ≡ Some j → IfSome r (λ k. k < g.handlers) → (F : List Frame) → length F ≡ n → Under F L starts → SearchedIn P e F (i - 1) j
        left_found q h = left_in is (rw q at finds) (rw q at h)

        pub left_missed : r ≡ None → Left n L starts (i - 1)
        left_missed q = left_next is (rw q at finds) (omega arith)

  -- the next frame's cells are there
  module _ (b : List ℕ) {n : ℕ} {starts : List ℕ} {i : ℕ} (s : Left n (cells b) starts i) (lt : 0 < i) where
    abbrev next : Reached s.lies.frames (cells b) starts (i - 1)
    next = reach s lt _ s.lies.count s.lies.under

    pub left_fits : get_or starts (i - 1) 0 + 6 ≤ room b
    left_fits = omega (arith, top_length next.top, length_cells b)

    pub left_room : {g : Running} → (g ≡ opened (cells b) (get_or starts (i - 1) 0)) × (g.place < 4294967296) → end_of g ≤ room b
    left_room is = omega (arith, top_length next.top, length_cells b, ap (λ (k : Running). end_of k) is.0)
