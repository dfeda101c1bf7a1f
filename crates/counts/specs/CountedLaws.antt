-- What each plan leaves is what its numbers say, and the reads that find the numbers have their needs.
use Rattle.std.specs.Prelude.{◌≡◌, refl, ℕ, ◌+◌, ◌-◌, ◌<◌, ◌≤◌}
use Rattle.std.proofs.Math.Path.{sym, ap}
use Rattle.std.proofs.Common.{subst, ◌∙◌}
use mathlib.Core.List.{List, [], ◌∷◌, ◌++◌, reverse, append_assoc}
use native.Mathlib.Omega.{arith}
use Rattle.std.proofs.Math.ListN.{length, get_or, drop, length-append}
use Rattle.std.proofs.lemmas.List.{length-reverse, length-replicate}
use Rattle.std.proofs.Math.Seq.{get_or_at, drop_at}
use Rattle.cells.specs.Cells.{null}
use Rattle.cells.specs.declared.Cell.{Cell}
use Rattle.machine.specs.Values.{Program, cell, continuation_at}
use Rattle.machine.specs.Machine.{Frame, lucia, host, effect_callback, Object, continuation, Result, M, frame_cost, frames_cost, cost, used, result_cost, with_frames, with_result, here, object_at, parse, enter, give, put_back, receive}
use Rattle.machine.proofs.Store.{used_append}
use Rattle.machine.proofs.FormRules.{object_at_lem}
use Rattle.machine.proofs.Refusals.{frames_few}
use Rattle.memory.specs.Layout.{Written, written, frame_cells, flat, object_cells}
use Rattle.memory.specs.View.{frames_size}
use Rattle.memory.specs.Lists.{written_cost}
use Rattle.memory.proofs.Lists.{cost_written, length_flat, cost_append}
use Rattle.moves.specs.Runs.{Top, end_of, top_length}
use Rattle.moves.specs.Frames.{Live, live_stands, kept_stack, kept_in, kept_opened, give_written, receive_written, new_written, live_under}
use Rattle.moves.specs.Objects.{There, last_of, object_there, sizes}
use Rattle.moves.specs.Starts.{lower}
use Rattle.plan.specs.Rest.{counts_of, Begins, Held}
use Rattle.plan.specs.Plans.{taken_count, listed_cells, Started, Resumed, Handled, Received}
use Rattle.plan.specs.declared.Counts.{Counts}
use Rattle.plan.specs.declared.Params.{Params}
use Rattle.plan.specs.declared.Start.{Start}
use Rattle.plan.proofs.ParsedLaws.{parsed_count, parsed_used}
use Rattle.counts.specs.Counted.{started_counts, resumed_counts, handled_counts, received_counts, Resumable, Handleable, Receivable}

-- ---- Costs
-- what a frame keeps of its stack as it gets a value
abbrev kept_of : Frame → Written
kept_of f = kept_stack (written f)

new_cost : {kind : ℕ} {subject : Cell} (k : ℕ) (args : List Cell) (f : Frame) → written f ≡ new_written kind subject k args → frame_cost f ≡ 6 + k + length args
new_cost k args f q = omega (arith, cost_written f, ap (λ (w : Written). written_cost w) q, length-replicate k null, length-reverse args)

give_cost : (v : Cell) (f : Frame) → frame_cost (give v f) ≡ written_cost (kept_of f) + 1
give_cost v f = omega (arith, ap (λ (w : Written). written_cost w) (give_written v f), cost_written (give v f))

receive_cost : (v : Cell) (f : Frame) → frame_cost (receive v f) ≡ 6 + length (kept_of f).locals + length (kept_of f).stack + 1
receive_cost v f = omega (arith, ap (λ (w : Written). written_cost w) (receive_written v f), cost_written (receive v f))

enter_cost : (P : Program) (e k : Cell) (args : List Cell) (f : Frame) → frame_cost (enter P e k args f) ≡ 6 + length (kept_of f).locals + length (kept_of f).stack + 2 + length args
unfolding enter written frame_cost
enter_cost P e k args (lucia c p l s hs) = omega (arith, length-append (reverse args) (k ∷ s), length-reverse args)
enter_cost P e k args (host n w s hs) = omega (arith, length-reverse (e ∷ k ∷ args))
enter_cost P e k args (effect_callback x s hs) = omega (arith, length-reverse (e ∷ k ∷ args))

-- ---- Where frames begin
begins_at : {F : List Frame} (starts : List ℕ) (above rest : List Frame) → Begins F starts → F ≡ above ++ rest → 0 < length above → get_or starts (length rest) 0 ≡ length (flat rest)
begins_at {F} starts above rest b q some =
    let n : length F ≡ length above + length rest = ap length q ∙ length-append above rest in
    let k : length F - length rest ≡ length above = omega arith in
    let l : lower (length rest) F ≡ rest = (λ j. drop (k j) (q j)) ∙ drop_at above rest _ refl in
    b (length rest) (omega arith) ∙ ap (λ (fs : List Frame). length (flat fs)) l

-- ---- The last frame of a continuation
module _ {top : Frame} {under : List Frame} {h : ℕ} {S : List Cell} (t : There (continuation (top ∷ under)) h S) where
  abbrev before : List Cell
  before = t.pre ++ (cell 130 (length (top ∷ under)) (frames_cost (top ∷ under)) ∷ [])

  abbrev after : List Cell
  after = frame_cells top ++ t.post

  length_before : length before ≡ h + 1
  length_before = length-append t.pre (cell 130 (length (top ∷ under)) (frames_cost (top ∷ under)) ∷ []) ∙ omega (arith, t.at)

  in_before : S ≡ before ++ (flat under ++ after)
  unfolding object_cells flat
  in_before = t.is ∙ simp append_assoc

  pub count_is : (get_or S h null).number ≡ length (top ∷ under)
  unfolding object_cells
  count_is = ap (λ (c : Cell). c.number) (ap (λ (l : List Cell). get_or l h null) t.is ∙ get_or_at t.pre _ _ null h t.at)

  size_is : frames_size ((get_or S h null).number - 1) (drop (h + 1) S) ≡ length (flat under)
  unfolding frames_size
  size_is =
      let n : (get_or S h null).number - 1 ≡ length under + 0 = omega (arith, count_is) in
      let d : drop (h + 1) S ≡ flat under ++ after = ap (drop (h + 1)) in_before ∙ drop_at before _ _ length_before in
      (λ j. frames_size (n j) (d j)) ∙ sizes under 0 after ∙ omega arith

  -- the frame, opened, without what it does not keep
  last_top : Top (kept_of top) (before ++ flat under) (kept_in S (last_of h S)) S
  last_top =
      kept_opened (last_of h S) (record { free = t.post; is = in_before ∙ sym (append_assoc before (flat under) after) })
      (omega (arith, length-append before (flat under), length_before, size_is))

  pub last_cost : (v : Cell) → end_of (kept_in S (last_of h S)) - (h + 1) + 1 ≡ frames_cost (put_back v (top ∷ under))
  unfolding put_back frames_cost
  last_cost v = let o = last_top in omega (arith, give_cost v top, length_flat under, size_is, o.counts.locals, o.counts.handlers, o.counts.stack)

  pub resumable : {c : Counts} → (c.frames < 4294967296) × (c.live < 4294967296) × (length S < 4294967296) → Resumable c h S
  resumable few =
      let end : end_of (kept_in S (last_of h S)) ≤ length S = omega (arith, top_length last_top) in
      record { there = omega arith; some = omega (arith, count_is); inside = end; behind = omega arith; opens = omega arith; few = few }

-- ---- What each plan leaves
module _ {P : Program} {m : M} {c : Counts} {L S : List Cell} {starts : List ℕ} (o : Held P m c L S starts) where
  no_result : result_cost m.result ≡ 0
  unfolding result_cost
  no_result = ap (λ (x : Result). result_cost x) o.running

  frames_is : c.frames ≡ length m.frames
  frames_is = ap (λ (x : Counts). x.frames) o.counts

  live_is_lem : c.live ≡ frames_cost m.frames
  live_is_lem = omega (arith, ap (λ (x : Counts). x.live) o.counts, no_result)

  store_is_lem : c.store ≡ used m.store
  store_is_lem = ap (λ (x : Counts). x.store) o.counts

  pub frames_under : c.frames ≤ c.live
  frames_under = omega (arith, frames_is, live_is_lem, frames_few m.frames)

  -- a new frame
  pub started_is : {f : Start} {p : Params} {args : List Cell} {m' : M} → Started f p args m m' → started_counts c f.locals p (length args) ≡ counts_of m'
  unfolding frames_cost
  started_is {f} {p} {args} s =
      let A : List Cell = (parse p.variadic p.count args m.store).args in
      let a : c.frames + 1 ≡ length (s.frame ∷ m.frames) = omega (arith, frames_is) in
      let b : c.live + 6 + f.locals + taken_count p (length args) ≡ frames_cost (s.frame ∷ m.frames) + result_cost m.result =
      omega (arith, live_is_lem, no_result, new_cost f.locals A s.frame s.is, parsed_count p args m.store s.enough) in
      let d : c.store + listed_cells p (length args) ≡ used (parse p.variadic p.count args m.store).store = omega (arith, store_is_lem, parsed_used p args m.store) in
      (λ j. record { frames = a j; live = b j; store = d j }) ∙ sym (ap (λ (x : M). counts_of x) s.after)

  -- frames of a continuation: it has some
  continued : (h : ℕ) (K : List Frame) → object_at m.store h ≡ here (continuation K) → 1 ≤ length K
  continued h K q = (object_at_lem P [] m.store h (continuation K) o.objects q).0

  -- frames go on top, the last with its value
  pub resumed_is : {h : ℕ} {v : Cell} {m' : M} → Resumed h v m m' → resumed_counts c h S ≡ counts_of m'
  unfolding put_back
  resumed_is {h} {v} {m'} s = by s.frames s.there (continued h s.frames s.there) s.after
    where
      by : (K : List Frame) → object_at m.store h ≡ here (continuation K) → 1 ≤ length K → m' ≡ with_frames (put_back v K ++ m.frames) m → resumed_counts c h S ≡ counts_of m'
      by [] q some e = absurd (omega arith)
      by (top ∷ under) q some e =
          let t = object_there o.store q in
          let K : List Frame = put_back v (top ∷ under) in
          let a : c.frames + (get_or S h null).number ≡ length (K ++ m.frames) = omega (arith, frames_is, count_is t, length-append K m.frames) in
          let b : c.live + (end_of (kept_in S (last_of h S)) - (h + 1)) + 1 ≡ frames_cost (K ++ m.frames) + result_cost m.result = omega (arith, live_is_lem, no_result, last_cost t v, cost_append K m.frames) in
          (λ j. record { frames = a j; live = b j; store = store_is_lem j }) ∙ sym (ap (λ (x : M). counts_of x) e)

  pub resumed_reads : {h : ℕ} {v : Cell} {m' : M} → Resumed h v m m' → c.live < 4294967296 → length S < 4294967296 → Resumable c h S
  resumed_reads {h} {v} {m'} s lt few = by s.frames s.there (continued h s.frames s.there)
    where
      by : (K : List Frame) → object_at m.store h ≡ here (continuation K) → 1 ≤ length K → Resumable c h S
      by [] q some = absurd (omega arith)
      by (top ∷ under) q some = resumable (object_there o.store q) (omega (arith, frames_under), lt, few)

  -- a frame under the top enters its handler
  module _ {i j : ℕ} {e : Cell} {p : Params} {args : List Cell} {m' : M} (s : Handled P i j e p args m m') where
    base_is : get_or starts i 0 ≡ length (flat s.below)
    base_is =
        let q : m.frames ≡ (s.above ++ (s.handler ∷ [])) ++ s.below = s.frames ∙ simp append_assoc in
        rw s.at at (begins_at starts (s.above ++ (s.handler ∷ [])) s.below o.under.begins q (omega (arith, length-append s.above (s.handler ∷ []))))

    above_is : get_or starts (i + 1) 0 ≡ length (flat (s.handler ∷ s.below))
    above_is =
        let n : length (s.handler ∷ s.below) ≡ i + 1 = omega (arith, s.at) in
        rw n at (begins_at starts s.above (s.handler ∷ s.below) o.under.begins s.frames s.some)

    handler_live : Live (s.handler ∷ s.below) L
    handler_live = by s.above s.some s.frames
      where
        by : (above : List Frame) → 0 < length above → m.frames ≡ above ++ (s.handler ∷ s.below) → Live (s.handler ∷ s.below) L
        by [] some q = absurd (omega arith)
        by (f ∷ above) some q = live_under above (s.handler ∷ s.below) (subst (λ (fs : List Frame). Live (drop 1 fs) L) q o.under.below)

    handler_top : Top (kept_of s.handler) (flat s.below) (kept_in L (get_or starts i 0)) L
    handler_top = kept_opened (get_or starts i 0) (live_stands handler_live) base_is

    cost_is : c.live ≡ frames_cost s.above + frames_cost (s.handler ∷ s.below)
    cost_is = live_is_lem ∙ ap (λ (fs : List Frame). frames_cost fs) s.frames ∙ cost_append s.above (s.handler ∷ s.below)

    pub handled_is : handled_counts c i p (length args) L starts ≡ counts_of m'
    unfolding frames_cost used cost
    handled_is =
        let g = handler_top in
        let k : List Object = m.store ++ (continuation s.above ∷ []) in
        let A : List Cell = (parse p.variadic p.count args k).args in
        let f : Frame = enter P e (continuation_at (used m.store)) A s.handler in
        let a : i + 1 ≡ length (f ∷ s.below) = omega (arith, s.at) in
        let b : get_or starts i 0 + 6 + (kept_in L (get_or starts i 0)).locals + (kept_in L (get_or starts i 0)).stack + 2 + taken_count p (length args) ≡ frames_cost (f ∷ s.below) + result_cost m.result =
        omega (arith, base_is, no_result, enter_cost P e (continuation_at (used m.store)) A s.handler, parsed_count p args k s.enough, length_flat s.below, g.counts.locals, g.counts.stack) in
        let d : c.store + 1 + (c.live - get_or starts (i + 1) 0) + listed_cells p (length args) ≡ used (parse p.variadic p.count args k).store =
        omega (arith, store_is_lem, above_is, cost_is, length_flat (s.handler ∷ s.below), parsed_used p args k, used_append m.store (continuation s.above ∷ [])) in
        (λ j. record { frames = a j; live = b j; store = d j }) ∙ sym (ap (λ (x : M). counts_of x) s.after)

    pub handled_reads : c.frames ≤ length starts → c.live < 4294967296 → c.store < 4294967296 → length L < 4294967296 → length args < 4294967296 → Handleable c i (length args) L starts
    handled_reads table live store few n = record {
      within = omega (arith, frames_is, ap length s.frames ∙ length-append s.above (s.handler ∷ s.below), s.at, s.some);
      opens = omega (arith, top_length handler_top);
      above = omega (arith, above_is, cost_is, length_flat (s.handler ∷ s.below));
      few = (live, store, few, n);
    }

  -- the top frame gets a value
  module _ {v : Cell} {m' : M} (s : Received v m m') (w : Live m.frames L) where
    some_is : c.frames ≡ length s.below + 1
    some_is = omega (arith, frames_is, ap length s.frames)

    top_is : get_or starts (c.frames - 1) 0 ≡ length (flat s.below)
    top_is =
        let n : length s.below ≡ c.frames - 1 = omega (arith, some_is) in
        rw n at (begins_at starts (s.top ∷ []) s.below o.under.begins s.frames (omega arith))

    top_top : Top (kept_of s.top) (flat s.below) (kept_in L (get_or starts (c.frames - 1) 0)) L
    top_top = kept_opened (get_or starts (c.frames - 1) 0) (live_stands (subst (λ (fs : List Frame). Live fs L) s.frames w)) top_is

    pub received_is : received_counts c L starts ≡ counts_of m'
    unfolding frames_cost
    received_is =
        let g = top_top in
        let a : c.frames ≡ length (receive v s.top ∷ s.below) = omega (arith, some_is) in
        let b : get_or starts (c.frames - 1) 0 + 6 + (kept_in L (get_or starts (c.frames - 1) 0)).locals + (kept_in L (get_or starts (c.frames - 1) 0)).stack + 1 ≡ frames_cost (receive v s.top ∷ s.below) + result_cost m.result =
        omega (arith, top_is, no_result, receive_cost v s.top, length_flat s.below, g.counts.locals, g.counts.stack) in
        (λ j. record { frames = a j; live = b j; store = store_is_lem j }) ∙ sym (ap (λ (x : M). counts_of x) s.after)

    pub received_reads : c.frames ≤ length starts → length L < 4294967296 → Receivable c L starts
    received_reads table few = record { some = omega (arith, some_is); within = table; opens = omega (arith, top_length top_top); few = few }

  -- a result: frames and store are as they were
  pub resulted_is : {x : Result} {m' : M} (n : ℕ) → result_cost x ≡ n → m' ≡ with_result x m → record { frames = c.frames; live = c.live + n; store = c.store } ≡ counts_of m'
  resulted_is {x} n q e =
      let b : c.live + n ≡ frames_cost m.frames + result_cost x = omega (arith, live_is_lem) in
      (λ j. record { frames = frames_is j; live = b j; store = store_is_lem j }) ∙ sym (ap (λ (y : M). counts_of y) e)

  pub ended_is : {x : Result} {m' : M} → result_cost x ≡ 0 → m' ≡ with_result x m → c ≡ counts_of m'
  ended_is {x} q e =
      let b : c.live ≡ frames_cost m.frames + result_cost x = omega (arith, live_is_lem) in
      (λ j. record { frames = frames_is j; live = b j; store = store_is_lem j }) ∙ sym (ap (λ (y : M). counts_of y) e)
