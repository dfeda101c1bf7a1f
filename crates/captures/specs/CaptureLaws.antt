-- A capture on a whole machine: where its parts lie, what there is room for, and what the moves of the code leave.
use Rattle.std.specs.Prelude.{◌≡◌, refl, ℕ, ◌+◌, ◌-◌, ◌<◌, ◌≤◌, get_or, set, drop}
use Rattle.std.proofs.Common.{sym, subst, ◌∙◌, arith, drop_at}
use Rattle.std.proofs.Math.Path.{ap}
use mathlib.Core.List.{List, [], ◌∷◌, ◌++◌, reverse, append_assoc}
use Rattle.std.proofs.Math.ListN.{length, length-append}
use Rattle.std.proofs.lemmas.List.{length-reverse}
use Rattle.cells.specs.Cells.{room, cells, Writes}
use Rattle.cells.specs.CellsLaws.{length_cells}
use Rattle.cells.specs.declared.Cell.{Cell}
use Rattle.machine.specs.Values.{Program, continuation_at, thrown, shown}
use Rattle.machine.specs.Machine.{Frame, lucia, host, effect_callback, Object, continuation, Result, M, frame_cost, frames_cost, cost, used, result_cost, parse, enter}
use Rattle.machine.proofs.Store.{used_append}
use Rattle.machine.proofs.Refusals.{frames_few}
use Rattle.memory.specs.Layout.{written, flat}
use Rattle.memory.specs.Lists.{written_cost}
use Rattle.memory.proofs.Lists.{length_flat, cost_append}
use Rattle.moves.specs.Runs.{clear_handlers}
use Rattle.moves.specs.Frames.{Live, kept_stack, live_under}
use Rattle.moves.specs.Objects.{Stored, made, captured}
use Rattle.moves.specs.Starts.{lower}
use Rattle.plan.specs.Rest.{Appends}
use Rattle.plan.proofs.Appended.{appends_same, appends_two, appends_made}
use Rattle.plan.specs.Plans.{Throws, Shows, taken_count, listed_cells, Enough, Handled, Caught, one_param}
use Rattle.plan.specs.Parsed.{Lists}
use Rattle.plan.specs.declared.Counts.{Counts}
use Rattle.plan.specs.declared.Error.{Error}
use Rattle.plan.specs.declared.Params.{Params}
use Rattle.plan.proofs.ParsedLaws.{parsed_count, parsed_used}
use Rattle.captures.specs.Entered.{Enterable, Enters, Lies, Capturable, Catchable, Captures, CapturesError}

-- ---- Costs
captured_used : (s : List Object) (K : List Frame) → used (s ++ (continuation K ∷ [])) ≡ used s + 1 + frames_cost K
unfolding used cost
captured_used s K = used_append s (continuation K ∷ []) ∙ omega arith

entered_cost : (P : Program) (e k : Cell) (args : List Cell) (f : Frame) → frame_cost (enter P e k args f) ≡ written_cost (clear_handlers (kept_stack (written f))) + (length args + 2)
unfolding enter frame_cost written
entered_cost P e k args (lucia c q l s hs) = omega (arith, length-append (reverse args) (k ∷ s), length-reverse args)
entered_cost P e k args (host n w s hs) = omega (arith, length-reverse (e ∷ k ∷ args))
entered_cost P e k args (effect_callback x s hs) = omega (arith, length-reverse (e ∷ k ∷ args))

lower_is : (above fs : List Frame) (i : ℕ) → length fs ≡ i → lower i (above ++ fs) ≡ fs
lower_is above fs i e =
    let n : length (above ++ fs) - i ≡ length above = omega (arith, length-append above fs) in
    ap (λ (k : ℕ). drop k (above ++ fs)) n ∙ drop_at above fs (length above) refl

-- ---- Where the parts of a machine lie that handles an effect
module _ {P : Program} {i j : ℕ} {e : Cell} {p : Params} {args : List Cell} {m m' : M} {c : Counts} {live store starts : List ℕ} (h : Handled P i j e p args m m') (l : Lies m c live store starts) where
  abbrev rests : List Frame
  rests = h.handler ∷ h.below

  count_is : c.frames ≡ length h.above + 1 + i
  count_is = ap (λ (k : Counts). k.frames) l.counts ∙ ap length h.frames ∙ length-append h.above rests ∙ omega (arith, h.at)

  cost_is : c.live ≡ frames_cost h.above + frames_cost rests
  unfolding result_cost
  cost_is =
      ap (λ (k : Counts). k.live) l.counts
      ∙ omega (arith, ap (λ (r : Result). result_cost r) l.running, ap (λ (fs : List Frame). frames_cost fs) h.frames ∙ cost_append h.above rests)

  used_is : c.store ≡ used m.store
  used_is = ap (λ (k : Counts). k.store) l.counts

  begins_above : get_or starts (i + 1) 0 ≡ length (flat rests)
  begins_above =
      l.begins (i + 1) (omega (arith, h.some, count_is, ap (λ (k : Counts). k.frames) l.counts))
      ∙ ap (λ (fs : List Frame). length (flat (lower (i + 1) fs))) h.frames ∙ ap (λ (fs : List Frame). length (flat fs)) (lower_is h.above rests (i + 1) (omega (arith, h.at)))

  begins_below : get_or starts i 0 ≡ length (flat h.below)
  begins_below =
      l.begins i (omega (arith, count_is, ap (λ (k : Counts). k.frames) l.counts))
      ∙ ap (λ (fs : List Frame). length (flat (lower i fs))) (h.frames ∙ sym (append_assoc h.above (h.handler ∷ []) h.below))
      ∙ ap (λ (fs : List Frame). length (flat fs)) (lower_is (h.above ++ (h.handler ∷ [])) h.below i h.at)

  live_all : Live (h.above ++ rests) (cells live)
  live_all = subst (λ (fs : List Frame). Live fs (cells live)) h.frames l.frames

  -- the frames above have so many cells
  size_is : c.live - get_or starts (i + 1) 0 ≡ length (flat h.above)
  size_is = omega (arith, cost_is, begins_above, length_flat h.above, length_flat rests)

  list_is : c.store + 1 + (c.live - get_or starts (i + 1) 0) ≡ used (m.store ++ (continuation h.above ∷ []))
  list_is = omega (arith, used_is, size_is, length_flat h.above, captured_used m.store h.above)

  -- so many cells of the store are used then
  used_after_lem : c.store + 1 + (c.live - get_or starts (i + 1) 0) + listed_cells p (length args) ≡ used m'.store
  used_after_lem =
      let k : used m'.store ≡ used (m.store ++ (continuation h.above ∷ [])) + listed_cells p (length args) =
      ap (λ (x : M). used x.store) h.after ∙ parsed_used p args (m.store ++ (continuation h.above ∷ [])) in
      omega (arith, k, list_is)

-- ---- There is room
-- where the frames above begin, and where a list would go behind the continuation
abbrev pub above_at : ℕ → List ℕ → ℕ
above_at i starts = get_or starts (i + 1) 0

abbrev pub list_handle : Counts → ℕ → List ℕ → ℕ
list_handle c i starts = c.store + 1 + (c.live - above_at i starts)

-- the numbers of the code, none of which is too large
pub record Numbers (c : Counts) (i : ℕ) (p : Params) (n : ℕ) (live store starts : List ℕ) : Type 0 where
  pub next : i + 1 < c.frames
  pub table : c.frames ≤ length starts
  pub below : get_or starts i 0 ≤ c.live
  pub above : above_at i starts ≤ c.live
  pub cells_live : c.live ≤ room live
  pub cells_store : list_handle c i starts + listed_cells p n ≤ room store
  pub few : c.frames < 4294967296
  pub small_live : room live < 4294967296
  pub small_store : room store < 4294967296
  pub enough : Enough p n

module _ {c : Counts} {i j : ℕ} {p : Params} {n : ℕ} {live store starts : List ℕ} (o : Capturable c i j p n live store starts) where
  abbrev handles : Handled o.program i j o.does.effect p o.does.args o.machine o.after
  handles = o.does.handled

  -- the store before the arguments are parsed
  abbrev objects : List Object
  objects = o.machine.store ++ (continuation handles.above ∷ [])

  uses : used o.after.store ≡ used objects + listed_cells p n
  uses =
      ap (λ (m : M). used m.store) handles.after ∙ parsed_used p o.does.args objects
      ∙ ap (λ (k : ℕ). used objects + listed_cells p k) o.does.count

  enough_there : Enough p n
  enough_there q = omega (arith, handles.enough q, o.does.count)

  pub numbers : Numbers c i p n live store starts
  unfolding frames_cost
  numbers =
      let l = o.lies in
      let h = handles in
      let a = cost_is h l in
      let b = begins_above h l in
      let k = length_flat (h.handler ∷ h.below) in
      let there : c.live ≤ room live = omega (arith, a, ap length (live_all h l).is ∙ length-append (flat (h.above ++ (h.handler ∷ h.below))) (live_all h l).free, length_flat (h.above ++ (h.handler ∷ h.below)), cost_append h.above (h.handler ∷ h.below), length_cells live) in
      record {
        next = omega (arith, h.some, count_is h l);
        table = o.table;
        below = omega (arith, a, begins_below h l, length_flat h.below);
        above = omega (arith, a, b, k);
        cells_live = there;
        cells_store = omega (arith, o.fits_store, uses, list_is h l);
        few = omega (arith, o.small_live, count_is h l, a, frames_few h.above, frames_few (h.handler ∷ h.below), h.at);
        small_live = o.small_live;
        small_store = o.small_store;
        enough = enough_there;
      }

  pub capture_enters : Enterable (get_or starts i 0) j p n (list_handle c i starts) live
  unfolding frames_cost
  capture_enters =
      let l = o.lies in
      let h = handles in
      let A : List Cell = (parse p.variadic p.count o.does.args objects).args in
      let k : Cell = continuation_at (used o.machine.store) in
      let a : length A ≡ taken_count p n = parsed_count p o.does.args objects h.enough ∙ ap (taken_count p) o.does.count in
      let f : frames_cost o.after.frames ≡ frame_cost (enter o.program o.does.effect k A h.handler) + frames_cost h.below = ap (λ (m : M). frames_cost m.frames) h.after in
      record {
        frame = h.handler;
        below = h.below;
        live = live_under h.above _ (live_all h l);
        at = begins_below h l;
        is = h.first.within;
        fits = omega (arith, o.fits_live, f, entered_cost o.program o.does.effect k A h.handler, a, begins_below h l, length_flat h.below);
        enough = enough_there;
        handle = omega (arith, numbers.cells_store, o.small_store);
      }

  -- ---- What is left
  -- the continuation and the list behind it are all that is written
  captures_appends : {args : List Cell} {mid store' : List ℕ}
      → Writes store (made (cells store) c.store 130 (c.frames - 1 - i) (cells live) (above_at i starts) (c.live - above_at i starts)) mid
      → Lists p (list_handle c i starts) args mid store'
      → Appends c.store (list_handle c i starts + listed_cells p (length args)) store store'
  captures_appends u v = appends_two (appends_made c.store 130 (c.frames - 1 - i) (above_at i starts) (c.live - above_at i starts) (cells live) (omega (arith, numbers.cells_store)) u) v.appends

  pub captures_all : {e : Cell} {args : List Cell} {mid live' store' : List ℕ}
      → Writes store (made (cells store) c.store 130 (c.frames - 1 - i) (cells live) (above_at i starts) (c.live - above_at i starts)) mid
      → Lists p (list_handle c i starts) args mid store'
      → Enters (get_or starts i 0) j e (continuation_at c.store) p (list_handle c i starts) args live live'
      → Captures c i j e p args starts live store live' store'
  captures_all {e} {args} {mid} {live'} {store'} u v w = record {
    frames = λ P m m' h l.
        let s : List Object = m.store ++ (continuation h.above ∷ []) in
        let f = w.live P h.handler h.below s (live_under h.above _ (live_all h l)) (begins_below h l) h.first (list_is h l) in
        subst (λ (fs : List Frame). Live fs (cells live')) (sym (ap (λ (x : M). x.frames) h.after))
        (subst (λ (k : ℕ). Live (enter P e (continuation_at k) (parse p.variadic p.count args s).args h.handler ∷ h.below) (cells live')) (used_is h l) f);
    objects = λ P m m' h l.
        let s : List Object = m.store ++ (continuation h.above ∷ []) in
        let k : c.frames - 1 - i ≡ length h.above = omega (arith, count_is h l) in
        let d = captured (cells live) c.store (above_at i starts) (c.live - above_at i starts) l.objects (used_is h l) (omega (arith, length_cells store, numbers.cells_store)) h.above (h.handler ∷ h.below) (live_all h l) (begins_above h l) (size_is h l) in
        let t : Stored s (cells mid) = rw (u.cells, k) d in
        subst (λ (x : List Object). Stored x (cells store')) (sym (ap (λ (x : M). x.store) h.after)) (v.stored s t (list_is h l));
    same_live = w.same;
    same_store = appends_same (captures_appends u v);
    appends = λ P m m' h l. subst (λ (k : ℕ). Appends c.store k store store') (used_after_lem h l) (captures_appends u v);
  }

-- ---- An error that is thrown
-- the one cell of sixteen bytes is the argument
one_cell : {s t : List ℕ} {v : Cell} → room s ≡ 1 → Writes s (set (cells s) 0 v) t → cells t ≡ v ∷ []
one_cell {s} {t} {v} e u = u.cells ∙ by (cells s) (length_cells s ∙ e)
  where
    by : (l : List Cell) → length l ≡ 1 → set l 0 v ≡ v ∷ []
    by [] q = absurd (omega arith)
    by (x ∷ []) q = refl
    by (x ∷ y ∷ l) q = absurd (omega arith)

pub catchable : {c : Counts} {i j n : ℕ} {x : Error} {live store starts : List ℕ} → n ≡ 1 → Catchable c i j x live store starts → Capturable c i j one_param n live store starts
catchable {n = n} e o = record {
  program = o.program;
  machine = o.machine;
  after = o.after;
  does = record { effect = thrown o.does.error; args = shown o.does.error ∷ []; count = sym e; handled = o.does.handled };
  lies = o.lies;
  fits_live = o.fits_live;
  fits_store = o.fits_store;
  table = o.table;
  small_live = o.small_live;
  small_store = o.small_store;
}

pub captures_error : {c : Counts} {i j : ℕ} {x : Error} {e v : Cell} {s t starts live store live' store' : List ℕ} → room s ≡ 1 → Shows x v → Writes s (set (cells s) 0 v) t → Throws x e
    → Captures c i j e one_param (cells t) starts live store live' store' → CapturesError c i j x starts live store live' store'
captures_error {i = i} {j} {e = e} {v} {s} {t} n a u b w =
    let turn : (P : Program) (m m' : M) → Caught P i j _ m m' → Handled P i j e one_param (cells t) m m' =
    λ P m m' k. rw (one_cell n u, a.is k.error k.is, b.is k.error k.is) k.handled in
    record {
      frames = λ P m m' k. w.frames P m m' (turn P m m' k);
      objects = λ P m m' k. w.objects P m m' (turn P m m' k);
      same_live = w.same_live;
      same_store = w.same_store;
      appends = λ P m m' k. w.appends P m m' (turn P m m' k);
    }
