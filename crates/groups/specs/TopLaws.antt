-- The top frame of a machine at rest: where it begins, its kind, and a Lucia frame in registers.
use Rattle.std.specs.Prelude.{◌≡◌, Bool, true, false, not, eqb, ℕ, ◌+◌, ◌-◌, ◌<◌, ◌≤◌, length, drop}
use Rattle.std.proofs.Math.Path.{refl, ap}
use Rattle.std.proofs.Common.{sym, ◌∙◌, arith, length-append, get_or-append-add}
use mathlib.Core.List.{List, [], ◌∷◌, ◌++◌, append_assoc}
use Rattle.std.proofs.Math.ListN.{get_or}
use Rattle.std.proofs.Math.Seq.{get_or_at}
use borrow.Author.Tests.{eqb-true, eqb-false, not-true, not-false}
use Rattle.cells.specs.Cells.{null}
use Rattle.cells.specs.declared.Cell.{Cell}
use Rattle.machine.specs.Values.{Program, code_of}
use Rattle.machine.specs.Machine.{Frame, lucia, host, effect_callback, Result, running, returned, failed, unhandled, M, used}
use Rattle.machine.specs.Calls.{Sizes, World, is_done, is_host, is_ready, turn_of}
use Rattle.memory.specs.Layout.{written, frame_cells, flat, object_cells, result_shown, state_cells}
use Rattle.moves.specs.Runs.{opened}
use Rattle.moves.specs.Frames.{Live, live_runs}
use Rattle.moves.specs.Objects.{object_there}
use Rattle.moves.specs.declared.Running as registers
use Rattle.plan.specs.declared.Counts.{Counts}
use Rattle.plan.proofs.ErrorLaws.{shown_is}
use Rattle.slices.specs.Sliced.{At}
use Rattle.acts.specs.Acted.{Resting}
use Rattle.closing.specs.Closed.{Callback}
use Rattle.groups.specs.Grouped.{LuciaTop}

module _ {P : Program} {z : Sizes} {m : M} {c : Counts} {B L S : List Cell} {starts : List ℕ} (r : Resting P z m c B L S starts) where
  pub rests_live : Live m.frames L
  rests_live = record { free = (result_shown m.result).args ++ r.rests.free; is = r.rests.live }

  pub count_is : c.frames ≡ length m.frames
  count_is = ap (λ (k : Counts). k.frames) r.rests.counts

  pub used_is : c.store ≡ used m.store
  used_is = ap (λ (k : Counts). k.store) r.rests.counts

  module _ {top : Frame} {below : List Frame} (f : m.frames ≡ top ∷ below) where
    -- where it begins
    pub top_begins : get_or starts (c.frames - 1) 0 ≡ length (flat below)
    top_begins =
        let n : c.frames - 1 < length m.frames = omega (arith, count_is, ap length f) in
        let k : length m.frames - (c.frames - 1) ≡ 1 = omega (arith, count_is, ap length f) in
        r.rests.begins (c.frames - 1) n ∙ ap (λ (i : ℕ). length (flat (drop i m.frames))) k ∙ ap (λ (F : List Frame). length (flat (drop 1 F))) f

    top_cells : L ≡ flat below ++ (frame_cells top ++ ((result_shown m.result).args ++ r.rests.free))
    unfolding flat
    top_cells = r.rests.live ∙ ap (λ (F : List Frame). flat F ++ ((result_shown m.result).args ++ r.rests.free)) f ∙ append_assoc (flat below) (frame_cells top) _

    pub top_kind_lem : {base : ℕ} → base ≡ get_or starts (c.frames - 1) 0 → (get_or L base null).tag ≡ (written top).kind
    top_kind_lem {base} e = ap (λ (x : Cell). x.tag) (ap (λ (l : List Cell). get_or l base null) top_cells ∙ get_or_at (flat below) _ _ null base (sym (e ∙ top_begins)))

    pub top_subject : {base : ℕ} → base ≡ get_or starts (c.frames - 1) 0 → get_or L (base + 1) null ≡ (written top).subject
    top_subject {base} e =
        let k : base + 1 ≡ length (flat below) + 1 = omega (arith, e ∙ top_begins) in
        ap (λ (l : List Cell). get_or l (base + 1) null) top_cells ∙ ap (λ (n : ℕ). get_or (flat below ++ (frame_cells top ++ ((result_shown m.result).args ++ r.rests.free))) n null) k ∙ get_or-append-add (flat below) _ 1 null

    pub top_fits : {base : ℕ} → base ≡ get_or starts (c.frames - 1) 0 → base + 6 ≤ length L
    top_fits e = omega (arith, e ∙ top_begins, ap length top_cells ∙ length-append (flat below) _, length-append (frame_cells top) ((result_shown m.result).args ++ r.rests.free))

-- ---- What is next, by the kind of the result and of the top frame
result_none : (r : Result) → (result_shown r).kind ≡ 0 → r ≡ running
unfolding result_shown
result_none running e = refl
result_none (returned v) e = absurd (omega (arith, e))
result_none (failed x) e = absurd (omega (arith, e, (shown_is x).1))
result_none (unhandled e args) q = absurd (omega (arith, q))

result_some : (r : Result) (F : List Frame) → ((result_shown r).kind ≡ 0 → ⊥) → turn_of r F ≡ is_done
unfolding result_shown turn_of
result_some running F h = absurd (h refl)
result_some (returned v) F h = refl
result_some (failed x) F h = refl
result_some (unhandled e args) F h = refl

none_done : (r : Result) → turn_of r [] ≡ is_done
unfolding turn_of
none_done running = refl
none_done (returned v) = refl
none_done (failed x) = refl
none_done (unhandled e args) = refl

-- whether the state block shows a result
abbrev pub HasResult : List Cell → Bool → Type 0
HasResult B k = (w : World) → B ≡ state_cells w → k ≡ not (eqb (result_shown w.machine.result).kind 0)

module _ {P : Program} {z : Sizes} {m : M} {c : Counts} {B L S : List Cell} {starts : List ℕ} (r : Resting P z m c B L S starts) where
  has_is : {k : Bool} → HasResult B k → k ≡ not (eqb (result_shown m.result).kind 0)
  has_is h = let b = r.rests.block in h b.stale b.is ∙ ap (λ (x : Result). not (eqb (result_shown x).kind 0)) b.result

  pub empty_done : c.frames ≡ 0 → turn_of m.result m.frames ≡ is_done
  empty_done e = by m.frames (sym (count_is r) ∙ e)
    where
      by : (F : List Frame) → length F ≡ 0 → turn_of m.result F ≡ is_done
      by [] q = none_done m.result
      by (f ∷ F) q = absurd (omega (arith, q))

  pub result_done : {k : Bool} → HasResult B k → k ≡ true → turn_of m.result m.frames ≡ is_done
  result_done h t = result_some m.result m.frames (eqb-false _ 0 (not-true _ (sym (has_is h) ∙ t)))

  -- there is a frame, and no result
  pub record Next (base : ℕ) : Type 0 where
    pub top : Frame
    pub below : List Frame
    pub frames : m.frames ≡ top ∷ below
    pub runs : m.result ≡ running
    pub kind : (get_or L base null).tag ≡ (written top).kind

  pub next_top : {k : Bool} {base : ℕ} → (c.frames ≡ 0 → ⊥) → HasResult B k → k ≡ false → base ≡ get_or starts (c.frames - 1) 0 → Next base
  next_top {base = base} n h e b = by m.frames refl
    where
      by : (F : List Frame) → m.frames ≡ F → Next base
      by [] q = absurd (n (count_is r ∙ ap length q))
      by (top ∷ below) q = record { top = top; below = below; frames = q; runs = result_none m.result (eqb-true _ 0 (not-false _ (sym (has_is h) ∙ e))); kind = top_kind_lem r q b }

  module _ {base : ℕ} (x : Next base) where
    pub host_waits : (get_or L base null).tag ≡ 65 → turn_of m.result m.frames ≡ is_host
    unfolding written turn_of
    host_waits e = by x.top x.frames (sym x.kind ∙ e)
      where
        by : (top : Frame) → m.frames ≡ top ∷ x.below → (written top).kind ≡ 65 → turn_of m.result m.frames ≡ is_host
        by (lucia h p l st hs) q k = absurd (omega (arith, k))
        by (host n w st hs) q k = rw (q, x.runs) refl
        by (effect_callback y st hs) q k = absurd (omega (arith, k))

    pub other_ready : ((get_or L base null).tag ≡ 65 → ⊥) → turn_of m.result m.frames ≡ is_ready
    unfolding written turn_of
    other_ready n = by x.top x.frames (λ k. n (x.kind ∙ k))
      where
        by : (top : Frame) → m.frames ≡ top ∷ x.below → ((written top).kind ≡ 65 → ⊥) → turn_of m.result m.frames ≡ is_ready
        by (lucia h p l st hs) q k = rw (q, x.runs) refl
        by (host n w st hs) q k = absurd (k refl)
        by (effect_callback y st hs) q k = rw (q, x.runs) refl

    pub callback_next : (get_or L base null).tag ≡ 66 → Callback m
    unfolding written
    callback_next e = by x.top x.frames (sym x.kind ∙ e)
      where
        by : (top : Frame) → m.frames ≡ top ∷ x.below → (written top).kind ≡ 66 → Callback m
        by (lucia h p l st hs) q k = absurd (omega (arith, k))
        by (host n w st hs) q k = absurd (omega (arith, k))
        by (effect_callback y st hs) q k = record { effect = y; stack = st; handlers = hs; below = x.below; frames = q; running = x.runs }

    pub lucia_next : ((get_or L base null).tag ≡ 65 → ⊥) → ((get_or L base null).tag ≡ 66 → ⊥) → LuciaTop m
    unfolding written
    lucia_next a b = by x.top x.frames (λ k. a (x.kind ∙ k)) (λ k. b (x.kind ∙ k))
      where
        by : (top : Frame) → m.frames ≡ top ∷ x.below → ((written top).kind ≡ 65 → ⊥) → ((written top).kind ≡ 66 → ⊥) → LuciaTop m
        by (lucia h p l st hs) q i j = record { top = lucia h p l st hs; below = x.below; frames = q; kind = refl; runs = x.runs }
        by (host n w st hs) q i j = absurd (i refl)
        by (effect_callback y st hs) q i j = absurd (j refl)

  -- ---- A Lucia frame on top is opened
  pub at_open : {base handle code : ℕ} {g : registers.Running} → LuciaTop m → base ≡ get_or starts (c.frames - 1) 0 → g ≡ opened L base → handle ≡ (get_or L (base + 1) null).number → code ≡ (get_or S handle null).number
      → At P z m g handle code c.store B L S
  unfolding written object_cells
  at_open {base} {handle} {code} {g} t b e h k = by t.top t.frames t.kind
    where
      by : (top : Frame) → m.frames ≡ top ∷ t.below → (written top).kind ≡ 64 → At P z m g handle code c.store B L S
      by (lucia i p l st hs) q y =
          let n : handle ≡ i = h ∙ ap (λ (v : Cell). v.number) (top_subject r q b) in
          let f = rw q at r.fits.frames in
          let s = f.0.formed.stands in
          let o = object_there r.rests.store s.closure_there in
          let d : code ≡ s.code = k ∙ ap (λ (j : ℕ). (get_or S j null).number) n ∙ ap (λ (v : Cell). v.number) (ap (λ (x : List Cell). get_or x i null) o.is ∙ get_or_at o.pre _ _ null i o.at) in
          record {
            frame = record { handle = i; number = s.code; code = code_of P s.code; upvalues = s.upvalues; place = p; locals = l; stack = st; handlers = hs; below = t.below };
            inside = record {
              place = p;
              frames = q;
              running = t.runs;
              closure_there = s.closure_there;
              known = s.known;
              code = refl;
              runs = rw e (live_runs base (rw q at (rests_live r)) (b ∙ top_begins r q));
              store = r.rests.store;
              fits = r.fits;
              room = r.room;
              room_store = r.room_store;
            };
            at = refl;
            closure = n;
            number = d;
            uses = used_is r;
            block = r.rests.block;
          }
      by (host n w st hs) q y = absurd (omega (arith, y))
      by (effect_callback v st hs) q y = absurd (omega (arith, y))
