-- A plan carried out: what each kind of plan needs, and what it leaves.
use Rattle.std.specs.Prelude.{◌≡◌, ℕ, ◌+◌, ◌-◌, ◌<◌, ◌≤◌, get_or, take, drop}
use Rattle.std.proofs.Math.Path.{refl, ap}
use Rattle.std.proofs.Common.{sym, subst, ◌∙◌, arith, length-append, take_all, take_at}
use mathlib.Core.List.{List, [], ◌∷◌, ◌++◌, append_assoc}
use Rattle.std.proofs.Math.ListN.{length}
use Rattle.std.proofs.Math.Seq.{paste}
use Rattle.cells.specs.Cells.{room, cells, Writes}
use Rattle.cells.specs.CellsLaws.{length_cells}
use Rattle.cells.specs.Moves.{paste_is}
use Rattle.cells.specs.declared.Cell.{Cell}
use Rattle.machine.specs.Values.{Program}
use Rattle.machine.specs.Machine.{Frame, Object, continuation, Result, running, returned, failed, unhandled, M, with_result, with_store, frames_cost, result_cost, used, receive}
use Rattle.machine.specs.Calls.{World}
use Rattle.machine.specs.Form.{ObjectFits}
use Rattle.machine.proofs.FormRules.{object_at_lem}
use Rattle.memory.specs.Layout.{flat, error_shown, result_shown}
use Rattle.memory.proofs.Lists.{length_flat}
use Rattle.moves.specs.Runs.{end_of, with_counts}
use Rattle.moves.specs.Frames.{Live, Gets, kept_in, receive_fits}
use Rattle.moves.specs.Objects.{Stored}
use Rattle.moves.specs.Starts.{lower}
use Rattle.states.specs.Worlds.{Resulted, Changes, with_outcome}
use Rattle.plan.specs.Rest.{Same, Appends, counts_of, Begins, Block, Rests}
use Rattle.plan.proofs.RestLaws.{same_refl}
use Rattle.plan.specs.Plans.{Handled, Failed, Received, Carries}
use Rattle.plan.specs.declared.Counts.{Counts}
use Rattle.plan.specs.declared.Error.{Error}
use Rattle.plan.specs.declared.Params.{Params}
use Rattle.plan.specs.declared.Plan.{Plan}
use Rattle.plan.specs.declared.Plan.TheVariants.{Starts, Resumes, Handles, Catches, Unhandled, Fails, Receives, Returns, Stays}
use Rattle.plan.specs.declared.Start.{Start}
use Rattle.captures.specs.Entered.{Lies, Capturable, Catchable, Captures, CapturesError}
use Rattle.actions.specs.Acted as acted
use Rattle.actions.specs.Acted.{Roomy, Carriable, CarriesOut, Startable, StartsFrame, Resumable}
use Rattle.actions.specs.Tables.{lower_onto, lower_all, begins_top}
use Rattle.actions.specs.Moved.{count_is, cost_is, flat_is, appends_unwritten}
use Rattle.results.specs.Results.{kind_number}
use Rattle.plan.proofs.ErrorLaws.{shown_is}

-- ---- At rest, and lying in memory
rests_lies : {m : M} {c : Counts} {B : List Cell} {live store starts : List ℕ} → Rests m c B (cells live) (cells store) starts → m.result ≡ running → Lies m c live store starts
rests_lies {m} r q = record {
  counts = r.counts;
  running = q;
  frames = record { free = (result_shown m.result).args ++ r.free; is = r.live };
  begins = r.begins;
  objects = r.store;
}

-- the block shows nothing of frames and objects
pub record Keeps (m m' : M) : Type 0 where
  pub globals : m'.globals ≡ m.globals
  pub builtins : m'.builtins ≡ m.builtins
  pub result : m'.result ≡ m.result

lies_rests : {m m' : M} {c : Counts} {B : List Cell} {live store starts : List ℕ} → Lies m' c live store starts → Keeps m m' → Block m B → Rests m' c B (cells live) (cells store) starts
unfolding result_shown
lies_rests {m} {m'} l k b = record {
  counts = l.counts;
  free = l.frames.free;
  live = l.frames.is ∙ ap (λ (r : Result). flat m'.frames ++ ((result_shown r).args ++ l.frames.free)) (sym l.running);
  begins = l.begins;
  store = l.objects;
  block = record { stale = b.stale; is = b.is; globals = b.globals ∙ sym k.globals; builtins = b.builtins ∙ sym k.builtins; result = b.result ∙ sym k.result };
}

-- where the top frame begins
last_start : {v : Cell} {m m' : M} {c : Counts} {live store starts : List ℕ} (r : Received v m m') → Lies m c live store starts → get_or starts (c.frames - 1) 0 ≡ length (flat r.below)
last_start {c = c} {starts = starts} r l =
    let n : ℕ = length r.below in
    let k : c.frames - 1 ≡ n = omega (arith, count_is l, ap length r.frames) in
    ap (λ (i : ℕ). get_or starts i 0) k ∙ l.begins n (omega (arith, ap length r.frames))
    ∙ ap (λ (fs : List Frame). length (flat (lower n fs))) r.frames ∙ ap (λ (fs : List Frame). length (flat fs)) (lower_onto (r.top ∷ []) r.below n (omega arith) ∙ lower_all r.below)

-- ---- What a plan needs
module _ {plan : Plan} {args : List Cell} {c : Counts} {state live store starts : List ℕ} (o : Carriable plan args c state live store starts) where
  lies : Lies o.machine c live store starts
  lies = rests_lies o.rests o.held.running

  carried : (x : Plan) → plan ≡ x → Carries o.program x args o.machine o.after
  carried x e = subst (λ (y : Plan). Carries o.program y args o.machine o.after) e o.carries

  pub starts_needs : {f : Start} {p : Params} {n : ℕ} → plan ≡ Starts f p → length args ≡ n → Startable c f p n live store starts
  starts_needs {f} {p} e q = record {
    machine = o.machine;
    after = o.after;
    does = record { args = args; count = q; started = carried (Starts f p) e };
    lies = lies;
    behind = o.behind;
  }

  -- a continuation of the store has frames
  pub resumes_needs : {h : ℕ} {v : Cell} → plan ≡ Resumes h v → Resumable c h v live store starts
  resumes_needs {h} {v} e =
      let r = carried (Resumes h v) e in
      let f : ObjectFits o.program ([] ++ o.machine.store) (continuation r.frames) = object_at_lem o.program [] o.machine.store h (continuation r.frames) o.held.objects r.there in
      record {
        machine = o.machine;
        after = o.after;
        does = record { resumed = r; some = omega (arith, f.0) };
        lies = lies;
        behind = o.behind;
      }

  pub handles_needs : {i j : ℕ} {x : Cell} {p : Params} {n : ℕ} → plan ≡ Handles i j x p → length args ≡ n → Capturable c i j p n live store starts
  handles_needs {i} {j} {x} {p} e q = record {
    program = o.program;
    machine = o.machine;
    after = o.after;
    does = record { effect = x; args = args; count = q; handled = carried (Handles i j x p) e };
    lies = lies;
    fits_live = o.behind.cells_live;
    fits_store = o.behind.cells_store;
    table = o.before.table;
    small_live = o.before.small.0;
    small_store = o.before.small.1;
  }

  pub catches_needs : {i j : ℕ} {x : Error} → plan ≡ Catches i j x → Catchable c i j x live store starts
  catches_needs {i} {j} {x} e = record {
    program = o.program;
    machine = o.machine;
    after = o.after;
    does = carried (Catches i j x) e;
    lies = lies;
    fits_live = o.behind.cells_live;
    fits_store = o.behind.cells_store;
    table = o.before.table;
    small_live = o.before.small.0;
    small_store = o.before.small.1;
  }

  -- the arguments of an effect go behind the frames
  pub unhandled_needs : {x : Cell} {n : ℕ} → plan ≡ Unhandled x → n ≡ length args → c.live + n ≤ room live
  unfolding result_cost
  unhandled_needs {x} e q =
      let k : (counts_of o.after).live ≡ frames_cost o.machine.frames + length args = ap (λ (m : M). (counts_of m).live) (carried (Unhandled x) e) in
      omega (arith, o.behind.cells_live, k, cost_is lies)

  module _ {v : Cell} (e : plan ≡ Receives v) where
    receives : Received v o.machine o.after
    receives = carried (Receives v) e

    -- the numbers of the code
    pub receives_numbers : (0 < c.frames) × (c.frames - 1 < length starts)
    receives_numbers = (omega (arith, count_is lies, ap length receives.frames), omega (arith, count_is lies, ap length receives.frames, o.before.table))

    -- where the top frame begins is a small number
    pub receives_small : get_or starts (c.frames - 1) 0 < 4294967296
    unfolding frames_cost
    receives_small =
        let r = receives in
        omega (arith, last_start r lies, length_flat r.below, ap (λ (fs : List Frame). frames_cost fs) r.frames, cost_is lies, o.before.cells_live, o.before.small.0)

    pub receives_needs : {base : ℕ} → base ≡ get_or starts (c.frames - 1) 0
        → (end_of (kept_in (cells live) base) ≤ room live) × (end_of (with_counts 0 (kept_in (cells live) base).stack (kept_in (cells live) base)) < room live)
    receives_needs {base} b =
        let r = receives in
        let k : frames_cost (receive v r.top ∷ r.below) ≤ room live = omega (arith, o.behind.cells_live, ap (λ (m : M). frames_cost m.frames) r.after) in
        let l : Live (r.top ∷ r.below) (cells live) = subst (λ (fs : List Frame). Live fs (cells live)) r.frames lies.frames in
        let f = receive_fits l base (b ∙ last_start r lies) v (rw length_cells k) in
        (omega (arith, f.0, length_cells live), omega (arith, f.1, length_cells live))

-- ---- What is left by plans that move frames
turned : (P : Program) {plan x : Plan} (args : List Cell) (m m' : M) → plan ≡ x → Carries P plan args m m' → Carries P x args m m'
turned P args m m' e d = subst (λ (y : Plan). Carries P y args m m') e d

keeps : (F : List Frame) (s : List Object) {m m' : M} → m' ≡ with_store F s m → Keeps m m'
keeps F s q = record { globals = ap (λ (x : M). x.globals) q; builtins = ap (λ (x : M). x.builtins) q; result = ap (λ (x : M). x.result) q }

-- where the frames below the handler begin does not change
captured_lies : {P : Program} {i j : ℕ} {e : Cell} {p : Params} {args : List Cell} {m m' : M} {c : Counts} {live store starts live' store' : List ℕ} → Handled P i j e p args m m' → Lies m c live store starts
    → Live m'.frames (cells live') → Stored m'.store (cells store') → Lies m' (counts_of m') live' store' starts × Keeps m m'
captured_lies {m' = m'} {starts = starts} h l a b =
    let A : List Frame = h.above ++ (h.handler ∷ []) in
    let g : Begins (A ++ h.below) starts = subst (λ (fs : List Frame). Begins fs starts) (h.frames ∙ sym (append_assoc h.above (h.handler ∷ []) h.below)) l.begins in (
      record {
        counts = refl;
        running = ap (λ (x : M). x.result) h.after ∙ l.running;
        frames = a;
        begins = subst (λ (fs : List Frame). Begins fs starts) (sym (ap (λ (x : M). x.frames) h.after)) (begins_top A _ h.below starts (omega (arith, length-append h.above (h.handler ∷ []))) g);
        objects = b;
      },
      keeps _ _ h.after,
    )

received_lies : {v : Cell} {m m' : M} {c : Counts} {live store starts live' : List ℕ} {base n : ℕ} (r : Received v m m') → Lies m c live store starts → base ≡ get_or starts (c.frames - 1) 0 → Gets (receive v) base live n live'
    → Lies m' (counts_of m') live' store starts × Keeps m m'
received_lies {v} {m} {m'} {live = live} {store} {starts} {live'} r l b g =
    let o : Live (r.top ∷ r.below) (cells live) = subst (λ (fs : List Frame). Live fs (cells live)) r.frames l.frames in
    let t : Begins (r.top ∷ r.below) starts = subst (λ (fs : List Frame). Begins fs starts) r.frames l.begins in (
      rw r.after (record {
        counts = refl;
        running = l.running;
        frames = g.live r.top r.below o (b ∙ last_start r l);
        begins = begins_top (r.top ∷ []) (receive v r.top) r.below starts (omega arith) t;
        objects = l.objects;
      }),
      keeps _ m.store r.after,
    )

module _ {plan : Plan} {args : List Cell} {c : Counts} (state : List ℕ) {live store starts live' store' starts' : List ℕ} where
  out_by : ((P : Program) (m m' : M) → Carries P plan args m m' → Lies m c live store starts → Roomy (counts_of m') live store starts → Lies m' (counts_of m') live' store' starts' × Keeps m m')
      → Same live live' → Same store store' → ((P : Program) (m m' : M) → Carries P plan args m m' → Lies m c live store starts → Roomy (counts_of m') live store starts → Appends c.store (used m'.store) store store')
      → length starts' ≡ length starts → CarriesOut plan args c state live store starts state live' store' starts'
  out_by f a b g t = record {
    rests = λ P m m' d q r o. let k = f P m m' d (rests_lies r q) o in lies_rests k.0 k.1 r.block;
    same_state = same_refl state;
    same_live = a;
    same_store = b;
    appends = λ P m m' d q r o. g P m m' d (rests_lies r q) o;
    table = t;
  }

  pub starts_leaves : {f : Start} {p : Params} → plan ≡ Starts f p → StartsFrame c f p args live store starts live' store' starts' → CarriesOut plan args c state live store starts state live' store' starts'
  starts_leaves e w = out_by (λ P m m' d l o. let r = turned P args m m' e d in (w.lies m m' r l o, keeps _ _ r.after)) w.same_live w.same_store (λ P m m' d l o. w.appends m m' (turned P args m m' e d) l o) w.table

module _ {plan : Plan} {args : List Cell} {c : Counts} (state : List ℕ) {live store starts live' starts' : List ℕ} where
  pub resumes_leaves : {h : ℕ} {v : Cell} → plan ≡ Resumes h v → acted.Resumes c h v live store starts live' starts' → CarriesOut plan args c state live store starts state live' store starts'
  resumes_leaves e w = out_by state (λ P m m' d l o. let r = turned P args m m' e d in (w.lies m m' r l o, keeps _ m.store r.after)) w.same_live (same_refl store) (λ P m m' d l o. w.appends m m' (turned P args m m' e d) l o) w.table

module _ {plan : Plan} {args : List Cell} {c : Counts} (state : List ℕ) {live store starts live' store' : List ℕ} where
  pub handles_leaves : {i j : ℕ} {x : Cell} {p : Params} → plan ≡ Handles i j x p → Captures c i j x p args starts live store live' store' → CarriesOut plan args c state live store starts state live' store' starts
  handles_leaves e w = out_by state (λ P m m' d l o. let h = turned P args m m' e d in captured_lies h l (w.frames P m m' h l) (w.objects P m m' h l)) w.same_live w.same_store (λ P m m' d l o. w.appends P m m' (turned P args m m' e d) l) refl

  pub catches_leaves : {i j : ℕ} {x : Error} → plan ≡ Catches i j x → CapturesError c i j x starts live store live' store' → CarriesOut plan args c state live store starts state live' store' starts
  catches_leaves e w = out_by state (λ P m m' d l o. let h = turned P args m m' e d in captured_lies h.handled l (w.frames P m m' h l) (w.objects P m m' h l)) w.same_live w.same_store (λ P m m' d l o. w.appends P m m' (turned P args m m' e d) l) refl

module _ {plan : Plan} {args : List Cell} {c : Counts} (state : List ℕ) {live : List ℕ} (store : List ℕ) {starts live' : List ℕ} where
  pub receives_leaves : {v : Cell} {base n : ℕ} → plan ≡ Receives v → base ≡ get_or starts (c.frames - 1) 0 → Gets (receive v) base live n live' → CarriesOut plan args c state live store starts state live' store starts
  receives_leaves {v} e b g = out_by state (λ P m m' d l o. received_lies (turned P args m m' e d) l b g) (record { rest = g.rest; len = g.len }) (same_refl store)
      (λ P m m' d l o. let r : Received v m m' = turned P args m m' e d in appends_unwritten l (ap (λ (x : M). x.store) r.after)) refl

pub stays_leaves : {plan : Plan} (args : List Cell) (c : Counts) (state live store starts : List ℕ) → plan ≡ Stays → CarriesOut plan args c state live store starts state live store starts
stays_leaves args c state live store starts e = record {
  rests = λ P m m' d q r o.
      let y : m' ≡ m = turned P args m m' e d in
      rw y (subst (λ (k : Counts). Rests m k (cells state) (cells live) (cells store) starts) r.counts r);
  same_state = same_refl state;
  same_live = same_refl live;
  same_store = same_refl store;
  appends = λ P m m' d q r o. let y : m' ≡ m = turned P args m m' e d in appends_unwritten (rests_lies r q) (ap (λ (x : M). x.store) y);
  table = refl;
}

-- ---- What is left by plans that set a result
rests_result : {m : M} {c : Counts} {state state' starts : List ℕ} {L L' S : List Cell} (r : Result) {k u n : ℕ} {v : Cell} → Rests m c (cells state) L S starts → Changes (Resulted k v u n) state state'
    → k ≡ (result_shown r).kind → v ≡ (result_shown r).value → u ≡ (result_shown r).second → n ≡ length (result_shown r).args → (free : List Cell) → L' ≡ flat m.frames ++ ((result_shown r).args ++ free)
    → Rests (with_result r m) (counts_of (with_result r m)) (cells state') L' S starts
rests_result r o w a b d e free i =
    let x = o.block in
    record {
      counts = refl;
      free = free;
      live = i;
      begins = o.begins;
      store = o.store;
      block = record {
        stale = with_outcome r x.stale;
        is = w.state x.stale (with_outcome r x.stale) (record { kind = a; value = b; second = d; args = e; world = refl }) x.is;
        globals = x.globals;
        builtins = x.builtins;
        result = refl;
      };
    }

-- a running machine has no arguments behind its frames
behind_none : {m : M} {c : Counts} {B L S : List Cell} {starts : List ℕ} (o : Rests m c B L S starts) → m.result ≡ running → L ≡ flat m.frames ++ o.free
unfolding result_shown
behind_none {m} o q = o.live ∙ ap (λ (r : Result). flat m.frames ++ ((result_shown r).args ++ o.free)) q

changes_same : {to : World → World → Type 0} {old new : List ℕ} → Changes to old new → Same old new
changes_same w = record { rest = w.rest; len = w.len }

module _ {plan : Plan} (args : List Cell) (c : Counts) {state state' : List ℕ} (live store starts : List ℕ) where
  pub returns_leaves : {v : Cell} → plan ≡ Returns v → Changes (Resulted 1 v 0 0) state state' → CarriesOut plan args c state live store starts state' live store starts
  unfolding result_shown
  returns_leaves {v} e w = record {
    rests = λ P m m' d q r o.
        let y : m' ≡ with_result (returned v) m = turned P args m m' e d in
        rw y (rests_result (returned v) r w refl refl refl refl r.free (behind_none r q));
    same_state = changes_same w;
    same_live = same_refl live;
    same_store = same_refl store;
    appends = λ P m m' d q r o. let y : m' ≡ with_result (returned v) m = turned P args m m' e d in appends_unwritten (rests_lies r q) (ap (λ (x : M). x.store) y);
    table = refl;
  }

  pub fails_leaves : {x : Error} → plan ≡ Fails x → Changes (Resulted (kind_number x.kind) x.value x.second 0) state state' → CarriesOut plan args c state live store starts state' live store starts
  unfolding result_shown
  fails_leaves {x} e w = record {
    rests = λ P m m' d q r o.
        let f : Failed x m m' = turned P args m m' e d in
        let z : (error_shown f.error).args ≡ [] = (shown_is f.error).2 in
        rw f.after (rests_result (failed f.error) r w (ap (λ (y : Error). kind_number y.kind) f.is ∙ (shown_is f.error).0) (ap (λ (y : Error). y.value) f.is) (ap (λ (y : Error). y.second) f.is) (sym (ap length z)) r.free
        (behind_none r q ∙ ap (λ (a : List Cell). flat m.frames ++ (a ++ r.free)) (sym z)));
    same_state = changes_same w;
    same_live = same_refl live;
    same_store = same_refl store;
    appends = λ P m m' d q r o. let f : Failed x m m' = turned P args m m' e d in appends_unwritten (rests_lies r q) (ap (λ (y : M). y.store) f.after);
    table = refl;
  }

-- the arguments stand behind the frames
pub unhandled_leaves : {plan : Plan} (args : List ℕ) {c : Counts} {state state' live live' : List ℕ} (store starts : List ℕ) {x : Cell} {n : ℕ} → plan ≡ Unhandled x → n ≡ room args
    → Writes live (paste (cells live) c.live (drop 0 (cells args)) n) live' → Changes (Resulted 2 x 0 n) state state' → CarriesOut plan (cells args) c state live store starts state' live' store starts
unfolding result_shown
unhandled_leaves args {c} {state} {state'} {live} {live'} store starts {x} {n} e k u w = record {
  rests = λ P m m' d q r o.
      let y : m' ≡ with_result (unhandled x (cells args)) m = turned P (cells args) m m' e d in
      let l : Lies m c live store starts = rests_lies r q in
      let a : take c.live (cells live) ≡ flat m.frames = ap (take c.live) (behind_none r q) ∙ take_at (flat m.frames) r.free c.live (sym (flat_is l)) in
      let b : take n (cells args) ≡ cells args = take_all n (cells args) (omega (arith, length_cells args)) in
      let Z : List Cell = drop (c.live + n) (cells live) in
      rw y (rests_result (unhandled x (cells args)) r w refl refl refl (k ∙ sym (length_cells args)) Z
      (u.cells ∙ paste_is (cells live) c.live (drop 0 (cells args)) n ∙ (λ j. a j ++ (b j ++ Z))));
  same_state = changes_same w;
  same_live = record { rest = u.rest; len = u.len };
  same_store = same_refl store;
  appends = λ P m m' d q r o. let y : m' ≡ with_result (unhandled x (cells args)) m = turned P (cells args) m m' e d in appends_unwritten (rests_lies r q) (ap (λ (z : M). z.store) y);
  table = refl;
}
