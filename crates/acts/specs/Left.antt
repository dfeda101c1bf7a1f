-- What memory holds of a machine whose top frame is changed or gone, and once it is written.
use Rattle.std.specs.Prelude.{◌≡◌, List, [], ◌∷◌, ℕ, suc, ◌+◌, ◌-◌, ◌<◌, ◌≤◌, length, drop}
use Rattle.std.proofs.Common.{sym, ap, subst, ◌∙◌, arith, length-append}
use Rattle.cells.specs.Cells.{room, cells}
use Rattle.cells.specs.CellsLaws.{length_cells}
use Rattle.cells.specs.declared.Cell.{Cell}
use Rattle.machine.specs.Values.{Program}
use Rattle.machine.specs.Machine.{Frame, Result, running, M, with_frames, frames_cost, used, result_cost}
use Rattle.machine.specs.Form.{StoreFits}
use Rattle.memory.specs.Layout.{Written, written, flat, result_shown}
use Rattle.memory.proofs.Lists.{cost_written, length_flat}
use Rattle.moves.specs.Runs.{Top, loose, end_of, top_length}
use Rattle.moves.specs.Frames.{Live, live_below}
use Rattle.moves.specs.Objects.{Stored}
use Rattle.moves.specs.Starts.{lower}
use Rattle.moves.specs.declared.Running.{Running}
use Rattle.plan.specs.Rest.{counts_of, Begins, Held, Block, Rests}
use Rattle.plan.specs.declared.Counts.{Counts}
use Rattle.actions.specs.Tables.{begins_below}

-- ---- Where frames begin: the top frame does not count
pub lower_under : (f : Frame) (below : List Frame) (i : ℕ) → i < length (f ∷ below) → lower i (f ∷ below) ≡ lower i below
lower_under f below i lt = let e : length (f ∷ below) - i ≡ suc (length below - i) = omega arith in ap (λ (k : ℕ). drop k (f ∷ below)) e

pub begins_other : (f : Frame) (below : List Frame) (h : Frame) (starts : List ℕ) → Begins (f ∷ below) starts → Begins (h ∷ below) starts
begins_other f below h starts b = λ i lt. b i lt ∙ ap (λ (F : List Frame). length (flat F)) (lower_under f below i lt ∙ sym (lower_under h below i lt))

-- ---- A frame in registers
pub top_live : {w : Written} {below : List Frame} {g : Running} {L : List Cell} → Top w (flat below) g L → Live below L
top_live {w} o = record { free = loose w o.x o.y o.z o.free; is = o.is }

pub top_cost : {g : Running} {L : List Cell} (f : Frame) (below : List Frame) → Top (written f) (flat below) g L → frames_cost (f ∷ below) ≡ end_of g
unfolding frames_cost
top_cost f below t = omega (arith, cost_written f, length_flat below, t.base, t.counts.locals, t.counts.handlers, t.counts.stack)

pub top_room : {w : Written} {pre : List Cell} {g : Running} (live : List ℕ) → Top w pre g (cells live) → (end_of g ≤ room live) × (g.base + 6 ≤ room live)
top_room live t = (omega (arith, top_length t, length_cells live), omega (arith, top_length t, length_cells live))

no_result : {r : Result} → r ≡ running → result_cost r ≡ 0
unfolding result_cost
no_result e = ap (λ (x : Result). result_cost x) e

-- ---- A machine m whose frames are f and those below: it is held with another top frame h, and with none
module _ (P : Program) (m : M) (f : Frame) (below : List Frame) {S : List Cell} (starts : List ℕ) (q : m.frames ≡ f ∷ below) (run : m.result ≡ running) (b : Begins m.frames starts) (st : Stored m.store S) (ob : StoreFits P [] m.store) where
  begin : Begins (f ∷ below) starts
  begin = subst (λ (F : List Frame). Begins F starts) q b

  pub held_over : {h : Frame} {g : Running} {L : List Cell} {n e u : ℕ} → Top (written h) (flat below) g L → n ≡ length m.frames → e ≡ end_of g → u ≡ used m.store
      → Held P (with_frames (h ∷ below) m) (record { frames = n; live = e; store = u }) L S starts
  held_over {h} {g} {L} {n} {e} t k l s =
      let a : n ≡ length (h ∷ below) = k ∙ ap length q in
      let c : e ≡ frames_cost (h ∷ below) + result_cost m.result = omega (arith, l, top_cost h below t, no_result run) in
      record {
        running = run;
        counts = λ j. record { frames = a j; live = c j; store = s j };
        under = record { below = top_live t; begins = begins_other f below h starts begin };
        store = st;
        objects = ob;
      }

  pub held_under : {w : Written} {g : Running} {L : List Cell} {n e u : ℕ} → Top w (flat below) g L → n ≡ length m.frames - 1 → e ≡ g.base → u ≡ used m.store
      → Held P (with_frames below m) (record { frames = n; live = e; store = u }) L S starts
  held_under {w} {g} {L} {n} {e} t k l s =
      let a : n ≡ length below = omega (arith, k, ap length q) in
      let c : e ≡ frames_cost below + result_cost m.result = omega (arith, l, t.base, length_flat below, no_result run) in
      record {
        running = run;
        counts = λ j. record { frames = a j; live = c j; store = s j };
        under = record { below = live_below below (top_live t); begins = begins_below f below starts begin };
        store = st;
        objects = ob;
      }

-- ---- Written frames
-- all frames are written: the machine rests
pub live_rests : {m : M} {c : Counts} {B L S : List Cell} (starts : List ℕ) → m.result ≡ running → Live m.frames L → c ≡ counts_of m → Begins m.frames starts → Stored m.store S → Block m B → Rests m c B L S starts
unfolding result_shown
live_rests {m} starts run l k b s x = record { counts = k; free = l.free; live = rw run l.is; begins = b; store = s; block = x }

module _ {P : Program} {m : M} {c : Counts} {L L' S : List Cell} {starts : List ℕ} (h : Held P m c L S starts) (l : Live m.frames L') where
  pub held_rests : {B : List Cell} → Block m B → Rests m c B L' S starts
  held_rests x = live_rests starts h.running l h.counts h.under.begins h.store x

  pub held_again : Held P m c L' S starts
  held_again = record { running = h.running; counts = h.counts; under = record { below = live_below m.frames l; begins = h.under.begins }; store = h.store; objects = h.objects }

  pub held_room : c.live ≤ length L'
  held_room =
      omega (arith, ap (λ (k : Counts). k.live) h.counts, no_result h.running, length_flat m.frames, ap length l.is ∙ length-append (flat m.frames) l.free)

-- other frames show nothing else in the state block
pub block_left : {m m_f : M} {B : List Cell} (F : List Frame) → m_f ≡ with_frames F m → Block m B → Block m_f B
block_left {m} {m_f} {B} F e b = subst (λ (x : M). Block x B) (sym e) (record { stale = b.stale; is = b.is; globals = b.globals; builtins = b.builtins; result = b.result })
