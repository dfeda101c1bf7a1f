-- What follows a slice: its frame is written, and the run goes on or ends.
use Rattle.std.specs.Prelude.{◌≡◌, refl, List, ◌∷◌, ◌++◌, ℕ, ◌+◌, ◌-◌, ◌/◌, ◌<◌, ◌≤◌, length, drop}
use Rattle.std.proofs.Common.{sym, ◌∙◌, arith, length-drop, drop-drop}
use Rattle.std.proofs.Math.Path.{ap}
use Rattle.cells.specs.Cells.{cells}
use Rattle.cells.specs.CellsLaws.{length_cells}
use Rattle.cells.specs.declared.Cell.{Cell}
use Rattle.fuel.specs.declared.Fuel.{Fuel}
use Rattle.image.specs.Fine.{Accepted}
use Rattle.machine.specs.Values.{Program}
use Rattle.machine.specs.Machine.{Frame, lucia, Result, M, frames_cost, result_cost}
use Rattle.machine.specs.Opcodes.{next_action}
use Rattle.machine.specs.Calls.{Sizes, stops, outcome}
use Rattle.memory.specs.Layout.{flat, result_shown}
use Rattle.moves.specs.Runs.{Settles, end_of}
use Rattle.moves.specs.Frames.{Live, runs_live}
use Rattle.moves.specs.declared.Running as registers
use Rattle.plan.specs.Rest.{Same, counts_of, Begins, Rests}
use Rattle.plan.proofs.InsideLaws.{runs_cost}
use Rattle.plan.specs.declared.Counts.{Counts}
use Rattle.slices.specs.Sliced.{At, Reached, Spends}
use Rattle.slices.specs.SlicedLaws.{at_ready}
use Rattle.slices.specs.declared.Slice.{Slice}
use Rattle.acts.specs.Acted.{Busy, Resting}
use Rattle.groups.specs.declared.Stand.TheVariants as stand
use Rattle.refusals.specs.declared.Refusal.{Refusal}
use Rattle.refusals.specs.Refusals.{number}
use Rattle.groups.specs.Grouped.{stood, charged_group, Around, Grouped}
use Rattle.groups.specs.GroupedLaws.{pause_ends, grouped_end, grouped_charge, grouped_stop}

-- ---- The frames under the running one keep their starts
pub begins_under : (F G : List Frame) (starts : List ℕ) → 0 < length F → length F ≡ length G → drop 1 F ≡ drop 1 G → Begins F starts → Begins G starts
begins_under F G starts some n e b i lt =
    let a : length F - i ≡ 1 + (length F - i - 1) = omega (arith, n) in
    let c : 1 + (length F - i - 1) ≡ length G - i = omega (arith, n) in
    b i (omega (arith, n)) ∙ ap (λ (l : List Frame). length (flat l)) (ap (λ (k : ℕ). drop k F) a ∙ sym (drop-drop (length F - i - 1) 1 F) ∙ ap (drop (length F - i - 1)) e ∙ drop-drop (length F - i - 1) 1 G ∙ ap (λ (k : ℕ). drop k G) c)

-- what the registers count
abbrev pub counts_at : ℕ → registers.Running → ℕ → Counts
counts_at frames g u = record { frames = frames; live = end_of g; store = u }

module _ {P : Program} {z : Sizes} {m : M} {g : registers.Running} {handle code u : ℕ} {B L S : List Cell} (x : At P z m g handle code u B L S) where
  no_result : result_cost m.result ≡ 0
  unfolding result_cost
  no_result = ap (λ (k : Result). result_cost k) x.inside.running

  live_is_lem : frames_cost m.frames ≡ end_of g
  live_is_lem = ap (λ (F : List Frame). frames_cost F) x.inside.frames ∙ rw x.at (runs_cost x.frame.below x.inside.runs)

  pub counts_at_lem : {frames : ℕ} → frames ≡ length m.frames → counts_at frames g u ≡ counts_of m
  counts_at_lem count =
      let a : end_of g ≡ frames_cost m.frames + result_cost m.result = omega (arith, live_is_lem, no_result) in
      λ j. record { frames = count j; live = a j; store = x.uses j }

  -- its frame is written: the machine is at rest
  pub settled_rests : {live live' : List ℕ} {frames : ℕ} (starts : List ℕ) → frames ≡ length m.frames → Begins m.frames starts → L ≡ cells live → Settles g live live' → Rests m (counts_at frames g u) B (cells live') S starts
  unfolding result_shown
  settled_rests {live} {live'} starts count begins e s =
      let r = x.frame in
      let o : Live (lucia r.handle r.place r.locals r.stack r.handlers ∷ r.below) (cells live') = runs_live r.handle r.place r.locals r.stack r.handlers (s.stands _ _ (rw e at x.inside.runs)) in
      let o' : Live m.frames (cells live') = rw (x.inside.frames, x.at) o in
      record {
        counts = counts_at_lem count;
        free = o'.free;
        live = o'.is ∙ ap (λ (k : Result). flat m.frames ++ ((result_shown k).args ++ o'.free)) (sym x.inside.running);
        begins = begins;
        store = x.inside.store;
        block = x.block;
      }

  unfoldable pub busy_at : {frames : ℕ} (starts : List ℕ) → frames ≡ length m.frames → Begins m.frames starts → Accepted P.image P.codes → z.live ≤ 4096 → z.store < 4294967296 → length starts ≡ 256 → Busy P z m g u frames B L S starts
  busy_at starts count begins a small low table = record {
    frame = x.frame;
    inside = x.inside;
    at = x.at;
    uses = x.uses;
    block = x.block;
    begins = begins;
    count = count;
    accepted = a;
    small = small;
    low = low;
    table = table;
  }

-- ---- By the end of the slice
pub room_same : {live live' : List ℕ} {n : ℕ} → Same live live' → length (cells live) ≡ n → length (cells live') ≡ n
room_same {live} {live'} same e = length_cells live' ∙ ap (λ (n : ℕ). n / 16) same.len ∙ sym (length_cells live) ∙ e

module _ {P : Program} {z : Sizes} {m : M} {frames : ℕ} {L S : List Cell} {starts : List ℕ} (around : Around P z frames L S starts m) where
  -- the running frame stands over as many frames as before
  pub frames_same : {x : M} {g : registers.Running} {handle code u : ℕ} {B : List Cell} → At P z x g handle code u B L S → drop 1 x.frames ≡ drop 1 m.frames → frames ≡ length x.frames
  frames_same {x} a e =
      omega (arith, around.count, around.some, ap length a.inside.frames, length-drop 1 x.frames, ap length e, length-drop 1 m.frames)

  pub begins_same : {x : M} {g : registers.Running} {handle code u : ℕ} {B : List Cell} → At P z x g handle code u B L S → drop 1 x.frames ≡ drop 1 m.frames → Begins x.frames starts
  begins_same {x} a e = begins_under m.frames x.frames starts (omega (arith, around.count, around.some)) (sym around.count ∙ frames_same a e) (sym e) around.begins

  -- once the frame is written, the machine is at rest
  at_resting : {x : M} {g : registers.Running} {handle code u : ℕ} {B : List Cell} → At P z x g handle code u B L S → drop 1 x.frames ≡ drop 1 m.frames → {live live' : List ℕ} → L ≡ cells live → Same live live' → Settles g live live'
      → Resting P z x (counts_at frames g u) B (cells live') S starts
  at_resting a e q same k = record {
    rests = settled_rests a _ (frames_same a e) (begins_same a e) q k;
    fits = a.inside.fits;
    room = room_same same (ap length (sym q) ∙ a.inside.room);
    room_store = a.inside.room_store;
    accepted = around.accepted;
    small = around.small;
    low = around.low;
    table = around.table;
  }

module _ {P : Program} {z : Sizes} {t left : ℕ} {m : M} {handle code frames : ℕ} {B S : List Cell} {live live' : List ℕ} {starts : List ℕ} (fuel : Fuel) (s : Slice) (around : Around P z frames (cells live) S starts m) (low : s.left ≤ 64)
    (same : Same live live') where
  pub finish_paused : Reached P z t left m handle code s B (cells live) S → s.ticks ≡ 0 → Settles s.g live live' → Grouped P z t fuel left m (stood stand.Paused fuel s.ticks s.left (counts_at frames s.g s.used)) B (cells live') S starts
  finish_paused x e k =
      grouped_end stand.Paused x.machine (λ h. omega (arith, h)) (at_resting around x.at x.under refl same k) x.less low
      (rw (← pause_ends P z fuel s.left x.machine s.ticks e (at_ready x.at)) (x.follows fuel))

  pub finish_spent : Spends P z t left m handle code s B (cells live) S → Settles s.g live live' → Grouped P z t fuel left m (charged_group fuel 0 s.ticks (counts_at frames s.g s.used)) B (cells live') S starts
  finish_spent x k = grouped_charge fuel 0 s.ticks x.machine (at_resting around x.at x.under refl same k) x.less (x.follows fuel)

  pub finish_refused : {o : Refusal} (x : Reached P z t left m handle code s B (cells live) S) → 0 < s.ticks → outcome P z (next_action P x.machine x.machine.frames) x.machine ≡ stops (number o) → Settles s.g live live'
      → Grouped P z t fuel left m (stood (stand.Refused o) fuel s.ticks s.left (counts_at frames s.g s.used)) B (cells live') S starts
  finish_refused x lt e k = grouped_stop x.machine s.ticks s.left (x.follows fuel) x.less lt (at_ready x.at) e (at_resting around x.at x.under refl same k) low

module _ {P : Program} {z : Sizes} {t left : ℕ} {m : M} {handle code frames : ℕ} {B L S : List Cell} {starts : List ℕ} {s : Slice} (around : Around P z frames L S starts m) (x : Reached P z t left m handle code s B L S) where
  -- what the step that closes needs of the machine
  unfoldable pub finish_busy : Busy P z x.machine s.g s.used frames B L S starts
  finish_busy = busy_at x.at _ (frames_same around x.at x.under) (begins_same around x.at x.under) around.accepted around.small around.low around.table

  pub finish_counts : counts_at frames s.g s.used ≡ counts_of x.machine
  finish_counts = counts_at_lem x.at (frames_same around x.at x.under)
