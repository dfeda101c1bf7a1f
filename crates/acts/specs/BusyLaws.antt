-- A machine that runs a Lucia frame in registers: what its next opcode is, and what memory holds of it once the frame is changed or gone.
use Rattle.std.specs.Prelude.{◌≡◌, refl, List, ◌∷◌, true, ℕ, ◌+◌, ◌-◌, ◌<◌, ◌≤◌, length, get_or, drop, eqb, Result, Ok, Err}
use Rattle.std.proofs.Common.{sym, ap, ◌∙◌, arith, ne_eqb}
use Rattle.std.proofs.Math.Path.{subst}
use Rattle.cells.specs.Cells.{null, room, cells}
use Rattle.cells.specs.CellsLaws.{length_cells}
use Rattle.cells.specs.declared.Cell.{Cell}
use Rattle.image.specs.Records.{if?}
use Rattle.machine.specs.Values.{Program}
use Rattle.machine.specs.Machine.{Handler, Frame, lucia, M, with_frames, handlers_of}
use Rattle.machine.specs.Opcodes.{Action, doing, Taken, takes, opcode_action, next_action}
use Rattle.machine.specs.Calls.{Sizes, top_handlers, handlers_left, does, stops, outcome, Pace, failing, pace_of, is_value}
use Rattle.machine.specs.Demand.{All}
use Rattle.machine.specs.Form.{FrameFits}
use Rattle.machine.proofs.FormRules.{carries}
use Rattle.machine.specs.ValueLaws.{Value}
use Rattle.machine.proofs.ValueLaws.{all_get, null_value}
use Rattle.machine.proofs.FormLaws.{top_few}
use Rattle.memory.specs.Layout.{written, flat}
use Rattle.moves.specs.Runs.{Top, Runs, lucia_written, end_of, Settles, pop_top, place_top}
use Rattle.moves.specs.Frames.{Live}
use Rattle.moves.specs.declared.Running as registers
use Rattle.plan.specs.Rest.{counts_of, Held, Rests}
use Rattle.plan.specs.declared.Counts.{Counts}
use Rattle.plan.specs.declared.Plan.{Plan}
use Rattle.plan.specs.declared.Plan.TheVariants.{Starts, Resumes, Handles, Catches, Unhandled, Fails, Receives, Returns, Stays}
use Rattle.counts.specs.Counted.{refusal_by, Ready}
use Rattle.counts.specs.Judged.{judged}
use Rattle.steps.specs.SteppedLaws.{next_is}
use Rattle.slices.specs.SlicedLaws.{past_frame, at_given}
use Rattle.acts.specs.Acted.{rooms_of, Small, Changed, Gone, ActedOn, Acts, as_done, as_failed, Busy, left_of, Opcode}
use Rattle.acts.specs.Left.{top_room, held_over, held_under}
use Rattle.acts.specs.ActedLaws.{settled_rests}
use Rattle.refusals.specs.declared.Refusal.{Refusal}
use Rattle.refusals.specs.Refusals.{number}

-- ---- What a judged plan is to the machine
pub acted_acts : (P : Program) (z : Sizes) (m : M) {pace : Pace} {d : Action} (B L S : List Cell) (starts : List ℕ) (r : Result Counts Refusal) → next_action P m m.frames ≡ takes d → pace_of d ≡ pace → handlers_left d ≤ 16 → ActedOn z m (doing P d m) r B L S starts → Acts P z m pace (as_done r) B L S starts
unfolding outcome
acted_acts P z m {d = d} B L S starts (Err n) q p h x =
    let k = refusal_by z (counts_of (doing P d m)) in
    let s : if? (eqb k 0) (does d (doing P d m)) (stops k) ≡ stops (number n) = rw (ne_eqb k 0 (λ e. omega (arith, e, x.0, x.1))) (ap stops (sym x.0)) in
    (ap (λ (t : Taken). outcome P z t m) q ∙ judged z d (doing P d m) h ∙ s, x.2)
acted_acts P z m {d = d} B L S starts (Ok c) q p h x =
    let k = refusal_by z (counts_of (doing P d m)) in
    let s : if? (eqb k 0) (does d (doing P d m)) (stops k) ≡ does d (doing P d m) = rw x.0 refl in
    record {
      action = d;
      after = doing P d m;
      is = ap (λ (t : Taken). outcome P z t m) q ∙ judged z d (doing P d m) h ∙ s;
      paces = p;
      rests = x.2;
    }

-- at the pace of an error what is done is what is thrown
pub failed_acts : (P : Program) (z : Sizes) (m : M) (B L S : List Cell) (starts : List ℕ) (r : Result Counts Refusal) → Acts P z m failing (as_done r) B L S starts → Acts P z m failing (as_failed r) B L S starts
failed_acts P z m B L S starts (Err n) x = x
failed_acts P z m B L S starts (Ok c) x = x

-- what is left below is written
pub ready_under : (m : M) (L : List Cell) (plan : Plan) → Live m.frames L → Ready plan m L
ready_under m L (Starts f q) l = tt
ready_under m L (Resumes k v) l = tt
ready_under m L (Handles i j e q) l = tt
ready_under m L (Catches i j y) l = tt
ready_under m L (Unhandled e) l = tt
ready_under m L (Fails y) l = tt
ready_under m L (Receives v) l = l
ready_under m L (Returns v) l = tt
ready_under m L Stays l = tt

-- ---- The running frame
module _ {P : Program} {z : Sizes} {m : M} {g : registers.Running} {u frames : ℕ} {B L S : List Cell} {starts : List ℕ} (b : Busy P z m g u frames B L S starts) where
  abbrev top_frame : Frame
  top_frame = lucia b.frame.handle b.inside.place b.frame.locals b.frame.stack b.frame.handlers

  fitting : All (FrameFits P m.store) (top_frame ∷ b.frame.below)
  fitting = subst (λ (F : List Frame). All (FrameFits P m.store) F) b.inside.frames b.inside.fits.frames

  busy_top : Top (written top_frame) (flat b.frame.below) g L
  unfolding written
  busy_top =
      let r = b.frame in
      subst (λ (p : ℕ). Top (lucia_written r.handle p r.locals r.stack r.handlers) (flat r.below) g L) (sym b.at) b.inside.runs

  pub busy_place : g.place < 4096
  busy_place = let s = fitting.0.formed.stands in omega (arith, s.place, (b.accepted.fine s.code s.known).opcodes, b.at, b.inside.runs.counts.place)

  pub busy_next : {op x : ℕ} → Opcode b.frame b.inside.place op x → next_action P m m.frames ≡ opcode_action P m (past_frame b.frame) op x
  busy_next o =
      let y = at_given (record { frame = b.frame; inside = b.inside; at = b.at; closure = refl; number = refl; uses = b.uses; block = b.block }) b.accepted b.small refl in
      next_is y ∙ (λ j. opcode_action P m (past_frame b.frame) (o.number j) (o.operand j))

  pub busy_stack : g.stack ≡ length b.frame.stack
  busy_stack = b.inside.runs.counts.stack

  -- a value of its stack exists
  pub busy_value : (i : ℕ) → is_value P m.store (get_or b.frame.stack i null) ≡ true
  busy_value i = all_get (Value P m.store) b.frame.stack i null (null_value P m.store) (carries P m.store top_frame fitting.0).1

  -- past its opcode, with n values less
  pub busy_left : (n : ℕ) → n ≤ g.stack → Runs b.frame.handle (b.frame.place + 1) b.frame.locals (drop n b.frame.stack) b.frame.handlers b.frame.below (left_of g n) L
  busy_left n le =
      let r = b.frame in
      subst (λ (k : ℕ). Runs r.handle (r.place + 1) r.locals (drop n r.stack) r.handlers r.below (record { base = g.base; locals = g.locals; handlers = g.handlers; stack = g.stack - n; place = k + 1 }) L)
      (sym b.inside.runs.counts.place) (place_top (pop_top b.inside.runs n le) (r.place + 1))

  -- the frame is another, or gone
  module _ {h p : ℕ} {l st : List Cell} {hs : List Handler} {left : registers.Running} (t : Runs h p l st hs b.frame.below left L) where
    pub busy_changed : Changed m (with_frames (lucia h p l st hs ∷ b.frame.below) m) g left L
    unfolding written busy_top
    busy_changed = record { top = top_frame; left_top = lucia h p l st hs; below = b.frame.below; frames = b.inside.frames; runs = busy_top; leaves = refl; runs_left = t }

    pub busy_held : {e : ℕ} → e ≡ end_of left → Held P (with_frames (lucia h p l st hs ∷ b.frame.below) m) (record { frames = frames; live = e; store = u }) L S starts
    unfolding written
    busy_held e = held_over P m top_frame b.frame.below starts b.inside.frames b.inside.running b.begins b.inside.store b.inside.fits.store t b.count e b.uses

  pub busy_gone : Gone m (with_frames b.frame.below m) g L
  busy_gone = record { top = top_frame; below = b.frame.below; frames = b.inside.frames; runs = busy_top; leaves = refl }

  pub busy_held_under : Held P (with_frames b.frame.below m) (record { frames = frames - 1; live = g.base; store = u }) L S starts
  busy_held_under =
      held_under P m top_frame b.frame.below starts b.inside.frames b.inside.running b.begins b.inside.store b.inside.fits.store busy_top (ap (λ (n : ℕ). n - 1) b.count) refl b.uses

  pub busy_handlers : (h p : ℕ) (l st : List Cell) → top_handlers (lucia h p l st b.frame.handlers ∷ b.frame.below) ≤ 16
  unfolding top_handlers handlers_of
  busy_handlers h p l st = fitting.0.formed.handlers

  pub busy_handlers_under : top_handlers b.frame.below ≤ 16
  busy_handlers_under = top_few P m.store b.frame.below fitting.1

module _ {P : Program} {z : Sizes} {m : M} {g : registers.Running} {u frames : ℕ} {B : List Cell} (live store : List ℕ) {starts : List ℕ} (b : Busy P z m g u frames B (cells live) (cells store) starts) where
  pub busy_sizes : z ≡ rooms_of live store
  busy_sizes = λ j. record { live = (sym b.inside.room ∙ length_cells live) j; store = (sym b.inside.room_store ∙ length_cells store) j }

  pub busy_small : {n e k : ℕ} → n ≤ frames → e ≤ room live → k < 4294967296 → Small (record { frames = n; live = e; store = u }) k live store starts
  busy_small {n} {e} le f few =
      let a : room live ≡ z.live = sym (length_cells live) ∙ b.inside.room in
      let c : room store ≡ z.store = sym (length_cells store) ∙ b.inside.room_store in
      record {
        table = omega (arith, b.table, b.count, b.inside.fits.few, le);
        whole = b.table;
        few = (omega (arith, a, b.small, f), omega (arith, c, b.low), omega (arith, a, b.small), few);
        used = omega (arith, c, b.uses, b.inside.fits.used);
      }

  pub busy_room : room live ≤ 4096
  busy_room = omega (arith, length_cells live, b.inside.room, b.small)

  pub busy_settles : (g.base + 6 ≤ room live) × (g.place < 4294967296)
  busy_settles = ((top_room live b.inside.runs).1, omega (arith, busy_place b))

  -- refused before anything is planned: the frame is written as it was
  pub busy_rests : {live₁ : List ℕ} → Settles g live live₁ → Rests m (counts_of m) B (cells live₁) (cells store) starts
  unfolding busy_top
  busy_rests s = settled_rests m _ b.frame.below starts b.inside.frames b.inside.running (busy_top b) s b.begins b.inside.store b.block
