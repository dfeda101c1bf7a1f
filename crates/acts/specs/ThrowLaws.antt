-- An opcode's own error, thrown over the frame left.
use Rattle.std.specs.Prelude.{◌≡◌, List, [], ℕ, ◌<◌, length, Result}
use Rattle.std.proofs.Math.Path.{refl, subst}
use Rattle.std.proofs.Common.{sym, ap, ◌∙◌, arith}
use Rattle.cells.specs.Cells.{cells}
use Rattle.cells.specs.CellsLaws.{length_cells}
use Rattle.cells.specs.declared.Cell.{Cell}
use Rattle.machine.specs.Values.{Program}
use Rattle.machine.specs.Machine.{M, with_frames, throw_error}
use Rattle.machine.specs.Opcodes.{doing}
use Rattle.machine.specs.Calls.{Sizes, handlers_left, failing, pace_of}
use Rattle.moves.specs.Runs.{end_of}
use Rattle.moves.specs.declared.Running as registers
use Rattle.plan.specs.Inside.{left}
use Rattle.plan.specs.Plans.{Carries}
use Rattle.plan.specs.declared.Counts.{Counts}
use Rattle.plan.specs.declared.Error.{Error}
use Rattle.plan.specs.declared.Plan.{Plan}
use Rattle.counts.specs.Counted.{Ready}
use Rattle.calls.specs.Called.{ThrowsError}
use Rattle.acts.specs.Acted.{ActedOn, Overable, ActsOver, Acts, as_failed, Busy, Thrown, Failable, Fails}
use Rattle.acts.specs.Left.{top_room}
use Rattle.acts.specs.Apart.{throw_apart, ready_over}
use Rattle.acts.specs.BusyLaws.{acted_acts, failed_acts, busy_place, busy_changed, busy_held, busy_sizes, busy_small, busy_room}
use Rattle.refusals.specs.declared.Refusal.{Refusal}

module _ {P : Program} {z : Sizes} {m : M} {g : registers.Running} {u frames : ℕ} {B L S : List Cell} {starts : List ℕ} (b : Busy P z m g u frames B L S starts) {x : Error} {h : registers.Running} (t : Thrown P m b.frame x h L) where
  -- the machine over which the error is thrown, and what it leads to
  abbrev thrown_over : M
  thrown_over = with_frames (left b.frame t.place t.locals t.stack t.handlers) m

  abbrev thrown_to : M
  thrown_to = throw_error 1 P t.error thrown_over

  thrown_count : length thrown_over.frames ≡ frames
  thrown_count = sym (b.count ∙ ap length b.inside.frames)

  thrown_carries : {plan : Plan} (args : List Cell) → ThrowsError P frames 1 x L starts plan → Carries P plan args thrown_over thrown_to
  thrown_carries args w = w.carries thrown_over args t.error thrown_count (busy_held b t.runs refl).under t.is

  thrown_ready : {plan : Plan} (args : List Cell) → ThrowsError P frames 1 x L starts plan → Ready plan thrown_over L
  thrown_ready {plan} args w =
      ready_over m b.frame.handle t.place t.locals t.stack t.handlers b.frame.below b.inside.running (throw_apart P t.error thrown_over) P args L plan (thrown_carries args w)

module _ {P : Program} {frames u : ℕ} {g h : registers.Running} {x : Error} {state live store starts : List ℕ} where
  module _ (k : Failable P frames u g h x state live store starts) where
    pub fail_ends : end_of h < 18446744073709551616
    fail_ends = omega (arith, (top_room live k.threw.runs).0, busy_room live store k.busy)

    pub fail_over : {plan : Plan} {e : ℕ} → ThrowsError P frames 1 x (cells live) starts plan → e ≡ end_of h → Overable plan (cells []) (record { frames = frames; live = e; store = u }) g h state live store starts
    fail_over w e =
        let b = k.busy in
        let t = k.threw in
        record {
          program = P;
          machine = k.machine;
          leaves = thrown_over b t;
          after = thrown_to b t;
          changed = busy_changed b t.runs;
          held = busy_held b t.runs e;
          ready = thrown_ready b t (cells []) w;
          carries = thrown_carries b t (cells []) w;
          block = b.block;
          small = busy_small live store b (omega arith) (omega (arith, e, (top_room live t.runs).0)) (omega (arith, length_cells []));
          places = (omega (arith, busy_place b), k.place);
          len = k.len;
        }

  module _ {plan : Plan} {args : List Cell} {e : ℕ} {d : Result Counts Refusal} {state' live' store' starts' : List ℕ} (w : ThrowsError P frames 1 x (cells live) starts plan) (q : e ≡ end_of h)
      (a : ActsOver plan args (record { frames = frames; live = e; store = u }) g h d state live store starts state' live' store' starts') where
    thrown_acts : (z : Sizes) (m : M) (b : Busy P z m g u frames (cells state) (cells live) (cells store) starts) → Thrown P m b.frame x h (cells live) → Acts P z m failing (as_failed d) (cells state') (cells live') (cells store') starts'
    unfolding doing pace_of handlers_left
    thrown_acts z m b t =
        let y = a.acts P m (thrown_over b t) (thrown_to b t) (busy_changed b t.runs) (busy_held b t.runs q) (thrown_ready b t args w) (thrown_carries b t args w) b.block in
        let v = subst (λ (s : Sizes). ActedOn s m (thrown_to b t) d (cells state') (cells live') (cells store') starts') (sym (busy_sizes live store b)) y in
        failed_acts P z m (cells state') (cells live') (cells store') starts' d (acted_acts P z m (cells state') (cells live') (cells store') starts' d t.throws refl (omega arith) v)

    pub fail_throws : Fails P frames u g h x d state live store starts state' live' store' starts'
    fail_throws = record { acts = thrown_acts; bounded = a.bounded; appends = a.appends }
