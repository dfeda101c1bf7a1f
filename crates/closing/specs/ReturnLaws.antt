-- A return: the top value goes to the frame below, or to the host.
use Rattle.std.specs.Prelude.{◌≡◌, List, [], ◌∷◌, ℕ, ◌+◌, ◌-◌, ◌<◌, ◌≤◌, length, get_or, Result, Err}
use Rattle.std.proofs.Math.Path.{refl, ap, subst}
use Rattle.std.proofs.Common.{sym, ◌∙◌, arith, pos_of_ne-zero}
use Rattle.cells.specs.Cells.{null, room, cells, Sound}
use Rattle.cells.specs.CellsLaws.{length_cells}
use Rattle.cells.specs.declared.Cell.{Cell}
use Rattle.image.specs.Records.{both}
use Rattle.machine.specs.Values.{Program}
use Rattle.machine.specs.Machine.{Frame, M, with_frames, return_value}
use Rattle.machine.specs.Opcodes.{Running, returns, doing, Taken, takes, refuses, with_top, opcode_action, next_action}
use Rattle.machine.specs.Calls.{Sizes, handlers_left, outcome, pace_of}
use Rattle.memory.specs.Layout.{Written}
use Rattle.moves.specs.Runs.{Top, end_of, Settles}
use Rattle.moves.specs.declared.Running as registers
use Rattle.plan.proofs.Appended.{appends_refl}
use Rattle.plan.specs.Plans.{Carries}
use Rattle.plan.specs.declared.Counts.{Counts}
use Rattle.plan.specs.declared.Plan.{Plan}
use Rattle.calls.specs.Called.{ReturnsValue}
use Rattle.acts.specs.Acted.{ActedOn, as_done, Belowable, ActsBelow, Busy}
use Rattle.closing.specs.Closed.{Returnable, Closes}
use Rattle.closing.specs.Results.{used_done}
use Rattle.acts.specs.Left.{top_live, top_room}
use Rattle.acts.specs.ActedLaws.{bounded_settled}
use Rattle.acts.specs.BusyLaws.{acted_acts, ready_under, busy_place, busy_next, busy_stack, busy_gone, busy_held_under, busy_sizes, busy_small, busy_settles, busy_rests}
use Rattle.refusals.specs.declared.Refusal.{Refusal}
use Rattle.refusals.specs.declared.Refusal.TheVariants.{FewValues}

return_is : (P : Program) (m : M) (r : Running) (x : ℕ) → opcode_action P m r 37 x ≡ with_top r.stack (λ (v : Cell) (st : List Cell). returns v r.below)
unfolding opcode_action both
return_is P m r x = refl

top_taken : (F : List Frame) (st : List Cell) → 0 < length st → with_top st (λ (v : Cell) (st : List Cell). returns v F) ≡ takes (returns (get_or st 0 null) F)
unfolding with_top
top_taken F [] lt = absurd (omega (arith, lt))
top_taken F (v ∷ st) lt = refl

top_none : (F : List Frame) (st : List Cell) → length st ≡ 0 → with_top st (λ (v : Cell) (st : List Cell). returns v F) ≡ refuses 12
unfolding with_top
top_none F [] e = refl
top_none F (v ∷ st) e = absurd (omega (arith, e))

return_carries : {frames u : ℕ} {g : registers.Running} {v : Cell} {plan : Plan} {P : Program} {z : Sizes} {m : M} {B L S : List Cell} {starts : List ℕ} → ReturnsValue (frames - 1) v plan → (b : Busy P z m g u frames B L S starts) (args : List Cell)
    → Carries P plan args (with_frames b.frame.below m) (return_value v b.frame.below (with_frames b.frame.below m))
return_carries {P = P} {m = m} w b args = w.carries P (with_frames b.frame.below m) args (omega (arith, b.count, ap length b.inside.frames))

module _ {frames u : ℕ} {g : registers.Running} {state live store starts : List ℕ} where
  pub return_few : {live₁ : List ℕ} → g.stack ≡ 0 → Settles g live live₁ → (P : Program) (x : ℕ) → Closes P 37 frames u g x (Err FewValues) state live store starts state live₁ store starts
  unfolding outcome
  return_few e s P x = record {
    acts = λ z m b o.
        let n : next_action P m m.frames ≡ refuses 12 = busy_next b o ∙ return_is P m _ x ∙ top_none b.frame.below b.frame.stack (sym (busy_stack b) ∙ e) in
        (ap (λ (t : Taken). outcome P z t m) n, busy_rests live store b s);
    bounded = bounded_settled state store starts s;
    appends = appends_refl u store;
  }

  module _ (k : Returnable frames u g state live store starts) where
    pub return_settles : (g.base + 6 ≤ room live) × (g.place < 4294967296)
    return_settles = busy_settles live store k.busy

    pub return_tops : (g.stack ≡ 0 → ⊥) → (0 < g.stack) × (end_of g ≤ room live)
    return_tops h = (pos_of_ne-zero h, (top_room live k.busy.inside.runs).0)

  module _ {v : Cell} {plan : Plan} (w : ReturnsValue (frames - 1) v plan) where
    pub return_below : Returnable frames u g state live store starts → Belowable plan (cells []) (record { frames = frames - 1; live = g.base; store = u }) g state live store starts
    return_below k =
        let b = k.busy in
        record {
          program = k.program;
          machine = k.machine;
          leaves = with_frames b.frame.below k.machine;
          after = return_value v b.frame.below (with_frames b.frame.below k.machine);
          gone = busy_gone b;
          held = busy_held_under b;
          begins = b.begins;
          ready = ready_under (with_frames b.frame.below k.machine) (cells live) plan (top_live b.inside.runs);
          carries = return_carries w b (cells []);
          block = b.block;
          small = busy_small live store b (omega arith) (omega (arith, (top_room live b.inside.runs).1)) (omega (arith, length_cells []));
          places = omega (arith, busy_place b);
          len = k.len;
        }

    pub return_closes : {args : List Cell} {r : Result Counts Refusal} {state' live' store' starts' : List ℕ} → ((w : Written) (pre : List Cell) → Top w pre g (cells live) → v ≡ get_or w.stack 0 null) × Sound v → (g.stack ≡ 0 → ⊥)
        → ActsBelow plan args (record { frames = frames - 1; live = g.base; store = u }) g r state live store starts state' live' store' starts' → (P : Program) (x : ℕ) → Closes P 37 frames u g x (as_done r) state live store starts state' live' store' starts'
    unfolding doing pace_of handlers_left
    return_closes {args} {r} {state'} {live'} {store'} {starts'} top ne a P x = record {
      acts = λ z m b o.
          let F = b.frame.below in
          let m' = return_value v F (with_frames F m) in
          let n : next_action P m m.frames ≡ takes (returns v F) =
          busy_next b o ∙ return_is P m _ x ∙ top_taken F b.frame.stack (omega (arith, pos_of_ne-zero ne, busy_stack b)) ∙ ap (λ (c : Cell). takes (returns c F)) (sym (top.0 _ _ b.inside.runs)) in
          let y = a.acts P m (with_frames F m) m' (busy_gone b) (busy_held_under b) b.begins (ready_under (with_frames F m) (cells live) plan (top_live b.inside.runs)) (return_carries w b args) b.block in
          let q = subst (λ (s : Sizes). ActedOn s m m' r (cells state') (cells live') (cells store') starts') (sym (busy_sizes live store b)) y in
          acted_acts P z m (cells state') (cells live') (cells store') starts' r n refl (omega arith) q;
      bounded = a.bounded;
      appends = used_done r a.appends;
    }
