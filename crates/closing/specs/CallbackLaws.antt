-- An effect called as a function: its frame is gone, and the effect is performed with what was on its stack.
use Rattle.std.specs.Prelude.{◌≡◌, ℕ, ◌+◌, ◌-◌, ◌*◌, ◌<◌, ◌≤◌, take, drop, None, Result}
use Rattle.std.proofs.Math.Path.{refl, sym, ap, subst}
use Rattle.std.proofs.Common.{◌∙◌, arith, get_or-append-add, take_all, length-take-le}
use mathlib.Core.List.{List, ◌∷◌, ◌++◌, reverse}
use Rattle.std.proofs.Math.ListN.{length, get_or, length-reverse}
use Rattle.std.proofs.Math.Seq.{paste}
use Rattle.cells.specs.Cells.{null, room, cells, Sound, Writes}
use Rattle.cells.specs.CellsLaws.{length_cells}
use Rattle.cells.specs.declared.Cell.{Cell}
use Rattle.machine.specs.Values.{Program}
use Rattle.machine.specs.Machine.{Frame, effect_callback, unhandled, M, with_frames, used, perform_effect}
use Rattle.machine.specs.Opcodes.{performs, doing, takes, next_action}
use Rattle.machine.specs.Calls.{Sizes, handlers_left, pace_of}
use Rattle.memory.specs.Layout.{Written, written, flat, result_shown}
use Rattle.moves.specs.Runs.{Top, loose, end_of, opened, opened_top}
use Rattle.moves.specs.Frames.{Live, live_stands}
use Rattle.moves.specs.Starts.{lower}
use Rattle.moves.specs.declared.Running.{Running}
use Rattle.plan.specs.Rest.{Held}
use Rattle.plan.specs.Plans.{Carries}
use Rattle.plan.specs.Searches.{Lies}
use Rattle.plan.specs.declared.Counts.{Counts}
use Rattle.plan.specs.declared.Plan.{Plan}
use Rattle.calls.specs.Called.{Performs}
use Rattle.acts.specs.Acted.{rooms_of, as_done, Gone, ActedOn, Belowable, ActsBelow, Resting}
use Rattle.closing.specs.Closed.{Callback, Callbackable, PerformsCallback}
use Rattle.closing.specs.Results.{used_done}
use Rattle.acts.specs.Left.{lower_under, top_live, top_room, held_under}
use Rattle.acts.specs.BusyLaws.{acted_acts, ready_under}
use Rattle.acts.specs.Operands.{args_are}
use Rattle.refusals.specs.declared.Refusal.{Refusal}

-- the second cell of a frame
top_subject : {w : Written} {pre : List Cell} {g : Running} {L : List Cell} → Top w pre g L → get_or L (g.base + 1) null ≡ w.subject
top_subject {w} {pre} {g} {L} t =
    ap (λ (l : List Cell). get_or l (g.base + 1) null) t.is ∙ ap (λ (n : ℕ). get_or (pre ++ loose w t.x t.y t.z t.free) (n + 1) null) t.base ∙ get_or-append-add pre (loose w t.x t.y t.z t.free) 1 null

module _ {P : Program} {z : Sizes} {m : M} {c : Counts} {B L S : List Cell} {starts : List ℕ} (y : Resting P z m c B L S starts) (k : Callback m) where
  abbrev top_frame : Frame
  top_frame = effect_callback k.effect k.stack k.handlers

  rest_count : c.frames ≡ length (top_frame ∷ k.below)
  rest_count = ap (λ (x : Counts). x.frames) y.rests.counts ∙ ap length k.frames

  rest_base : get_or starts (c.frames - 1) 0 ≡ length (flat k.below)
  rest_base =
      let i : c.frames - 1 ≡ length k.below = omega (arith, rest_count) in
      let n : length k.below - (c.frames - 1) ≡ 0 = omega (arith, i) in
      subst (λ (F : List Frame). (i : ℕ) → i < length F → get_or starts i 0 ≡ length (flat (lower i F))) k.frames y.rests.begins (c.frames - 1) (omega (arith, i))
      ∙ ap (λ (F : List Frame). length (flat F)) (lower_under top_frame k.below (c.frames - 1) (omega (arith, i)) ∙ ap (λ (j : ℕ). drop j k.below) n)

  rest_top : Top (written top_frame) (flat k.below) (opened L (get_or starts (c.frames - 1) 0)) L
  unfolding rest_base
  rest_top =
      let l : Live (top_frame ∷ k.below) L = record { free = (result_shown m.result).args ++ y.rests.free; is = y.rests.live ∙ ap (λ (F : List Frame). flat F ++ ((result_shown m.result).args ++ y.rests.free)) k.frames } in
      opened_top (get_or starts (c.frames - 1) 0) (live_stands l) rest_base

  module _ {g : Running} (q : g ≡ opened L (get_or starts (c.frames - 1) 0)) where
    back_top : Top (written top_frame) (flat k.below) g L
    unfolding rest_top
    back_top = subst (λ (h : Running). Top (written top_frame) (flat k.below) h L) (sym q) rest_top

    back_base : get_or starts (c.frames - 1) 0 ≡ g.base
    back_base = sym (ap (λ (h : Running). h.base) q)

    back_gone : Gone m (with_frames k.below m) g L
    back_gone = record { top = top_frame; below = k.below; frames = k.frames; runs = back_top; leaves = refl }

    back_held : Held P (with_frames k.below m) (record { frames = c.frames - 1; live = get_or starts (c.frames - 1) 0; store = c.store }) L S starts
    back_held =
        held_under P m top_frame k.below starts k.frames k.running y.rests.begins y.rests.store y.fits.store back_top
        (ap (λ (x : Counts). x.frames - 1) y.rests.counts) back_base (ap (λ (x : Counts). x.store) y.rests.counts)

    back_stack : g.stack ≡ length k.stack
    unfolding written
    back_stack = back_top.counts.stack

    back_effect : {e : Cell} → e ≡ get_or L (get_or starts (c.frames - 1) 0 + 1) null → e ≡ k.effect
    unfolding written
    back_effect i = i ∙ ap (λ (n : ℕ). get_or L (n + 1) null) back_base ∙ top_subject back_top

    -- what is performed with the arguments of the stack
    back_carries : {e : Cell} {args : List Cell} {plan : Plan} → e ≡ k.effect → args ≡ reverse k.stack → Performs P (c.frames - 1) 1 e g.stack None L starts plan
        → Carries P plan args (with_frames k.below m) (perform_effect P e args (with_frames k.below m))
    unfolding perform_effect
    back_carries {e} {args} i j w =
        w.carries (with_frames k.below m) args args (unhandled e args) (omega (arith, rest_count)) back_held.under (ap length j ∙ length-reverse k.stack ∙ sym back_stack) (refl, refl)

-- the values of the stack, copied
copied : {P : Program} {z : Sizes} {m : M} {c : Counts} {B S : List Cell} {starts args args₁ : List ℕ} (live : List ℕ) {end : ℕ} (y : Resting P z m c B (cells live) S starts) (k : Callback m) {g : Running} → g ≡ opened (cells live) (get_or starts (c.frames - 1) 0) → end ≡ end_of g
    → Writes args (paste (cells args) 0 (drop (end - g.stack) (cells live)) g.stack) args₁ → cells (take (16 * g.stack) args₁) ≡ reverse k.stack
unfolding written
copied live y k {g} q en wr =
    args_are live g.stack (back_top y k q) (omega arith) en wr ∙ ap (λ (l : List Cell). reverse l) (take_all g.stack k.stack (omega (arith, back_stack y k q)))

module _ {P : Program} {c : Counts} {state live store starts args : List ℕ} where
  module _ (x : Callbackable P c state live store starts args) where
    pub back_table : c.frames - 1 < length starts
    back_table = omega (arith, rest_count x.resting x.callback, ap length x.callback.frames, x.resting.fits.few, x.resting.table)

    pub back_opens : get_or starts (c.frames - 1) 0 + 6 ≤ room live
    back_opens = (top_room live (rest_top x.resting x.callback)).1

    pub back_gets : get_or starts (c.frames - 1) 0 + 1 < room live
    back_gets = omega (arith, back_opens)

    small_room : room live ≤ 4096
    small_room = omega (arith, length_cells live, x.resting.room, x.resting.small)

    module _ {g : Running} (q : (g ≡ opened (cells live) (get_or starts (c.frames - 1) 0)) × (g.place < 4294967296)) where
      ends : end_of g ≤ room live
      ends = (top_room live (back_top x.resting x.callback q.0)).0

      pub back_ends : end_of g < 18446744073709551616
      back_ends = omega (arith, ends, small_room)

      pub back_copies : {e : ℕ} → e ≡ end_of g → (0 + g.stack ≤ room args) × (e - g.stack + g.stack ≤ room live)
      back_copies e = (omega (arith, ends, small_room, x.values), omega (arith, e, ends))

      pub back_fits : 16 * g.stack < 18446744073709551616
      back_fits = omega (arith, ends, small_room)

      module _ {args₁ : List ℕ} {l : List Cell} (w : Writes args l args₁) where
        pub back_lent : 16 * g.stack ≤ length args₁
        back_lent = omega (arith, ends, small_room, x.values, w.len)

        pub back_lends : 16 * g.stack ≡ length (take (16 * g.stack) args₁)
        back_lends = sym (length-take-le (16 * g.stack) args₁ back_lent)

    pub back_lies : Lies (c.frames - 1) (cells live) starts
    back_lies =
        let r = x.resting in
        let k = x.callback in
        record {
          frames = k.below;
          count = omega (arith, rest_count r k);
          under = (back_held r k refl).under;
          table = omega (arith, back_table);
        }

  module _ {g : Running} (q : (g ≡ opened (cells live) (get_or starts (c.frames - 1) 0)) × (g.place < 4294967296)) {args₁ : List ℕ} {end : ℕ} {e : Cell} {plan : Plan} (en : end ≡ end_of g)
      (wr : Writes args (paste (cells args) 0 (drop (end - g.stack) (cells live)) g.stack) args₁) (ef : (e ≡ get_or (cells live) (get_or starts (c.frames - 1) 0 + 1) null) × Sound e)
      (w : Performs P (c.frames - 1) 1 e g.stack None (cells live) starts plan) where
    pub back_below : Callbackable P c state live store starts args → Belowable plan (cells (take (16 * g.stack) args₁)) (record { frames = c.frames - 1; live = get_or starts (c.frames - 1) 0; store = c.store }) g state live store starts
    back_below x =
        let r = x.resting in
        let k = x.callback in
        let F = with_frames k.below x.machine in
        let t = back_top r k q.0 in
        let few : length (cells (take (16 * g.stack) args₁)) < 4294967296 = omega (arith, ap length (copied live r k q.0 en wr) ∙ length-reverse k.stack ∙ sym (back_stack r k q.0), (top_room live t).0, small_room x) in
        let u : c.store ≡ used x.machine.store = ap (λ (i : Counts). i.store) r.rests.counts in
        record {
          program = P;
          machine = x.machine;
          leaves = F;
          after = perform_effect P e (cells (take (16 * g.stack) args₁)) F;
          gone = back_gone r k q.0;
          held = back_held r k q.0;
          begins = r.rests.begins;
          ready = ready_under F (cells live) plan (top_live t);
          carries = back_carries r k q.0 (back_effect r k q.0 ef.0) (copied live r k q.0 en wr) w;
          block = r.rests.block;
          small = record {
            table = omega (arith, back_table x);
            whole = r.table;
            few = (omega (arith, back_opens x, small_room x), omega (arith, length_cells store, r.room_store, r.low), omega (arith, small_room x), few);
            used = omega (arith, u, r.fits.used, length_cells store, r.room_store);
          };
          places = q.1;
          len = x.len;
        }

    pub back_performs : {r : Result Counts Refusal} {state' live' store' starts' : List ℕ}
        → ActsBelow plan (cells (take (16 * g.stack) args₁)) (record { frames = c.frames - 1; live = get_or starts (c.frames - 1) 0; store = c.store }) g r state live store starts state' live' store' starts'
        → PerformsCallback P c (as_done r) state live store starts state' live' store' starts'
    unfolding doing pace_of handlers_left next_action
    back_performs {r} {state'} {live'} {store'} {starts'} a = record {
      acts = λ z m y k.
          let F = k.below in
          let l = cells (take (16 * g.stack) args₁) in
          let m' = perform_effect P e l (with_frames F m) in
          let i = back_effect y k q.0 ef.0 in
          let j = copied live y k q.0 en wr in
          let n : next_action P m m.frames ≡ takes (performs e l F) = ap (next_action P m) k.frames ∙ (λ d. takes (performs (sym i d) (sym j d) F)) in
          let h = a.acts P m (with_frames F m) m' (back_gone y k q.0) (back_held y k q.0) y.rests.begins (ready_under (with_frames F m) (cells live) plan (top_live (back_top y k q.0))) (back_carries y k q.0 i j w) y.rests.block in
          let s : z ≡ rooms_of live store = λ d. record { live = (sym y.room ∙ length_cells live) d; store = (sym y.room_store ∙ length_cells store) d } in
          let v = subst (λ (i : Sizes). ActedOn i m m' r (cells state') (cells live') (cells store') starts') (sym s) h in
          acted_acts P z m (cells state') (cells live') (cells store') starts' r n refl (omega arith) v;
      bounded = a.bounded;
      appends = used_done r a.appends;
    }
