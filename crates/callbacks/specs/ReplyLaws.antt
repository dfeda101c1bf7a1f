-- An answer that passed its tests: from memory that awaits it to what it leaves, one law for each need and return.
use Rattle.std.specs.Prelude.{◌≡◌, Bool, true, false, ℕ, ◌+◌, ◌-◌, ◌<◌, ◌≤◌, length, get_or, take, drop, eqb, Ok, Err}
use Rattle.std.specs.Prelude as std
use Rattle.std.proofs.Math.Path.{refl, ap, subst}
use Rattle.std.proofs.Common.{sym, ◌∙◌, arith, length-append, take_at, zero-add, ne_eqb}
use mathlib.Core.List.{List, [], ◌∷◌, ◌++◌}
use Rattle.std.proofs.Math.Seq.{paste}
use Rattle.cells.specs.Moves.{paste_is}
use Rattle.cells.specs.Cells.{room, cells, Writes}
use Rattle.cells.specs.CellsLaws.{length_cells}
use Rattle.cells.specs.declared.Cell.{Cell}
use Rattle.image.specs.Records.{if?}
use Rattle.machine.specs.Values.{Program}
use Rattle.machine.specs.Machine.{Frame, host, Object, M, Result, running, frame_cost, frames_cost, result_cost, used, handlers_of}
use Rattle.machine.specs.Calls as machine
use Rattle.machine.specs.Calls.{Sizes, Outcome, top_handlers, handlers_left, does, stops, World, world}
use Rattle.machine.specs.Demand.{All}
use Rattle.machine.specs.Form.{FrameFits}
use Rattle.machine.proofs.FormLaws.{top_few}
use Rattle.memory.specs.Layout.{flat, result_shown, state_cells, live_cells, Holds}
use Rattle.memory.proofs.Lists.{length_flat}
use Rattle.moves.specs.Frames.{Live, live_below}
use Rattle.moves.specs.Objects.{Stored}
use Rattle.plan.specs.Rest.{counts_of, Held, Rests}
use Rattle.plan.specs.Plans.{Carries}
use Rattle.plan.specs.declared.Counts.{Counts}
use Rattle.plan.specs.declared.Plan.{Plan}
use Rattle.actions.specs.Tables.{lower_onto, lower_all}
use Rattle.requests.specs.Returned.{frames_left}
use Rattle.requests.specs.Asked.{rooms_of, Holding, Finishable, FinishLeaves, Finishes, Leaves, finish_number}
use Rattle.counts.specs.Judged.{granted}
use Rattle.requests.specs.AskedLaws.{live_of, args_cost}
use Rattle.refusals.specs.Refusals.{number}
use Rattle.refusals.proofs.NumberLaws.{number_not_zero}
use Rattle.refusals.specs.declared.Refusal.{Refusal}
use Rattle.refusals.specs.declared.Refusal.TheVariants.{ManyHandlers}
use Rattle.answers.specs.Answered.{Laid, Layable, Lays}
use Rattle.replies.specs.Replied.{return_with, Plannable, PlansReturn}
use Rattle.replies.specs.declared.CallbackReturn.{CallbackReturn}
use Rattle.replies.specs.declared.CallbackReturn.TheVariants.{Call, Perform, TailCall, TailPerform, ReturnValue, Error, Panic}
use Rattle.callbacks.specs.Outcomes.{action_of, Awaits, awaited, replied, left_of, done_by, machine_left, machine_done, reply_fits, reply_many}
use Rattle.callbacks.specs.Replies.{Leavable, Few, Many, LeavesFrames, LeftBy, Replyable, RepliesWorld}

-- the first cells of another slice in the place of the first ones
paste_front : (d x : List Cell) (n : ℕ) → paste d 0 (drop 0 x) n ≡ take n x ++ drop n d
paste_front d x n = paste_is d 0 x n ∙ ap (λ (k : ℕ). take n x ++ drop k d) (zero-add n)

-- ---- The top of the frames left has at most 16 handlers
few_top : (P : Program) (s : List Object) (n v word : ℕ) (st hs : List Cell) (below : List Frame) (args handlers : List Cell) (r : CallbackReturn) → All (FrameFits P s) (host n v st hs ∷ below) → Few P r handlers
    → top_handlers (frames_left P (λ (new : List Cell). host n word st new) hs below (return_with r args handlers)) ≤ 16
unfolding top_handlers frames_left handlers_of
few_top P s n v word st hs below args handlers (Call f) a k = k
few_top P s n v word st hs below args handlers (Perform e) a k = a.0.formed.handlers
few_top P s n v word st hs below args handlers (TailCall f) a k = top_few P s below a.1
few_top P s n v word st hs below args handlers (TailPerform e) a k = top_few P s below a.1
few_top P s n v word st hs below args handlers (ReturnValue x) a k = top_few P s below a.1
few_top P s n v word st hs below args handlers (Error x) a k = a.0.formed.handlers
few_top P s n v word st hs below args handlers (Panic x) a k = a.0.formed.handlers

-- it is no more than the frame itself and those below
left_length : (P : Program) (self : List Cell → Frame) (hs : List Cell) (below : List Frame) (args handlers : List Cell) (r : CallbackReturn) → length (frames_left P self hs below (return_with r args handlers)) ≤ 1 + length below
unfolding frames_left
left_length P self hs below args handlers (Call f) = omega arith
left_length P self hs below args handlers (Perform e) = omega arith
left_length P self hs below args handlers (TailCall f) = omega arith
left_length P self hs below args handlers (TailPerform e) = omega arith
left_length P self hs below args handlers (ReturnValue v) = omega arith
left_length P self hs below args handlers (Error v) = omega arith
left_length P self hs below args handlers (Panic v) = omega arith

-- what a reader of the state block says of the world that it holds
abbrev Shows : List ℕ → (World → ℕ) → ℕ → Type 0
Shows state f n = (w : World) → cells state ≡ state_cells w → n ≡ f w

module _ {P : Program} {r : CallbackReturn} {args handlers state live store : List ℕ} (p : Replyable P r args handlers state live store) where
  -- every world that is held awaits the answer
  awaits : (w : World) → Holding P w state live store → Awaits w
  awaits w h = awaited P (rooms_of live store) w h.fits (p.passes w h).0

  abbrev this : World
  this = p.entered.world

  abbrev held_this : Holding P this state live store
  held_this = p.entered.holding

  live_here : (w : World) (h : Holding P w state live store) → Live (host (awaits w h).number (awaits w h).word (awaits w h).stack (awaits w h).handlers ∷ (awaits w h).below) (cells live)
  live_here w h = subst (λ (F : List Frame). Live F (cells live)) (awaits w h).frames (live_of h)

  cost_here : (w : World) (h : Holding P w state live store) → frames_cost (host (awaits w h).number (awaits w h).word (awaits w h).stack (awaits w h).handlers ∷ (awaits w h).below) ≤ 4096
  cost_here w h = omega (arith, ap frames_cost (awaits w h).frames, h.fits.live, p.entered.small.0)

  module _ {frames : ℕ} (f : Shows state (λ w. length w.machine.frames) frames) where
    count_here : (w : World) (h : Holding P w state live store) → frames ≡ length (host (awaits w h).number (awaits w h).word (awaits w h).stack (awaits w h).handlers ∷ (awaits w h).below)
    count_here w h = f w h.holds.state ∙ ap length (awaits w h).frames

    pub frames_few : (0 < frames) × (frames ≤ 256)
    frames_few = (omega (arith, count_here this held_this), omega (arith, f this held_this.holds.state, held_this.fits.few))

    pub reply_layable : {work starts : List ℕ} → length work ≡ 66048 → length starts ≡ 256 → Layable frames live work starts
    reply_layable l t =
        let a = awaits this held_this in
        record {
          number = a.number;
          word = a.word;
          stack = a.stack;
          handlers = a.handlers;
          below = a.below;
          lies = live_here this held_this;
          count = count_here this held_this;
          table = omega (arith, frames_few, t);
          small = p.entered.small.0;
          room = omega (arith, l);
        }

    -- the frames are laid out in the copy, and the top one begins at `base`
    module _ {word end base : ℕ} {work₀ starts₀ work starts : List ℕ} (y : Lays frames word end live work₀ starts₀ work starts) (size : length work₀ ≡ 66048) (table : length starts₀ ≡ 256)
        (b : base ≡ get_or starts (frames - 1) 0) where
      laid_here : (w : World) (h : Holding P w state live store) → Laid (host (awaits w h).number word (awaits w h).stack (awaits w h).handlers ∷ (awaits w h).below) end (cells work) starts
      laid_here w h = y.laid (awaits w h).number (awaits w h).word (awaits w h).stack (awaits w h).handlers (awaits w h).below (count_here w h) (live_here w h)

      base_here : (w : World) (h : Holding P w state live store) → base ≡ length (flat (awaits w h).below)
      base_here w h =
          let B = (awaits w h).below in
          let k : frames - 1 ≡ length B = omega (arith, count_here w h) in
          b ∙ ap (λ (i : ℕ). get_or starts i 0) k ∙ (laid_here w h).begins (length B) (omega arith) ∙ ap (λ (fs : List Frame). length (flat fs)) (lower_onto (_ ∷ []) B (length B) (omega arith) ∙ lower_all B)

      pub base_low : base ≤ 4096
      unfolding frames_cost
      base_low = omega (arith, base_here this held_this, length_flat (awaits this held_this).below, cost_here this held_this)

      pub reply_leavable : {u : ℕ} → Leavable base (record { frames = frames; live = end; store = u }) work
      unfolding frames_cost frame_cost
      reply_leavable =
          let a = awaits this held_this in
          record {
            top = record {
              number = a.number;
              word = word;
              stack = a.stack;
              handlers = a.handlers;
              below = a.below;
              frame = record { live = (laid_here this held_this).live; begins = base_here this held_this };
              fits = cost_here this held_this;
              room = omega (arith, y.same.len, size);
            };
            some = frames_few.0;
          }

      module _ {u : ℕ} (g : Shows state (λ w. used w.machine.store) u) where
        abbrev counts : Counts
        counts = record { frames = frames; live = end; store = u }

        -- 17 different handlers
        too_many : Many P r (cells handlers) → RepliesWorld P word (return_with r (cells args) (cells handlers)) (number ManyHandlers) state live store state live store
        unfolding handlers_left action_of top_handlers frames_left handlers_of
        too_many m =
            record {
              leaves = λ w h.
                  let fits = p.passes w h in
                  let many : 16 < handlers_left (done_by P word (return_with r (cells args) (cells handlers)) (awaits w h)) =
                  subst (λ (x : CallbackReturn). 16 < handlers_left (done_by P word (return_with x (cells args) (cells handlers)) (awaits w h))) (sym m.is) m.many in
                  let e = reply_many P word (return_with r (cells args) (cells handlers)) (awaits w h) fits.0 (rooms_of live store) fits.1 many in
                  subst (λ (o : Outcome). Leaves o 16 state live store state live store) (sym e) (refl, refl, refl, refl);
              same_state = record { rest = refl; len = refl };
              same_live = record { rest = refl; len = refl };
              same_store = record { rest = refl; len = refl };
            }

        pub reply_too_many : (put : std.Result Counts Refusal) (left : List ℕ) {x : Refusal} → LeftBy P r (cells handlers) base counts put work left → put ≡ Err x
            → RepliesWorld P word (return_with r (cells args) (cells handlers)) (number x) state live store state live store
        reply_too_many put left {x} o t =
            let m : (x ≡ ManyHandlers) × Many P r (cells handlers) = rw t at o in
            rw m.0 (too_many m.1)

        -- the frames left are l, in the copy
        module _ (put : std.Result Counts Refusal) {l : Counts} (left : List ℕ) (leaves : LeftBy P r (cells handlers) base counts put work left) (put_is : put ≡ Ok l) where
          k : LeavesFrames P r (cells handlers) base counts l work left
          k = rw put_is at leaves

          module _ (w : World) (h : Holding P w state live store) where
            abbrev ret : machine.CallbackReturn
            ret = return_with r (cells args) (cells handlers)

            abbrev M₀ : M
            M₀ = machine_left P word ret (awaits w h)

            laid_left : (l.frames ≡ length (left_of P word ret (awaits w h))) × Laid (left_of P word ret (awaits w h)) l.live (cells left) starts
            laid_left = k.laid (cells args) (awaits w h).number word (awaits w h).stack (awaits w h).handlers (awaits w h).below starts (base_here w h) (count_here w h) (laid_here w h)

            is_running : M₀.result ≡ running
            is_running = (awaits w h).running

            counts_left : l ≡ counts_of M₀
            unfolding result_cost
            counts_left =
                let n = laid_left.0 in
                let c : l.live ≡ frames_cost M₀.frames + result_cost M₀.result = omega (arith, laid_left.1.ends, ap result_cost is_running) in
                let s : l.store ≡ used w.machine.store = k.store ∙ g w h.holds.state in
                λ j. record { frames = n j; live = c j; store = s j }

            stored : Stored w.machine.store (cells store)
            stored = record { free = h.holds.free_store; is = h.holds.store }

            rests : Rests M₀ l (cells state) (cells left) (cells store) starts
            unfolding result_shown
            rests = record {
              counts = counts_left;
              free = laid_left.1.live.free;
              live = laid_left.1.live.is ∙ ap (λ (x : List Cell). flat M₀.frames ++ (x ++ laid_left.1.live.free)) (ap (λ (x : Result). (result_shown x).args) (sym is_running));
              begins = laid_left.1.begins;
              store = stored;
              block = record { stale = w; is = h.holds.state; globals = refl; builtins = refl; result = refl };
            }

            held : Held P M₀ l (cells left) (cells store) starts
            held = record {
              running = is_running;
              counts = counts_left;
              under = record { below = live_below M₀.frames laid_left.1.live; begins = laid_left.1.begins };
              store = stored;
              objects = h.fits.store;
            }

            few_frames : l.frames ≤ 256
            few_frames =
                omega (arith, laid_left.0, left_length P (λ (new : List Cell). host (awaits w h).number word (awaits w h).stack new) (awaits w h).handlers (awaits w h).below (cells args) (cells handlers) r, ap length (awaits w h).frames, h.fits.few)

          pub reply_plannable : Plannable P l.frames r (cells args) (cells left) (cells store) starts
          reply_plannable = record {
            machine = M₀ this held_this;
            counts = l;
            count = refl;
            held = held this held_this;
            handlers = cells handlers;
            fits = (p.passes this held_this).1;
            table = omega (arith, few_frames this held_this, y.table, table);
          }

          -- with the plan
          module _ {plan : Plan} (q : PlansReturn P l.frames r (cells args) (cells left) (cells store) starts plan) where
            carries : (w : World) (h : Holding P w state live store) → Carries P plan (cells args) (M₀ w h) (machine_done P word (ret w h) (awaits w h))
            carries w h = q.carries (M₀ w h) l (cells handlers) refl (held w h) (p.passes w h).1

            pub reply_finishable : {most : ℕ} → most ≡ room live → Finishable plan (cells args) l most state left store starts
            reply_finishable e =
                let w = this in
                let h = held_this in
                let n : room left ≡ 4128 = omega (arith, k.same.len, y.same.len, size) in
                record {
                  program = P;
                  machine = M₀ w h;
                  after = machine_done P word (ret w h) (awaits w h);
                  carries = carries w h;
                  rests = rests w h;
                  held = held w h;
                  table = y.table ∙ table;
                  frames = few_frames w h;
                  cells_live = (omega (arith, length_cells left, ap length (laid_left w h).1.live.is ∙ length-append (flat (M₀ w h).frames) (laid_left w h).1.live.free, (laid_left w h).1.ends, length_flat (M₀ w h).frames), omega (arith, e, n, p.entered.small.0), omega (arith, n));
                  cells_store = (omega (arith, k.store, g w h.holds.state, h.fits.used), omega (arith, p.entered.small.1));
                  few = omega (arith, p.few);
                  block = p.entered.block;
                }

            module _ {most : ℕ} (e : most ≡ room live) {done : std.Result ℕ Refusal} {state' copy store' : List ℕ} (o : Finishes plan (cells args) l most done state left store starts state' copy store') where
              finished : (w : World) (h : Holding P w state live store) → FinishLeaves (rooms_of live store) (machine_done P word (ret w h) (awaits w h)) done state' copy store'
              finished w h =
                  subst (λ (n : ℕ). FinishLeaves (record { live = n; store = room store }) (machine_done P word (ret w h) (awaits w h)) done state' copy store') e
                  (o.leaves P (M₀ w h) (machine_done P word (ret w h) (awaits w h)) (carries w h) (rests w h) (held w h))

              replied_is : (w : World) (h : Holding P w state live store)
                  → replied P (rooms_of live store) word (ret w h) w ≡ if? (eqb (finish_number done) 0) (does (done_by P word (ret w h) (awaits w h)) (machine_done P word (ret w h) (awaits w h))) (stops (finish_number done))
              replied_is w h =
                  let few = few_top P w.machine.store (awaits w h).number (awaits w h).word word (awaits w h).stack (awaits w h).handlers (awaits w h).below (cells args) (cells handlers) r (subst (All (FrameFits P w.machine.store)) (awaits w h).frames h.fits.frames) k.few in
                  reply_fits P word (ret w h) (awaits w h) (p.passes w h).0 (rooms_of live store) (p.passes w h).1 few
                  ∙ ap (λ (n : ℕ). if? (eqb n 0) (does (done_by P word (ret w h) (awaits w h)) (machine_done P word (ret w h) (awaits w h))) (stops n)) (sym (finished w h).answer)

              chosen : (b : Bool) → eqb (finish_number done) 0 ≡ b → (w : World) (h : Holding P w state live store)
                  → if? b (does (done_by P word (ret w h) (awaits w h)) (machine_done P word (ret w h) (awaits w h))) (stops (finish_number done)) ≡ replied P (rooms_of live store) word (ret w h) w
              chosen b e w h =
                  sym (replied_is w h ∙ ap (λ (b : Bool). if? b (does (done_by P word (ret w h) (awaits w h)) (machine_done P word (ret w h) (awaits w h))) (stops (finish_number done))) e)

              pub reply_refused : {x : Refusal} → done ≡ Err x → RepliesWorld P word (return_with r (cells args) (cells handlers)) (number x) state live store state' live store'
              reply_refused {x} e =
                  let kept = o.refused in
                  let u : (state' ≡ state) × (copy ≡ left) × (store' ≡ store) = rw e at kept in
                  let n : finish_number done ≡ number x = ap finish_number e in
                  let z : eqb (finish_number done) 0 ≡ false = ap (λ (k : ℕ). eqb k 0) n ∙ ne_eqb (number x) 0 (number_not_zero x) in
                  record {
                    leaves = λ w h. subst (λ (y : Outcome). Leaves y (number x) state live store state' live store') (ap (λ (k : ℕ). stops k) (sym n) ∙ chosen false z w h) (refl, u.0, refl, u.2);
                    same_state = o.same_state;
                    same_live = record { rest = refl; len = refl };
                    same_store = o.same_store;
                  }

              -- what is done goes back to the live stack
              module _ {count : ℕ} (ok : done ≡ Ok count) where
                cells_here : (w : World) (h : Holding P w state live store) → count ≡ (counts_of (machine_done P word (ret w h) (awaits w h))).live
                cells_here w h = let n = (finished w h).used in rw ok at n

                used_here : (w : World) (h : Holding P w state live store) → count ≡ length (live_cells (world (machine_done P word (ret w h) (awaits w h)) false 64))
                used_here w h =
                    let m' = machine_done P word (ret w h) (awaits w h) in
                    omega (arith, cells_here w h, length-append (flat m'.frames) (result_shown m'.result).args, length_flat m'.frames, args_cost m'.result)

                pub reply_copies : (0 + count ≤ room live) × (0 + count ≤ room copy)
                reply_copies =
                    let z = granted (rooms_of live store) (counts_of (machine_done P word (ret this held_this) (awaits this held_this))) (sym (finished this held_this).answer ∙ ap finish_number ok) in
                    (omega (arith, cells_here this held_this, z.1), omega (arith, cells_here this held_this, z.1, o.same_live.len, k.same.len, y.same.len, size, p.entered.small.0))

                pub reply_done : {live' : List ℕ} → Writes live (paste (cells live) 0 (drop 0 (cells copy)) count) live' → RepliesWorld P word (return_with r (cells args) (cells handlers)) 0 state live store state' live' store'
                reply_done {live'} c = record {
                  leaves = λ w h.
                      let m' = machine_done P word (ret w h) (awaits w h) in
                      let kept = (finished w h).holds in
                      let x : Holds (world m' false 64) (cells state') (cells copy) (cells store') = rw ok at kept in
                      let behind = o.appends P (M₀ w h) m' (carries w h) (rests w h) (held w h) in
                      let front : take count (cells copy) ≡ live_cells (world m' false 64) = ap (take count) x.live ∙ take_at (live_cells (world m' false 64)) x.free_live count (sym (used_here w h)) in
                      subst (λ (o : Outcome). Leaves o 0 state live store state' live' store') (chosen true (ap (λ (d : std.Result ℕ Refusal). eqb (finish_number d) 0) ok) w h)
                      (refl, record { state = x.state; free_live = drop count (cells live); live = c.cells ∙ paste_front (cells live) (cells copy) count ∙ ap (λ (l : List Cell). l ++ drop count (cells live)) front; free_store = x.free_store; store = x.store }, (rw ok at behind).free);
                  same_state = o.same_state;
                  same_live = record { rest = c.rest; len = c.len };
                  same_store = o.same_store;
                }
