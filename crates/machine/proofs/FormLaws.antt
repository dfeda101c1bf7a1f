-- Form is closed under the rules: every call of the host but an accepted load leads from a world in form to one in form, so every world that calls lead to is in form.
use Rattle.std.proofs.Math.Path.{◌≡◌, refl}
use Rattle.std.proofs.Common.{◌∙◌, arith}
use mathlib.Core.List.{List, [], ◌∷◌, map}
use Rattle.std.specs.Prelude.{Bool, length, replicate, ltb, eqb}
use Rattle.std.proofs.Math.Bool.{true, false}
use Prim.Native.Nat.{ℕ, zero, suc, ◌-◌, ◌≤◌}
use Rattle.std.proofs.lemmas.List.{length-replicate}
use borrow.Author.Tests.{ltb-false}
use Rattle.cells.specs.Cells.{null}
use Rattle.fuel.specs.declared.Fuel.{Fuel}
use Rattle.fuel.specs.Fuels.{should_continue}
use Rattle.image.specs.Records.{if?, Answer, refused, accepted}
use Rattle.image.specs.Program.{Code}
use Rattle.image.specs.Image.{parse}
use Rattle.image.specs.Fine.{Accepted}
use Rattle.image.proofs.Accepted.{accepted_fine}
use Rattle.machine.specs.Values.{Program, code_of}
use Rattle.machine.specs.Machine.{Frame, lucia, host, effect_callback, Result, running, returned, failed, unhandled, M, frames_cost, used, result_cost, Object}
use Rattle.machine.specs.Opcodes.{Action, goes, jumps, makes, sets, sets_builtin, calls, performs, throws, returns, clears, doing, Taken, takes, refuses, next_action}
use Rattle.machine.specs.Calls.{Sizes, handlers_left, Outcome, does, stops, judge, outcome, World, world, Trace, world_after, Turn, is_done, is_host, is_ready, turn_of, pace_of, charge, goes_on, no_ticks, tick, run, Request, start, answer, clear, text, bytes, set_global, get_global, set_builtin, get_builtin, fit, request_action, request_world, end_of, asked, loaded_machine, loaded, load_of, program_of, load, Call, runs, asks, loads, load_trace, call_of, calls_of, lent, top_handlers}
use Rattle.machine.specs.Demand.{All, RefusedLoad}
use Rattle.machine.specs.StepLaws.{Fits, LuciaTop, lucia_top, StaysOn}
use Rattle.machine.proofs.StepLaws.{if_cases, doing_kept, step_law, accepted_step, ready_running}
use Rattle.machine.specs.RunLaws.{charged}
use Rattle.machine.specs.Formed.{FrameFormed, LeftFormed}
use Rattle.machine.proofs.Formed.{all_map}
use Rattle.machine.proofs.FormedLaws.{next_formed, request_formed, taken_formed}
use Rattle.machine.specs.Form.{Top, of_lucia, of_host, of_effect, of_none, top_of, TurnFits, WorldFits, FrameFits}
use Rattle.machine.specs.ValueLaws.{Value}
use Rattle.machine.proofs.ValueLaws.{values_all, all_values, all_replicate, null_value}
use Rattle.machine.specs.FormRules.{Held, LeftCarries}
use Rattle.machine.proofs.FormRules.{doing_held}
use Rattle.machine.proofs.FormActions.{next_carries, request_carries, taken_carries}
use Rattle.machine.specs.FormLaws.{LoadedAs}

-- the top frame of those that fit has at most 16 handlers
pub top_few : (P : Program) (s : List Object) (F : List Frame) → All (FrameFits P s) F → top_handlers F ≤ 16
unfolding top_handlers
top_few P s [] a = omega arith
top_few P s (f ∷ F) a = a.0.formed.handlers

-- ---- Turns
-- no wait and no slice fit any frame
turn_new : (m : M) → TurnFits (top_of m.result m.frames) false 64
turn_new m = by (top_of m.result m.frames)
  where
    by : (t : Top) → TurnFits t false 64
    by of_lucia = (refl, omega arith)
    by of_host = refl
    by of_effect = (refl, refl)
    by of_none = (refl, refl)

pub turn_most : (t : Top) (b : Bool) (left : ℕ) → TurnFits t b left → left ≤ 64
turn_most of_lucia b left h = h.1
turn_most of_host b left h = omega (arith, h)
turn_most of_effect b left h = omega (arith, h.1)
turn_most of_none b left h = omega (arith, h.1)

-- a wait may begin where a host callback is next
turn_wait : (r : Result) (F : List Frame) (left : ℕ) → turn_of r F ≡ is_host → TurnFits (top_of r F) false left → TurnFits (top_of r F) true left
unfolding turn_of top_of
turn_wait running [] left q h = let z : ◌≡◌ {A = ℕ} 0 1 = cc in absurd (omega arith)
turn_wait running (lucia c p l st hs ∷ F) left q h = let z : ◌≡◌ {A = ℕ} 0 1 = cc in absurd (omega arith)
turn_wait running (host n w st hs ∷ F) left q h = h
turn_wait running (effect_callback e st hs ∷ F) left q h = let z : ◌≡◌ {A = ℕ} 0 1 = cc in absurd (omega arith)
turn_wait (returned v) F left q h = let z : ◌≡◌ {A = ℕ} 0 1 = cc in absurd (omega arith)
turn_wait (failed x) F left q h = let z : ◌≡◌ {A = ℕ} 0 1 = cc in absurd (omega arith)
turn_wait (unhandled e args) F left q h = let z : ◌≡◌ {A = ℕ} 0 1 = cc in absurd (omega arith)

-- a slice goes on where the running frame is left on top
turn_on : (r : Result) (F : List Frame) (left : ℕ) → r ≡ running → LuciaTop F → left ≤ 64 → TurnFits (top_of r F) false left
unfolding top_of
turn_on r F left q lucia_top l = rw q (refl, l)

module _ (P : Program) (z : Sizes) where
  -- ---- Worlds
  -- A machine in form: it is so with no wait and no slice.
  abbrev pub MachineFits : M → Type 0
  MachineFits m = WorldFits P z (world m false 64)

  turned : (m : M) (b : Bool) (left : ℕ) → MachineFits m → TurnFits (top_of m.result m.frames) b left → WorldFits P z (world m b left)
  turned m b left w t = record { few = w.few; frames = w.frames; store = w.store; result = w.result; live = w.live; used = w.used; globals = w.globals; builtins = w.builtins; turn = t }

  rested : (w : World) → WorldFits P z w → MachineFits w.machine
  rested w h = record { few = h.few; frames = h.frames; store = h.store; result = h.result; live = h.live; used = h.used; globals = h.globals; builtins = h.builtins; turn = turn_new w.machine }

  held : (m : M) → MachineFits m → Held P m
  held m w = record { frames = w.frames; store = w.store; result = w.result; globals = values_all P m.store m.globals w.globals.1; builtins = values_all P m.store m.builtins w.builtins.1 }

  formed : (m : M) → MachineFits m → All (FrameFormed P m.store) m.frames
  formed m w = all_map (λ f h. h.formed) m.frames w.frames

  -- ---- Runs
  -- how a run goes on from a machine in form
  abbrev Goes : ℕ → Type 0
  Goes t = (fuel : Fuel) (left : ℕ) (m : M) → MachineFits m → TurnFits (top_of m.result m.frames) false left → WorldFits P z (world_after (run P z t fuel left m))

  charge_fits : (t : ℕ) → Goes t → (fuel : Fuel) (c : ℕ) (m : M) → MachineFits m → WorldFits P z (world_after (charge (run P z t) fuel c m))
  unfolding charge world_after
  charge_fits t ih fuel c m w = if_cases (λ (r : Trace). WorldFits P z (world_after r)) (should_continue (charged fuel c)) _ _ (λ _. ih (charged fuel c) 64 m w (turn_new m)) (λ _. w)

  counted_fits : (t : ℕ) → Goes t → (fuel : Fuel) (left : ℕ) (m : M) → MachineFits m → ((k : ℕ) → k ≤ 64 → TurnFits (top_of m.result m.frames) false k) → left ≤ 64
      → WorldFits P z (world_after (if? (eqb left 0) (charge (run P z t) fuel 0 m) (run P z t fuel (left - 1) m)))
  counted_fits t ih fuel left m w h l =
      if_cases (λ (r : Trace). WorldFits P z (world_after r)) (eqb left 0) _ _ (λ _. charge_fits t ih fuel 0 m w) (λ _. ih fuel (left - 1) m w (h (left - 1) (omega (arith, l))))

  on_fits : (t : ℕ) → Goes t → (fuel : Fuel) (left : ℕ) (d : Action) (m : M) → m.result ≡ running → StaysOn d → left ≤ 64 → MachineFits (doing P d m) → WorldFits P z (world_after (goes_on (run P z t) fuel left (doing P d m) (pace_of d)))
  unfolding goes_on pace_of doing
  on_fits t ih fuel left (goes F) m q s l w = counted_fits t ih fuel left _ w (λ k. turn_on m.result F k q s) l
  on_fits t ih fuel left (jumps F) m q s l w = ih fuel left _ w (turn_on m.result F left q s l)
  on_fits t ih fuel left (makes o F) m q s l w = counted_fits t ih fuel left _ w (λ k. turn_on m.result F k q s) l
  on_fits t ih fuel left (sets g v F) m q s l w = counted_fits t ih fuel left _ w (λ k. turn_on m.result F k q s) l
  on_fits t ih fuel left (sets_builtin g v F) m q s l w = counted_fits t ih fuel left _ w (λ k. turn_on m.result F k q s) l
  on_fits t ih fuel left (calls f args F) m q s l w = charge_fits t ih fuel left _ w
  on_fits t ih fuel left (performs e args F) m q s l w = charge_fits t ih fuel 8 _ w
  on_fits t ih fuel left (throws x F) m q s l w = charge_fits t ih fuel 0 _ w
  on_fits t ih fuel left (returns v F) m q s l w = charge_fits t ih fuel left _ w
  on_fits t ih fuel left clears m q s l w = absurd s

  -- ---- Requests
  -- An outcome that, if it is done, leads to a machine that is Q.
  abbrev Doing : (M → Type 0) → Outcome → Type 0
  Doing Q (does d m) = Q m
  Doing Q (stops n) = Unit {0}

  judge_doing : (Q : M → Type 0) (d : Action) (m : M) → (handlers_left d ≤ 16 → Fits z m → Q m) → Doing Q (judge z d m)
  unfolding judge
  judge_doing Q d m h =
      if_cases (Doing Q) _ _ _ (λ _. tt) (λ b.
      if_cases (Doing Q) _ _ _ (λ _. tt) (λ c.
      if_cases (Doing Q) _ _ _ (λ _. tt) (λ e.
      if_cases (Doing Q) _ _ _ (λ _. tt) (λ f. h (ltb-false _ _ b) (record { frames = ltb-false _ _ c; live = ltb-false _ _ e; store = ltb-false _ _ f })))))

  -- a request that looks or sets leaves frames and result, and so the turn, as they were
  looked : (w : World) (b : Bool) (x d : Action) → fit b x ≡ takes d → TurnFits (top_of (doing P x w.machine).result (doing P x w.machine).frames) w.wait w.slice → MachineFits (doing P d w.machine)
      → WorldFits P z (world (doing P d w.machine) w.wait w.slice)
  unfolding fit
  looked w true x d e t f = let y : x ≡ d = cc in turned (doing P d w.machine) w.wait w.slice f (rw y at t)
  looked w false x d e t f = let y : ◌≡◌ {A = ℕ} 0 1 = cc in absurd (omega arith)

  requested : (q : Request) (w : World) (d : Action) → request_action P q w ≡ takes d → WorldFits P z w → MachineFits (doing P d w.machine) → WorldFits P z (request_world q w (doing P d w.machine))
  unfolding request_action request_world doing
  requested (start f args) w d e h k = k
  requested (answer word fuel r) w d e h k = k
  requested clear w d e h k = k
  requested (text page v) w d e h k = looked w _ _ d e h.turn k
  requested (bytes v) w d e h k = looked w _ _ d e h.turn k
  requested (set_global g v) w d e h k = looked w _ _ d e h.turn k
  requested (get_global g) w d e h k = looked w _ _ d e h.turn k
  requested (set_builtin g v) w d e h k = looked w _ _ d e h.turn k
  requested (get_builtin g) w d e h k = looked w _ _ d e h.turn k

  end_world : (q : Request) (w : World) (m : M) → world_after (end_of P q w m) ≡ request_world q w m
  unfolding end_of world_after
  end_world (start f args) w m = refl
  end_world (answer word fuel r) w m = refl
  end_world clear w m = refl
  end_world (text page v) w m = refl
  end_world (bytes v) w m = refl
  end_world (set_global g v) w m = refl
  end_world (get_global g) w m = refl
  end_world (set_builtin g v) w m = refl
  end_world (get_builtin g) w m = refl

  asked_fits : (q : Request) (w : World) (o : Outcome) → WorldFits P z w → Doing (λ (m : M). WorldFits P z (request_world q w m)) o → WorldFits P z (world_after (asked P q w o))
  unfolding asked world_after
  asked_fits q w (does d m) h k = rw (end_world q w m) k
  asked_fits q w (stops n) h k = h

  module _ (a : Accepted P.image P.codes) (small : z.live ≤ 4096) where
    done_fits : (d : Action) (m : M) → MachineFits m → LeftFormed P m.store d → LeftCarries P m.store d → Fits z (doing P d m) → MachineFits (doing P d m)
    done_fits d m w k c f =
        let n = doing P d m in
        let h = doing_held P a d m (held m w) k c in
        let t = doing_kept P d m in
        record {
          few = f.frames;
          frames = h.frames;
          store = h.store;
          result = h.result;
          live = f.live;
          used = f.store;
          globals = (t.globals ∙ w.globals.0, all_values P n.store n.globals h.globals);
          builtins = (t.builtins ∙ w.builtins.0, all_values P n.store n.builtins h.builtins);
          turn = turn_new n;
        }

    -- An accepted step leads from a machine in form to one in form.
    pub step_fits : (m : M) (d : Action) (after : M) → MachineFits m → turn_of m.result m.frames ≡ is_ready → outcome P z (next_action P m m.frames) m ≡ does d after → MachineFits after
    step_fits m d after w q e =
        let c = accepted_step P z _ m d after (rw e at (step_law P z m q)) in
        let k = taken_formed d (next_formed P a m m.frames (formed m w)) c.next c.handlers in
        let v = taken_carries d (next_carries P a m m.frames (held m w) w.frames w.few (omega (arith, w.live, small))) c.next in
        rw c.done (done_fits d m w k v (rw c.done at c.fits))

    -- A run leads from a machine in form to a world in form.
    pub run_fits : (t : ℕ) → Goes t
    unfolding run no_ticks tick world_after
    run_fits zero fuel left m w h = by (turn_of m.result m.frames) refl
      where
        by : (u : Turn) → turn_of m.result m.frames ≡ u → WorldFits P z (world_after (no_ticks fuel left u m))
        by is_done q = turned m false left w h
        by is_host q = turned m true left w (turn_wait m.result m.frames left q h)
        by is_ready q = turned m false left w h
    run_fits (suc t) fuel left m w h = by (turn_of m.result m.frames) refl (outcome P z (next_action P m m.frames) m) refl (run_fits t)
      where
        by : (u : Turn) → turn_of m.result m.frames ≡ u → (o : Outcome) → outcome P z (next_action P m m.frames) m ≡ o → Goes t → WorldFits P z (world_after (tick (run P z t) fuel left u m o))
        by is_done q o e ih = turned m false left w h
        by is_host q o e ih = turned m true left w (turn_wait m.result m.frames left q h)
        by is_ready q (does d m') e ih =
            let c = accepted_step P z _ m d m' (rw e at (step_law P z m q)) in
            rw c.done (on_fits t ih fuel left d m (ready_running m.result m.frames q) c.stays (turn_most (top_of m.result m.frames) false left h) (rw c.done at (step_fits m d m' w q e)))
        by is_ready q (stops n) e ih = turned m false left w h

    request_fits : (q : Request) (w : World) → WorldFits P z w → Doing (λ (m : M). WorldFits P z (request_world q w m)) (outcome P z (request_action P q w) w.machine)
    unfolding outcome
    request_fits q w h = by (request_action P q w) refl
      where
        m : M
        m = w.machine

        by : (t : Taken) → request_action P q w ≡ t → Doing (λ (m : M). WorldFits P z (request_world q w m)) (outcome P z t w.machine)
        by (takes d) e = judge_doing (λ (m : M). WorldFits P z (request_world q w m)) d (doing P d m) (λ l f.
            let r = rested w h in
            let k = taken_formed d (request_formed P q w (formed m r)) e l in
            let v = taken_carries d (request_carries P q w h.frames h.few) e in
            requested q w d e h (done_fits d m r k v f))
        by (refuses n) e = tt

    -- ---- Calls
    call_fits : (c : Call) → RefusedLoad z c → (w : World) → WorldFits P z w → WorldFits P z (world_after (call_of P z c w))
    unfolding call_of load_trace world_after
    call_fits (runs t fuel) r w h =
        if_cases (λ (x : Trace). WorldFits P z (world_after x)) w.wait _ _ (λ _. h) (λ q. run_fits t fuel w.slice w.machine (rested w h) (rw q at h.turn))
    call_fits (asks q) r w h = asked_fits q w _ h (request_fits q w h)
    call_fits (loads image) r w h = by (load image z) refl
      where
        by : (x : Answer Program) → load image z ≡ x → WorldFits P z (world_after (load_trace w x))
        by (refused n) e = h
        by (accepted R) e = absurd (r R e)

    calls_fit : (cs : List Call) → All (RefusedLoad z) cs → (w : World) → WorldFits P z w → WorldFits P z (calls_of P (map (lent z) cs) w)
    unfolding calls_of
    calls_fit [] r w h = h
    calls_fit (c ∷ cs) r w h = calls_fit cs r.1 (world_after (call_of P z c w)) (call_fits c r.0 w h)

-- ---- The theorem
-- Every call of the host but an accepted load leads from a world in form to one in form, where at most 4,096 live cells are lent.
pub form_law : (P : Program) (z : Sizes) → Accepted P.image P.codes → z.live ≤ 4096 → (c : Call) → RefusedLoad z c → (w : World) → WorldFits P z w → WorldFits P z (world_after (call_of P z c w))
form_law P z a small c r w h = call_fits P z a small c r w h

pub loaded_as : (P : Program) (z : Sizes) (image : List ℕ) → load image z ≡ accepted P → LoadedAs P z image
unfolding load_of program_of
loaded_as P z image = by (parse image) refl
  where
    room : (R : Program) (b : Bool) → ltb z.store (used (loaded_machine R).store) ≡ b → parse R.image ≡ accepted R.codes → R.image ≡ image → if? b (refused 15) (accepted R) ≡ accepted P → LoadedAs P z image
    room R true l q i e = let y : ◌≡◌ {A = ℕ} 0 1 = cc in absurd (omega arith)
    room R false l q i e = let y : R ≡ P = cc in let h : LoadedAs R z image = record { parsed = q; image = i; used = ltb-false _ _ l } in rw y at h

    by : (x : Answer (List Code)) → parse image ≡ x → load_of image z (program_of image x) ≡ accepted P → LoadedAs P z image
    by (refused n) q e = let y : ◌≡◌ {A = ℕ} 0 1 = cc in absurd (omega arith)
    by (accepted cs) q e = room (record { image = image; codes = cs }) _ refl q refl e

-- The world that an accepted load makes is in form.
pub load_form : (P : Program) (z : Sizes) (image : List ℕ) → load image z ≡ accepted P → WorldFits P z (loaded P)
unfolding loaded_machine frames_cost result_cost top_of
load_form P z image e =
    let k = loaded_as P z image e in
    let a = accepted_fine P.image P.codes k.parsed in
    let n = length (code_of P 0).captures in
    let s = (loaded_machine P).store in
    record {
      few = omega arith;
      frames = tt;
      store = ((omega (arith, a.some), length-replicate n null, all_values P [] (replicate n null) (all_replicate (Value P []) n null (null_value P []))), tt);
      result = tt;
      live = omega arith;
      used = k.used;
      globals = (length-replicate 256 null, all_values P s (replicate 256 null) (all_replicate (Value P s) 256 null (null_value P s)));
      builtins = (length-replicate 256 null, all_values P s (replicate 256 null) (all_replicate (Value P s) 256 null (null_value P s)));
      turn = (refl, refl);
    }

-- Every world that calls lead to from an accepted load is in form.
pub calls_form : (P : Program) (z : Sizes) (image : List ℕ) → load image z ≡ accepted P → z.live ≤ 4096 → (cs : List Call) → All (RefusedLoad z) cs → WorldFits P z (calls_of P (map (lent z) cs) (loaded P))
calls_form P z image e small cs r = calls_fit P z (accepted_fine P.image P.codes (loaded_as P z image e).parsed) small cs r (loaded P) (load_form P z image e)
