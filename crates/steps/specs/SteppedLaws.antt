-- What the families leave is what an opcode leaves: memory has the machine that the next step leads to.
use Rattle.std.specs.Prelude.{◌≡◌, ℕ, ◌+◌, ◌<◌, length, get_or, Result, Ok, Err}
use Rattle.std.proofs.Math.Path.{refl, ap}
use Rattle.std.proofs.Common.{sym, ◌∙◌}
use mathlib.Core.List.{List, [], ◌∷◌, ◌++◌, append-nil}
use Rattle.cells.specs.Cells.{cells}
use Rattle.cells.specs.CellsLaws.{same_cells}
use Rattle.cells.specs.declared.Cell.{Cell}
use Rattle.image.specs.Program.{Code, no_op, operand_kind}
use Rattle.image.specs.Fine.{OperandIn}
use Rattle.image.specs.declared.Op.{Op}
use Rattle.machine.specs.Values.{Program, code_of}
use Rattle.machine.specs.Machine.{Handler, Frame, lucia, Object, closure, M, with_frames, with_store, used, here, Lookup, object_at}
use Rattle.machine.specs.Opcodes.{Running, Action, makes, Taken, opcode_action, closure_action, next_action}
use Rattle.machine.specs.Calls.{Sizes, does, outcome, Pace, pace_of, is_ready, turn_of}
use Rattle.machine.proofs.Store.{at_keeps, same_code}
use Rattle.machine.proofs.FormLaws.{step_fits}
use Rattle.moves.specs.Runs.{Runs}
use Rattle.moves.specs.Objects.{Stored}
use Rattle.moves.specs.declared.Running as registers
use Rattle.plan.specs.Rest.{Same, Appends, Block}
use Rattle.plan.proofs.RestLaws.{same_refl}
use Rattle.plan.proofs.Appended.{appends_refl, appends_same}
use Rattle.plan.specs.Inside.{Inside, Went, left, Nexts, Does}
use Rattle.plan.specs.declared.Next.{Next}
use Rattle.plan.specs.declared.Next.TheVariants.{Goes, Jumps, Throws}
use Rattle.makes.specs.declared.Made.{Made}
use Rattle.refusals.specs.declared.Refusal.{Refusal}
use Rattle.makes.specs.Made.{Mades, used_by, Sets}
use Rattle.steps.specs.Stepped.{Given, SteppedOn, Stepped, used_after, Steps, StaysOn, after_next, after_made}
use Rattle.steps.specs.declared.After.{After}

-- the running frame with other parts
abbrev pub moved : Running → ℕ → List Cell → List Cell → List Handler → Running
moved r p l st hs = record { handle = r.handle; number = r.number; code = r.code; upvalues = r.upvalues; place = p; locals = l; stack = st; handlers = hs; below = r.below }

closure_next : (P : Program) (m : M) (h p c : ℕ) (us l st : List Cell) (hs : List Handler) (below : List Frame) (x : Lookup) → x ≡ here (closure c us)
    → closure_action P m h p l st hs below x ≡ opcode_action P m (record { handle = h; number = c; code = code_of P c; upvalues = us; place = p + 1; locals = l; stack = st; handlers = hs; below = below })
    (get_or (code_of P c).opcodes p no_op).number (get_or (code_of P c).opcodes p no_op).operand
unfolding closure_action
closure_next P m h p c us l st hs below x e = rw e refl

module _ {P : Program} {z : Sizes} {m : M} {r : Running} {g : registers.Running} {handle code : ℕ} {o : Op} {L S : List Cell} (y : Given P z m r g handle code o L S) where
  -- the next action is the opcode's
  pub next_is : next_action P m m.frames ≡ opcode_action P m r o.number o.operand
  unfolding next_action
  next_is =
      let i = y.inside in
      let p = i.place in
      let a : next_action P m m.frames ≡ next_action P m (lucia r.handle p r.locals r.stack r.handlers ∷ r.below) = ap (next_action P m) i.frames in
      let b = closure_next P m r.handle p r.number r.upvalues r.locals r.stack r.handlers r.below (object_at m.store r.handle) i.closure_there in
      let e : (c : Code) (q : ℕ) → r.code ≡ c → r.place ≡ q
      → opcode_action P m (record { handle = r.handle; number = r.number; code = c; upvalues = r.upvalues; place = q; locals = r.locals; stack = r.stack; handlers = r.handlers; below = r.below })
      (get_or c.opcodes p no_op).number (get_or c.opcodes p no_op).operand ≡ opcode_action P m r (get_or r.code.opcodes p no_op).number (get_or r.code.opcodes p no_op).operand =
      λ c q h k. rw (← h, ← k) refl in
      a ∙ b ∙ e (code_of P r.number) (p + 1) i.code y.past ∙ ap (λ (k : Op). opcode_action P m r k.number k.operand) (sym y.opcode)

  pub ready : turn_of m.result m.frames ≡ is_ready
  unfolding turn_of
  ready = rw (y.inside.running, y.inside.frames) refl

  -- its operand lies in its table
  pub operand_in : OperandIn r.code (operand_kind o.number) o.operand
  operand_in =
      let i = y.inside in
      let f = rw i.frames at i.fits.frames in
      let s = f.0.formed.stands in
      let e : s.code ≡ r.number = same_code s.closure_there i.closure_there in
      let lt : i.place < length (code_of P r.number).opcodes = rw e at s.place in
      rw (i.code, y.opcode) (rw i.code ((y.accepted.fine r.number i.known).operand i.place lt))

  -- the machine after an accepted step whose frame goes on: what memory has of it
  pub stepped_inside : {d : Action} {after : M} {g' : registers.Running} {L' S' : List Cell} (p : ℕ) (l st : List Cell) (hs : List Handler) (new : List Object)
      → outcome P z (opcode_action P m r o.number o.operand) m ≡ does d after → after.frames ≡ left r p l st hs → after.result ≡ m.result → after.store ≡ m.store ++ new
      → Runs r.handle p l st hs r.below g' L' → Stored after.store S' → length L' ≡ length L → length S' ≡ length S → Inside P z after (moved r p l st hs) g' L' S'
  stepped_inside {d} {after} p l st hs new e f q s runs stored n k =
      let i = y.inside in
      record {
        place = p;
        frames = f;
        running = q ∙ i.running;
        closure_there = rw s (at_keeps m.store new r.handle (closure r.number r.upvalues) i.closure_there);
        known = i.known;
        code = i.code;
        runs = runs;
        store = stored;
        fits = step_fits P z y.accepted y.small m d after i.fits ready (ap (λ (t : Taken). outcome P z t m) next_is ∙ e);
        room = n ∙ i.room;
        room_store = k ∙ i.room_store;
      }

-- as many cells as before
kept_cells : {a b : List ℕ} → Same a b → length (cells b) ≡ length (cells a)
kept_cells {a} {b} s = same_cells a b s.len

-- other frames show nothing else in the state block
block_frames : {m : M} {B : List Cell} (F : List Frame) → Block m B → Block (with_frames F m) B
block_frames F b = record { stale = b.stale; is = b.is; globals = b.globals; builtins = b.builtins; result = b.result }

module _ {P : Program} {z : Sizes} {m : M} {r : Running} {g : registers.Running} {handle code : ℕ} {o : Op} (live store : List ℕ) (y : Given P z m r g handle code o (cells live) (cells store)) where
  went_on : {pace : Pace} {g' : registers.Running} {live' : List ℕ} {u : ℕ} {B : List Cell} → Went (outcome P z (opcode_action P m r o.number o.operand) m) pace m r g' (cells live') → Same live live' → Block m B → u ≡ used m.store
      → SteppedOn P z (outcome P z (next_action P m m.frames) m) pace r.below handle code g' u B (cells live') (cells store)
  unfolding stepped_inside
  went_on w s b q =
      let F = left r w.place w.locals w.stack w.handlers in
      record {
        action = w.action;
        after = with_frames F m;
        frame = moved r w.place w.locals w.stack w.handlers;
        is = ap (λ (t : Taken). outcome P z t m) (next_is y) ∙ w.is;
        paces = w.paces;
        inside = stepped_inside y w.place w.locals w.stack w.handlers [] w.is refl refl (sym (append-nil m.store)) w.runs y.inside.store (kept_cells s) refl;
        at = refl;
        below = refl;
        closure = y.closure;
        number = y.number;
        uses = q;
        block = block_frames F b;
      }

  nexts_on : (n : Result Next Refusal) {live' : List ℕ} (state : List ℕ) {u : ℕ} → Nexts P z o.number o.operand m r n live live' → Same live live' → Block m (cells state) → u ≡ used m.store
      → Stepped P z m r handle code u o (after_next n u) state live store state live' store
  nexts_on (Ok (Goes g')) state w s b q = went_on w s b q
  nexts_on (Ok (Jumps g')) state w s b q = went_on w s b q
  nexts_on (Ok (Throws g' x)) state w s b q =
      let t = w.0 in (
        record { error = t.error; place = t.place; locals = t.locals; stack = t.stack; handlers = t.handlers; is = t.is; throws = next_is y ∙ t.throws; runs = t.runs },
        record { state_is = refl; live_is = w.1; store_is = refl },
      )
  nexts_on (Err k) state w s b q = (ap (λ (t : Taken). outcome P z t m) (next_is y) ∙ w.0, record { state_is = refl; live_is = w.1; store_is = refl })

-- no more of the store is used
used_next : (n : Result Next Refusal) (u : ℕ) → used_after u (after_next n u) ≡ u
used_next (Ok (Goes g)) u = refl
used_next (Ok (Jumps g)) u = refl
used_next (Ok (Throws g x)) u = refl
used_next (Err k) u = refl

appends_next : (n : Result Next Refusal) (u : ℕ) (store : List ℕ) → Appends u (used_after u (after_next n u)) store store
appends_next n u store = rw (used_next n u) (appends_refl u store)

-- an opcode that changes nothing but its frame
pub stays_steps : {P : Program} {g : registers.Running} {handle code : ℕ} {o : Op} {n : Result Next Refusal} {a : Result After Refusal} (state : List ℕ) {live store live' : List ℕ} (u : ℕ) → StaysOn P g handle code o n state live store live' → a ≡ after_next n u
    → Steps P g handle code u o a state live store state live' store
stays_steps {n = n} state {live} {store} u s e = rw e (record {
  next = λ z m r y b q. nexts_on live store y n state (s.next z m r y b) s.same b q;
  same_state = same_refl state;
  same_live = s.same;
  appends = appends_next n u store;
})

-- a family that is lent no store and no state block
pub does_stays : {P : Program} {g : registers.Running} (handle code : ℕ) {o : Op} {n : Result Next Refusal} (state store : List ℕ) {live live' : List ℕ} → Does P o.number o.operand g n live live' → StaysOn P g handle code o n state live store live'
does_stays handle code state store d = record { next = λ z m r y b. d.next z m r _ tt y.inside; same = d.same }

-- ---- Opcodes that make an object or set a global
used_made : (n : Result Made Refusal) (u : ℕ) → used_after u (after_made n) ≡ used_by u n
used_made (Ok y) u = refl
used_made (Err k) u = refl

pub makes_steps : {P : Program} {g : registers.Running} {handle code : ℕ} {o : Op} (n : Result Made Refusal) {a : Result After Refusal} (state : List ℕ) {live store live' store' : List ℕ} (u : ℕ)
    → ((z : Sizes) (m : M) (r : Running) → Given P z m r g handle code o (cells live) (cells store) → u ≡ used m.store → Mades P z o.number o.operand m r n live store live' store')
    → Same live live' → Appends u (used_by u n) store store' → a ≡ after_made n → Steps P g handle code u o a state live store state live' store'
unfolding stepped_inside pace_of
makes_steps {P} {g} {handle} {code} {o} n state {live} {store} {live'} {store'} u h s t e = rw e (record {
  next = λ z m r y b q. by n z m r y b (h z m r y q);
  same_state = same_refl state;
  same_live = s;
  appends = rw (used_made n u) t;
})
  where
    by : (n : Result Made Refusal) (z : Sizes) (m : M) (r : Running) → Given P z m r g handle code o (cells live) (cells store) → Block m (cells state) → Mades P z o.number o.operand m r n live store live' store'
        → Stepped P z m r handle code u o (after_made n) state live store state live' store'
    by (Ok o) z m r y b d =
        let F = left r d.place d.locals d.stack d.handlers in
        record {
          action = makes d.object F;
          after = with_store F (m.store ++ (d.object ∷ [])) m;
          frame = moved r d.place d.locals d.stack d.handlers;
          is = ap (λ (k : Taken). outcome P z k m) (next_is y) ∙ d.is;
          paces = refl;
          inside = stepped_inside y d.place d.locals d.stack d.handlers (d.object ∷ []) d.is refl refl refl d.runs d.stored (kept_cells s) (kept_cells (appends_same t));
          at = refl;
          below = refl;
          closure = y.closure;
          number = y.number;
          uses = d.uses;
          block = record { stale = b.stale; is = b.is; globals = b.globals; builtins = b.builtins; result = b.result };
        }
    by (Err k) z m r y b d = (ap (λ (x : Taken). outcome P z x m) (next_is y) ∙ d.0, record { state_is = refl; live_is = d.1; store_is = d.2 })

pub sets_steps : {P : Program} {g : registers.Running} {handle code : ℕ} {o : Op} (n : Result Next Refusal) {a : Result After Refusal} {state state' : List ℕ} (live store : List ℕ) (u : ℕ)
    → ((z : Sizes) (m : M) (r : Running) → Given P z m r g handle code o (cells live) (cells store) → Block m (cells state) → Sets P z o.operand m r n live state state')
    → o.number ≡ 8 → Same state state' → a ≡ after_next n u → Steps P g handle code u o a state live store state' live store
unfolding stepped_inside
sets_steps {P} {g} {handle} {code} {o} n {state = state} {state'} live store u h eight s e = rw e (record {
  next = λ z m r y b q. by n z m r y q (h z m r y b);
  same_state = s;
  same_live = same_refl live;
  appends = appends_next n u store;
})
  where
    by : (n : Result Next Refusal) (z : Sizes) (m : M) (r : Running) → Given P z m r g handle code o (cells live) (cells store) → u ≡ used m.store → Sets P z o.operand m r n live state state'
        → Stepped P z m r handle code u o (after_next n u) state live store state' live store
    by (Ok (Goes g')) z m r y q d =
        let k : outcome P z (opcode_action P m r o.number o.operand) m ≡ does d.action d.after = rw eight d.is in
        record {
          action = d.action;
          after = d.after;
          frame = moved r d.place d.locals d.stack d.handlers;
          is = ap (λ (x : Taken). outcome P z x m) (next_is y) ∙ k;
          paces = d.paces;
          inside = stepped_inside y d.place d.locals d.stack d.handlers [] k d.frames d.result (d.store ∙ sym (append-nil m.store)) d.runs (rw d.store y.inside.store) refl refl;
          at = refl;
          below = refl;
          closure = y.closure;
          number = y.number;
          uses = q ∙ ap (λ (x : List Object). used x) (sym d.store);
          block = d.block;
        }
    by (Ok (Jumps g')) z m r y q d = absurd d
    by (Ok (Throws g' x)) z m r y q d = absurd d
    by (Err k) z m r y q d = (ap (λ (x : Taken). outcome P z x m) (next_is y) ∙ rw eight d.0, record { state_is = d.1; live_is = refl; store_is = refl })
