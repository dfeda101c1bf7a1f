-- From a world that memory holds to a machine at rest, and back.
use Rattle.std.specs.Prelude.{◌≡◌, refl, List, ◌++◌, Bool, false, ℕ, length}
use Rattle.std.proofs.Common.{sym, ap, ◌∙◌, append_assoc, arith}
use Rattle.cells.specs.Cells.{cells}
use Rattle.cells.specs.declared.Cell.{Cell}
use Rattle.machine.specs.Values.{Program}
use Rattle.machine.specs.Machine.{Result, running, returned, failed, unhandled, M, result_cost}
use Rattle.machine.specs.Calls.{stops, World, world}
use Rattle.machine.specs.Form.{TurnFits, top_of, Top, of_lucia, of_host, of_effect, of_none}
use Rattle.machine.proofs.FormLaws.{MachineFits}
use Rattle.memory.specs.Layout.{flat, result_shown, state_cells, Holds}
use Rattle.moves.specs.Frames.{Live}
use Rattle.states.specs.Worlds.{Changes, Counted, Turned, with_counts, with_turn}
use Rattle.plan.specs.Rest.{Block, Rests}
use Rattle.plan.specs.declared.Counts.{Counts}
use Rattle.plan.proofs.ErrorLaws.{shown_is}
use Rattle.requests.specs.Sent.{Sent, sent_outcome}
use Rattle.requests.specs.Asked.{rooms_of, Holding, LeavesWorld, SentWorld}

-- ---- A world becomes a machine at rest
pub block_of : (w : World) {B : List Cell} → B ≡ state_cells w → Block w.machine B
block_of w e = record { stale = w; is = e; globals = refl; builtins = refl; result = refl }

-- an effect result's arguments, by the state block
pub args_cost : (r : Result) → length (result_shown r).args ≡ result_cost r
unfolding result_shown result_cost
args_cost running = refl
args_cost (returned v) = refl
args_cost (failed x) = ap length (shown_is x).2
args_cost (unhandled e args) = refl

module _ {P : Program} {w : World} {state live store : List ℕ} (h : Holding P w state live store) where
  pub live_of : Live w.machine.frames (cells live)
  live_of = record { free = (result_shown w.machine.result).args ++ h.holds.free_live; is = h.holds.live ∙ append_assoc (flat w.machine.frames) (result_shown w.machine.result).args h.holds.free_live }

  pub machine_fits : MachineFits P (rooms_of live store) w.machine
  machine_fits = record {
    few = h.fits.few;
    frames = h.fits.frames;
    store = h.fits.store;
    result = h.fits.result;
    live = h.fits.live;
    used = h.fits.used;
    globals = h.fits.globals;
    builtins = h.fits.builtins;
    turn = rested (top_of w.machine.result w.machine.frames);
  }
    where
      rested : (t : Top) → TurnFits t false 64
      rested of_lucia = (refl, omega arith)
      rested of_host = refl
      rested of_effect = (refl, refl)
      rested of_none = (refl, refl)

-- ---- A machine at rest becomes a world
stale_shows : (W : World) (m : M) (b : Bool) (left : ℕ) → W.machine.globals ≡ m.globals → W.machine.builtins ≡ m.builtins → W.machine.result ≡ m.result
    → with_turn b left (with_counts m.frames m.store W) ≡ world m b left
stale_shows W m b left g k r = λ j. world (record { frames = m.frames; store = m.store; globals = g j; builtins = k j; result = r j }) b left

pub leaves_world : {c : Counts} {left wait n u : ℕ} {state mid state' : List ℕ} → n ≡ c.frames → u ≡ c.store → Changes (Counted n u) state mid → Changes (Turned left wait) mid state' → LeavesWorld c left wait state state'
leaves_world {c} {left} {wait} {n} {u} {state} {mid} {state'} f e a b = record {
  shows = λ m w k q o.
      let W = k.stale in
      let x : cells mid ≡ state_cells (with_counts m.frames m.store W) =
      a.state W (with_counts m.frames m.store W) (record { frames = f ∙ ap (λ (y : Counts). y.frames) q; used = e ∙ ap (λ (y : Counts). y.store) q; world = refl }) k.is in
      b.state (with_counts m.frames m.store W) (with_turn w left (with_counts m.frames m.store W)) (record { wait = o; world = refl }) x ∙ ap (λ (y : World). state_cells y) (stale_shows W m w left k.globals k.builtins k.result);
  same = record { rest = b.rest ∙ a.rest; len = b.len ∙ a.len };
}

pub rests_holds : {m : M} {c : Counts} {B B' L S : List Cell} {starts : List ℕ} (b : Bool) (left : ℕ) → Rests m c B L S starts → B' ≡ state_cells (world m b left) → Holds (world m b left) B' L S
rests_holds {m} b left r e = record {
  state = e;
  free_live = r.free;
  live = r.live ∙ sym (append_assoc (flat m.frames) (result_shown m.result).args r.free);
  free_store = r.store.free;
  store = r.store.is;
}

-- ---- What is sent and refused leaves every byte
pub sent_refused : {P : Program} {s : Sent} {no : ℕ} {state live store : List ℕ} → ((w : World) → Holding P w state live store → sent_outcome P (rooms_of live store) s w ≡ stops no) → SentWorld P s no state live store state live store
sent_refused {P} {s} {no} {state} {live} {store} e = record {
  leaves = λ w h _. rw (e w h) (refl, refl, refl, refl);
  same_state = record { rest = refl; len = refl };
  same_live = record { rest = refl; len = refl };
  same_store = record { rest = refl; len = refl };
}
