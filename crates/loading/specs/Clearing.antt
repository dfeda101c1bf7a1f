-- A clear drops frames, result, wait and slice.
use Rattle.std.specs.Prelude.{◌≡◌, refl, List, ℕ, Result, Ok, Err}
use Rattle.std.proofs.Math.Path.{ap}
use Rattle.std.proofs.Math.Bool.{true}
use Rattle.cells.specs.Cells.{cells, Writes}
use Rattle.cells.specs.declared.Cell.{Cell}
use Rattle.image.specs.Records.{Answer, refused, accepted}
use Rattle.machine.specs.Machine.{M}
use Rattle.machine.specs.Opcodes.{Action, clears, doing}
use Rattle.machine.specs.Calls.{Request, clear, request_world}
use Rattle.memory.specs.Layout.{Holds, result_shown, flat}
use Rattle.form.specs.Entry.{Entered, entry, live_of, store_of}
use Rattle.asks.specs.Asks.{sizes_of, answer, Asked}
use Rattle.refusals.specs.Refusals.{number}
use Rattle.refusals.specs.declared.Refusal.{Refusal}
use Rattle.asks.specs.Entries.{says, entry_of}
use Rattle.asks.specs.Ready.{Ready, on_entry}
use Rattle.asks.specs.Requests.{clear_plain}
use Rattle.asks.specs.Writing.{wrote, Both, both_asked}
use Rattle.loading.specs.Fresh.{cleared, Clearing}

module _ {e : Entered} {state live store : List ℕ} (r : Ready e state live store) where
  abbrev at : M
  at = e.world.machine

  abbrev After : Action → Request → List Cell → Type 0
  After d q l = Holds (request_world q e.world (doing e.program d at)) l (live_of live) (store_of store)

  pub clear_set : After clears clear (cleared (cells state))
  unfolding request_world doing flat result_shown
  clear_set = record {
    state = ap cleared r.holds.state;
    free_live = live_of live;
    live = refl;
    free_store = r.holds.free_store;
    store = r.holds.store;
  }

-- ---- The contract
module _ (image state live store : List ℕ) (r : ℕ) (state' : List ℕ) where
  abbrev X : Answer Entered
  X = entry image state live store

  pub asked_clear : Clearing state X r state' → Asked clear image state live store r state'
  unfolding answer
  asked_clear h =
      both_asked image state live store r state' clear (on_entry image state live store (λ x. Clearing state x r state' → Both image state live store r state' clear x) (λ n w. w)
      (λ e k w. wrote k clear true clears (cleared (cells state)) r state' (clear_plain e.program (sizes_of live store) e.world k.fits) (λ _. clear_set k) w) h)

module _ (image state live store : List ℕ) {o : Result (Unit {0}) Refusal} (w : says o ≡ entry_of (entry image state live store)) where
  pub clear_not : {r : Refusal} → o ≡ Err r → Asked clear image state live store (number r) state
  clear_not {r} e = asked_clear image state live store (number r) state (by (entry image state live store) (rw e at w))
    where
      by : (x : Answer Entered) → refused (number r) ≡ entry_of x → Clearing state x (number r) state
      by (refused m) h = (cc, refl)
      by (accepted e) h = cc

  pub clear_in : {u : Unit {0}} {state' : List ℕ} → o ≡ Ok u → Writes state (cleared (cells state)) state' → Asked clear image state live store 0 state'
  clear_in {u} {state'} e q = asked_clear image state live store 0 state' (by (entry image state live store) (rw e at w))
    where
      by : (x : Answer Entered) → accepted u ≡ entry_of x → Clearing state x 0 state'
      by (refused m) h = cc
      by (accepted e) h = (refl, q)
