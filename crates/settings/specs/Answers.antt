-- What a set writes is what the machine's definitions say of the world that memory holds.
use Rattle.std.specs.Prelude.{◌≡◌, ℕ, ◌+◌, ◌<◌, ltb}
use Rattle.std.proofs.Math.Path.{ap}
use Rattle.std.proofs.Common.{◌∙◌, ltb-true}
use mathlib.Core.List.{List, ◌++◌}
use native.Mathlib.Omega.{arith}
use Rattle.std.proofs.Math.ListN.{length, set}
use Rattle.std.proofs.lemmas.List.{set-append_left}
use Rattle.cells.specs.Cells.{cells}
use Rattle.cells.specs.declared.Cell.{Cell}
use Rattle.image.specs.Records.{both, Answer}
use Rattle.image.proofs.Parts.{first, both_swap}
use Rattle.machine.specs.Machine.{M}
use Rattle.machine.specs.Opcodes.{Action, sets, sets_builtin, doing}
use Rattle.machine.specs.Calls.{is_value, Request, set_global, set_builtin, request_world}
use Rattle.memory.specs.Layout.{Holds, state_head, state_cells, result_shown}
use Rattle.memory.proofs.Lists.{set_append_add}
use Rattle.form.specs.Entry.{Entered, entry, live_of, store_of}
use Rattle.asks.specs.Asks.{sizes_of, answer, Asked}
use Rattle.asks.specs.Entries.{exists}
use Rattle.asks.specs.Ready.{Ready, exists_is, on_entry}
use Rattle.asks.specs.Requests.{set_global_lem, set_builtin_lem}
use Rattle.asks.specs.Writing.{Writing, wrote, Both, both_asked}
use Rattle.settings.specs.Settings.{Setting}

module _ {e : Entered} {state live store : List ℕ} (r : Ready e state live store) where
  abbrev at : M
  at = e.world.machine

  abbrev After : Action → Request → List Cell → Type 0
  After d q l = Holds (request_world q e.world (doing e.program d at)) l (live_of live) (store_of store)

  pub global_set : (g : ℕ) (v : Cell) → g < 256 → After (sets g v at.frames) (set_global g v) (set (cells state) (4 + g) v)
  unfolding request_world doing
  global_set g v l = record {
    state = ap (λ (x : List Cell). set x (4 + g) v) r.holds.state
        ∙ set_append_add (state_head e.world (result_shown at.result)) (at.globals ++ at.builtins) g v
        ∙ ap (λ (x : List Cell). state_head e.world (result_shown at.result) ++ x) (set-append_left at.globals at.builtins g v (omega (arith, r.fits.globals.0)));
    free_live = r.holds.free_live;
    live = r.holds.live;
    free_store = r.holds.free_store;
    store = r.holds.store;
  }

  pub builtin_set : (g : ℕ) (v : Cell) → After (sets_builtin g v at.frames) (set_builtin g v) (set (cells state) (260 + g) v)
  unfolding request_world doing
  builtin_set g v =
      let a : 260 + g ≡ 4 + (256 + g) = omega arith in
      let b : 256 + g ≡ length at.globals + g = omega (arith, r.fits.globals.0) in
      record {
        state = ap (λ (x : List Cell). set x (260 + g) v) r.holds.state ∙ ap (λ (n : ℕ). set (state_cells e.world) n v) a
            ∙ set_append_add (state_head e.world (result_shown at.result)) (at.globals ++ at.builtins) (256 + g) v
            ∙ ap (λ (x : List Cell). state_head e.world (result_shown at.result) ++ x) (ap (λ (n : ℕ). set (at.globals ++ at.builtins) n v) b ∙ set_append_add at.globals at.builtins g v);
        free_live = r.holds.free_live;
        live = r.holds.live;
        free_store = r.holds.free_store;
        store = r.holds.store;
      }

-- ---- The contracts
module _ (image state live store : List ℕ) (r : ℕ) (state' : List ℕ) where
  abbrev X : Answer Entered
  X = entry image state live store

  -- the value is tested before the number, or after it
  swapped : {e : Entered} (k : Ready e state live store) (g : ℕ) (v : Cell) (l : List Cell) → Writing (both (exists e state store v) (ltb g 256)) l state r state'
      → Writing (both (ltb g 256) (is_value e.program e.world.machine.store v)) l state r state'
  swapped {e} k g v l w = rw (← exists_is k v, both_swap (ltb g 256) (exists e state store v)) w

  global_asked : (g : ℕ) (v : Cell) → Setting 4 g v state store X r state' → Asked (set_global g v) image state live store r state'
  unfolding answer
  global_asked g v h =
      both_asked image state live store r state' (set_global g v) (on_entry image state live store (λ x. Setting 4 g v state store x r state' → Both image state live store r state' (set_global g v) x) (λ n w. w)
      (λ e k w. wrote k (set_global g v) _ (sets g v e.world.machine.frames) (set (cells state) (4 + g) v) r state' (set_global_lem e.program (sizes_of live store) e.world k.fits g v)
      (λ t. global_set k g v (ltb-true g 256 (first _ _ t))) (swapped k g v _ w)) h)

  builtin_asked : (g : ℕ) (v : Cell) → Setting 260 g v state store X r state' → Asked (set_builtin g v) image state live store r state'
  unfolding answer
  builtin_asked g v h =
      both_asked image state live store r state' (set_builtin g v) (on_entry image state live store (λ x. Setting 260 g v state store x r state' → Both image state live store r state' (set_builtin g v) x) (λ n w. w)
      (λ e k w. wrote k (set_builtin g v) _ (sets_builtin g v e.world.machine.frames) (set (cells state) (260 + g) v) r state' (set_builtin_lem e.program (sizes_of live store) e.world k.fits g v)
      (λ t. builtin_set k g v) (swapped k g v _ w)) h)

  pub asked_global : (g : ℕ) {u v : Cell} {n : ℕ} → u ≡ v → Setting 4 g u state store X n state' → r ≡ n → Asked (set_global g v) image state live store r state'
  asked_global g e h q = rw (← e) (global_asked g _ (rw q h))

  pub asked_builtin : (g : ℕ) {u v : Cell} {n : ℕ} → u ≡ v → Setting 260 g u state store X n state' → r ≡ n → Asked (set_builtin g v) image state live store r state'
  asked_builtin g e h q = rw (← e) (builtin_asked g _ (rw q h))
