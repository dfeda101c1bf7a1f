-- A request that writes the state block alone, or nothing.
use Rattle.std.specs.Prelude.{◌≡◌, refl, List, Bool, true, false, ℕ, length}
use Rattle.std.proofs.Common.{sym, ap, ◌∙◌}
use Rattle.cells.specs.Cells.{Writes}
use Rattle.cells.specs.declared.Cell.{Cell}
use Rattle.image.specs.Records.{Answer}
use Rattle.machine.specs.Opcodes.{Action, doing}
use Rattle.machine.specs.Calls.{Request, asks, call_of, answer_of, request_world}
use Rattle.memory.specs.Layout.{Holds}
use Rattle.form.specs.Entry.{Entered, entry, live_of, store_of}
use Rattle.asks.specs.Asks.{sizes_of, answer, Leaves, Left, Asked}
use Rattle.asks.specs.Ready.{Ready}
use Rattle.asks.specs.Requests.{Plain, answers, leaves}

-- 0 and the cells l, or 5 and nothing
abbrev pub Writing : Bool → List Cell → List ℕ → ℕ → List ℕ → Type 0
Writing true l state r state' = (r ≡ 0) × Writes state l state'
Writing false l state r state' = (r ≡ 5) × (state' ≡ state)

-- a request that writes the cells l of the state block, or is refused with 5
pub wrote : {e : Entered} {state live store : List ℕ} (k : Ready e state live store) (q : Request) (b : Bool) (d : Action) (l : List Cell) (r : ℕ) (state' : List ℕ)
    → Plain e.program (sizes_of live store) q e.world b d → (b ≡ true → Holds (request_world q e.world (doing e.program d e.world.machine)) l (live_of live) (store_of store)) → Writing b l state r state'
    → (r ≡ answer_of (call_of e.program (sizes_of live store) (asks q) e.world)) × Leaves (sizes_of live store) q e state live store state'
wrote k q true d l r state' p h w =
    (w.0 ∙ sym (answers p), record { holds = rw (leaves p, w.1.cells) (h refl); len = w.1.len; refuses = λ n. absurd (n (answers p)) })
wrote k q false d l r state' p h w =
    (w.0 ∙ sym (answers p), record { holds = rw (leaves p, w.1) k.holds; len = ap length w.1; refuses = λ n. w.1 })

module _ (image state live store : List ℕ) (r : ℕ) (state' : List ℕ) where
  abbrev pub Both : Request → Answer Entered → Type 0
  Both q x = (r ≡ answer (sizes_of live store) q x) × Left (sizes_of live store) q x state live store state'

  pub both_asked : (q : Request) → Both q (entry image state live store) → Asked q image state live store r state'
  both_asked q b = record { answers = b.0; leaves = b.1 }
