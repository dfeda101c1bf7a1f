-- The opcode that closes a slice, by its kind.
use Rattle.std.specs.Prelude.{◌≡◌, List, ℕ, Result}
use Rattle.std.proofs.Common.{sym}
use Rattle.std.proofs.Math.Path.{subst}
use Rattle.machine.specs.Values.{Program}
use Rattle.moves.specs.declared.Running as registers
use Rattle.steps.specs.declared.Closing.{Closing}
use Rattle.steps.specs.declared.Closing.TheVariants.{Call, Return, ReturnCall}
use Rattle.closing.specs.Closed.{closing_number, Closable, Closes}
use Rattle.refusals.specs.declared.Refusal.{Refusal}
use Rattle.acts.specs.declared.Acted.{Acted}

module _ {P : Program} {frames u : ℕ} {g : registers.Running} {x : ℕ} {state live store starts : List ℕ} {k : Closing} where
  module _ {args : List ℕ} where
    pub closable_call : k ≡ Call → Closable P (closing_number k) frames u g x state live store starts args → Closable P 36 frames u g x state live store starts args
    unfolding closing_number
    closable_call e c = subst (λ (j : Closing). Closable P (closing_number j) frames u g x state live store starts args) e c

    pub closable_tail : k ≡ ReturnCall → Closable P (closing_number k) frames u g x state live store starts args → Closable P 38 frames u g x state live store starts args
    unfolding closing_number
    closable_tail e c = subst (λ (j : Closing). Closable P (closing_number j) frames u g x state live store starts args) e c

  module _ {r : Result Acted Refusal} {state' live' store' starts' : List ℕ} where
    pub closes_call : k ≡ Call → Closes P 36 frames u g x r state live store starts state' live' store' starts' → Closes P (closing_number k) frames u g x r state live store starts state' live' store' starts'
    unfolding closing_number
    closes_call e c = subst (λ (j : Closing). Closes P (closing_number j) frames u g x r state live store starts state' live' store' starts') (sym e) c

    pub closes_return : k ≡ Return → ((P : Program) (x : ℕ) → Closes P 37 frames u g x r state live store starts state' live' store' starts') → Closes P (closing_number k) frames u g x r state live store starts state' live' store' starts'
    unfolding closing_number
    closes_return e c = subst (λ (j : Closing). Closes P (closing_number j) frames u g x r state live store starts state' live' store' starts') (sym e) (c P x)

    pub closes_tail : k ≡ ReturnCall → Closes P 38 frames u g x r state live store starts state' live' store' starts' → Closes P (closing_number k) frames u g x r state live store starts state' live' store' starts'
    unfolding closing_number
    closes_tail e c = subst (λ (j : Closing). Closes P (closing_number j) frames u g x r state live store starts state' live' store' starts') (sym e) c
