-- A walk over the handlers of one frame: one law for each return of `find_handler`.
use Rattle.std.specs.Prelude.{◌≡◌, List, Bool, true, false, ℕ, ◌<◌, ◌≤◌, get_or, Option, Some, None}
use Rattle.std.specs.Option.{MatchOption, unwrap_or}
use Rattle.std.proofs.Common.{arith}
use Rattle.cells.specs.declared.Cell.{Cell}
use Rattle.machine.specs.Values.{Program, equal_effects}
use Rattle.memory.specs.Layout.{Written}
use Rattle.moves.specs.Runs.{Top, no_handler}
use Rattle.moves.specs.declared.Running.{Running}
use Rattle.plan.specs.Searches.{Finds}

-- whether the j-th handler has the effect
pub record Has (P : Program) (e : Cell) (g : Running) (L : List Cell) (j : ℕ) (r : Bool) : Type 0 where
  pub is : (w : Written) (pre : List Cell) → Top w pre g L → r ≡ equal_effects P (get_or w.handlers j no_handler).effect e

-- what `find` over their places answers: the first handler that has the effect, or none
module _ {P : Program} {e : Cell} {g : Running} {L : List Cell} {w : Written} {pre : List Cell} (o : Top w pre g L) where
  pub finds_first : (r : Option ℕ) → MatchOption r ((k : ℕ) → 0 ≤ k → k < g.handlers → equal_effects P (get_or w.handlers k no_handler).effect e ≡ false)
      (λ i. (0 ≤ i) × (i < g.handlers) × (equal_effects P (get_or w.handlers i no_handler).effect e ≡ true) × ((k : ℕ) → 0 ≤ k → k < i → equal_effects P (get_or w.handlers k no_handler).effect e ≡ false))
      → Finds P e w.handlers (unwrap_or r g.handlers)
  finds_first None m = record {
    most = omega (arith, o.counts.handlers);
    misses = λ k h. m k (omega arith) h;
    has = λ h. absurd (omega (arith, o.counts.handlers));
  }
  finds_first (Some i) m = record { most = omega (arith, o.counts.handlers, m.1); misses = λ k h. m.3 k (omega arith) h; has = λ h. m.2 }
