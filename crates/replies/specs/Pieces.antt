-- What the private functions promise.
use Rattle.std.specs.Prelude.{◌≡◌, List, [], Bool, ℕ, length, Result}
use Rattle.cells.specs.Cells.{cells}
use Rattle.cells.specs.declared.Cell.{Cell}
use Rattle.machine.specs.Values.{Program}
use Rattle.machine.specs.Machine.{Object, used}
use Rattle.machine.specs.Form.{StoreFits}
use Rattle.moves.specs.Objects.{Stored}
use Rattle.requests.specs.Sent.{unused}
use Rattle.requests.specs.Returned.{performed_fits}
use Rattle.replies.specs.Replied.{return_with, asks_for}
use Rattle.replies.specs.declared.CallbackReturn.{CallbackReturn}
use Rattle.refusals.specs.declared.Refusal.{Refusal}

-- x is the answer r, or refused, where any of n values are sent that it does not use
pub record Unused (n : ℕ) (r : CallbackReturn) (x : Result CallbackReturn Refusal) : Type 0 where
  pub is : (vs : List Cell) (args handlers : List ℕ) → length vs ≡ n → asks_for x args handlers ≡ unused vs (return_with r (cells args) (cells handlers))

-- b says whether an answered perform passes, for every store that is held
pub record PerformedFits (P : Program) (u : ℕ) (e : Cell) (args : List Cell) (b : Bool) (S : List Cell) : Type 0 where
  pub is : (s : List Object) → Stored s S → StoreFits P [] s → u ≡ used s → b ≡ performed_fits P s e args
