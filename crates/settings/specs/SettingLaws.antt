-- The returns of the function that sets, one law each.
use Rattle.std.specs.Prelude.{◌≡◌, refl, List, ℕ, ◌+◌, ◌<◌, ◌/◌, ◌≤◌, length, set, Option, Result, Ok, Err}
use Rattle.std.proofs.Common.{arith}
use borrow.Author.Tests.{lt-ltb, le-ltb}
use Rattle.cells.specs.Cells.{cells, Writes}
use Rattle.cells.specs.declared.Cell.{Cell}
use Rattle.image.specs.Records.{both, Answer, refused, accepted}
use Rattle.refusals.specs.Refusals.{number}
use Rattle.refusals.specs.declared.Refusal.{Refusal}
use Rattle.form.specs.Entry.{Entered, entry}
use Rattle.asks.specs.Entries.{says, named_by}
use Rattle.asks.specs.Formed.{known_size, none_in, known_in}
use Rattle.asks.specs.declared.Place.{Place}
use Rattle.settings.specs.Settings.{Setting}

module _ (state store : List ℕ) (v : Cell) (x : Answer Entered) {o : Result (Option Place) Refusal} (w : says o ≡ named_by state store v x) (first n : ℕ) where
  pub set_not : {r : Refusal} → o ≡ Err r → Setting first n v state store x (number r) state
  unfolding both
  set_not {r} e = by x (rw e at w)
    where
      by : (y : Answer Entered) → refused (number r) ≡ named_by state store v y → Setting first n v state store y (number r) state
      by (refused m) h = (cc, refl)
      by (accepted e) h = let k = none_in state store v e.program h in rw k.0 (k.1, refl)

  module _ {p : Option Place} (e : o ≡ Ok p) where
    pub set_over : 256 ≤ n → Setting first n v state store x 5 state
    unfolding both
    set_over l = by x (rw e at w)
      where
        by : (y : Answer Entered) → accepted p ≡ named_by state store v y → Setting first n v state store y 5 state
        by (refused m) h = cc
        by (accepted e) h = rw ((known_in state store v e.program h).0, le-ltb n 256 l) (refl, refl)

    pub set_in : {state' : List ℕ} → n < 256 → Writes state (set (cells state) (first + n) v) state' → Setting first n v state store x 0 state'
    unfolding both
    set_in {state'} l q = by x (rw e at w)
      where
        by : (y : Answer Entered) → accepted p ≡ named_by state store v y → Setting first n v state store y 0 state'
        by (refused m) h = cc
        by (accepted e) h = rw ((known_in state store v e.program h).0, lt-ltb n 256 l) (refl, q)

-- a cell of the globals or builtins is there
pub room_known : (image state live store : List ℕ) (v : Cell) {o : Result (Option Place) Refusal} {p : Option Place} {first n : ℕ} → says o ≡ named_by state store v (entry image state live store) → o ≡ Ok p → first ≤ 260 → n < 256
    → first + n < length state / 16
room_known image state live store v h e a b = omega (arith, known_size image state live store v h e)
