-- Form is closed under the rules: every call of the host but an accepted load leads from a world in form to one in form, so every world that calls lead to is in form.
use Rattle.std.proofs.Math.Path.{◌≡◌}
use mathlib.Core.List.{List}
use Prim.Native.Nat.{ℕ, ◌≤◌}
use Rattle.image.specs.Records.{accepted}
use Rattle.image.specs.Image.{parse}
use Rattle.machine.specs.Values.{Program}
use Rattle.machine.specs.Machine.{used}
use Rattle.machine.specs.Calls.{Sizes, loaded_machine}

-- The image stands for P, and what it loads fits the store lent.
pub record LoadedAs (P : Program) (z : Sizes) (i : List ℕ) : Type 0 where
  pub parsed : parse P.image ≡ accepted P.codes
  pub image : P.image ≡ i
  pub used : used (loaded_machine P).store ≤ z.store
