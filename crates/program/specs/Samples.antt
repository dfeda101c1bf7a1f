-- Worked effects: the same builtin, two of one name and counts, and two whose parameter counts differ.
use Rattle.std.specs.Prelude.{◌≡◌, refl, List, [], ◌∷◌, true, false, ℕ}
use Rattle.cells.specs.Le.{le_at}
use Rattle.image.specs.Records.{both}
use Rattle.image.specs.Effects.{same, same_effect}

abbrev ask : ℕ → List ℕ
ask n = 3 ∷ 0 ∷ n ∷ 0 ∷ 0 ∷ 0 ∷ 97 ∷ 115 ∷ 107 ∷ []

builtin : same_effect (1 ∷ 0 ∷ []) (1 ∷ 0 ∷ []) ≡ true
unfolding same_effect both le_at
builtin = refl

named : same_effect (ask 1) (ask 1) ≡ true
unfolding same_effect same both le_at
named = refl

counted : same_effect (ask 1) (ask 2) ≡ false
unfolding same_effect same both le_at
counted = refl
