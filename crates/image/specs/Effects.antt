-- Effects are equal if the same builtin, or of equal name, parameter count and variadic mark. An effect is given by the body of its constant.
use Rattle.std.specs.Prelude.{List, [], ◌∷◌, Bool, true, false, ℕ, drop, leb, eqb}
use Rattle.cells.specs.Le.{le_at}
use Rattle.image.specs.Records.{if?, both}

-- two texts are the same, byte for byte
unfoldable pub same : List ℕ → List ℕ → Bool
same [] [] = true
same [] (y ∷ t) = false
same (x ∷ s) [] = false
same (x ∷ s) (y ∷ t) = both (eqb x y) (same s t)

-- the name in the body of an effect that is no builtin
abbrev pub name : List ℕ → List ℕ
name b = drop 6 b

unfoldable pub same_effect : List ℕ → List ℕ → Bool
same_effect a b =
    both (eqb (le_at 2 a 0) (le_at 2 b 0))
    (if? (leb (le_at 2 a 0) 2) true
    (both (eqb (le_at 2 a 2) (le_at 2 b 2)) (both (eqb (le_at 2 a 4) (le_at 2 b 4)) (same (name a) (name b)))))
