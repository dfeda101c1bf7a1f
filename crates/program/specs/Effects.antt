-- Laws of equal texts and of equal effects.
use Rattle.std.specs.Prelude.{◌≡◌, refl, Bool, true, false, ℕ, ◌<◌, ◌≤◌, eqb, ◌&&◌}
use native.Mathlib.Omega.{arith}
use Rattle.std.specs.Cmp.Lexicographic.{pointwise}
use Rattle.std.proofs.Math.Path.{sym}
use Rattle.std.proofs.Common.{◌∙◌}
use mathlib.Core.List.{List, [], ◌∷◌}
use borrow.Author.Tests.{le-leb, lt-leb, eq-eqb, ne_eqb, eqb-true}
use Rattle.cells.specs.Le.{le_at}
use Rattle.image.specs.Records.{both}
use Rattle.image.specs.Effects.{same, name, same_effect}

never : {A : Type 0} → false ≡ true → A
never e = absurd (let z : ◌≡◌ {A = ℕ} 0 1 = cc in omega arith)

-- `same` says whether two texts are equal
pub same_true : (s t : List ℕ) → same s t ≡ true → s ≡ t
unfolding same both
same_true [] [] h = refl
same_true [] (y ∷ t) h = never h
same_true (x ∷ s) [] h = never h
same_true (x ∷ s) (y ∷ t) h = by (same_true s t) (eqb x y) refl h
  where
    by : (same s t ≡ true → s ≡ t) → (b : Bool) → eqb x y ≡ b → both b (same s t) ≡ true → x ∷ s ≡ y ∷ t
    by ih true e k = rw (eqb-true x y e, ih k)
    by ih false e k = never k

pub same_refl : (s : List ℕ) → same s s ≡ true
unfolding same both
same_refl [] = refl
same_refl (x ∷ s) = simp (eq-eqb x x refl) (same_refl s)

-- what the library's `==` answers
and_both : {u v : Bool} (b : Bool) → u ≡ v → b && u ≡ both b v
unfolding both
and_both true e = e
and_both false e = refl

pointwise_same : (s t : List ℕ) → pointwise eqb s t ≡ same s t
unfolding same
pointwise_same [] [] = refl
pointwise_same [] (y ∷ t) = refl
pointwise_same (x ∷ s) [] = refl
pointwise_same (x ∷ s) (y ∷ t) = and_both (eqb x y) (pointwise_same s t)

pub same_is : {r : Bool} (s t : List ℕ) → r ≡ pointwise eqb s t → r ≡ same s t
same_is s t e = e ∙ pointwise_same s t

-- ---- two effects
module _ (a b : List ℕ) {x y : ℕ} (e : x ≡ le_at 2 a 0) (f : y ≡ le_at 2 b 0) where
  pub effect_other : (x ≡ y → ⊥) → false ≡ same_effect a b
  unfolding same_effect both
  effect_other n = simp (sym e, sym f, ne_eqb _ _ n)

  module _ (n : x ≡ y) where
    pub effect_builtin : x ≤ 2 → true ≡ same_effect a b
    unfolding same_effect both
    effect_builtin h = simp (sym e, sym f, eq-eqb _ _ n, le-leb _ _ h)

    module _ (h : 2 < x) {p q : ℕ} (g : p ≡ le_at 2 a 2) (k : q ≡ le_at 2 b 2) where
      pub effect_params_lem : (p ≡ q → ⊥) → false ≡ same_effect a b
      unfolding same_effect both
      effect_params_lem m = simp (sym e, sym f, eq-eqb _ _ n, lt-leb _ _ h, sym g, sym k, ne_eqb _ _ m)

      module _ (m : p ≡ q) {u v : ℕ} (c : u ≡ le_at 2 a 4) (d : v ≡ le_at 2 b 4) where
        pub effect_variadic : (u ≡ v → ⊥) → false ≡ same_effect a b
        unfolding same_effect both
        effect_variadic l = simp (sym e, sym f, eq-eqb _ _ n, lt-leb _ _ h, sym g, sym k, eq-eqb _ _ m, sym c, sym d, ne_eqb _ _ l)

        pub effect_names : {s t : List ℕ} {r : Bool} → u ≡ v → s ≡ name a → t ≡ name b → r ≡ same s t → r ≡ same_effect a b
        unfolding same_effect both
        effect_names {r = r} l i j z =
            let o : r ≡ same (name a) (name b) = rw (i, j) at z in
            simp (sym e, sym f, eq-eqb _ _ n, lt-leb _ _ h, sym g, sym k, eq-eqb _ _ m, sym c, sym d, eq-eqb _ _ l) o
