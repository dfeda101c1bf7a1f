-- A test of every item of a table, by number, and the loop over it.
use Rattle.std.specs.Prelude.{◌≡◌, Bool}
use Rattle.std.proofs.Math.Path.{refl, sym, ap}
use Rattle.std.proofs.Common.{◌∙◌}
use mathlib.Core.List.{List, [], ◌∷◌, ◌++◌}
use Rattle.std.proofs.Math.Bool.{true}
use Prim.Native.Nat.{ℕ, zero, suc, ◌<◌}
use native.Mathlib.Omega.{arith}
use Rattle.image.specs.Records.{both}
use Rattle.image.specs.Program.{all, tab}
use Rattle.std.proofs.Math.ListN.{get_or}
use Rattle.image.proofs.Parts.{both_assoc, both_true, tab_at}

-- f holds of each number below n
unfoldable pub every : ℕ → (ℕ → Bool) → Bool
every zero f = true
every (suc n) f = both (every n f) (f n)

lower : (i n : ℕ) → i < suc n → (i ≡ n → ⊥) → i < n
lower zero zero h k = absurd (k refl)
lower zero (suc n) h k = omega arith
lower (suc i) zero h k = absurd (omega arith)
lower (suc i) (suc n) h k = let r = lower i n (omega arith) (λ e. k (ap suc e)) in omega arith

pub true_both : (b : Bool) → both true b ≡ b
unfolding both
true_both b = refl

-- ---- tables
module _ {A : Type 0} where
  all_snoc : (f : A → Bool) (l : List A) (x : A) → all f (l ++ (x ∷ [])) ≡ both (all f l) (f x)
  unfolding all
  all_snoc f [] x = let e : both true (f x) ≡ f x = true_both (f x) in both_true (f x) ∙ sym e
  all_snoc f (y ∷ l) x = ap (both (f y)) (all_snoc f l x) ∙ sym (both_assoc (f y) (all f l) (f x))

  pub all_tab : (f : A → Bool) (n : ℕ) (g : ℕ → A) → all f (tab n g) ≡ every n (λ (i : ℕ). f (g i))
  unfolding tab every all
  all_tab f zero g = refl
  all_tab f (suc n) g = all_snoc f (tab n g) (g n) ∙ ap (λ (b : Bool). both b (f (g n))) (all_tab f n g)

-- the same test below n
pub every_same : (n : ℕ) (f g : ℕ → Bool) → ((i : ℕ) → i < n → f i ≡ g i) → every n f ≡ every n g
unfolding every
every_same zero f g e = refl
every_same (suc n) f g e =
    let l : every n f ≡ every n g = every_same n f g (λ i h. e i (omega arith)) in
    let r : f n ≡ g n = e n (omega arith) in
    rw (l, r)

-- a table whose items are looked up by number
pub all_by_number : {A : Type 0} (f h : A → Bool) (m : ℕ) (g : ℕ → A) (d : A) {n : ℕ} {t : Bool} → n ≡ m → ((x : A) → h x ≡ f x) → t ≡ every n (λ (i : ℕ). h (get_or (tab m g) i d)) → t ≡ all f (tab m g)
all_by_number f h m g d e same r =
    r ∙ ap (λ (n : ℕ). every n (λ (i : ℕ). h (get_or (tab m g) i d))) e
    ∙ every_same m _ _ (λ i l. ap h (tab_at m g i d l) ∙ same (g i)) ∙ sym (all_tab f m g)

-- the same test of each item
pub all_same : {A : Type 0} (f g : A → Bool) (l : List A) → ((x : A) → f x ≡ g x) → all f l ≡ all g l
unfolding all
all_same f g [] e = refl
all_same f g (x ∷ l) e = let a : f x ≡ g x = e x in let b : all f l ≡ all g l = all_same f g l e in rw (a, b)
