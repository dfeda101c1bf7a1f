-- `every` is what `all` answers over a range.
use Rattle.std.specs.Prelude.{◌≡◌, Bool, false, ◌&&◌, Option}
use Rattle.std.specs.List.{list_all, range_with_len, FoldsTo}
use Rattle.std.specs.Fn.{Called}
use Rattle.std.specs.Iterator.{YieldsThen}
use Rattle.std.specs.Option.{MatchOption}
use Rattle.std.specs.declared.ops.Range.{Range}
use Rattle.std.proofs.iter.Yields.{nat_range_steps}
use Rattle.std.proofs.lemmas.Iterator.{YieldsList-from_range}
use Rattle.std.proofs.lemmas.Iterator.Search.{all_from_yields_List}
use denote.Param.Members.{Mut}
use Rattle.std.proofs.Math.Path.{refl, sym, ap}
use Rattle.std.proofs.Common.{◌∙◌, arith}
use mathlib.Core.List.{List}
use Rattle.std.proofs.Math.Bool.{true}
use Prim.Native.Nat.{ℕ, zero, suc, ◌+◌}
use Rattle.image.specs.Records.{both}
use Rattle.image.proofs.Parts.{both_assoc, both_true}
use Rattle.reader.specs.Every.{every, every_same, true_both}

every_cons : (n : ℕ) (f : ℕ → Bool) → every (suc n) f ≡ both (f 0) (every n (λ (i : ℕ). f (suc i)))
unfolding every
every_cons zero f = true_both (f 0) ∙ sym (both_true (f 0))
every_cons (suc n) f = ap (λ (b : Bool). both b (f (suc n))) (every_cons n f) ∙ both_assoc (f 0) (every n (λ (i : ℕ). f (suc i))) (f (suc n))

and_both : (a b : Bool) → a && b ≡ both a b
unfolding both
and_both true b = refl
and_both false b = refl

all_from : (f : ℕ → Bool) (a n : ℕ) → list_all f (range_with_len a n) ≡ every n (λ (i : ℕ). f (a + i))
unfolding every
all_from f a zero = refl
all_from f a (suc n) =
    and_both (f a) (list_all f (range_with_len (a + 1) n))
    ∙ ap (both (f a)) (all_from f (a + 1) n ∙ every_same n _ _ (λ i h. ap f (omega arith)))
    ∙ sym (every_cons n (λ (i : ℕ). f (a + i)) ∙ ap (λ (b : Bool). both b (every n (λ (i : ℕ). f (a + suc i)))) (ap f (omega arith)))

-- what `(0..n).all(..)` answers, where its closure tests f
pub every_range : {F : Type 0} {g : Mut F (ℕ × Unit {0}) Bool} {s u : Range ℕ} {h : F} {r : Bool} (f : ℕ → Bool) (n : ℕ) → s ≡ record { start = 0; end = n }
    → (xs : List ℕ) × (o : Option ℕ) × (j : F) × YieldsThen nat_range_steps s xs o u × FoldsTo (λ p x q. Called g p (x, tt) true q) h xs j × MatchOption o (r ≡ true) (λ x. (r ≡ false) × ((i : F) × Called g j (x, tt) false i))
    → ((x : ℕ) (b : Bool) (q : F) → Called g h (x, tt) b q → (q ≡ h) × (b ≡ f x)) → r ≡ every n f
every_range {r = r} f n e ran tests =
    all_from_yields_List {v = λ (x : ℕ). x} f _ _ r ran (YieldsList-from_range 0 n n e (omega arith)) tests ∙ all_from f 0 n ∙ every_same n _ _ (λ i h. ap f (omega arith))
