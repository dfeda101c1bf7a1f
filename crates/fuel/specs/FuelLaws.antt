-- Laws of fuel: an i32 stays an i32, and two charges are one of the sum.
use Rattle.std.specs.Prelude.{◌≡◌, refl, Bool, true, false, cond, ℕ, zero, suc, ◌+◌, ◌-◌, ◌<◌, ◌≤◌, ltb, ℤ, pos, negsuc, neg_ℤ, ◌+ℤ◌}
use Rattle.std.proofs.Common.{sym, ap, ◌∙◌, arith, le-leb, SFits}
use Rattle.std.proofs.Math.Decide.{dec_le}
use Rattle.std.proofs.Math.IntN.{sub_ℕ, +ℤ_idr, +ℤ_assoc, neg_ℤ-+ℤ}
use Rattle.std.proofs.lemmas.Bool.{lt-leb}
use Rattle.std.specs.Int.Signed.{le_z}
use Rattle.std.specs.Int.{w32, saturate_signed, int_min}
use Rattle.std.specs.Prelude.{min as least}
use Rattle.std.proofs.lemmas.Int.{ints}
use Rattle.fuel.specs.declared.Fuel.{Fuel}
use Rattle.fuel.specs.Fuels.{most, saturate, min, set_remaining, adjust, consume, refill}

pub most_low : (n : ℕ) → n ≤ 2147483647 → most n ≡ n
unfolding most
most_low n h = simp (le-leb _ _ h)

pub most_high : (n : ℕ) → 2147483647 < n → most n ≡ 2147483647
unfolding most
most_high n h = simp (lt-leb _ _ h)

-- std's words for the nearest i32 and the lesser number
most_min : (n : ℕ) → most n ≡ least n 2147483647
unfolding most
most_min n = by (dec_le n 2147483647)
  where
    by : Dec (n ≤ 2147483647) → most n ≡ least n 2147483647
    by (yes h) = omega (arith, most_low n h)
    by (no h) = omega (arith, most_high n (omega arith))

pub saturate_is : (x : ℤ) → saturate_signed w32 x ≡ saturate x
unfolding saturate
saturate_is (pos n) = ap pos (sym (most_min n))
saturate_is (negsuc n) = ap negsuc (sym (most_min n))

pub min_is : (x y : ℤ) → int_min x y ≡ min x y
unfolding min
min_is x y = grind (arith, ints)

most_less : (n : ℕ) → most n < 2147483648
most_less n = by (dec_le n 2147483647)
  where
    by : Dec (n ≤ 2147483647) → most n < 2147483648
    by (yes h) = omega (arith, most_low n h)
    by (no h) = omega (arith, most_high n (omega arith))

-- an i32 is its own nearest
pub saturate_same : (x : ℤ) → SFits w32 x → saturate x ≡ x
unfolding saturate
saturate_same (pos n) f = ap pos (most_low n (omega (arith, f.sfits)))
saturate_same (negsuc n) f = ap negsuc (most_low n (omega (arith, f.sfits)))

-- the number stays an i32
pub saturate_fits : (x : ℤ) → SFits w32 (saturate x)
unfolding saturate
saturate_fits (pos n) = record { sfits = most_less n }
saturate_fits (negsuc n) = record { sfits = most_less n }

pub adjust_fits : (f : Fuel) (x : ℤ) → SFits w32 (adjust f x).fuel
adjust_fits f x = saturate_fits (f.fuel +ℤ x)

pub consume_fits : (f : Fuel) (x : ℤ) → SFits w32 (consume f x).fuel
consume_fits f x = adjust_fits f (saturate (neg_ℤ x))

pub refill_fits : (f : Fuel) (x max : ℤ) → SFits w32 max → SFits w32 (refill f x max).fuel
unfolding min
refill_fits f x max m = by (le_z (saturate (f.fuel +ℤ x)) max)
  where
    by : (t : Bool) → SFits w32 (cond t (saturate (f.fuel +ℤ x)) max)
    by true = saturate_fits (f.fuel +ℤ x)
    by false = m

-- the mark is kept
pub consume_mark : (f : Fuel) (x : ℤ) → (consume f x).interrupted ≡ f.interrupted
consume_mark f x = refl

-- not above the greatest i32
abbrev Low : ℤ → Type 0
Low (pos n) = n ≤ 2147483647
Low (negsuc n) = Unit {0}

low : (x : ℤ) → SFits w32 x → Low x
low (pos n) f = omega (arith, f.sfits)
low (negsuc n) f = tt

low_sub : (a b : ℕ) → a ≤ 2147483647 → Low (sub_ℕ a b)
low_sub a b h = by (ltb a b)
  where
    by : (t : Bool) → Low (cond t (negsuc (b - suc a)) (pos (a - b)))
    by true = tt
    by false = omega arith

low_less : (x : ℤ) (a : ℕ) → Low x → Low (x +ℤ neg_ℤ (pos a))
low_less (pos n) zero h = omega arith
low_less (pos n) (suc a) h = low_sub n (suc a) h
low_less (negsuc n) zero h = low_sub 0 (suc n) (omega arith)
low_less (negsuc n) (suc a) h = tt

-- a sum that was stopped on the way down
saturate_less : (x : ℤ) (b : ℕ) → Low x → saturate (saturate x +ℤ neg_ℤ (pos b)) ≡ saturate (x +ℤ neg_ℤ (pos b))
unfolding saturate
saturate_less x zero h = ap saturate (+ℤ_idr (saturate x)) ∙ saturate_same (saturate x) (saturate_fits x) ∙ ap saturate (sym (+ℤ_idr x))
saturate_less (pos n) (suc b) h = ap (λ (m : ℕ). saturate (sub_ℕ m (suc b))) (most_low n h)
saturate_less (negsuc n) (suc b) h = ap negsuc (by (dec_le n 2147483647))
  where
    by : Dec (n ≤ 2147483647) → most (suc (most n + b)) ≡ most (suc (n + b))
    by (yes h) = ap (λ (m : ℕ). most (suc (m + b))) (most_low n h)
    by (no h) = ap (λ (m : ℕ). most (suc (m + b))) (most_high n (omega arith)) ∙ most_high _ (omega arith) ∙ sym (most_high _ (omega arith))

-- two adjustments downwards are one of the sum
pub adjust_adjust : (f : Fuel) (a b : ℕ) → SFits w32 f.fuel → adjust (adjust f (neg_ℤ (pos a))) (neg_ℤ (pos b)) ≡ adjust f (neg_ℤ (pos (a + b)))
adjust_adjust f a b h =
    ap (set_remaining f)
    (saturate_less (f.fuel +ℤ neg_ℤ (pos a)) b (low_less f.fuel a (low f.fuel h))
    ∙ ap saturate (+ℤ_assoc f.fuel _ _ ∙ ap (λ (z : ℤ). f.fuel +ℤ z) (sym (neg_ℤ-+ℤ (pos a) (pos b)))))

-- a charge is an adjustment downwards
pub consume_adjust : (f : Fuel) (a : ℕ) → SFits w32 (pos a) → consume f (pos a) ≡ adjust f (neg_ℤ (pos a))
consume_adjust f a h = ap (adjust f) (saturate_same (neg_ℤ (pos a)) (by a h))
  where
    by : (a : ℕ) → SFits w32 (pos a) → SFits w32 (neg_ℤ (pos a))
    by zero h = h
    by (suc a) h = record { sfits = omega (arith, h.sfits) }

-- two charges are one of the sum
pub consume_consume : (f : Fuel) (a b : ℕ) → SFits w32 f.fuel → SFits w32 (pos (a + b)) → consume (consume f (pos a)) (pos b) ≡ consume f (pos (a + b))
consume_consume f a b h k =
    ap (λ (g : Fuel). consume g (pos b)) (consume_adjust f a (record { sfits = omega (arith, k.sfits) }))
    ∙ consume_adjust (adjust f (neg_ℤ (pos a))) b (record { sfits = omega (arith, k.sfits) })
    ∙ adjust_adjust f a b h ∙ sym (consume_adjust f (a + b) k)
