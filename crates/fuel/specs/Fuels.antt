-- What is done to fuel, on the integers: one definition for each function of fuel.rs, under its name.
use Rattle.std.specs.Prelude.{Bool, true, false, not, ◌&&◌, cond, ℕ, leb, ℤ, pos, negsuc, neg_ℤ, ◌+ℤ◌}
use Rattle.std.specs.Int.Signed.{le_z, lt_z}
use Rattle.fuel.specs.declared.Fuel.{Fuel}

-- n, or the greatest i32 where n is above it
unfoldable pub most : ℕ → ℕ
most n = cond (leb n 2147483647) n 2147483647

-- the nearest i32: `negsuc n` is -(n + 1), so both ends have the one bound
unfoldable pub saturate : ℤ → ℤ
saturate (pos n) = pos (most n)
saturate (negsuc n) = negsuc (most n)

-- the sum, stopped at the ends of i32
abbrev pub saturating_add : ℤ → ℤ → ℤ
saturating_add a b = saturate (a +ℤ b)

-- the opposite: that of the least i32 is the greatest
abbrev pub saturating_neg : ℤ → ℤ
saturating_neg a = saturate (neg_ℤ a)

-- the lesser of two numbers
unfoldable pub min : ℤ → ℤ → ℤ
min a b = cond (le_z a b) a b

-- fuel of this number, not interrupted
abbrev pub with : ℤ → Fuel
with n = record { fuel = n; interrupted = false }

-- no fuel, not interrupted
abbrev pub empty : Fuel
empty = with (pos 0)

-- the number becomes the sum, up to `max`, and the mark is cleared
abbrev pub refill : Fuel → ℤ → ℤ → Fuel
refill f x max = with (min (saturating_add f.fuel x) max)

-- the number
abbrev pub remaining : Fuel → ℤ
remaining f = f.fuel

-- the number is replaced, and the mark kept
abbrev pub set_remaining : Fuel → ℤ → Fuel
set_remaining f x = record { fuel = x; interrupted = f.interrupted }

-- the number becomes the sum, and the mark is kept
abbrev pub adjust : Fuel → ℤ → Fuel
adjust f x = set_remaining f (saturating_add f.fuel x)

-- the opposite is added
abbrev pub consume : Fuel → ℤ → Fuel
consume f x = adjust f (saturating_neg x)

-- the mark is set, and no fuel consumed
abbrev pub interrupt : Fuel → Fuel
interrupt f = record { fuel = f.fuel; interrupted = true }

-- the mark
abbrev pub is_interrupted : Fuel → Bool
is_interrupted f = f.interrupted

-- the mark is cleared
abbrev pub clear_interrupt : Fuel → Fuel
clear_interrupt f = record { fuel = f.fuel; interrupted = false }

-- there is fuel, and no mark
abbrev pub should_continue : Fuel → Bool
should_continue f = lt_z (pos 0) f.fuel && not f.interrupted
