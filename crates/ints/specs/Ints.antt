-- What the opcodes do with Ints: one definition for each, under the opcode's name, at any width. An Int is its pattern in two's complement, a number below h + h,
-- where h is half the number of patterns; for the 64 bits of document 01 h is `half`. What stands in quotation marks is document 01's.
use Rattle.std.specs.Prelude.{ℕ, zero, suc, ◌+◌, ◌-◌, ◌/◌, ◌%◌, Option, Some, None, Bool, cond, not, ℤ, pos, negsuc, ◌+ℤ◌, ◌-ℤ◌, ◌*ℤ◌, neg_ℤ, nat_abs, int_le, int_lt, nat_lt}
use Rattle.std.specs.Bool.{xor}
use Rattle.std.specs.Int.Signed.{non_neg}

-- 2^63, half the number of patterns of 64 bits
abbrev pub half : ℕ
half = 9223372036854775808

-- the integer of a pattern: the lower half stands for itself, the upper half for itself less h + h (`negsuc n` is -(n + 1))
unfoldable pub signed : ℕ → ℕ → ℤ
signed h a = cond (nat_lt a h) (pos a) (negsuc (h + h - suc a))

-- the pattern of an integer: "wrap modulo 2^64"
unfoldable pub wrap : ℕ → ℤ → ℕ
wrap h (pos n) = n % (h + h)
wrap h (negsuc n) = h + h - suc (n % (h + h))

-- "`Div` truncates toward zero": the quotient of two magnitudes; `Rem` does not depend on it
unfoldable pub quotient : ℕ → ℕ → ℕ
quotient n d = n / d

-- "a zero divisor throws": what a division by d gives, n where d is not 0
unfoldable pub divided : ℕ → ℕ → Option ℕ
divided zero n = None
divided (suc d) n = Some n

module _ (h : ℕ) where
  -- the sign and the magnitude of an Int, and the Int that has them
  abbrev pub is_negative : ℕ → Bool
  is_negative a = not (non_neg (signed h a))

  abbrev pub unsigned_abs : ℕ → ℕ
  unsigned_abs a = nat_abs (signed h a)

  unfoldable pub with_sign : Bool → ℕ → ℕ
  with_sign negative n = wrap h (cond negative (neg_ℤ (pos n)) (pos n))

  -- "`Neg`, `Add`, `Sub`, `Mul` on Int wrap modulo 2^64"
  abbrev pub neg : ℕ → ℕ
  neg a = wrap h (neg_ℤ (signed h a))

  abbrev pub add : ℕ → ℕ → ℕ
  add a b = wrap h (signed h a +ℤ signed h b)

  abbrev pub sub : ℕ → ℕ → ℕ
  sub a b = wrap h (signed h a -ℤ signed h b)

  abbrev pub mul : ℕ → ℕ → ℕ
  mul a b = wrap h (signed h a *ℤ signed h b)

  -- `Div`: negative where just one of the two is. "The least Int by -1 gives itself": its magnitude wraps.
  abbrev pub div : ℕ → ℕ → Option ℕ
  div a b = divided b (with_sign (xor (is_negative a) (is_negative b)) (quotient (unsigned_abs a) (unsigned_abs b)))

  -- "`Rem` takes the dividend's sign"
  abbrev pub rem : ℕ → ℕ → Option ℕ
  rem a b = divided b (with_sign (is_negative a) (unsigned_abs a % unsigned_abs b))

  -- "Order comparisons take Ints"
  abbrev pub lt : ℕ → ℕ → Bool
  lt a b = int_lt (signed h a) (signed h b)

  abbrev pub le : ℕ → ℕ → Bool
  le a b = int_le (signed h a) (signed h b)

  abbrev pub gt : ℕ → ℕ → Bool
  gt a b = lt b a

  abbrev pub ge : ℕ → ℕ → Bool
  ge a b = le b a
