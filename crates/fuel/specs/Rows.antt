-- Rows of the test board and of the ends of i32, by the definitions.
use Rattle.std.specs.Prelude.{◌≡◌, refl, true, false, Ok, Err, [], ◌∷◌, pos, negsuc}
use Rattle.cells.specs.Le.{le_at, put_at}
use Rattle.refusals.specs.declared.Refusal.TheVariants.{BadLoan}
use Rattle.fuel.specs.Fuels.{most, saturate, min, with, interrupt, adjust, consume, refill, should_continue}
use Rattle.fuel.specs.Loans.{read, write}

-- P13: fuel 100, refill(10, 5): 5; the mark is gone
pub p13 : refill (interrupt (with (pos 100))) (pos 10) (pos 5) ≡ with (pos 5)
unfolding most saturate min
p13 = refl

-- neither end is passed
pub high_end : adjust (with (pos 2147483647)) (pos 1) ≡ with (pos 2147483647)
unfolding most saturate
high_end = refl

pub low_end : adjust (with (negsuc 2147483647)) (negsuc 0) ≡ with (negsuc 2147483647)
unfolding most saturate
low_end = refl

-- the least i32 consumed adds the greatest
pub least_consumed : consume (with (negsuc 4)) (negsuc 2147483647) ≡ with (pos 2147483642)
unfolding most saturate
least_consumed = refl

-- fuel goes on from 1, and not with the mark
pub at_minus_one : should_continue (with (negsuc 0)) ≡ false
at_minus_one = refl

pub at_zero : should_continue (with (pos 0)) ≡ false
at_zero = refl

pub at_one : should_continue (with (pos 1)) ≡ true
at_one = refl

pub at_one_interrupted : should_continue (interrupt (with (pos 1))) ≡ false
at_one_interrupted = refl

-- a loan of -2 with mark byte 7, which a write leaves; one of 6 bytes
pub minus_two : read (254 ∷ 255 ∷ 255 ∷ 255 ∷ 7 ∷ []) ≡ Ok (interrupt (with (negsuc 1)))
unfolding read le_at
minus_two = refl

pub seven_left : write (0 ∷ 0 ∷ 0 ∷ 0 ∷ 7 ∷ []) (with (negsuc 1)) ≡ 254 ∷ 255 ∷ 255 ∷ 255 ∷ 7 ∷ []
unfolding write put_at
seven_left = refl

pub six_bytes : read (0 ∷ 0 ∷ 0 ∷ 0 ∷ 0 ∷ 0 ∷ []) ≡ Err BadLoan
unfolding read
six_bytes = refl
