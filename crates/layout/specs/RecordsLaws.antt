-- Laws of records: what the tests say, and how long a body is.
use Rattle.std.specs.Prelude.{◌≡◌, List, Bool, false, not, ℕ, ◌+◌, ◌-◌, ◌≤◌, length, take, drop}
use Rattle.std.proofs.Math.Path.{sym}
use Rattle.std.proofs.Common.{◌∙◌, arith, length-drop, length-take-le}
use borrow.Author.Tests.{not-false}
use Rattle.image.proofs.Parts.{whole_true, listed_true}
use Rattle.image.specs.Records.{size, after, whole, listed}

-- where what follows a record begins, in the list
pub record Behind (s : List ℕ) (at r : ℕ) : Type 0 where
  pub is : r ≡ after s at
  pub least : at + 6 ≤ r
  pub most : r ≤ length s

pub behind : {s : List ℕ} {at : ℕ} {n : ℕ} → after s at ≤ length s → n ≡ size s at → Behind s at (at + 6 + n)
behind h e = record { is = omega arith; least = omega arith; most = omega arith }

pub listed_of : (s : List ℕ) (at k n : ℕ) {t : Bool} → t ≡ listed s at k n → not t ≡ false → after s at ≤ length s
listed_of s at k n {t} e y = listed_true s at k n (sym e ∙ not-false t y)

module _ (s : List ℕ) (at k : ℕ) where
  module _ {t : Bool} (e : t ≡ whole s at k) where
    pub whole_of : not t ≡ false → after s at ≤ length s
    whole_of n = whole_true s at k (sym e ∙ not-false t n)

    pub whole_head : not t ≡ false → at + 6 ≤ length s
    whole_head n = omega (arith, whole_of n)

-- a body is as long as its record says
pub part_length : (s : List ℕ) (a b : ℕ) → a ≤ b → b ≤ length s → length (take (b - a) (drop a s)) ≡ b - a
part_length s a b h k = length-take-le (b - a) (drop a s) (simp length-drop (omega arith))
