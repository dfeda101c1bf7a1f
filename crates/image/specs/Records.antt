-- Records in a list of bytes: body length (32 bits), kind (16 bits), body.
use Rattle.std.specs.Prelude.{List, Bool, true, false, ℕ, ◌+◌, ◌-◌, ◌%◌, length, take, drop, leb, eqb}
use Rattle.cells.specs.Le.{le_at}

abbrev pub if? : {A : Type 0} → Bool → A → A → A
if? true a b = a
if? false a b = b

unfoldable pub both : Bool → Bool → Bool
both true b = b
both false b = false

-- a refusal with its number, or what was read
pub data Answer (A : Type 0) : Type 0 where
  refused : ℕ → Answer A
  accepted : A → Answer A

-- a refusal stays, an accepted one goes on
abbrev pub then : {A B : Type 0} → (A → Answer B) → Answer A → Answer B
then f (refused k) = refused k
then f (accepted a) = f a

-- length of the body and kind of the record at `at`
abbrev pub size : List ℕ → ℕ → ℕ
size s at = le_at 4 s at

abbrev pub kind : List ℕ → ℕ → ℕ
kind s at = le_at 2 s (at + 4)

-- its body, and where what follows it begins
abbrev pub body : List ℕ → ℕ → List ℕ
body s at = take (size s at) (drop (at + 6) s)

abbrev pub after : List ℕ → ℕ → ℕ
after s at = at + 6 + size s at

-- the six bytes in front of a body are there
abbrev pub headed : List ℕ → ℕ → Bool
headed s at = leb 6 (length s - at)

-- the body does not run past its parent
abbrev pub inside : List ℕ → ℕ → Bool
inside s at = leb (size s at) (length s - (at + 6))

-- a whole record of this kind is there
unfoldable pub whole : List ℕ → ℕ → ℕ → Bool
whole s at k = both (headed s at) (both (eqb (kind s at) k) (inside s at))

-- a whole record of this kind is there, a list of items of n bytes
unfoldable pub listed : List ℕ → ℕ → ℕ → ℕ → Bool
listed s at k n = both (whole s at k) (eqb (size s at % n) 0)
