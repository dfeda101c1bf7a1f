-- UTF-8 as the grammar of RFC 3629, section 4, has it:
--   UTF8-octets = *( UTF8-char )
--   UTF8-char   = UTF8-1 / UTF8-2 / UTF8-3 / UTF8-4
--   UTF8-1      = %x00-7F
--   UTF8-2      = %xC2-DF UTF8-tail
--   UTF8-3      = %xE0 %xA0-BF UTF8-tail / %xE1-EC 2( UTF8-tail ) / %xED %x80-9F UTF8-tail / %xEE-EF 2( UTF8-tail )
--   UTF8-4      = %xF0 %x90-BF 2( UTF8-tail ) / %xF1-F3 3( UTF8-tail ) / %xF4 %x80-8F 2( UTF8-tail )
--   UTF8-tail   = %x80-BF
use Rattle.std.specs.Prelude.{List, [], ◌∷◌, Bool, true, false, cond, ℕ, zero, suc, ◌+◌, ◌-◌, length, leb}

-- %xFROM-TO
pub record Range : Type 0 where
  pub from : ℕ
  pub to : ℕ

infixl 20 ◌to◌
abbrev pub ◌to◌ : ℕ → ℕ → Range
a to b = record { from = a; to = b }

-- a and b
abbrev pub both : Bool → Bool → Bool
both a b = cond a b false

-- is x in the range?
abbrev pub within : Range → ℕ → Bool
within r x = both (leb x r.to) (leb r.from x)

-- UTF8-tail
abbrev pub tail : Range
tail = 128 to 191

-- one way to form a UTF8-char: the range of its first octet, and those of the others
pub record Row : Type 0 where
  pub first : Range
  pub rest : List Range

abbrev pub row : Range → List Range → Row
row r rs = record { first = r; rest = rs }

-- UTF8-char: UTF8-1; UTF8-2; the four ways of UTF8-3; the three of UTF8-4
abbrev pub rows : List Row
rows =
    row (0 to 127) []
    ∷ row (194 to 223) (tail ∷ [])
    ∷ row (224 to 224) ((160 to 191) ∷ tail ∷ [])
    ∷ row (225 to 236) (tail ∷ tail ∷ [])
    ∷ row (237 to 237) ((128 to 159) ∷ tail ∷ [])
    ∷ row (238 to 239) (tail ∷ tail ∷ [])
    ∷ row (240 to 240) ((144 to 191) ∷ tail ∷ tail ∷ [])
    ∷ row (241 to 243) (tail ∷ tail ∷ tail ∷ [])
    ∷ row (244 to 244) ((128 to 143) ∷ tail ∷ tail ∷ [])
    ∷ []

-- does the text start with an octet of each of these ranges, in order?
unfoldable pub starts : List Range → List ℕ → Bool
starts [] s = true
starts (r ∷ rs) [] = false
starts (r ∷ rs) (x ∷ s) = both (within r x) (starts rs s)

-- how many octets the UTF8-char has with which x and then s start; 0 where they start with none
unfoldable pub char : List Row → ℕ → List ℕ → ℕ
char [] x s = 0
char (r ∷ rs) x s = cond (both (within r.first x) (starts r.rest s)) (1 + length r.rest) (char rs x s)

-- UTF8-octets: k octets, which the UTF8-char before has been found to end with, and then UTF8-chars up to the end
unfoldable pub octets : ℕ → List ℕ → Bool
octets k [] = true
octets (suc k) (x ∷ s) = octets k s
octets zero (x ∷ s) = both (leb 1 (char rows x s)) (octets (char rows x s - 1) s)

-- is the text UTF-8?
abbrev pub utf8 : List ℕ → Bool
utf8 = octets 0
