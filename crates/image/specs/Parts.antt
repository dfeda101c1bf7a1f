-- Laws that several theorems and the reader share: parts of the image, what the tests say, and lists by number.
use Rattle.std.specs.Prelude.{◌≡◌, true, length}
use mathlib.Core.List.{List}
use Prim.Native.Nat.{ℕ, ◌+◌, ◌<◌, ◌≤◌}
use Rattle.std.proofs.Math.ListN.{get_or}
use Rattle.cells.specs.Le.{le_at}
use Rattle.image.specs.Records.{size, kind, body, after}
use Rattle.image.specs.Image.{globals_at, captures_at, constants_at, codes_at, sized, constants?}

-- ---- s is the part of the image that begins at `base`
pub record Part (image : List ℕ) (base : ℕ) (s : List ℕ) : Type 0 where
  pub byte : (i : ℕ) → i < length s → get_or s i 0 ≡ get_or image (base + i) 0
  pub fits : base + length s ≤ length image

-- a constant is there
pub record There (s : List ℕ) (at : ℕ) : Type 0 where
  pub fits : after s at ≤ length s
  pub fine : sized (kind s at) (le_at 2 s (at + 6)) (size s at) ≡ true

-- a code's own records are there
pub record Own (s : List ℕ) : Type 0 where
  pub opcodes : globals_at s ≤ length s
  pub globals : captures_at s ≤ length s
  pub captures : constants_at s ≤ length s
  pub constants : codes_at s ≤ length s
  pub fine : constants? (size s (constants_at s)) (body s (constants_at s)) 0 ≡ true

-- a code is entered: no refusal, so a level and a number are left, and the body is inside
pub record Entered (d n : ℕ) (s : List ℕ) (at : ℕ) : Type 0 where
  pub deep : 1 ≤ d
  pub few : n < 256
  pub fits : after s at ≤ length s
