-- Octets of UTF8-1 alone, and what a step over some of them keeps.
use Rattle.std.specs.Prelude.{◌≡◌, List, Bool, true, ℕ, zero, suc, ◌+◌, ◌≤◌, length, get_or, drop, leb}
use Rattle.utf8.specs.Utf8.{both, utf8}

-- are the k octets from i on all UTF8-1?
unfoldable pub ascii : ℕ → List ℕ → ℕ → Bool
ascii zero s i = true
ascii (suc k) s i = both (leb (get_or s i 0) 127) (ascii k s (i + 1))

-- r lies inside s, not before i, and what is left from r on is UTF-8 just as what is left from i on
pub record Passed (s : List ℕ) (i r : ℕ) : Type 0 where
  pub after : i ≤ r
  pub inside : r ≤ length s
  pub same : utf8 (drop r s) ≡ utf8 (drop i s)
