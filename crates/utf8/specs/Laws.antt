-- The laws of the functions' returns: a text from an index on, octet by octet.
use Rattle.std.specs.Prelude.{◌≡◌, ℕ, ◌+◌, ◌-◌, ◌≤◌, leb}
use mathlib.Core.List.{List}
use Rattle.utf8.specs.Utf8.{both}
use Rattle.utf8.specs.Ascii.{ascii}

-- `is_ascii_block` after k octets of n: those joined and those left give what the n octets from i on give
pub record Joined (s : List ℕ) (i n joint k : ℕ) : Type 0 where
  pub whole : both (leb joint 127) (ascii (n - k) s (i + k)) ≡ ascii n s i
  pub inside : k ≤ n
