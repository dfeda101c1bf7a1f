-- `layout` and `parse` are one: the tables that the reader fills stand for the program that the image is.
use Rattle.std.specs.Prelude.{◌≡◌, get_or}
use mathlib.Core.List.{List, ◌++◌}
use Prim.Native.Nat.{ℕ, ◌*◌, ◌<◌}
use Rattle.std.proofs.Math.ListN.{length}
use Rattle.image.specs.Program.{Code, no_code}
use Rattle.image.specs.Layout.{Tables, code_at}

-- ---- the tables show the program p so far, whatever is put behind
pub record Shows (image : List ℕ) (t : Tables) (p : List Code) : Type 0 where
  pub codes : t.codes ≡ length p
  pub used : t.used ≡ length t.constants
  pub kept : t.kept ≡ length t.inner
  pub rows : length t.rows ≡ 10 * length p
  pub each : (k : ℕ) (xs ys : List ℕ) → k < length p → code_at image t.rows (t.constants ++ xs) (t.inner ++ ys) k ≡ get_or p k no_code
