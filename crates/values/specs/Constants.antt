-- The value of a constant, by its kind.
use Rattle.std.specs.Prelude.{◌≡◌, Bool, true, false, ℕ, ◌+◌, ◌≤◌, length}
use Rattle.std.proofs.Common.{arith, length-take, length-drop}
use Rattle.std.proofs.Math.Path.{refl}
use mathlib.Core.List.{List}
use Rattle.std.specs.Int.{from_bool}
use Rattle.image.specs.Program.{part}
use Rattle.image.specs.Fine.{Sized}
use Rattle.image.specs.declared.Constant.{Constant}
use Rattle.machine.specs.Values.{cell, bool}

-- ---- a Bool
pub bool_is : (b : Bool) → cell 1 (from_bool b) 0 ≡ bool b
bool_is true = refl
bool_is false = refl

-- ---- a constant
module _ (image : List ℕ) (c : Constant) where
  module _ {b : List ℕ} (e : b ≡ part image c.place c.size) where
    -- the 8 bytes of an Int or a Float are there
    pub eight_int : Sized image c → c.kind ≡ 18 → 0 + 8 ≤ length b
    eight_int s k = rw e (simp (length-take, length-drop) (omega (arith, s.inside, s.int k)))

    pub eight_float : Sized image c → c.kind ≡ 19 → 0 + 8 ≤ length b
    eight_float s k = rw e (simp (length-take, length-drop) (omega (arith, s.inside, s.float k)))
