-- Laws of what an image is made of: constants' sizes, and the refusal of a record.
use Rattle.std.specs.Prelude.{◌≡◌, List, Bool, true, not, ℕ, ◌≤◌, length, leb, Result, Ok}
use Rattle.std.proofs.Math.Path.{sym}
use Rattle.std.proofs.Common.{◌∙◌}
use Rattle.std.proofs.Math.Bool.{false}
use native.Mathlib.Omega.{arith}
use Rattle.std.proofs.Math.Dec.{eqb}
use borrow.Author.Tests.{not-false}
use Rattle.image.specs.Records.{if?, both, after}
use Rattle.image.specs.Parts.{Entered}
use Rattle.image.proofs.Parts.{constant_true, entered}
use Rattle.image.specs.Image.{constant, refusal}
use Rattle.refusals.specs.Refusals.{number_of}
use Rattle.refusals.specs.declared.Refusal.{Refusal}

-- ---- Sizes of constants
-- an effect's body may have this size: what `sized` says of kind 23
unfoldable pub effect_sized : ℕ → ℕ → Bool
effect_sized effect n = both (leb 2 n) (if? (leb effect 2) (eqb n 2) (if? (eqb effect 3) (leb 6 n) true))

module _ (s : List ℕ) (at : ℕ) where
  pub constant_of : {t : Bool} → t ≡ constant s at → not t ≡ false → after s at ≤ length s
  constant_of {t} e n = (constant_true s at (sym e ∙ not-false t n)).fits

-- ---- The refusal of a record
module _ (d n : ℕ) (s : List ℕ) (at : ℕ) where
  pub passed : {o : Result (Unit {0}) Refusal} → number_of o ≡ refusal d n s at → {x : Unit {0}} → o ≡ Ok x → Entered d n s at
  passed e z = entered d n s at (sym (rw z at e))
