-- Whether two texts are the same.
use Rattle.std.specs.Prelude.{◌≡◌, List, Bool, ℕ}
use Rattle.std.proofs.Math.Path.{ap}
use Rattle.std.proofs.Common.{◌∙◌}
use Rattle.cells.specs.declared.Cell.{Cell}
use Rattle.image.specs.Program.{part}
use Rattle.image.specs.Effects.{same}
use Rattle.image.specs.declared.Constant.{Constant}
use Rattle.machine.specs.Values.{constant_of, bytes_at}
use Rattle.scan.specs.Tables.{program_in}

-- ---- `same_text`
module _ (image rows constants inner : List ℕ) (codes : ℕ) (a b : Cell) where
  pub texts_same : {x y : Constant} {s t : List ℕ} {r : Bool} → x ≡ constant_of (program_in image rows constants inner codes) a → y ≡ constant_of (program_in image rows constants inner codes) b
      → s ≡ part image x.place x.size → t ≡ part image y.place y.size → r ≡ same s t
      → r ≡ same (bytes_at (program_in image rows constants inner codes) a) (bytes_at (program_in image rows constants inner codes) b)
  texts_same {t = t} e f g h w =
      w ∙ ap (λ (l : List ℕ). same l t) (g ∙ ap (λ (c : Constant). part image c.place c.size) e)
      ∙ ap (same _) (h ∙ ap (λ (c : Constant). part image c.place c.size) f)
