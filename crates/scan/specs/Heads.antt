-- The head of a frame: the code of a Lucia frame, and one law for each return of `frame_end`. The frame's cells are the first of X.
use Rattle.std.specs.Prelude.{◌≡◌, List, Bool, Option, None, ℕ, ◌+◌, ◌*◌, ◌<◌, length, get_or, ltb, leb}
use Rattle.std.proofs.Math.Path.{sym, ap}
use Rattle.std.proofs.Common.{◌∙◌, arith}
use borrow.Author.Tests.{lt-leb}
use Rattle.cells.specs.Cells.{null, room, cells}
use Rattle.cells.specs.CellsLaws.{length_cells}
use Rattle.cells.specs.declared.Cell.{Cell}
use Rattle.image.specs.Program.{Code}
use Rattle.image.specs.Layout.{field, code_at}
use Rattle.image.proofs.Parts.{length_tab}
use Rattle.machine.specs.Values.{code_of}
use Rattle.program.specs.Looks.{body_at}
use Rattle.memory.specs.View.{frame_size}
use Rattle.std.specs.Bool.{then_some}
use Rattle.scan.specs.Tables.{program_in}
use Rattle.scan.specs.Values.{code_in}

-- ---- a Lucia frame: what its code k has, by the tables
module _ (image rows constants inner : List ℕ) (codes k : ℕ) where
  pub known : {t : Bool} → ltb k codes ≡ t → ltb k (length (program_in image rows constants inner codes).codes) ≡ t
  known h = rw (length_tab codes (code_at image rows constants inner)) h

  module _ (h : k < codes) where
    pub opcodes : {m : ℕ} → m ≡ field rows k 1 → length (code_of (program_in image rows constants inner codes) k).opcodes ≡ m
    opcodes u = ap (λ (d : Code). length d.opcodes) (code_in image rows constants inner codes k h) ∙ length_tab _ _ ∙ sym u

    pub locals : {l : ℕ} → l ≡ (body_at image rows k).locals → (code_of (program_in image rows constants inner codes) k).locals ≡ l
    locals z = ap (λ (d : Code). d.locals) (code_in image rows constants inner codes k h) ∙ sym z

-- ---- how many cells a frame has
abbrev pub ended : List Cell → Option ℕ
ended X = then_some (leb (frame_size X) (length X)) (frame_size X)

module _ (s : List ℕ) {r : ℕ} (e : r ≡ room s) {l h k : ℕ} (p : l ≡ (get_or (cells s) 0 null).number) (q : h ≡ (get_or (cells s) 0 null).payload) (w : k ≡ (get_or (cells s) 2 null).payload) where
  size_is : frame_size (cells s) ≡ 6 + l + 2 * h + k
  size_is = omega (arith, p, q, w)

  length_is : length (cells s) ≡ r
  length_is = length_cells s ∙ sym e

  pub end_past : r < 6 + l + 2 * h + k → None ≡ ended (cells s)
  end_past g = sym (ap (λ (t : Bool). then_some t (frame_size (cells s))) (lt-leb (frame_size (cells s)) (length (cells s)) (omega (arith, size_is, length_is))))

  pub end_at : {end : ℕ} → end ≡ 6 + l + 2 * h + k → then_some (leb end r) end ≡ ended (cells s)
  end_at {end} g =
      let a : end ≡ frame_size (cells s) = g ∙ sym size_is in
      rw (← a, length_is)
