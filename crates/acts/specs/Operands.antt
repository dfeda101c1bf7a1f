-- The values on top of a running frame, copied as arguments.
use Rattle.std.specs.Prelude.{◌≡◌, List, reverse, ℕ, ◌-◌, ◌*◌, ◌≤◌, length, take, drop}
use Rattle.std.proofs.Common.{ap, ◌∙◌, arith, length-drop, take_at, length-take-le}
use Rattle.std.proofs.Math.Seq.{paste}
use Rattle.cells.specs.Cells.{cells, Writes}
use Rattle.cells.specs.CellsLaws.{length_cells}
use Rattle.cells.specs.Parts.{cells_lent}
use Rattle.cells.specs.Moves.{paste_is}
use Rattle.cells.specs.declared.Cell.{Cell}
use Rattle.memory.specs.Layout.{Written}
use Rattle.moves.specs.Runs.{Top, end_of, values_there}
use Rattle.moves.specs.declared.Running as registers
use Rattle.acts.specs.Left.{top_room}

-- the first n of a list that they were pasted into
pasted : (a x : List Cell) (n : ℕ) → n ≤ length x → take n (paste a 0 x n) ≡ take n x
pasted a x n le = ap (take n) (paste_is a 0 x n) ∙ take_at (take n x) _ n (length-take-le n x le)

pub args_are : {w : Written} {pre : List Cell} {g : registers.Running} (live : List ℕ) (n : ℕ) {e : ℕ} {args args₁ : List ℕ} → Top w pre g (cells live) → n ≤ g.stack → e ≡ end_of g → Writes args (paste (cells args) 0 (drop (e - n) (cells live)) n) args₁
    → cells (take (16 * n) args₁) ≡ reverse (take n w.stack)
args_are live n {e} {args} {args₁} t le q x =
    let k : n ≤ length (drop (e - n) (cells live)) = omega (arith, length-drop (e - n) (cells live), length_cells live, (top_room live t).0, q) in
    cells_lent args₁ n ∙ ap (take n) x.cells ∙ pasted (cells args) (drop (e - n) (cells live)) n k ∙ ap (λ (i : ℕ). take n (drop (i - n) (cells live))) q ∙ values_there t n le
