-- Examples, computed: the order of the bytes in a cell, and a slice of one cell and a byte.
use Rattle.std.specs.Prelude.{◌≡◌, refl, List, [], ◌∷◌, ◌++◌, ℕ, replicate}
use Rattle.cells.specs.Le.{le_at, put_at}
use Rattle.cells.specs.Cells.{cell_at, put_cell, cells_from, cells, rest}
use Rattle.cells.specs.declared.Cell.{Cell}

-- tag 1, number 2, payload 3
abbrev sample : Cell
sample = record { tag = 1; number = 2; payload = 3 }

-- its bytes, and one behind them
abbrev seventeen : List ℕ
seventeen = 1 ∷ 0 ∷ 0 ∷ 0 ∷ 2 ∷ 0 ∷ 0 ∷ 0 ∷ 3 ∷ 0 ∷ 0 ∷ 0 ∷ 0 ∷ 0 ∷ 0 ∷ 0 ∷ 9 ∷ []

pub row_put : put_cell (replicate 16 0 ++ (9 ∷ [])) 0 sample ≡ seventeen
unfolding put_cell put_at
row_put = refl

pub row_cells : cells seventeen ≡ sample ∷ []
unfolding cells cells_from cell_at le_at
row_cells = refl

pub row_rest : rest seventeen ≡ 9 ∷ []
unfolding rest
row_rest = refl
