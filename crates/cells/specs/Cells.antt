-- A list of bytes as cells of 16: a tag of 4 bytes, a number of 4, a payload of 8. A cell is what the code's struct `Cell` holds.
use Rattle.std.specs.Prelude.{◌≡◌, List, [], ◌∷◌, ℕ, zero, suc, ◌+◌, ◌*◌, ◌/◌, ◌^◌, ◌<◌, length, drop}
use Rattle.cells.specs.Le.{le_at, put_at}
use Rattle.cells.specs.declared.Cell.{Cell}

-- the cell of sixteen bytes 0
abbrev pub null : Cell
null = record { tag = 0; number = 0; payload = 0 }

-- how many cells a slice has
abbrev pub room : List ℕ → ℕ
room s = length s / 16

-- cell i
unfoldable pub cell_at : List ℕ → ℕ → Cell
cell_at s i = record { tag = le_at 4 s (16 * i); number = le_at 4 s (16 * i + 4); payload = le_at 8 s (16 * i + 8) }

-- the bytes with c as cell i
unfoldable pub put_cell : List ℕ → ℕ → Cell → List ℕ
put_cell s i c = put_at 8 (put_at 4 (put_at 4 s (16 * i) c.tag) (16 * i + 4) c.number) (16 * i + 8) c.payload

-- the n cells from cell i on
unfoldable pub cells_from : List ℕ → ℕ → ℕ → List Cell
cells_from s i zero = []
cells_from s i (suc n) = cell_at s i ∷ cells_from s (i + 1) n

-- the whole cells of a slice, the first cell first
unfoldable pub cells : List ℕ → List Cell
cells s = cells_from s 0 (room s)

-- the bytes behind the last whole cell
unfoldable pub rest : List ℕ → List ℕ
rest s = drop (16 * room s) s

-- each number fits its width
pub record Sound (c : Cell) : Type 0 where
  pub tag : c.tag < 2 ^ 32
  pub number : c.number < 2 ^ 32
  pub payload : c.payload < 2 ^ 64

-- the cell with another tag
abbrev pub set_tag : Cell → ℕ → Cell
set_tag c x = record { tag = x; number = c.number; payload = c.payload }

-- the cell with another number
abbrev pub set_number : Cell → ℕ → Cell
set_number c x = record { tag = c.tag; number = x; payload = c.payload }

-- the cell with another payload
abbrev pub set_payload : Cell → ℕ → Cell
set_payload c x = record { tag = c.tag; number = c.number; payload = x }

-- what a function leaves that writes cells: the cells of the slice are l, and the bytes behind them are as they were
pub record Writes (old : List ℕ) (l : List Cell) (new : List ℕ) : Type 0 where
  pub cells : cells new ≡ l
  pub rest : rest new ≡ rest old
  pub len : length new ≡ length old
