-- What a load and a clear write.
use Rattle.std.specs.Prelude.{◌≡◌, List, ◌∷◌, true, ℕ, ◌+◌, length, get_or, set, replicate}
use Rattle.cells.specs.Cells.{null, cells}
use Rattle.cells.specs.declared.Cell.{Cell}
use Rattle.image.specs.Records.{Answer, refused, accepted}
use Rattle.image.specs.Program.{Code, no_code}
use Rattle.machine.specs.Values.{cell}
use Rattle.form.specs.Entry.{Entered}
use Rattle.asks.specs.Writing.{Writing}

-- the captures of the outermost code
abbrev pub outermost_of : Answer (List Code) → Answer ℕ
outermost_of (refused n) = refused n
outermost_of (accepted cs) = accepted (length (get_or cs 0 no_code).captures)

-- the mark, so many cells of the store used, and no frame
abbrev pub headed : ℕ → List Cell → List Cell
headed n l = set (set l 0 (cell 1 0 n)) 1 (cell 64 0 0)

-- frames, result, wait and slice are dropped
abbrev pub cleared : List Cell → List Cell
cleared l = set (set (headed (get_or l 0 null).payload l) 2 null) 3 null

abbrev pub Clearing : List ℕ → Answer Entered → ℕ → List ℕ → Type 0
Clearing state (refused n) r state' = (r ≡ n) × (state' ≡ state)
Clearing state (accepted e) r state' = Writing true (cleared (cells state)) state r state'

-- ---- A load: the outermost closure with its captures null, and a state block with nothing in it
abbrev pub fresh_store : ℕ → List Cell
fresh_store n = cell 128 0 n ∷ replicate n null

abbrev pub fresh_state : ℕ → List Cell
fresh_state n = cell 1 0 (1 + n) ∷ cell 64 0 0 ∷ replicate 514 null
