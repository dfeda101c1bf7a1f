-- A global or a builtin is set: globals begin at cell 4 of the state block, builtins at 260.
use Rattle.std.specs.Prelude.{◌≡◌, List, ℕ, ◌+◌, set, ltb}
use Rattle.cells.specs.Cells.{cells}
use Rattle.cells.specs.declared.Cell.{Cell}
use Rattle.image.specs.Records.{both, Answer, refused, accepted}
use Rattle.image.proofs.Parts.{first}
use Rattle.form.specs.Entry.{Entered}
use Rattle.asks.specs.Entries.{exists}
use Rattle.asks.specs.Writing.{Writing}

abbrev pub Setting : ℕ → ℕ → Cell → List ℕ → List ℕ → Answer Entered → ℕ → List ℕ → Type 0
Setting first number v state store (refused n) r state' = (r ≡ n) × (state' ≡ state)
Setting first number v state store (accepted e) r state' = Writing (both (exists e state store v) (ltb number 256)) (set (cells state) (first + number) v) state r state'
