-- The program that the reader's tables stand for, and the cells of a store that is lent.
use Rattle.std.specs.Prelude.{List, ℕ}
use Rattle.cells.specs.Cells.{cells}
use Rattle.cells.specs.declared.Cell.{Cell}
use Rattle.image.specs.Program.{tab}
use Rattle.image.specs.Layout.{flat, code_at}
use Rattle.machine.specs.Values.{Program}
use Rattle.lookups.specs.declared.Program as lent
use Rattle.scan.specs.declared.store.Objects.{Objects}

abbrev pub program_in : List ℕ → List ℕ → List ℕ → List ℕ → ℕ → Program
program_in image rows constants inner codes = record { image = image; codes = tab codes (code_at image rows constants inner) }

-- the program that is lent
abbrev pub program_of : lent.Program → Program
program_of p = program_in p.image.now (flat p.rows.now) p.constants.now p.inner.now p.codes

-- the store of objects that are lent
abbrev pub cells_of : Objects → List Cell
cells_of o = cells o.store.now
