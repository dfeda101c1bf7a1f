-- Laws of values: a value exists however the store grows, and what the rules make of values are values.
use Rattle.std.specs.Prelude.{◌≡◌}
use mathlib.Core.List.{List}
use Rattle.std.proofs.Math.Bool.{true}
use Rattle.cells.specs.declared.Cell.{Cell}
use Rattle.machine.specs.Values.{Program, is_effect}
use Rattle.machine.specs.Machine.{Object}
use Rattle.machine.specs.Calls.{is_value}

-- ---- Values and effects, one by one
abbrev pub Value : Program → List Object → Cell → Type 0
Value P s v = is_value P s v ≡ true

abbrev pub Effect : Program → List Object → Cell → Type 0
Effect P s e = Value P s e × (is_effect e ≡ true)
