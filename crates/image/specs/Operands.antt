-- Operand kinds as a table, and the opcodes that stand in a range of it.
use Rattle.std.specs.Prelude.{List, [], ◌∷◌}
use Rattle.image.specs.declared.OperandKind.{OperandKind}
use Rattle.image.specs.declared.OperandKind.TheVariants.{Unused, Count, ValueType, Local, Global, Upvalue, Const, Target, LeftOut}

-- ---- Operands by the opcode's number, in the order of the enum
abbrev pub kinds : List OperandKind
kinds =
    Unused ∷ Count ∷ Count ∷ Local ∷ Global ∷ Upvalue ∷ Const ∷ Local ∷ Global ∷ LeftOut
    ∷ Count ∷ LeftOut ∷ LeftOut ∷ LeftOut ∷ LeftOut ∷ LeftOut ∷ LeftOut ∷ Unused ∷ Unused ∷ Unused
    ∷ Unused ∷ Unused ∷ Unused ∷ Unused ∷ Unused ∷ Unused ∷ Unused ∷ Unused ∷ Unused ∷ Unused
    ∷ ValueType ∷ LeftOut ∷ LeftOut ∷ LeftOut ∷ LeftOut ∷ LeftOut ∷ Count ∷ Unused ∷ Count ∷ LeftOut
    ∷ Target ∷ Target ∷ Target ∷ Target ∷ Target ∷ Target ∷ Target ∷ Target ∷ Target ∷ Target
    ∷ Count ∷ Count ∷ []
