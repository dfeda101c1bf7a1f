-- What stands in an image, by name and number.
use Rattle.std.specs.Prelude.{ℕ, Result, Ok, Err, cond, eqb}
use Rattle.image.specs.declared.kinds.Unknown.{Unknown}
use Rattle.image.specs.declared.kinds.Opcode.{Opcode}
use Rattle.image.specs.declared.kinds.RecordKind.{RecordKind}
use Rattle.image.specs.declared.kinds.ConstantKind.{ConstantKind}
use Rattle.image.specs.declared.kinds.EffectKind.{EffectKind}
use Rattle.image.specs.declared.kinds.CaptureFrom.{CaptureFrom}
use Rattle.image.specs.declared.kinds.Opcode.TheVariants as op
use Rattle.image.specs.declared.kinds.RecordKind.TheVariants as record_kind
use Rattle.image.specs.declared.kinds.ConstantKind.TheVariants as constant
use Rattle.image.specs.declared.kinds.EffectKind.TheVariants as effect
use Rattle.image.specs.declared.kinds.CaptureFrom.TheVariants as from

abbrev pub opcode_number : Opcode → ℕ
opcode_number op.Pop = 0
opcode_number op.Copy = 1
opcode_number op.Swap = 2
opcode_number op.LoadLocal = 3
opcode_number op.LoadGlobal = 4
opcode_number op.LoadUpvalue = 5
opcode_number op.LoadConst = 6
opcode_number op.StoreLocal = 7
opcode_number op.StoreGlobal = 8
opcode_number op.BuildList = 10
opcode_number op.Neg = 17
opcode_number op.Not = 18
opcode_number op.Add = 19
opcode_number op.Sub = 20
opcode_number op.Mul = 21
opcode_number op.Div = 22
opcode_number op.Rem = 23
opcode_number op.Eq = 24
opcode_number op.Ne = 25
opcode_number op.Gt = 26
opcode_number op.Ge = 27
opcode_number op.Lt = 28
opcode_number op.Le = 29
opcode_number op.TypeCheck = 30
opcode_number op.Call = 36
opcode_number op.Return = 37
opcode_number op.ReturnCall = 38
opcode_number op.Jump = 40
opcode_number op.JumpBackEdge = 41
opcode_number op.Break = 42
opcode_number op.Continue = 43
opcode_number op.JumpPopIfNull = 44
opcode_number op.PopJumpIfTrue = 45
opcode_number op.PopJumpIfFalse = 46
opcode_number op.JumpIfTrueOrPop = 47
opcode_number op.JumpIfFalseOrPop = 48
opcode_number op.RegisterHandler = 49
opcode_number op.CheckEffect = 50
opcode_number op.MarkAddStackSize = 51

unfoldable pub opcode_of : ℕ → Result Opcode Unknown
opcode_of n =
    cond (eqb n 0) (Ok op.Pop)
    (cond (eqb n 1) (Ok op.Copy)
    (cond (eqb n 2) (Ok op.Swap)
    (cond (eqb n 3) (Ok op.LoadLocal)
    (cond (eqb n 4) (Ok op.LoadGlobal)
    (cond (eqb n 5) (Ok op.LoadUpvalue)
    (cond (eqb n 6) (Ok op.LoadConst)
    (cond (eqb n 7) (Ok op.StoreLocal)
    (cond (eqb n 8) (Ok op.StoreGlobal)
    (cond (eqb n 10) (Ok op.BuildList)
    (cond (eqb n 17) (Ok op.Neg)
    (cond (eqb n 18) (Ok op.Not)
    (cond (eqb n 19) (Ok op.Add)
    (cond (eqb n 20) (Ok op.Sub)
    (cond (eqb n 21) (Ok op.Mul)
    (cond (eqb n 22) (Ok op.Div)
    (cond (eqb n 23) (Ok op.Rem)
    (cond (eqb n 24) (Ok op.Eq)
    (cond (eqb n 25) (Ok op.Ne)
    (cond (eqb n 26) (Ok op.Gt)
    (cond (eqb n 27) (Ok op.Ge)
    (cond (eqb n 28) (Ok op.Lt)
    (cond (eqb n 29) (Ok op.Le)
    (cond (eqb n 30) (Ok op.TypeCheck)
    (cond (eqb n 36) (Ok op.Call)
    (cond (eqb n 37) (Ok op.Return)
    (cond (eqb n 38) (Ok op.ReturnCall)
    (cond (eqb n 40) (Ok op.Jump)
    (cond (eqb n 41) (Ok op.JumpBackEdge)
    (cond (eqb n 42) (Ok op.Break)
    (cond (eqb n 43) (Ok op.Continue)
    (cond (eqb n 44) (Ok op.JumpPopIfNull)
    (cond (eqb n 45) (Ok op.PopJumpIfTrue)
    (cond (eqb n 46) (Ok op.PopJumpIfFalse)
    (cond (eqb n 47) (Ok op.JumpIfTrueOrPop)
    (cond (eqb n 48) (Ok op.JumpIfFalseOrPop)
    (cond (eqb n 49) (Ok op.RegisterHandler)
    (cond (eqb n 50) (Ok op.CheckEffect)
    (cond (eqb n 51) (Ok op.MarkAddStackSize)
    (Err (record { number = n }))))))))))))))))))))))))))))))))))))))))

abbrev pub record_number : RecordKind → ℕ
record_number record_kind.Code = 1
record_number record_kind.Opcodes = 2
record_number record_kind.Globals = 3
record_number record_kind.Captures = 4
record_number record_kind.Constants = 5

abbrev pub constant_number : ConstantKind → ℕ
constant_number constant.Null = 16
constant_number constant.Bool = 17
constant_number constant.Int = 18
constant_number constant.Float = 19
constant_number constant.Str = 20
constant_number constant.Bytes = 21
constant_number constant.Function = 22
constant_number constant.Effect = 23

unfoldable pub constant_kind_of : ℕ → Result ConstantKind Unknown
constant_kind_of n =
    cond (eqb n 16) (Ok constant.Null)
    (cond (eqb n 17) (Ok constant.Bool)
    (cond (eqb n 18) (Ok constant.Int)
    (cond (eqb n 19) (Ok constant.Float)
    (cond (eqb n 20) (Ok constant.Str)
    (cond (eqb n 21) (Ok constant.Bytes)
    (cond (eqb n 22) (Ok constant.Function)
    (cond (eqb n 23) (Ok constant.Effect)
    (Err (record { number = n })))))))))

abbrev pub effect_number : EffectKind → ℕ
effect_number effect.Yield = 0
effect_number effect.Error = 1
effect_number effect.Panic = 2
effect_number effect.Declared = 3

unfoldable pub effect_kind_of : ℕ → Result EffectKind Unknown
effect_kind_of n =
    cond (eqb n 0) (Ok effect.Yield)
    (cond (eqb n 1) (Ok effect.Error)
    (cond (eqb n 2) (Ok effect.Panic)
    (cond (eqb n 3) (Ok effect.Declared)
    (Err (record { number = n })))))

abbrev pub capture_from_number : CaptureFrom → ℕ
capture_from_number from.Local = 0
capture_from_number from.Upvalue = 1

unfoldable pub capture_from_of : ℕ → Result CaptureFrom Unknown
capture_from_of n =
    cond (eqb n 0) (Ok from.Local)
    (cond (eqb n 1) (Ok from.Upvalue)
    (Err (record { number = n })))
