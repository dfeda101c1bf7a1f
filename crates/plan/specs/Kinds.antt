-- The kinds of errors and frames, and the numbers that memory has for them.
use Rattle.std.specs.Prelude.{ℕ}
use Rattle.machine.specs.Values.{Error, call_arguments, un_operator, bin_operator, meta_un_operator, meta_bin_operator, zero_divisor, lucia_error, lucia_panic}
use Rattle.results.specs.declared.ErrorKind.{ErrorKind}
use Rattle.results.specs.declared.ErrorKind.TheVariants as kinds
use Rattle.plan.specs.declared.FrameKind.{FrameKind}
use Rattle.plan.specs.declared.FrameKind.TheVariants as frames

unfoldable pub kind_of : Error → ErrorKind
kind_of (call_arguments start unbounded given) = kinds.CallArguments
kind_of (un_operator o x t) = kinds.UnOperator
kind_of (bin_operator o x t u) = kinds.BinOperator
kind_of (meta_un_operator n t) = kinds.MetaUnOperator
kind_of (meta_bin_operator n t u) = kinds.MetaBinOperator
kind_of zero_divisor = kinds.ZeroDivisor
kind_of (lucia_error c) = kinds.Error
kind_of (lucia_panic c) = kinds.Panic

abbrev pub frame_number : FrameKind → ℕ
frame_number frames.Lucia = 64
frame_number frames.Host = 65
frame_number frames.Effect = 66
