-- The operators by the numbers of their opcodes.
use Rattle.std.specs.Prelude.{ℕ}
use Rattle.operators.specs.declared.UnaryOperator.{UnaryOperator}
use Rattle.operators.specs.declared.UnaryOperator.TheVariants as u
use Rattle.operators.specs.declared.BinaryOperator.{BinaryOperator}
use Rattle.operators.specs.declared.BinaryOperator.TheVariants as b

abbrev pub unary_number : UnaryOperator → ℕ
unary_number u.Neg = 17
unary_number u.Not = 18

abbrev pub binary_number : BinaryOperator → ℕ
binary_number b.Add = 19
binary_number b.Sub = 20
binary_number b.Mul = 21
binary_number b.Div = 22
binary_number b.Rem = 23
binary_number b.Eq = 24
binary_number b.Ne = 25
binary_number b.Gt = 26
binary_number b.Ge = 27
binary_number b.Lt = 28
binary_number b.Le = 29
