-- Values. A value is one cell (docs/LAYOUT.md): a tag, of which the type is the remainder by 16, a number and a payload. Equal values are equal cells.
use Rattle.std.specs.Prelude.{List, Option, Some, None, Bool, true, false, not, ℕ, ◌+◌, ◌-◌, ◌%◌, get_or, eqb}
use Rattle.cells.specs.Le.{le_at}
use Rattle.cells.specs.declared.Cell.{Cell}
use Rattle.image.specs.Records.{if?, both}
use Rattle.image.specs.Program.{Code, no_code}
use Rattle.image.specs.Fine.{no_constant, bytes_of}
use Rattle.image.specs.Effects.{same, same_effect}
use Rattle.image.specs.declared.Constant.{Constant}
use Rattle.ints.specs.Ints.{half, neg, add, sub, mul, div, rem, lt, le, gt, ge}

-- A loaded image with its program.
pub record Program : Type 0 where
  pub image : List ℕ
  pub codes : List Code

abbrev pub code_of : Program → ℕ → Code
code_of P c = get_or P.codes c no_code

-- ---- The kinds of values
abbrev pub cell : ℕ → ℕ → ℕ → Cell
cell t n p = record { tag = t; number = n; payload = p }

abbrev pub bool : Bool → Cell
bool true = cell 1 1 0
bool false = cell 1 0 0

abbrev pub int : ℕ → Cell
int a = cell 2 0 a

abbrev pub builtin : ℕ → Cell
builtin n = cell 8 n 0

abbrev pub message : ℕ → Cell
message n = cell 20 n 0

-- an object of the store by its handle
abbrev pub list_at : ℕ → Cell
list_at h = cell 6 h 0

abbrev pub closure_at : ℕ → Cell
closure_at h = cell 7 h 0

abbrev pub continuation_at : ℕ → Cell
continuation_at h = cell 23 h 0

-- types numbered 0 to 9 in `ValueType` order
abbrev pub type_of : Cell → ℕ
type_of v = v.tag % 16

abbrev pub is_null : Cell → Bool
is_null v = eqb v.tag 0

abbrev pub is_effect : Cell → Bool
is_effect v = eqb (type_of v) 8

-- the constant of the image that a Str, Bytes or Effect names, and its bytes
abbrev pub constant_of : Program → Cell → Constant
constant_of P v = get_or (code_of P v.number).constants v.payload no_constant

abbrev pub bytes_at : Program → Cell → List ℕ
bytes_at P v = bytes_of P.image (constant_of P v)

-- ---- Effects: "equal if the same builtin, or of equal name, parameter count and variadic mark"
unfoldable pub equal_effects : Program → Cell → Cell → Bool
equal_effects P a b =
    if? (eqb a.tag 8) (both (eqb b.tag 8) (eqb a.number b.number))
    (both (eqb b.tag 24) (same_effect (bytes_at P a) (bytes_at P b)))

pub record Params : Type 0 where
  pub count : ℕ
  pub variadic : Bool

abbrev pub code_params : Code → Params
code_params c = record { count = c.params; variadic = eqb c.variadic 1 }

-- a builtin has one parameter
unfoldable pub effect_params : Program → Cell → Params
effect_params P e =
    if? (eqb e.tag 8) (record { count = 1; variadic = false })
    (record { count = le_at 2 (bytes_at P e) 2; variadic = eqb (le_at 2 (bytes_at P e) 4) 1 })

-- effect.rs: the expected effect has one parameter more, and the same variadic mark
unfoldable pub match_effect_handler : Params → Params → Bool
match_effect_handler p expected = both (eqb (p.count + 1) expected.count) (if? p.variadic expected.variadic (not expected.variadic))

-- ---- "`Eq` and `Ne` compare Null, Bool, Int and Effect by value and Str by bytes; any other pair is unequal", "messages equal only the same message"
unfoldable pub equal : Program → Cell → Cell → Bool
equal P a b =
    if? (is_effect a) (both (is_effect b) (equal_effects P a b))
    (both (eqb a.tag b.tag)
    (if? (eqb a.tag 0) true
    (if? (eqb a.tag 1) (eqb a.number b.number)
    (if? (eqb a.tag 2) (eqb a.payload b.payload)
    (if? (eqb a.tag 4) (same (bytes_at P a) (bytes_at P b))
    (if? (eqb a.tag 20) (eqb a.number b.number) false))))))

-- ---- Errors, with the Rust's fields: opcodes with their operands, types and names of metamethods by number
pub data Error : Type 0 where
  call_arguments : (start : ℕ) (unbounded : Bool) (given : ℕ) → Error
  un_operator : (opcode operand type : ℕ) → Error
  bin_operator : (opcode operand first second : ℕ) → Error
  meta_un_operator : (name type : ℕ) → Error
  meta_bin_operator : (name first second : ℕ) → Error
  zero_divisor : Error
  lucia_error : Cell → Error
  lucia_panic : Cell → Error

-- the builtin that a throw performs, and what it shows to a handler
unfoldable pub thrown : Error → Cell
thrown (call_arguments s o g) = builtin 1
thrown (un_operator o x t) = builtin 1
thrown (bin_operator o x t u) = builtin 1
thrown (meta_un_operator n t) = builtin 1
thrown (meta_bin_operator n t u) = builtin 1
thrown zero_divisor = builtin 1
thrown (lucia_error v) = builtin 1
thrown (lucia_panic v) = builtin 2

unfoldable pub shown : Error → Cell
shown (call_arguments s o g) = message 1
shown (un_operator o x t) = message 2
shown (bin_operator o x t u) = message 3
shown (meta_un_operator n t) = message 4
shown (meta_bin_operator n t u) = message 5
shown zero_divisor = message 6
shown (lucia_error v) = v
shown (lucia_panic v) = v

-- ---- Operators 17 to 29
pub data Computed : Type 0 where
  computes : Cell → Computed
  fails : Error → Computed

unfoldable pub divides : Option ℕ → Computed
divides (Some n) = computes (int n)
divides None = fails zero_divisor

-- `Neg` takes an Int, `Not` a Bool
unfoldable pub unary : ℕ → Cell → Computed
unary op v =
    if? (eqb op 17) (if? (eqb v.tag 2) (computes (int (neg half v.payload))) (fails (meta_un_operator 6 (type_of v))))
    (if? (eqb v.tag 1) (computes (bool (eqb v.number 0))) (fails (un_operator op 0 (type_of v))))

-- arithmetic and order of two Ints
unfoldable pub of_ints : ℕ → ℕ → ℕ → Computed
of_ints op a b =
    if? (eqb op 19) (computes (int (add half a b)))
    (if? (eqb op 20) (computes (int (sub half a b)))
    (if? (eqb op 21) (computes (int (mul half a b)))
    (if? (eqb op 22) (divides (div half a b))
    (if? (eqb op 23) (divides (rem half a b))
    (if? (eqb op 26) (computes (bool (gt half a b)))
    (if? (eqb op 27) (computes (bool (ge half a b)))
    (if? (eqb op 28) (computes (bool (lt half a b)))
    (computes (bool (le half a b))))))))))

-- the names of metamethods follow the opcodes: `Add` is opcode 19 and name 7
unfoldable pub binary : Program → ℕ → Cell → Cell → Computed
binary P op a b =
    if? (eqb op 24) (computes (bool (equal P a b)))
    (if? (eqb op 25) (computes (bool (not (equal P a b))))
    (if? (both (eqb a.tag 2) (eqb b.tag 2)) (of_ints op a.payload b.payload) (fails (meta_bin_operator (op - 12) (type_of a) (type_of b)))))
