-- Images by their parts, for worked examples here and above.
use Rattle.std.specs.Prelude.{List, [], ◌∷◌, ◌++◌, ℕ, zero, suc, ◌/◌, ◌%◌, length}

-- a number of k bytes
abbrev pub number : ℕ → ℕ → List ℕ
number zero n = []
number (suc k) n = n % 256 ∷ number k (n / 256)

abbrev pub record_of : ℕ → List ℕ → List ℕ
record_of kind body = number 4 (length body) ++ number 2 kind ++ body

abbrev pub opcode : ℕ → ℕ → List ℕ
opcode n operand = number 2 n ++ number 4 operand

-- a code without locals and captures
abbrev pub code_with : (params variadic : ℕ) (opcodes globals constants codes : List ℕ) → List ℕ
code_with params variadic opcodes globals constants codes =
    record_of 1 (number 2 params ++ number 2 variadic ++ number 4 0 ++ record_of 2 opcodes ++ record_of 3 globals ++ record_of 4 [] ++ record_of 5 constants ++ codes)

-- one without parameters and globals too
abbrev pub code : (opcodes constants codes : List ℕ) → List ℕ
code opcodes constants codes = code_with 0 0 opcodes [] constants codes
