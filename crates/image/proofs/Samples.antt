-- Worked images.
use Rattle.std.specs.Prelude.{◌≡◌, refl, List, [], ◌∷◌, ◌++◌, map, ℕ, zero, suc, ◌+◌, length, set, ltb}
use Rattle.cells.specs.Le.{le_at}
use Rattle.utf8.specs.Utf8.{starts, char, octets}
use Rattle.image.specs.Build.{number, record_of, opcode, code}
use Rattle.image.specs.Records.{if?, Answer, refused, accepted, whole, listed, both}
use Rattle.image.specs.Program.{Code, tab, all, operand_kind, last_fine, counts_fine, code_fine, program_fine, capture_fine, constant_fine, effect_fine}
use Rattle.image.specs.Image.{parse, read_by, read_inner, inner_from, own, constants?, constants_from, constant, sized, refusal}

-- `Jump 0` with one constant
abbrev holding : List ℕ → List ℕ
holding constant = code (opcode 40 0) constant []

-- `Jump 0`, with the next such code in it, n deep
abbrev nest : ℕ → List ℕ
nest zero = []
nest (suc n) = code (opcode 40 0) [] (nest n)

abbrev jumping : List ℕ → Code
jumping codes = record { params = 0; variadic = 0; locals = 0; stack_size = 0; opcodes = record { number = 40; operand = 0 } ∷ []; globals = []; captures = []; constants = []; codes = codes }

-- the answer, with all that it goes by
unfoldable answer : List ℕ → Answer (List Code)
unfolding parse read_by read_inner inner_from own constants? constants_from constant sized refusal whole listed both tab all operand_kind last_fine counts_fine code_fine program_fine capture_fine constant_fine effect_fine le_at starts char octets
answer image = parse image

-- ---- accepted: the smallest image, P14's nest of 8, and `LoadConst 0`, `Return` with a null
smallest_size : length (nest 1) ≡ 44
smallest_size = refl

smallest : parse (nest 1) ≡ accepted (jumping [] ∷ [])
unfolding answer
smallest = refl

deepest : parse (nest 8) ≡ accepted (tab 8 (λ (k : ℕ). jumping (if? (ltb k 7) ((k + 1) ∷ []) [])))
unfolding answer
deepest = refl

abbrev null : List ℕ
null = code (opcode 6 0 ++ opcode 37 0) (record_of 16 []) []

null_size : length null ≡ 56
null_size = refl

null_loads : parse null ≡ accepted (record {
  params = 0;
  variadic = 0;
  locals = 0;
  stack_size = 0;
  opcodes = record { number = 6; operand = 0 } ∷ record { number = 37; operand = 0 } ∷ [];
  globals = [];
  captures = [];
  constants = record { kind = 16; place = 56; size = 0 } ∷ [];
  codes = [];
} ∷ [])
unfolding answer
null_loads = refl

-- ---- refused
record Row : Type 0 where
  image : List ℕ
  number : ℕ

abbrev row : List ℕ → ℕ → Row
row image n = record { image = image; number = n }

abbrev rows : List Row
rows =
    row (0 ∷ 0 ∷ 0 ∷ 0 ∷ 1 ∷ []) 1
    ∷ row (record_of 1 []) 2
    ∷ row (set (nest 1) 0 39) 2
    ∷ row (nest 1 ++ (0 ∷ [])) 2
    ∷ row (nest 9) 4
    ∷ row (nest 9 ++ (0 ∷ [])) 4
    ∷ row (holding (record_of 20 (255 ∷ []))) 3
    ∷ row (holding (record_of 20 (255 ∷ [])) ++ (0 ∷ [])) 2
    ∷ row (holding (record_of 17 (2 ∷ []))) 3
    ∷ row (holding (record_of 17 (0 ∷ 0 ∷ []))) 2
    ∷ row (holding (record_of 23 (4 ∷ 0 ∷ 0 ∷ 0 ∷ 0 ∷ 0 ∷ 0 ∷ []))) 3
    ∷ row (holding (record_of 23 (1 ∷ 0 ∷ 0 ∷ []))) 2
    ∷ row (holding (record_of 23 (1 ∷ []))) 2
    ∷ row (code (opcode 38 0) [] []) 3
    ∷ row (code (opcode 0 1 ++ opcode 40 0) [] []) 3
    ∷ []

refusals : map (λ (r : Row). parse r.image) rows ≡ map (λ (r : Row). refused r.number) rows
unfolding answer
refusals = refl

-- a code whose body runs past its parent: 4 as the 257th, 2 as the 256th
last_code : map (λ (n : ℕ). refusal 7 n (number 4 1000 ++ number 2 1) 0) (256 ∷ 255 ∷ []) ≡ 4 ∷ 2 ∷ []
unfolding answer
last_code = refl
