-- The program that an image stands for, and the rules that its numbers keep.
use Rattle.std.specs.Prelude.{List, [], ◌∷◌, ◌++◌, Bool, true, false, ℕ, zero, suc, ◌-◌, length, get_or, take, drop, ltb, leb, eqb}
use Rattle.cells.specs.Le.{le_at}
use Rattle.utf8.specs.Utf8.{utf8}
use Rattle.image.specs.Records.{if?, both}
use Rattle.image.specs.declared.Op.{Op}
use Rattle.image.specs.declared.Capture.{Capture}
use Rattle.image.specs.declared.Constant.{Constant}
use Rattle.image.specs.declared.OperandKind.{OperandKind}
use Rattle.image.specs.declared.OperandKind.TheVariants.{Unused, Count, ValueType, Local, Global, Upvalue, Const, Target, LeftOut}

-- A code. Its `codes` are the numbers of its `const_codes`; codes are numbered in the order in which they begin in the image.
pub record Code : Type 0 where
  pub params : ℕ
  pub variadic : ℕ
  pub locals : ℕ
  pub stack_size : ℕ
  pub opcodes : List Op
  pub globals : List ℕ
  pub captures : List Capture
  pub constants : List Constant
  pub codes : List ℕ

unfoldable pub all : {A : Type 0} → (A → Bool) → List A → Bool
all f [] = true
all f (x ∷ xs) = both (f x) (all f xs)

-- the list f 0, f 1, .. of n
unfoldable pub tab : {A : Type 0} → ℕ → (ℕ → A) → List A
tab zero f = []
tab (suc n) f = tab n f ++ (f n ∷ [])

-- ---- Opcodes: what stands as operand, by the opcode's number in the order of the enum
unfoldable pub operand_kind : ℕ → OperandKind
operand_kind n =
    if? (leb 52 n) LeftOut
    (if? (leb 50 n) Count
    (if? (leb 40 n) Target
    (if? (eqb n 39) LeftOut
    (if? (eqb n 38) Count
    (if? (eqb n 37) Unused
    (if? (eqb n 36) Count
    (if? (leb 31 n) LeftOut
    (if? (eqb n 30) ValueType
    (if? (leb 17 n) Unused
    (if? (leb 11 n) LeftOut
    (if? (eqb n 10) Count
    (if? (eqb n 9) LeftOut
    (if? (eqb n 8) Global
    (if? (eqb n 7) Local
    (if? (eqb n 6) Const
    (if? (eqb n 5) Upvalue
    (if? (eqb n 4) Global
    (if? (eqb n 3) Local
    (if? (leb 1 n) Count Unused)))))))))))))))))))

-- an operand of a kind keeps its rule in a code
abbrev pub operand_fine : Code → OperandKind → ℕ → Bool
operand_fine c Unused x = eqb x 0
operand_fine c Count x = true
operand_fine c ValueType x = leb x 9
operand_fine c Local x = ltb x c.locals
operand_fine c Global x = ltb x (length c.globals)
operand_fine c Upvalue x = ltb x (length c.captures)
operand_fine c Const x = ltb x (length c.constants)
operand_fine c Target x = ltb x (length c.opcodes)
operand_fine c LeftOut x = false

abbrev pub opcode_fine : Code → Op → Bool
opcode_fine c o = operand_fine c (operand_kind o.number) o.operand

-- a code may end with this opcode: `Return`, or one of the four plain jumps
unfoldable pub last_fine : Op → Bool
last_fine o = if? (eqb o.number 37) true (both (leb 40 o.number) (leb o.number 43))

-- ---- Constants: what stands in the body, by the record's kind
abbrev pub part : List ℕ → ℕ → ℕ → List ℕ
part image at n = take n (drop at image)

-- an effect's body: 0 to 2 a builtin, 3 a parameter count, a variadic mark and a name
unfoldable pub effect_fine : List ℕ → Bool
effect_fine b =
    if? (leb (le_at 2 b 0) 2) true
    (both (eqb (le_at 2 b 0) 3) (both (leb (le_at 2 b 2) 32) (both (leb (le_at 2 b 4) 1) (utf8 (drop 6 b)))))

unfoldable pub constant_fine : List ℕ → ℕ → Constant → Bool
constant_fine image codes c =
    let b = part image c.place c.size in
    if? (eqb c.kind 17) (leb (get_or b 0 0) 1)
    (if? (eqb c.kind 20) (utf8 b)
    (if? (eqb c.kind 22) (ltb (le_at 2 b 0) codes)
    (if? (eqb c.kind 23) (effect_fine b) true)))

-- ---- Captures: 0 a local or 1 an upvalue of the enclosing code
unfoldable pub capture_fine : Code → Capture → Bool
capture_fine outer c =
    if? (eqb c.from 0) (ltb c.index outer.locals)
    (both (eqb c.from 1) (ltb c.index (length outer.captures)))

-- ---- Codes
abbrev pub no_op : Op
no_op = record { number = 0; operand = 0 }

abbrev pub no_code : Code
no_code = record { params = 0; variadic = 0; locals = 0; stack_size = 0; opcodes = []; globals = []; captures = []; constants = []; codes = [] }

-- the counts of a code
unfoldable pub counts_fine : Code → Bool
counts_fine c =
    both (leb c.params 32) (both (leb c.variadic 1) (both (leb c.locals 256)
    (both (leb 1 (length c.opcodes)) (both (leb (length c.opcodes) 4096)
    (both (leb (length c.globals) 256) (both (leb (length c.captures) 256) (leb (length c.constants) 1024)))))))

-- the numbers of a code of the program p, with the captures of the codes in it
unfoldable pub code_fine : List ℕ → List Code → Code → Bool
code_fine image p c =
    both (counts_fine c)
    (both (all (opcode_fine c) c.opcodes)
    (both (last_fine (get_or c.opcodes (length c.opcodes - 1) no_op))
    (both (all (λ (n : ℕ). leb n 255) c.globals)
    (both (all (constant_fine image (length c.codes)) c.constants)
    (all (λ (k : ℕ). all (capture_fine c) (get_or p k no_code).captures) c.codes)))))

unfoldable pub program_fine : List ℕ → List Code → Bool
program_fine image p = all (code_fine image p) p
