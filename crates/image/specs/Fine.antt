-- What holds of an accepted image, its program and each code of it: the layers above cite this, from `accepted_fine` of `Accepted`, instead of the definitions.
use Rattle.std.specs.Prelude.{◌≡◌, List, true, false, ℕ, ◌+◌, ◌<◌, ◌≤◌, length, get_or, drop}
use Rattle.cells.specs.Le.{le_at}
use Rattle.utf8.specs.Utf8.{utf8}
use Rattle.image.specs.Program.{Code, operand_kind, last_fine, part, no_op, no_code}
use Rattle.image.specs.declared.Capture.{Capture}
use Rattle.image.specs.declared.Constant.{Constant}
use Rattle.image.specs.declared.OperandKind.{OperandKind}
use Rattle.image.specs.declared.OperandKind.TheVariants.{Unused, Count, ValueType, Local, Global, Upvalue, Const, Target, LeftOut}

abbrev pub no_constant : Constant
no_constant = record { kind = 0; place = 0; size = 0 }

abbrev pub no_capture : Capture
no_capture = record { from = 0; index = 0 }

-- an operand of a kind lies in its table; no opcode is left out
abbrev pub OperandIn : Code → OperandKind → ℕ → Type 0
OperandIn c Unused x = x ≡ 0
OperandIn c Count x = Unit
OperandIn c ValueType x = x ≤ 9
OperandIn c Local x = x < c.locals
OperandIn c Global x = x < length c.globals
OperandIn c Upvalue x = x < length c.captures
OperandIn c Const x = x < length c.constants
OperandIn c Target x = x < length c.opcodes
OperandIn c LeftOut x = ⊥

-- the bytes of a constant
abbrev pub bytes_of : List ℕ → Constant → List ℕ
bytes_of image c = part image c.place c.size

-- an effect of n bytes, by its first number: a builtin, or one that the image declares
pub record EffectSized (effect n : ℕ) : Type 0 where
  pub least : 2 ≤ n
  pub builtin : effect ≤ 2 → n ≡ 2
  pub declared : effect ≡ 3 → 6 ≤ n

-- a constant lies in the image, and has its kind's size
pub record Sized (image : List ℕ) (c : Constant) : Type 0 where
  pub inside : c.place + c.size ≤ length image
  pub low : 16 ≤ c.kind
  pub high : c.kind ≤ 23
  pub null : c.kind ≡ 16 → c.size ≡ 0
  pub bool : c.kind ≡ 17 → c.size ≡ 1
  pub int : c.kind ≡ 18 → c.size ≡ 8
  pub float : c.kind ≡ 19 → c.size ≡ 8
  pub function : c.kind ≡ 22 → c.size ≡ 2
  pub effect : c.kind ≡ 23 → EffectSized (le_at 2 (bytes_of image c) 0) c.size

-- the bytes of an effect that the image declares: parameter count, variadic mark and name
pub record Declared (b : List ℕ) : Type 0 where
  pub params : le_at 2 b 2 ≤ 32
  pub variadic : le_at 2 b 4 ≤ 1
  pub name : utf8 (drop 6 b) ≡ true

-- what its bytes say is right, in a code with so many codes in it
pub record Valued (image : List ℕ) (codes : ℕ) (c : Constant) : Type 0 where
  pub bool : c.kind ≡ 17 → get_or (bytes_of image c) 0 0 ≤ 1
  pub str : c.kind ≡ 20 → utf8 (bytes_of image c) ≡ true
  pub function : c.kind ≡ 22 → le_at 2 (bytes_of image c) 0 < codes
  pub effect : c.kind ≡ 23 → le_at 2 (bytes_of image c) 0 ≤ 3
  pub declared : c.kind ≡ 23 → le_at 2 (bytes_of image c) 0 ≡ 3 → Declared (bytes_of image c)

-- a capture of a code in c is a local or an upvalue that c has
pub record CaptureIn (c : Code) (x : Capture) : Type 0 where
  pub from : x.from ≤ 1
  pub local : x.from ≡ 0 → x.index < c.locals
  pub upvalue : x.from ≡ 1 → x.index < length c.captures

-- c, as code number n of p
pub record Fine (image : List ℕ) (p : List Code) (n : ℕ) (c : Code) : Type 0 where
  pub params : c.params ≤ 32
  pub variadic : c.variadic ≤ 1
  pub locals : c.locals ≤ 256
  pub some : 1 ≤ length c.opcodes
  pub opcodes : length c.opcodes ≤ 4096
  pub globals : length c.globals ≤ 256
  pub captures : length c.captures ≤ 256
  pub constants : length c.constants ≤ 1024
  pub operand : (i : ℕ) → i < length c.opcodes → OperandIn c (operand_kind (get_or c.opcodes i no_op).number) (get_or c.opcodes i no_op).operand
  pub next : (i : ℕ) → i < length c.opcodes → last_fine (get_or c.opcodes i no_op) ≡ false → i + 1 < length c.opcodes
  pub name : (i : ℕ) → i < length c.globals → get_or c.globals i 0 ≤ 255
  pub sized : (i : ℕ) → i < length c.constants → Sized image (get_or c.constants i no_constant)
  pub valued : (i : ℕ) → i < length c.constants → Valued image (length c.codes) (get_or c.constants i no_constant)
  pub above : (i : ℕ) → i < length c.codes → n < get_or c.codes i 0
  pub below : (i : ℕ) → i < length c.codes → get_or c.codes i 0 < length p
  pub capture : (i j : ℕ) → i < length c.codes → j < length (get_or p (get_or c.codes i 0) no_code).captures → CaptureIn c (get_or (get_or p (get_or c.codes i 0) no_code).captures j no_capture)

-- an accepted image and its program
pub record Accepted (image : List ℕ) (p : List Code) : Type 0 where
  pub least : 6 ≤ length image
  pub most : length image ≤ 65536
  pub some : 1 ≤ length p
  pub few : length p ≤ 256
  pub fine : (n : ℕ) → n < length p → Fine image p n (get_or p n no_code)
