-- Where the parts of an image lie, as the reader finds them in one pass: a row of ten numbers for each code, the places of all constants, and the numbers of
-- the codes in each code. `Image` says what an image is; `layout` is what the reader computes, and `Agrees` shows that the two are one.
use Rattle.std.specs.Prelude.{List, [], ◌∷◌, ◌++◌, Bool, ℕ, zero, suc, ◌+◌, ◌-◌, ◌*◌, ◌/◌, length, get_or, set, ltb, leb, eqb}
use Rattle.cells.specs.Le.{le_at}
use Rattle.image.specs.Records.{if?, both, Answer, refused, accepted, then, size, kind, body, after, whole, listed}
use Rattle.image.specs.Program.{Code, tab}
use Rattle.image.specs.Image.{opcodes_at, globals_at, captures_at, constants_at, codes_at, constant, refusal}
use Rattle.image.specs.declared.Op.{Op}
use Rattle.image.specs.declared.Capture.{Capture}
use Rattle.image.specs.declared.Constant.{Constant}
use Rattle.image.specs.declared.Row.{Row}

-- the tables: row k is the code that was begun as number k; `used` constants and `kept` numbers of inner codes
pub record Tables : Type 0 where
  pub codes : ℕ
  pub used : ℕ
  pub kept : ℕ
  pub rows : List ℕ
  pub constants : List ℕ
  pub inner : List ℕ

abbrev pub empty : Tables
empty = record { codes = 0; used = 0; kept = 0; rows = []; constants = []; inner = [] }

-- the places of the constants from `at` on, behind those that are there
pub record Places : Type 0 where
  pub used : ℕ
  pub list : List ℕ

unfoldable pub places_from : ℕ → ℕ → List ℕ → ℕ → Places → Answer Places
places_from zero base s at p = accepted p
places_from (suc f) base s at p =
    if? (leb (length s) at) (accepted p)
    (if? (constant s at) (places_from f base s (after s at) (record { used = p.used + 1; list = p.list ++ ((base + at) ∷ []) })) (refused 2))

-- a code's own records are there, but for what its constants are
unfoldable pub front : List ℕ → Bool
front s =
    both (leb 8 (length s))
    (both (listed s opcodes_at 2 6)
    (both (listed s (globals_at s) 3 2)
    (both (listed s (captures_at s) 4 4)
    (whole s (constants_at s) 5))))

-- the row of a code: its place, the count of opcodes, place and count of globals, of captures, of its constants among all, and of the codes in it
abbrev pub row_of : ℕ → ℕ → ℕ → ℕ → ℕ → ℕ → ℕ → ℕ → List ℕ
row_of place opcodes globals g captures c from n = place ∷ opcodes ∷ globals ∷ g ∷ captures ∷ c ∷ from ∷ n ∷ 0 ∷ 0 ∷ []

abbrev pub row : ℕ → List ℕ → ℕ → ℕ → List ℕ
row base s from to =
    row_of base (size s opcodes_at / 6) (base + (globals_at s + 6)) (size s (globals_at s) / 2) (base + (captures_at s + 6)) (size s (captures_at s) / 4) from (to - from)

-- the ten numbers of a row, and of rows one behind the other
abbrev pub numbers_of : Row → List ℕ
numbers_of r = r.place ∷ r.opcodes ∷ r.globals_at ∷ r.globals ∷ r.captures_at ∷ r.captures ∷ r.constants_from ∷ r.constants ∷ r.codes_from ∷ r.codes ∷ []

unfoldable pub flat : List Row → List ℕ
flat [] = []
flat (r ∷ l) = numbers_of r ++ flat l

-- the row of a code that is not there
abbrev pub no_row : Row
no_row = record { place = 0; opcodes = 0; globals_at = 0; globals = 0; captures_at = 0; captures = 0; constants_from = 0; constants = 0; codes_from = 0; codes = 0 }

-- a code is begun: its row, and its constants' places
unfoldable pub begin : ℕ → List ℕ → Tables → Answer Tables
begin base s t =
    if? (front s)
    (then (λ (p : Places). accepted (record { codes = t.codes + 1; used = p.used; kept = t.kept; rows = t.rows ++ row base s t.used p.used; constants = p.list; inner = t.inner }))
    (places_from (size s (constants_at s)) (base + (constants_at s + 6)) (body s (constants_at s)) 0 (record { used = t.used; list = t.constants })))
    (refused 2)

-- the numbers of the codes in a code, and the tables with all that stand in them
pub record Found : Type 0 where
  pub numbers : List ℕ
  pub tables : Tables

-- the codes from `at` on
unfoldable pub found_from : (ℕ → List ℕ → Tables → Answer Tables) → ℕ → ℕ → ℕ → List ℕ → ℕ → Found → Answer Found
found_from code d zero base s at r = accepted r
found_from code d (suc f) base s at r =
    if? (leb (length s) at) (accepted r)
    (if? (eqb (refusal d r.tables.codes s at) 0)
    (then (λ (t : Tables). found_from code d f base s (after s at) (record { numbers = r.numbers ++ (r.tables.codes ∷ []); tables = t }))
    (code (base + (at + 6)) (body s at) r.tables))
    (refused (refusal d r.tables.codes s at)))

-- code k is done: the numbers of the codes in it go to the table, and their place and count to its row
abbrev pub finished : ℕ → Found → Tables
finished k r = record {
  codes = r.tables.codes;
  used = r.tables.used;
  kept = r.tables.kept + length r.numbers;
  rows = set (set r.tables.rows (10 * k + 8) r.tables.kept) (10 * k + 9) (length r.numbers);
  constants = r.tables.constants;
  inner = r.tables.inner ++ r.numbers;
}

unfoldable pub code_by : (ℕ → List ℕ → Tables → Answer Tables) → ℕ → ℕ → List ℕ → Tables → Answer Tables
code_by code d base s t =
    then (λ (t' : Tables). then (λ (r : Found). accepted (finished t.codes r)) (found_from code d (length s) base s (codes_at s) (record { numbers = []; tables = t' })))
    (begin base s t)

-- a code in a code that has so many levels left
unfoldable pub deeper : ℕ → ℕ → List ℕ → Tables → Answer Tables
deeper zero base s t = refused 4
deeper (suc d) base s t = code_by (deeper d) d base s t

-- a code with d levels left below it
abbrev pub code : ℕ → ℕ → List ℕ → Tables → Answer Tables
code d = code_by (deeper d) d

unfoldable pub layout : List ℕ → Answer Tables
layout image =
    if? (ltb (length image) 6) (refused 1)
    (if? (ltb 65536 (length image)) (refused 1)
    (if? (whole image 0 1)
    (then (λ (t : Tables). if? (eqb (after image 0) (length image)) (accepted t) (refused 2)) (code 7 6 (body image 0) empty))
    (refused 2)))

-- ---- what the tables stand for
abbrev pub field : List ℕ → ℕ → ℕ → ℕ
field rows k f = get_or rows (10 * k + f) 0

-- opcode i, global i and capture i of those at a place; the constant at a place
abbrev pub opcode_at : List ℕ → ℕ → ℕ → Op
opcode_at image at i = record { number = le_at 2 image (at + 6 * i); operand = le_at 4 image (at + 6 * i + 2) }

abbrev pub capture_at : List ℕ → ℕ → ℕ → Capture
capture_at image at i = record { from = le_at 2 image (at + 4 * i); index = le_at 2 image (at + 4 * i + 2) }

abbrev pub constant_at : List ℕ → ℕ → Constant
constant_at image at = record { kind = kind image at; place = at + 6; size = size image at }

-- code k
abbrev pub code_at : List ℕ → List ℕ → List ℕ → List ℕ → ℕ → Code
code_at image rows constants inner k =
    let at = field rows k 0 in
    record {
      params = le_at 2 image at;
      variadic = le_at 2 image (at + 2);
      locals = le_at 2 image (at + 4);
      stack_size = le_at 2 image (at + 6);
      opcodes = tab (field rows k 1) (opcode_at image (at + 14));
      globals = tab (field rows k 3) (λ (i : ℕ). le_at 2 image (field rows k 2 + 2 * i));
      captures = tab (field rows k 5) (capture_at image (field rows k 4));
      constants = tab (field rows k 7) (λ (j : ℕ). constant_at image (get_or constants (field rows k 6 + j) 0));
      codes = tab (field rows k 9) (λ (j : ℕ). get_or inner (field rows k 8 + j) 0);
    }

abbrev pub program_of : List ℕ → Tables → List Code
program_of image t = tab t.codes (code_at image t.rows t.constants t.inner)
