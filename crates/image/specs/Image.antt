-- The image as document 01 has it: every list of bytes gets its refusal number or its program.
use Rattle.std.specs.Prelude.{List, [], ◌∷◌, ◌++◌, Bool, true, false, ℕ, zero, suc, ◌+◌, ◌*◌, ◌/◌, length, ltb, leb, eqb}
use Rattle.cells.specs.Le.{le_at}
use Rattle.image.specs.Records.{if?, both, Answer, refused, accepted, then, size, kind, body, after, headed, inside, whole, listed}
use Rattle.image.specs.Program.{Code, tab, program_fine}
use Rattle.image.specs.declared.Constant.{Constant}

-- ---- Kind 1, a code: parameter count, variadic, locals, stack_size (16 bits each); then one each of 2, 3, 4, 5; then any number of 1
abbrev pub opcodes_at : ℕ
opcodes_at = 8

abbrev pub globals_at : List ℕ → ℕ
globals_at s = after s opcodes_at

abbrev pub captures_at : List ℕ → ℕ
captures_at s = after s (globals_at s)

abbrev pub constants_at : List ℕ → ℕ
constants_at s = after s (captures_at s)

abbrev pub codes_at : List ℕ → ℕ
codes_at s = after s (constants_at s)

-- ---- Kind 5, constants: a body of this size may stand under this kind; an effect goes by its first number
unfoldable pub sized : ℕ → ℕ → ℕ → Bool
sized k effect n =
    if? (eqb k 16) (eqb n 0)
    (if? (eqb k 17) (eqb n 1)
    (if? (eqb k 18) (eqb n 8)
    (if? (eqb k 19) (eqb n 8)
    (if? (eqb k 20) true
    (if? (eqb k 21) true
    (if? (eqb k 22) (eqb n 2)
    (if? (eqb k 23) (both (leb 2 n) (if? (leb effect 2) (eqb n 2) (if? (eqb effect 3) (leb 6 n) true)))
    false)))))))

-- a constant is there
unfoldable pub constant : List ℕ → ℕ → Bool
constant s at = both (headed s at) (both (inside s at) (sized (kind s at) (le_at 2 s (at + 6)) (size s at)))

-- nothing but constants from `at` on
unfoldable pub constants? : ℕ → List ℕ → ℕ → Bool
constants? zero s at = true
constants? (suc f) s at = if? (leb (length s) at) true (both (constant s at) (constants? f s (after s at)))

-- the constants from `at` on, each with its place in the image, where s begins at `base`
unfoldable pub constants_from : ℕ → ℕ → List ℕ → ℕ → List Constant
constants_from zero base s at = []
constants_from (suc f) base s at =
    if? (leb (length s) at) []
    (record { kind = kind s at; place = base + (at + 6); size = size s at } ∷ constants_from f base s (after s at))

-- a code's own records are there
unfoldable pub own : List ℕ → Bool
own s =
    both (leb 8 (length s))
    (both (listed s opcodes_at 2 6)
    (both (listed s (globals_at s) 3 2)
    (both (listed s (captures_at s) 4 4)
    (both (whole s (constants_at s) 5)
    (constants? (size s (constants_at s)) (body s (constants_at s)) 0)))))

-- the code of a body s that begins at `base` in the image, with the numbers of the codes in it
abbrev pub code_of : ℕ → List ℕ → List ℕ → Code
code_of base s numbers = record {
  params = le_at 2 s 0;
  variadic = le_at 2 s 2;
  locals = le_at 2 s 4;
  stack_size = le_at 2 s 6;
  opcodes = tab (size s opcodes_at / 6) (λ (i : ℕ). record { number = le_at 2 s (opcodes_at + 6 + 6 * i); operand = le_at 4 s (opcodes_at + 6 + 6 * i + 2) });
  globals = tab (size s (globals_at s) / 2) (λ (i : ℕ). le_at 2 s (globals_at s + 6 + 2 * i));
  captures = tab (size s (captures_at s) / 4) (λ (i : ℕ). record { from = le_at 2 s (captures_at s + 6 + 4 * i); index = le_at 2 s (captures_at s + 6 + 4 * i + 2) });
  constants = constants_from (size s (constants_at s)) (base + (constants_at s + 6)) (body s (constants_at s)) 0;
  codes = numbers;
}

-- ---- 2 and 4 from the front
-- the refusal of the record at `at` as code number n with d levels left, 0 for none: 4 comes before a body that runs past its parent
unfoldable pub refusal : ℕ → ℕ → List ℕ → ℕ → ℕ
refusal d n s at =
    if? (headed s at) (if? (eqb (kind s at) 1) (if? (eqb d 0) 4 (if? (leb 256 n) 4 (if? (inside s at) 0 2))) 2) 2

-- the codes in a code: their numbers; and all codes that begin there, in order
pub record Inner : Type 0 where
  pub numbers : List ℕ
  pub codes : List Code

abbrev pub none : Inner
none = record { numbers = []; codes = [] }

-- the codes from `at` on, the first with number n; `code` reads one by its number, its place in the image and its body
unfoldable pub inner_from : (ℕ → ℕ → List ℕ → Answer (List Code)) → ℕ → ℕ → ℕ → ℕ → List ℕ → ℕ → Answer Inner
inner_from code d zero n base s at = accepted none
inner_from code d (suc f) n base s at =
    if? (leb (length s) at) (accepted none)
    (if? (eqb (refusal d n s at) 0)
    (then (λ (cs : List Code). then (λ (r : Inner). accepted (record { numbers = n ∷ r.numbers; codes = cs ++ r.codes }))
    (inner_from code d f (n + length cs) base s (after s at)))
    (code n (base + (at + 6)) (body s at)))
    (refused (refusal d n s at)))

-- a code with number n and d levels left below it, whose body s begins at `base`: it, then the codes in it
unfoldable pub read_by : (ℕ → ℕ → List ℕ → Answer (List Code)) → ℕ → ℕ → ℕ → List ℕ → Answer (List Code)
read_by code d n base s =
    if? (own s)
    (then (λ (r : Inner). accepted (code_of base s r.numbers ∷ r.codes)) (inner_from code d (length s) (n + 1) base s (codes_at s)))
    (refused 2)

-- a code in a code that has so many levels left
unfoldable pub read_inner : ℕ → ℕ → ℕ → List ℕ → Answer (List Code)
read_inner zero n base s = refused 4
read_inner (suc d) n base s = read_by (read_inner d) d n base s

-- codes nest to depth 8: the outermost has 7 levels below it
abbrev pub read_outermost : List ℕ → Answer (List Code)
read_outermost s = read_by (read_inner 7) 7 0 6 s

-- ---- The image is one kind 1: 1 for its size, then 2 and 4 from the front, left-over bytes where they stand, then 3
unfoldable pub parse : List ℕ → Answer (List Code)
parse image =
    if? (ltb (length image) 6) (refused 1)
    (if? (ltb 65536 (length image)) (refused 1)
    (if? (whole image 0 1)
    (then (λ (p : List Code). if? (eqb (after image 0) (length image)) (if? (program_fine image p) (accepted p) (refused 3)) (refused 2))
    (read_outermost (body image 0)))
    (refused 2)))
