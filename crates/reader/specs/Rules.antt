-- The rules of crate `image` as the code tests them: a code by its counts, and the codes of the program that is lent.
use Rattle.std.specs.Prelude.{◌≡◌, Bool, List, ℕ, ◌+◌, ◌-◌, ◌<◌, length, get_or, leb}
use Rattle.cells.specs.Le.{le_at}
use Rattle.image.specs.Records.{both}
use Rattle.image.specs.Program.{Code, all, tab, no_op, no_code, opcode_fine, last_fine, capture_fine, counts_fine}
use Rattle.image.specs.Layout.{flat, field, code_at}
use Rattle.lookups.specs.declared.Program.{Program}
use Rattle.reader.specs.declared.Counts.{Counts}

-- the counts of a code, and of code k in the tables
abbrev pub counts_of : Code → Counts
counts_of c = record {
  params = c.params;
  variadic = c.variadic;
  locals = c.locals;
  opcodes = length c.opcodes;
  globals = length c.globals;
  captures = length c.captures;
  constants = length c.constants;
  codes = length c.codes;
}

abbrev pub counts_at : List ℕ → List ℕ → ℕ → Counts
counts_at image rows k = record {
  params = le_at 2 image (field rows k 0);
  variadic = le_at 2 image (field rows k 0 + 2);
  locals = le_at 2 image (field rows k 0 + 4);
  opcodes = field rows k 1;
  globals = field rows k 3;
  captures = field rows k 5;
  constants = field rows k 7;
  codes = field rows k 9;
}

-- a code of these counts, whatever is in it: a rule that goes by counts alone says the same of every one
abbrev pub counted : Counts → Code
counted n = record {
  params = n.params;
  variadic = n.variadic;
  locals = n.locals;
  stack_size = 0;
  opcodes = tab n.opcodes (λ (i : ℕ). no_op);
  globals = tab n.globals (λ (i : ℕ). 0);
  captures = tab n.captures (λ (i : ℕ). record { from = 0; index = 0 });
  constants = tab n.constants (λ (i : ℕ). record { kind = 0; place = 0; size = 0 });
  codes = tab n.codes (λ (i : ℕ). 0);
}

-- the counts of code k, as the code has them
pub record IsCounts (image rows : List ℕ) (k : ℕ) (n : Counts) : Type 0 where
  pub is : n ≡ counts_at image rows k
  pub of : (constants inner : List ℕ) → n ≡ counts_of (code_at image rows constants inner k)
  pub opcodes : n.opcodes < 4294967296
  pub globals : n.globals < 4294967296
  pub constants : n.constants < 4294967296
  pub codes : n.codes < 4294967296

-- ---- the program that is lent: code k, and all codes
abbrev pub code_in : Program → ℕ → Code
code_in p = code_at p.image.now (flat p.rows.now) p.constants.now p.inner.now

abbrev pub codes_of : Program → List Code
codes_of p = tab p.codes (code_in p)

-- ---- rules of `code_fine`, by themselves
abbrev pub globals_fine : List ℕ → Bool
globals_fine = all (λ (n : ℕ). leb n 255)

abbrev pub captures_fine : Code → Code → Bool
captures_fine outer c = all (capture_fine outer) c.captures

-- the captures of code k of p
abbrev pub inner_fine : List Code → Code → ℕ → Bool
inner_fine p outer k = captures_fine outer (get_or p k no_code)

-- the counts, opcodes and globals of a code
abbrev pub own_fine : Code → Bool
own_fine c =
    both (counts_fine c)
    (both (all (opcode_fine c) c.opcodes)
    (both (last_fine (get_or c.opcodes (length c.opcodes - 1) no_op))
    (globals_fine c.globals)))
