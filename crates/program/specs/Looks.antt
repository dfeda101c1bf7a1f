-- Look-ups in the tables: the fields of code k.
use Rattle.std.specs.Prelude.{◌≡◌, List, [], ℕ, ◌+◌, ◌*◌, ◌<◌, get_or}
use Rattle.std.proofs.Common.{sym, ap, ◌∙◌, arith}
use Rattle.cells.specs.Le.{le_at}
use Rattle.image.specs.Program.{Code, no_op}
use Rattle.image.proofs.Parts.{tab_at}
use Rattle.image.proofs.RowLaws.{flat_field}
use Rattle.image.specs.declared.Row.{Row}
use Rattle.image.specs.Layout.{numbers_of, flat, no_row, field, opcode_at, capture_at, constant_at, code_at}
use Rattle.image.specs.declared.Op.{Op}
use Rattle.image.specs.declared.Capture.{Capture}
use Rattle.image.specs.declared.Constant.{Constant}
use Rattle.program.specs.Parts.{Entry}

-- code k but for its constants and codes, which lie in tables of their own
abbrev pub body_at : List ℕ → List ℕ → ℕ → Code
body_at image rows k = code_at image rows [] [] k

abbrev pub no_capture : Capture
no_capture = record { from = 0; index = 0 }

abbrev pub no_constant : Constant
no_constant = record { kind = 0; place = 0; size = 0 }

-- the row of code k
pub record RowOf (rows : List ℕ) (k : ℕ) (r : Row) : Type 0 where
  pub place : r.place ≡ field rows k 0
  pub opcodes : r.opcodes ≡ field rows k 1
  pub globals_at : r.globals_at ≡ field rows k 2
  pub globals : r.globals ≡ field rows k 3
  pub captures_at : r.captures_at ≡ field rows k 4
  pub captures : r.captures ≡ field rows k 5
  pub constants_from : r.constants_from ≡ field rows k 6
  pub constants : r.constants ≡ field rows k 7
  pub codes_from : r.codes_from ≡ field rows k 8
  pub codes : r.codes ≡ field rows k 9

pub row_of : (rows : List Row) (k : ℕ) {r : Row} → r ≡ get_or rows k no_row → RowOf (flat rows) k r
row_of rows k {r} e =
    let is : (f : ℕ) → f < 10 → get_or (numbers_of r) f 0 ≡ field (flat rows) k f =
    λ f h. ap (λ (x : Row). get_or (numbers_of x) f 0) e ∙ sym (flat_field rows k f h) in
    record {
      place = is 0 (omega arith);
      opcodes = is 1 (omega arith);
      globals_at = is 2 (omega arith);
      globals = is 3 (omega arith);
      captures_at = is 4 (omega arith);
      captures = is 5 (omega arith);
      constants_from = is 6 (omega arith);
      constants = is 7 (omega arith);
      codes_from = is 8 (omega arith);
      codes = is 9 (omega arith);
    }

module _ (image rows : List ℕ) (k : ℕ) {w : Row} (a : RowOf rows k w) where
  pub look_params : {r : ℕ} → r ≡ le_at 2 image w.place → r ≡ (body_at image rows k).params
  look_params e = e ∙ ap (le_at 2 image) a.place

  pub look_head : {r : ℕ} (d : ℕ) → r ≡ le_at 2 image (w.place + d) → r ≡ le_at 2 image (field rows k 0 + d)
  look_head d e = e ∙ ap (λ (x : ℕ). le_at 2 image (x + d)) a.place

  module _ (i : ℕ) where
    pub look_opcode : {r : Op} → i < field rows k 1 → r ≡ opcode_at image (w.place + 14) i → r ≡ get_or (body_at image rows k).opcodes i no_op
    look_opcode h e = e ∙ ap (λ (x : ℕ). opcode_at image (x + 14) i) a.place ∙ sym (tab_at _ _ i _ h)

    pub look_global : {r : ℕ} → i < field rows k 3 → r ≡ le_at 2 image (w.globals_at + 2 * i) → r ≡ get_or (body_at image rows k).globals i 0
    look_global h e = e ∙ ap (λ (x : ℕ). le_at 2 image (x + 2 * i)) a.globals_at ∙ sym (tab_at _ _ i _ h)

    pub look_capture : {r : Capture} → i < field rows k 5 → r ≡ capture_at image w.captures_at i → r ≡ get_or (body_at image rows k).captures i no_capture
    look_capture h e = e ∙ ap (λ (x : ℕ). capture_at image x i) a.captures_at ∙ sym (tab_at _ _ i _ h)

    pub look_constant : (constants : List ℕ) {at : ℕ} {r : Constant} → i < field rows k 7 → Entry constants (w.constants_from + i) at → r ≡ constant_at image at
        → r ≡ get_or (code_at image rows constants [] k).constants i no_constant
    look_constant constants h b e = e ∙ ap (constant_at image) (b.is ∙ ap (λ (x : ℕ). get_or constants (x + i) 0) a.constants_from) ∙ sym (tab_at _ _ i _ h)

    pub look_code : (inner : List ℕ) {r : ℕ} → i < field rows k 9 → Entry inner (w.codes_from + i) r → r ≡ get_or (code_at [] rows [] inner k).codes i 0
    look_code inner h b = b.is ∙ ap (λ (x : ℕ). get_or inner (x + i) 0) a.codes_from ∙ sym (tab_at _ _ i _ h)
