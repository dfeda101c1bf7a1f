-- A value in form: what `is_constant`, `is_declared` and `is_plain` say.
use Rattle.std.specs.Prelude.{◌≡◌, List, [], Bool, false, not, ℕ, ◌<◌, ◌≤◌, get_or}
use Rattle.std.proofs.Math.Path.{sym, ap}
use Rattle.std.proofs.Common.{◌∙◌, arith}
use Rattle.std.proofs.Math.Bool.{true}
use Rattle.std.proofs.lemmas.Bool.Decides.{nat_tests}
use Rattle.std.proofs.Math.Decide.{dec_lt}
use Rattle.std.proofs.Math.ListN.{length}
use Rattle.std.proofs.Math.Dec.{ltb, eqb}
use borrow.Author.Tests.{not-true, not-false, ltb-true, lt-ltb, le-ltb}
use Rattle.cells.specs.Le.{le_at}
use Rattle.cells.specs.declared.Cell.{Cell}
use Rattle.image.specs.Records.{if?, both}
use Rattle.image.specs.Program.{Code, no_code, part}
use Rattle.image.specs.Fine.{no_constant}
use Rattle.image.specs.Layout.{field, code_at}
use Rattle.std.proofs.lemmas.Bool.{false≢true}
use Rattle.image.proofs.Parts.{first, length_tab, tab_at}
use Rattle.image.specs.declared.Constant.{Constant}
use Rattle.program.specs.Parts.{tab_past}
use Rattle.machine.specs.Values.{Program, code_of, bytes_at}
use Rattle.machine.specs.Calls.{is_constant}
use Rattle.memory.specs.Tests.{is_null_cell, value_fits}
use Rattle.scan.specs.Tables.{program_in}

-- ---- a test and what it leaves to be tested
pub both_not : {a t : Bool} (b : Bool) → t ≡ a → not t ≡ true → false ≡ both a b
unfolding both
both_not b e f = sym (ap (λ (x : Bool). both x b) (sym e ∙ not-true _ f))

pub both_then : {a t r : Bool} (b : Bool) → t ≡ a → not t ≡ false → r ≡ b → r ≡ both a b
unfolding both
both_then b e f w = w ∙ sym (ap (λ (x : Bool). both x b) (sym e ∙ not-false _ f))

-- ---- a constant
named : Code → ℕ → Cell → Bool
named c kind v = both (ltb v.payload (length c.constants)) (eqb (get_or c.constants v.payload no_constant).kind kind)

module _ (image rows constants inner : List ℕ) (codes : ℕ) where
  -- a code of the program, by the tables
  pub code_in : (k : ℕ) → k < codes → code_of (program_in image rows constants inner codes) k ≡ code_at image rows constants inner k
  code_in k h = tab_at codes (code_at image rows constants inner) k no_code h

  module _ (kind : ℕ) (v : Cell) where
    is_named : {c : Code} → code_of (program_in image rows constants inner codes) v.number ≡ c → is_constant (program_in image rows constants inner codes) kind v ≡ named c kind v
    unfolding is_constant named
    is_named e = ap (λ (c : Code). both (ltb v.payload (length c.constants)) (eqb (get_or c.constants v.payload no_constant).kind kind)) e

    named_not : (c : Code) → length c.constants ≤ v.payload → named c kind v ≡ false
    unfolding named both
    named_not c h = ap (λ (t : Bool). both t (eqb (get_or c.constants v.payload no_constant).kind kind)) (le-ltb _ _ h)

    named_here : (c : Code) → v.payload < length c.constants → named c kind v ≡ eqb (get_or c.constants v.payload no_constant).kind kind
    unfolding named both
    named_here c h = ap (λ (t : Bool). both t (eqb (get_or c.constants v.payload no_constant).kind kind)) (lt-ltb _ _ h)

    pub constant_past : codes ≤ v.number → false ≡ is_constant (program_in image rows constants inner codes) kind v
    constant_past h = sym (is_named (tab_past codes _ _ no_code h) ∙ named_not no_code (omega arith))

    module _ (h : v.number < codes) {x : ℕ} (w : (x ≡ field rows v.number 7) × (x < 4294967296)) where
      here : Code
      here = code_at image rows constants inner v.number

      pub constant_over : x ≤ v.payload → false ≡ is_constant (program_in image rows constants inner codes) kind v
      unfolding here
      constant_over l = sym (is_named (code_in _ h) ∙ named_not here (simp length_tab (omega (arith, w.0))))

      pub constant_here : {c : Constant} → v.payload < x → c ≡ get_or (code_at image rows constants [] v.number).constants v.payload no_constant
          → eqb c.kind kind ≡ is_constant (program_in image rows constants inner codes) kind v
      unfolding here
      constant_here l e = ap (λ (c : Constant). eqb c.kind kind) e ∙ sym (is_named (code_in _ h) ∙ named_here here (simp length_tab (omega (arith, w.0))))

    -- what stands at a constant's number
    module _ {t : Bool} (is : t ≡ is_constant (program_in image rows constants inner codes) kind v) (f : not t ≡ false) where
      holds : is_constant (program_in image rows constants inner codes) kind v ≡ true
      holds = sym is ∙ not-false t f

      pub constant_code : v.number < codes
      constant_code = by (dec_lt v.number codes)
        where
          by : Dec (v.number < codes) → v.number < codes
          by (yes h) = h
          by (no h) = absurd (false≢true (constant_past (omega arith) ∙ holds))

      pub constant_fits : v.payload < field rows v.number 7
      unfolding named
      constant_fits =
          let e : ltb v.payload (length (code_at image rows constants inner v.number).constants) ≡ true = first _ _ (sym (is_named (code_in _ constant_code)) ∙ holds) in
          let l : v.payload < length (code_at image rows constants inner v.number).constants = ltb-true _ _ e in
          rw length_tab at l

  pub declared_is : (v : Cell) {t : Bool} {c : Constant} {b : List ℕ} {n : ℕ} → t ≡ is_constant (program_in image rows constants inner codes) 23 v → not t ≡ false
      → c ≡ get_or (code_at image rows constants [] v.number).constants v.payload no_constant → b ≡ part image c.place c.size → n ≡ le_at 2 b 0
      → eqb n 3 ≡ both (is_constant (program_in image rows constants inner codes) 23 v) (eqb (le_at 2 (bytes_at (program_in image rows constants inner codes) v) 0) 3)
  declared_is v is f e p q =
      both_then _ is f
      (ap (λ (x : ℕ). eqb x 3) (q ∙ ap (λ (s : List ℕ). le_at 2 s 0) (p ∙ ap (λ (d : Constant). part image d.place d.size)
      (e ∙ sym (ap (λ (d : Code). get_or d.constants v.payload no_constant) (code_in v.number (constant_code 23 v is f)))))))

-- ---- null or an Int
unfoldable pub is_plain : Cell → Bool
is_plain c = if? (eqb c.tag 2) (eqb c.number 0) (is_null_cell c)

-- it is a value whatever program and store are
module _ (c : Cell) {r : Bool} (P : Program) (S : List Cell) (b : ℕ) where
  pub told : r ≡ value_fits P S b c → not r ≡ false → true ≡ value_fits P S b c
  told w f = sym (not-false r f) ∙ w

  pub plain_fits : r ≡ is_plain c → not r ≡ false → true ≡ value_fits P S b c
  unfolding is_plain value_fits both
  plain_fits w f = grind (arith, nat_tests)
