-- The counts of a code, and the rules that go by counts alone.
use Rattle.std.specs.Prelude.{◌≡◌, refl, List, ℕ, ◌+◌, ◌<◌, leb}
use Rattle.std.proofs.Math.Path.{sym}
use Rattle.std.proofs.Common.{◌∙◌}
use Rattle.cells.specs.Le.{le_at}
use Rattle.image.specs.Records.{both}
use Rattle.image.specs.Program.{Code, operand_kind, operand_fine, opcode_fine, capture_fine, counts_fine}
use Rattle.image.proofs.Parts.{length_tab}
use Rattle.image.specs.Layout.{field, code_at}
use Rattle.image.specs.declared.Op.{Op}
use Rattle.image.specs.declared.Capture.{Capture}
use Rattle.image.specs.declared.OperandKind.{OperandKind}
use Rattle.image.specs.declared.OperandKind.TheVariants.{Unused, Count, ValueType, Local, Global, Upvalue, Const, Target, LeftOut}
use Rattle.reader.specs.declared.Counts.{Counts}
use Rattle.reader.specs.Rules.{counts_of, counts_at, counted, IsCounts}

-- ---- a rule that goes by counts alone
module _ (c : Code) where
  pub operand_same : (k : OperandKind) (x : ℕ) → operand_fine (counted (counts_of c)) k x ≡ operand_fine c k x
  operand_same Unused x = refl
  operand_same Count x = refl
  operand_same ValueType x = refl
  operand_same Local x = refl
  operand_same Global x = simp length_tab
  operand_same Upvalue x = simp length_tab
  operand_same Const x = simp length_tab
  operand_same Target x = simp length_tab
  operand_same LeftOut x = refl

  pub opcode_same : (o : Op) → opcode_fine (counted (counts_of c)) o ≡ opcode_fine c o
  opcode_same o = operand_same (operand_kind o.number) o.operand

  pub counts_same : counts_fine (counted (counts_of c)) ≡ counts_fine c
  unfolding counts_fine
  counts_same = simp length_tab

  pub capture_same : (x : Capture) → capture_fine (counted (counts_of c)) x ≡ capture_fine c x
  unfolding capture_fine
  capture_same x = simp length_tab

pub counts_at_lem : (image rows constants inner : List ℕ) (k : ℕ) → counts_of (code_at image rows constants inner k) ≡ counts_at image rows k
counts_at_lem image rows constants inner k = simp length_tab

-- ---- the counts of a code
module _ (n : Counts) where
  pub counts_are : counts_fine (counted n)
      ≡ both (leb n.params 32) (both (leb n.variadic 1) (both (leb n.locals 256) (both (leb 1 n.opcodes) (both (leb n.opcodes 4096)
      (both (leb n.globals 256) (both (leb n.captures 256) (leb n.constants 1024)))))))
  unfolding counts_fine
  counts_are = simp length_tab

pub counts_is : (image rows : List ℕ) (k : ℕ) {p v l p' v' l' o g u c d : ℕ} → p ≡ le_at 2 image (field rows k 0) → p' ≡ p
    → v ≡ le_at 2 image (field rows k 0 + 2) → v' ≡ v → l ≡ le_at 2 image (field rows k 0 + 4) → l' ≡ l
    → (o ≡ field rows k 1) × (o < 4294967296) → (g ≡ field rows k 3) × (g < 4294967296) → (u ≡ field rows k 5) × (u < 4294967296) → (c ≡ field rows k 7) × (c < 4294967296)
    → (d ≡ field rows k 9) × (d < 4294967296)
    → IsCounts image rows k (record { params = p'; variadic = v'; locals = l'; opcodes = o; globals = g; captures = u; constants = c; codes = d })
counts_is image rows k p p' v v' l l' o g u c d =
    let e : _ ≡ counts_at image rows k =
    λ j. record {
      params = (p' ∙ p) j;
      variadic = (v' ∙ v) j;
      locals = (l' ∙ l) j;
      opcodes = o.0 j;
      globals = g.0 j;
      captures = u.0 j;
      constants = c.0 j;
      codes = d.0 j;
    } in
    record {
      is = e;
      of = λ constants inner. e ∙ sym (counts_at_lem image rows constants inner k);
      opcodes = o.1;
      globals = g.1;
      constants = c.1;
      codes = d.1;
    }
