-- The tests of one item each, one law for each return.
use Rattle.std.specs.Prelude.{◌≡◌, Bool, true, false, ◌⊎◌, ℕ, leb, Result, Ok, Err}
use Rattle.std.proofs.Math.Path.{refl, sym, ap}
use Rattle.std.proofs.Common.{◌∙◌, leb-true}
use Rattle.std.proofs.Math.Logic.{⊎_elim}
use native.Mathlib.Omega.{arith}
use borrow.Author.Tests.{ne_eqb}
use borrow.Author.Rules.{rules}
use Rattle.image.specs.Records.{both}
use Rattle.image.specs.Kinds.{opcode_number, opcode_of}
use Rattle.image.specs.Program.{operand_kind, operand_fine, opcode_fine, last_fine}
use Rattle.image.proofs.KindLaws.{opcode_named}
use Rattle.image.proofs.Operands.{above}
use Rattle.image.specs.declared.Op.{Op}
use Rattle.image.specs.declared.OperandKind.{OperandKind}
use Rattle.image.specs.declared.kinds.Opcode.{Opcode}
use Rattle.image.specs.declared.kinds.Opcode.TheVariants as op
use Rattle.image.specs.declared.kinds.Unknown.{Unknown}
use Rattle.reader.specs.declared.Counts.{Counts}
use Rattle.reader.specs.Rules.{counted}

pub operand_is : (n : Counts) (o : Op) {k m : OperandKind} {r : Bool} → k ≡ operand_kind o.number → k ≡ m → r ≡ operand_fine (counted n) m o.operand → r ≡ opcode_fine (counted n) o
operand_is n o e f g = rw (sym e ∙ f) g

-- ---- the last opcode
same_ok : {A E : Type 0} {a x : A} → ◌≡◌ {A = Result A E} (Ok a) (Ok x) → a ≡ x
same_ok {A} {E} {a} {x} q = search rules

never : {A E : Type 0} {a : A} {u : E} → ◌≡◌ {A = Result A E} (Ok a) (Err u) → ⊥
never {A} {E} {a} {u} q = search rules

last_by : (o : Op) → (o.number ≡ 37 → ⊥) → (o.number ≡ 40 → ⊥) → (o.number ≡ 41 → ⊥) → (o.number ≡ 42 → ⊥) → (o.number ≡ 43 → ⊥) → false ≡ last_fine o
unfolding last_fine both
last_by o p a b c d = by (leb 40 o.number) refl (leb o.number 43) refl
  where
    by : (t : Bool) → leb 40 o.number ≡ t → (u : Bool) → leb o.number 43 ≡ u → false ≡ last_fine o
    by false e u f = simp (ne_eqb _ _ p, e)
    by true e false f = simp (ne_eqb _ _ p, e, f)
    by true e true f = absurd (d (omega (arith, above 42 o.number (above 41 o.number (above 40 o.number (leb-true _ _ e) a) b) c, leb-true _ _ f)))

module _ (o : Op) where
  pub last_unnamed : {u : Unknown} → opcode_of o.number ≡ Err u → false ≡ last_fine o
  unfolding opcode_of
  last_unnamed {u} e = last_by o (not 37 op.Return refl) (not 40 op.Jump refl) (not 41 op.JumpBackEdge refl) (not 42 op.Break refl) (not 43 op.Continue refl)
    where
      not : (n : ℕ) (c : Opcode) → opcode_of n ≡ Ok c → o.number ≡ n → ⊥
      not n c f g = never (sym f ∙ ap opcode_of (sym g) ∙ e)

  module _ {c : Opcode} (e : opcode_of o.number ≡ Ok c) where
    pub last_other : (c ≡ op.Return → ⊥) → (c ≡ op.Jump → ⊥) → (c ≡ op.JumpBackEdge → ⊥) → (c ≡ op.Break → ⊥) → (c ≡ op.Continue → ⊥) → false ≡ last_fine o
    unfolding opcode_of
    last_other p q r s t = last_by o (not 37 op.Return refl p) (not 40 op.Jump refl q) (not 41 op.JumpBackEdge refl r) (not 42 op.Break refl s) (not 43 op.Continue refl t)
      where
        not : (n : ℕ) (x : Opcode) → opcode_of n ≡ Ok x → (c ≡ x → ⊥) → o.number ≡ n → ⊥
        not n x f z g = z (same_ok (sym e ∙ ap opcode_of g ∙ f))

    pub last_named : (c ≡ op.Return) ⊎ ((c ≡ op.Jump) ⊎ ((c ≡ op.JumpBackEdge) ⊎ ((c ≡ op.Break) ⊎ (c ≡ op.Continue)))) → true ≡ last_fine o
    unfolding last_fine both
    last_named =
        ⊎_elim (is 37 op.Return refl refl) (⊎_elim (is 40 op.Jump refl refl) (⊎_elim (is 41 op.JumpBackEdge refl refl) (⊎_elim (is 42 op.Break refl refl) (is 43 op.Continue refl refl))))
      where
        is : (n : ℕ) (x : Opcode) → opcode_number x ≡ n → true ≡ last_fine (record { number = n; operand = o.operand }) → c ≡ x → true ≡ last_fine o
        is n x f g z = let k : o.number ≡ n = opcode_named o.number c e ∙ ap opcode_number z ∙ f in rw k g
