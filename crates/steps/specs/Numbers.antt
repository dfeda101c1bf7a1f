-- Opcodes by number: no opcode does anything whose number has no name.
use Rattle.std.specs.Prelude.{◌≡◌, refl, Bool, false, ◌⊎◌, ℕ, ◌<◌, ◌≤◌, leb}
use Rattle.std.proofs.Common.{ap, ◌∙◌, inl, inr, ⊎_elim, arith, ne_eqb}
use Rattle.std.proofs.Math.Decide.{dec_le}
use Rattle.std.proofs.lemmas.Bool.{lt-leb}
use Rattle.image.specs.Records.{both}
use Rattle.image.specs.Kinds.{opcode_number}
use Rattle.image.specs.declared.kinds.Opcode.{Opcode}
use Rattle.image.specs.declared.kinds.Opcode.TheVariants as op
use Rattle.image.proofs.Operands.{above}
use Rattle.machine.specs.Values.{Program}
use Rattle.machine.specs.Machine.{M}
use Rattle.machine.specs.Opcodes.{Running, refuses, between, opcode_action}
use Rattle.image.proofs.Parts.{both_false}

outside : (a b n : ℕ) → (n < a) ⊎ (b < n) → between a b n ≡ false
unfolding both
outside a b n h = ⊎_elim (λ l. ap (λ (t : Bool). both t (leb n b)) (lt-leb a n l)) (λ l. ap (both (leb a n)) (lt-leb n b l) ∙ both_false (leb a n)) h

-- below the first of a range, or above its last
apart : (a b n : ℕ) → (a ≤ n → b < n) → (n < a) ⊎ (b < n)
apart a b n h = by (dec_le a n)
  where
    by : Dec (a ≤ n) → (n < a) ⊎ (b < n)
    by (yes l) = inr (h l)
    by (no l) = inl (omega arith)

pub left_out : (n : ℕ) → ((o : Opcode) → n ≡ opcode_number o → ⊥) → (P : Program) (m : M) (r : Running) (x : ℕ) → opcode_action P m r n x ≡ refuses 3
unfolding opcode_action
left_out n not P m r x =
    let signs : 17 ≤ n → 18 < n = λ h. above 18 n (above 17 n h (not op.Neg)) (not op.Not) in
    let halves : 19 ≤ n → 24 ≤ n = λ h. above 23 n (above 22 n (above 21 n (above 20 n (above 19 n h (not op.Add)) (not op.Sub)) (not op.Mul)) (not op.Div)) (not op.Rem) in
    let pairs : 19 ≤ n → 29 < n = λ h. above 29 n (above 28 n (above 27 n (above 26 n (above 25 n (above 24 n (halves h) (not op.Eq)) (not op.Ne)) (not op.Gt)) (not op.Ge)) (not op.Lt)) (not op.Le) in
    let jumps : 40 ≤ n → 43 < n = λ h. above 43 n (above 42 n (above 41 n (above 40 n h (not op.Jump)) (not op.JumpBackEdge)) (not op.Break)) (not op.Continue) in
    rw (
      ne_eqb n 0 (not op.Pop),
      ne_eqb n 1 (not op.Copy),
      ne_eqb n 2 (not op.Swap),
      ne_eqb n 3 (not op.LoadLocal),
      ne_eqb n 4 (not op.LoadGlobal),
      ne_eqb n 5 (not op.LoadUpvalue),
      ne_eqb n 6 (not op.LoadConst),
      ne_eqb n 7 (not op.StoreLocal),
      ne_eqb n 8 (not op.StoreGlobal),
      ne_eqb n 10 (not op.BuildList),
      outside 17 18 n (apart 17 18 n signs),
      outside 19 29 n (apart 19 29 n pairs),
      ne_eqb n 30 (not op.TypeCheck),
      ne_eqb n 36 (not op.Call),
      ne_eqb n 37 (not op.Return),
      ne_eqb n 38 (not op.ReturnCall),
      outside 40 43 n (apart 40 43 n jumps),
      ne_eqb n 44 (not op.JumpPopIfNull),
      ne_eqb n 45 (not op.PopJumpIfTrue),
      ne_eqb n 46 (not op.PopJumpIfFalse),
      ne_eqb n 47 (not op.JumpIfTrueOrPop),
      ne_eqb n 48 (not op.JumpIfFalseOrPop),
      ne_eqb n 49 (not op.RegisterHandler),
      ne_eqb n 50 (not op.CheckEffect),
      ne_eqb n 51 (not op.MarkAddStackSize),
    ) refl
