-- Operand kinds as a table, and the opcodes that stand in a range of it.
use Rattle.std.specs.Prelude.{◌≡◌, List, [], ◌++◌, Bool, ◌⊎◌, ℕ, ◌+◌, ◌-◌, ◌<◌, ◌≤◌, length, get_or, take, drop, replicate}
use Rattle.std.proofs.Math.Path.{refl, ap}
use Rattle.std.proofs.Common.{sym, ◌∙◌, inl, inr, get_or-append-add, le-leb, leb-false, leb-true}
use Rattle.std.proofs.Math.Bool.{true, false}
use Rattle.std.proofs.Math.Logic.{⊎_elim}
use native.Mathlib.Omega.{arith}
use Rattle.std.proofs.lemmas.List.{length-replicate, get_or-replicate}
use Rattle.std.proofs.Math.ListN.{get_or-append}
use Rattle.std.proofs.Math.Dec.{leb}
use Rattle.image.specs.Program.{tab, operand_kind}
use Rattle.image.proofs.Parts.{tab_at}
use Rattle.image.specs.declared.OperandKind.{OperandKind}
use Rattle.image.specs.declared.OperandKind.TheVariants.{Unused, Count, Target, LeftOut}
use Rattle.image.specs.Operands.{kinds}

-- a number from a on is a or above
pub least_or : (a n : ℕ) → a ≤ n → (n ≡ a) ⊎ (a < n)
least_or a n h = by (leb n a) refl
  where
    by : (t : Bool) → leb n a ≡ t → (n ≡ a) ⊎ (a < n)
    by true e = inl (omega (arith, leb-true n a e))
    by false e = inr (leb-false n a e)

pub above : (a n : ℕ) → a ≤ n → (n ≡ a → ⊥) → a < n
above a n h z = ⊎_elim (λ e. absurd (z e)) (λ l. l) (least_or a n h)

pub operands : tab 52 operand_kind ≡ kinds
unfolding tab operand_kind
operands = refl

-- the opcodes that stand in a run of one kind
in_run : (n : ℕ) (a b : List OperandKind) (k : ℕ) (x : OperandKind) → kinds ≡ a ++ (replicate k x ++ b) → length a ≤ n → n < length a + k → length a + k ≤ 52 → x ≡ operand_kind n
in_run n a b k x e low high most =
    let j : length a + (n - length a) ≡ n = omega arith in
    let l : n - length a < length (replicate k x) = rw (length-replicate k x) (omega arith) in
    sym (sym (tab_at 52 operand_kind n LeftOut (omega arith)) ∙ ap (λ (t : List OperandKind). get_or t n LeftOut) (operands ∙ e)
    ∙ ap (λ (i : ℕ). get_or (a ++ (replicate k x ++ b)) i LeftOut) (sym j) ∙ get_or-append-add a (replicate k x ++ b) (n - length a) LeftOut
    ∙ get_or-append (replicate k x) b LeftOut (n - length a) l ∙ get_or-replicate k (n - length a) x LeftOut (omega arith))

module _ (n : ℕ) where
  pub kind_past : 52 ≤ n → LeftOut ≡ operand_kind n
  unfolding operand_kind
  kind_past h = simp (le-leb _ _ h)

  pub kind_marks : 50 ≤ n → n < 52 → Count ≡ operand_kind n
  kind_marks h k = in_run n (take 50 kinds) [] 2 Count refl h k (omega arith)

  pub kind_jumps : 40 ≤ n → n < 50 → Target ≡ operand_kind n
  kind_jumps h k = in_run n (take 40 kinds) (drop 50 kinds) 10 Target refl h k (omega arith)

  pub kind_operators : 17 ≤ n → n < 30 → Unused ≡ operand_kind n
  kind_operators h k = in_run n (take 17 kinds) (drop 30 kinds) 13 Unused refl h k (omega arith)

  pub kind_pairs : 1 ≤ n → n < 3 → Count ≡ operand_kind n
  kind_pairs h k = in_run n (take 1 kinds) (drop 3 kinds) 2 Count refl h k (omega arith)

  -- the numbers left out between others: 9 and 11 to 16; 31 to 35 and 39
  pub kind_low : 9 ≤ n → n < 17 → (n ≡ 10 → ⊥) → LeftOut ≡ operand_kind n
  unfolding operand_kind
  kind_low h k z = ⊎_elim (λ e. ap operand_kind (sym e)) (λ l. in_run n (take 11 kinds) (drop 17 kinds) 6 LeftOut refl (above 10 n l z) k (omega arith)) (least_or 9 n h)

  pub kind_high : 31 ≤ n → n < 40 → (n ≡ 36 → ⊥) → (n ≡ 37 → ⊥) → (n ≡ 38 → ⊥) → LeftOut ≡ operand_kind n
  unfolding operand_kind
  kind_high h k a b d = by (leb 36 n) refl
    where
      by : (t : Bool) → leb 36 n ≡ t → LeftOut ≡ operand_kind n
      by true e = let m = above 38 n (above 37 n (above 36 n (leb-true 36 n e) a) b) d in let f : n ≡ 39 = omega arith in ap operand_kind (sym f)
      by false e = in_run n (take 31 kinds) (drop 36 kinds) 5 LeftOut refl h (leb-false 36 n e) (omega arith)
