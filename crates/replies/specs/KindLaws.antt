-- The kinds of an answer: one law for each return of `with_none` and `return_of`.
use Rattle.std.specs.Prelude.{◌≡◌, ℕ, ◌+◌, ◌%◌, Result, Ok, Err}
use Rattle.std.proofs.Math.Path.{refl}
use Rattle.std.proofs.Common.{sym, ap, ◌∙◌, arith, length-append}
use mathlib.Core.List.{List, [], ◌∷◌, ◌++◌}
use Rattle.std.proofs.Math.ListN.{length}
use borrow.Author.Tests.{eq-eqb, ne_eqb}
use Rattle.cells.specs.Cells.{room, cells}
use Rattle.cells.specs.CellsLaws.{length_cells}
use Rattle.cells.specs.declared.Cell.{Cell}
use Rattle.image.specs.Records.{both, refused, accepted}
use Rattle.machine.specs.Calls.{call_with}
use Rattle.requests.specs.Sent.{unused, kind_of, return_of}
use Rattle.replies.specs.Replied.{return_with, asks_for}
use Rattle.replies.specs.Pieces.{Unused}
use Rattle.replies.specs.declared.CallbackReturn.{CallbackReturn}
use Rattle.refusals.specs.declared.Refusal.{Refusal}
use Rattle.refusals.specs.declared.Refusal.TheVariants.{BadValue}

module _ {n : ℕ} {r : CallbackReturn} where
  pub none_unused : n ≡ 0 → Unused n r (Ok r)
  unfolding unused
  none_unused e = record { is = λ vs args handlers l. by vs args handlers (l ∙ e) }
    where
      by : (vs : List Cell) (args handlers : List ℕ) → length vs ≡ 0 → asks_for (Ok r) args handlers ≡ unused vs (return_with r (cells args) (cells handlers))
      by [] args handlers l = refl
      by (v ∷ vs) args handlers l = absurd (omega arith)

  pub some_unused : (n ≡ 0 → ⊥) → Unused n r (Err BadValue)
  unfolding unused
  some_unused ne = record { is = λ vs args handlers l. by vs args handlers (λ e. ne (sym l ∙ e)) }
    where
      by : (vs : List Cell) (args handlers : List ℕ) → (length vs ≡ 0 → ⊥) → asks_for (Err BadValue) args handlers ≡ unused vs (return_with r (cells args) (cells handlers))
      by [] args handlers l = absurd (l refl)
      by (v ∷ vs) args handlers l = refl

module _ (kind : ℕ) (v : Cell) (args handlers : List ℕ) where
  pub odd_args : (length args % 16 ≡ 0 → ⊥) → refused 5 ≡ return_of kind v args handlers
  unfolding return_of both
  odd_args ne = rw (ne_eqb (length args % 16) 0 ne) refl

  module _ (a : length args % 16 ≡ 0) where
    pub odd_handlers : (length handlers % 16 ≡ 0 → ⊥) → refused 5 ≡ return_of kind v args handlers
    unfolding return_of both
    odd_handlers ne = rw (eq-eqb (length args % 16) 0 a, ne_eqb (length handlers % 16) 0 ne) refl

    module _ (b : length handlers % 16 ≡ 0) where
      whole_kind : kind_of kind v (cells args) (cells handlers) ≡ return_of kind v args handlers
      unfolding return_of both
      whole_kind = rw (eq-eqb (length args % 16) 0 a, eq-eqb (length handlers % 16) 0 b) refl

      at_kind : (k : ℕ) → kind ≡ k → kind_of k v (cells args) (cells handlers) ≡ return_of kind v args handlers
      at_kind k e = ap (λ (n : ℕ). kind_of n v (cells args) (cells handlers)) (sym e) ∙ whole_kind

      pub kind_call : kind ≡ 0 → accepted (call_with v (cells args) (cells handlers)) ≡ return_of kind v args handlers
      unfolding kind_of
      kind_call e = at_kind 0 e

      -- kinds 1 to 3 use no handlers
      pub kind_handlers : (k : ℕ) {n : ℕ} {r : CallbackReturn} {x : Result CallbackReturn Refusal} → kind ≡ k → n ≡ room handlers → Unused n r x
          → kind_of k v (cells args) (cells handlers) ≡ unused (cells handlers) (return_with r (cells args) (cells handlers)) → asks_for x args handlers ≡ return_of kind v args handlers
      kind_handlers k e l u q = u.is (cells handlers) args handlers (length_cells handlers ∙ sym l) ∙ sym q ∙ at_kind k e

      -- kinds 4 to 6 use neither arguments nor handlers
      pub kind_neither : (k : ℕ) {m n : ℕ} {r : CallbackReturn} {x : Result CallbackReturn Refusal} → kind ≡ k → n ≡ room handlers → m ≡ room args → Unused (m + n) r x
          → kind_of k v (cells args) (cells handlers) ≡ unused (cells args ++ cells handlers) (return_with r (cells args) (cells handlers)) → asks_for x args handlers ≡ return_of kind v args handlers
      kind_neither k {m} {n} e l g u q =
          let z : length (cells args ++ cells handlers) ≡ m + n = omega (arith, length-append (cells args) (cells handlers), length_cells args, length_cells handlers, l, g) in
          u.is (cells args ++ cells handlers) args handlers z ∙ sym q ∙ at_kind k e

      pub kind_unknown : (kind ≡ 0 → ⊥) → (kind ≡ 1 → ⊥) → (kind ≡ 2 → ⊥) → (kind ≡ 3 → ⊥) → (kind ≡ 4 → ⊥) → (kind ≡ 5 → ⊥) → (kind ≡ 6 → ⊥) → refused 5 ≡ return_of kind v args handlers
      unfolding kind_of
      kind_unknown c d e f g h i =
          let none : refused 5 ≡ kind_of kind v (cells args) (cells handlers) = simp (ne_eqb kind 0 c, ne_eqb kind 1 d, ne_eqb kind 2 e, ne_eqb kind 3 f, ne_eqb kind 4 g, ne_eqb kind 5 h, ne_eqb kind 6 i) in
          none ∙ whole_kind
