-- What `Cell::is` tells of a tag.
use Rattle.std.specs.Prelude.{◌≡◌, Bool, true, false, ℕ, eqb}
use Rattle.std.proofs.Common.{sym, ◌∙◌}
use Rattle.std.proofs.lemmas.Bool.{eqb-true, eq-eqb}
use borrow.Author.Rules.{rules}

pub is_tag : {t : Bool} {a b : ℕ} → t ≡ eqb a b → t ≡ true → a ≡ b
is_tag {a = a} {b} q e = eqb-true a b (sym q ∙ e)

pub is_not_tag : {t : Bool} {a b : ℕ} → t ≡ eqb a b → t ≡ false → a ≡ b → ⊥
is_not_tag {a = a} {b} q e h = search (rules, eq-eqb a b h)
