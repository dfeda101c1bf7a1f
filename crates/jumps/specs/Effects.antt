-- Opcode 50: one law for each answer.
use Rattle.std.specs.Prelude.{◌≡◌, refl, List, Bool, true, false, ℕ, ◌<◌, ◌≤◌, drop, Ok, Err}
use Rattle.std.proofs.Common.{sym, ◌∙◌}
use Rattle.cells.specs.declared.Cell.{Cell}
use Rattle.image.specs.Records.{both}
use Rattle.machine.specs.Values.{Program, type_of, is_effect, effect_params, match_effect_handler, bin_operator}
use Rattle.machine.specs.Machine.{M}
use Rattle.machine.specs.Opcodes.{Running, Action, takes, with_two, check_effect, opcode_action}
use Rattle.moves.specs.declared.Running as registers
use Rattle.plan.specs.Plans.{error_of}
use Rattle.plan.specs.Inside.{Does}
use Rattle.plan.specs.declared.Error.{Error}
use Rattle.plan.specs.declared.Next.TheVariants.{Goes, Throws}
use Rattle.jumps.specs.Ends.{fewer, Shown, Acts, acts_stops, acts_goes, acts_throws, two_none, two_acts}
use Rattle.refusals.specs.declared.Refusal.TheVariants.{FewValues}

-- ---- Does an effect handle another?
abbrev pub Matches : Program → Cell → Cell → Bool
Matches P e expected = both (both (is_effect e) (is_effect expected)) (match_effect_handler (effect_params P e) (effect_params P expected))

-- ---- The opcode
action_check : (P : Program) (m : M) (r : Running) (x : ℕ) → opcode_action P m r 50 x ≡ with_two r.stack (check_effect P r x)
unfolding opcode_action both
action_check P m r x = refl

module _ {P : Program} {x : ℕ} {g : registers.Running} {live : List ℕ} where
  pub check_stops : g.stack < 2 → Does P 50 x g (Err FewValues) live live
  check_stops lt = acts_stops (two_none (λ r. check_effect P r x) (λ m r. action_check P m r x) lt)

  module _ {expected e : Cell} {h : registers.Running} {b : Bool} (le : 2 ≤ g.stack) (s : Shown g live 0 expected) (t : Shown g live 1 e) (o : h ≡ fewer 2 g) (is : b ≡ Matches P e expected) where
    checks : {d : Running → Action} → ((r : Running) → check_effect P r x expected e (drop 2 r.stack) ≡ d r) → Acts P 50 x g live (λ (r : Running). takes (d r))
    checks = two_acts (λ r. check_effect P r x) (λ m r. action_check P m r x) le s t

    pub check_goes : b ≡ true → Does P 50 x g (Ok (Goes h)) live live
    unfolding check_effect
    check_goes y = acts_goes 2 le o (checks (λ r. rw (sym is ∙ y) refl))

    pub check_throws : {k l : ℕ} {q : Error} → b ≡ false → k ≡ type_of expected → l ≡ type_of e → q ≡ error_of (bin_operator 50 x k l) → Does P 50 x g (Ok (Throws h q)) live live
    unfolding check_effect
    check_throws n k l q =
        acts_throws 2 (bin_operator 50 x (type_of expected) (type_of e)) le o (q ∙ (λ j. error_of (bin_operator 50 x (k j) (l j)))) (checks (λ r. rw (sym is ∙ n) refl))
