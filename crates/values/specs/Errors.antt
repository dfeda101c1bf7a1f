-- What an error performs and shows, by its kind.
use Rattle.std.specs.Prelude.{◌≡◌, refl, ℕ, ◌-◌, ◌⊎◌}
use Rattle.std.proofs.Common.{sym, ap, ◌∙◌, arith, inl, inr}
use Rattle.cells.specs.declared.Cell.{Cell}
use Rattle.machine.specs.Values as v
use Rattle.machine.specs.Values.{builtin, message, thrown, shown, call_arguments, un_operator, bin_operator, meta_un_operator, meta_bin_operator, zero_divisor, lucia_error, lucia_panic}
use Rattle.memory.specs.Layout.{error_shown}
use Rattle.plan.specs.declared.Error.{Error}
use Rattle.results.specs.declared.ErrorKind.TheVariants as kinds
use Rattle.plan.specs.Kinds.{kind_of}
use Rattle.results.specs.Results.{kind_number}
use Rattle.plan.specs.Plans.{Throws, Shows}

-- ---- an error of the machine
panic_is : (y : v.Error) → kind_of y ≡ kinds.Panic → builtin 2 ≡ thrown y
unfolding kind_of thrown
panic_is (call_arguments s o g) e = absurd (omega (arith, ap kind_number e))
panic_is (un_operator o x t) e = absurd (omega (arith, ap kind_number e))
panic_is (bin_operator o x t u) e = absurd (omega (arith, ap kind_number e))
panic_is (meta_un_operator n t) e = absurd (omega (arith, ap kind_number e))
panic_is (meta_bin_operator n t u) e = absurd (omega (arith, ap kind_number e))
panic_is zero_divisor e = absurd (omega (arith, ap kind_number e))
panic_is (lucia_error c) e = absurd (omega (arith, ap kind_number e))
panic_is (lucia_panic c) e = refl

panic_not : (y : v.Error) → (kind_of y ≡ kinds.Panic → ⊥) → builtin 1 ≡ thrown y
unfolding kind_of thrown
panic_not (call_arguments s o g) e = refl
panic_not (un_operator o x t) e = refl
panic_not (bin_operator o x t u) e = refl
panic_not (meta_un_operator n t) e = refl
panic_not (meta_bin_operator n t u) e = refl
panic_not zero_divisor e = refl
panic_not (lucia_error c) e = refl
panic_not (lucia_panic c) e = absurd (e refl)

value_is_lem : (y : v.Error) → (kind_of y ≡ kinds.Error) ⊎ (kind_of y ≡ kinds.Panic) → (error_shown y).value ≡ shown y
unfolding kind_of error_shown shown
value_is_lem (call_arguments s o g) h = absurd (elim h [ inl e ↦ omega (arith, ap kind_number e) | inr e ↦ omega (arith, ap kind_number e) ])
value_is_lem (un_operator o x t) h = absurd (elim h [ inl e ↦ omega (arith, ap kind_number e) | inr e ↦ omega (arith, ap kind_number e) ])
value_is_lem (bin_operator o x t u) h = absurd (elim h [ inl e ↦ omega (arith, ap kind_number e) | inr e ↦ omega (arith, ap kind_number e) ])
value_is_lem (meta_un_operator n t) h = absurd (elim h [ inl e ↦ omega (arith, ap kind_number e) | inr e ↦ omega (arith, ap kind_number e) ])
value_is_lem (meta_bin_operator n t u) h = absurd (elim h [ inl e ↦ omega (arith, ap kind_number e) | inr e ↦ omega (arith, ap kind_number e) ])
value_is_lem zero_divisor h = absurd (elim h [ inl e ↦ omega (arith, ap kind_number e) | inr e ↦ omega (arith, ap kind_number e) ])
value_is_lem (lucia_error c) h = refl
value_is_lem (lucia_panic c) h = refl

message_is : (y : v.Error) → (kind_of y ≡ kinds.Error → ⊥) → (kind_of y ≡ kinds.Panic → ⊥) → message (kind_number (kind_of y) - 2) ≡ shown y
unfolding kind_of shown
message_is (call_arguments s o g) n p = refl
message_is (un_operator o x t) n p = refl
message_is (bin_operator o x t u) n p = refl
message_is (meta_un_operator m t) n p = refl
message_is (meta_bin_operator m t u) n p = refl
message_is zero_divisor n p = refl
message_is (lucia_error c) n p = absurd (n refl)
message_is (lucia_panic c) n p = absurd (p refl)

-- ---- the same of an error as the code has it
module _ (x : Error) where
  pub throws_panic : x.kind ≡ kinds.Panic → Throws x (builtin 2)
  throws_panic k = record { is = λ y e. panic_is y (sym (ap (λ (z : Error). z.kind) e) ∙ k) }

  pub throws_error : (x.kind ≡ kinds.Panic → ⊥) → Throws x (builtin 1)
  throws_error k = record { is = λ y e. panic_not y (λ h. k (ap (λ (z : Error). z.kind) e ∙ h)) }

  pub shows_value : (x.kind ≡ kinds.Error) ⊎ (x.kind ≡ kinds.Panic) → Shows x x.value
  shows_value h = record {
    is = λ y e.
        let k = sym (ap (λ (z : Error). z.kind) e) in
        ap (λ (z : Error). z.value) e ∙ value_is_lem y (elim h [ inl i ↦ inl (k ∙ i) | inr i ↦ inr (k ∙ i) ]);
  }

  pub shows_message : {n : ℕ} {c : Cell} → n ≡ kind_number x.kind → c ≡ message (n - 2) → (x.kind ≡ kinds.Error → ⊥) → (x.kind ≡ kinds.Panic → ⊥) → Shows x c
  shows_message q w m p = record {
    is = λ y e.
        let k = ap (λ (z : Error). z.kind) e in
        w ∙ ap (λ (i : ℕ). message (i - 2)) (q ∙ ap kind_number k) ∙ message_is y (λ h. m (k ∙ h)) (λ h. p (k ∙ h));
  }
