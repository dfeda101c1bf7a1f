-- Opcodes 40 to 48 and 51: one law for each answer.
use Rattle.std.specs.Prelude.{◌≡◌, Bool, true, false, eqb, drop, Ok, Err}
use Rattle.std.proofs.Math.Path.{refl, ap}
use Rattle.std.proofs.Common.{sym, subst, ◌∙◌, ⊎_elim, eq-or-lt_of_le, arith}
use mathlib.Core.List.{List, ◌∷◌}
use Prim.Native.Nat.{ℕ, suc, ◌-◌, ◌≤◌}
use borrow.Author.Tests.{eq-eqb, ne_eqb}
use Rattle.cells.specs.declared.Cell.{Cell}
use Rattle.image.specs.Records.{if?, both}
use Rattle.machine.specs.Values.{Program, type_of, is_null, un_operator}
use Rattle.machine.specs.Machine.{M}
use Rattle.machine.specs.Opcodes.{Running, stacked, placed, Action, goes, jumps, throws, takes, with_top, pop_jump, jump_or_pop, opcode_action}
use Rattle.moves.specs.declared.Running as registers
use Rattle.plan.specs.Plans.{error_of}
use Rattle.plan.specs.Inside.{Does}
use Rattle.plan.specs.declared.Error.{Error}
use Rattle.plan.specs.declared.Next.TheVariants.{Goes, Jumps, Throws}
use Rattle.jumps.specs.Ends.{fewer, fewer_at, none_fewer, Shown, Acts, acts_stops, acts_goes, acts_jumps, acts_throws, top_none, top_acts}
use Rattle.refusals.specs.declared.Refusal.TheVariants.{FewValues}

-- a number of some in a row is the least of them or a later one
least : (T : ℕ → Type 0) {a n : ℕ} → a ≤ n → T a → (suc a ≤ n → T n) → T n
least T le t f = ⊎_elim (λ e. subst T e t) f (eq-or-lt_of_le le)

last : (T : ℕ → Type 0) {a n : ℕ} → a ≤ n → n ≤ a → T a → T n
last T le ge t = subst T (omega arith) t

-- 44, as `opcode_action` has it
abbrev null_jump : ℕ → Running → Cell → List Cell → Action
null_jump x r v st = if? (is_null v) (jumps (placed r x st)) (goes (stacked r (v ∷ st)))

-- ---- What each does
module _ (P : Program) (m : M) (r : Running) (x : ℕ) where
  action_jump : {op : ℕ} → 40 ≤ op → op ≤ 43 → opcode_action P m r op x ≡ takes (jumps (placed r x r.stack))
  unfolding opcode_action both
  action_jump a b =
      let T : ℕ → Type 0 = λ k. opcode_action P m r k x ≡ takes (jumps (placed r x r.stack)) in
      least T a refl (λ c. least T c refl (λ d. least T d refl (λ e. last T e b refl)))

  action_pop : {op : ℕ} → 45 ≤ op → op ≤ 46 → opcode_action P m r op x ≡ with_top r.stack (pop_jump r op x (46 - op))
  unfolding opcode_action both
  action_pop a b =
      let T : ℕ → Type 0 = λ k. opcode_action P m r k x ≡ with_top r.stack (pop_jump r k x (46 - k)) in
      least T a refl (λ c. last T c b refl)

  action_or_pop : {op : ℕ} → 47 ≤ op → op ≤ 48 → opcode_action P m r op x ≡ with_top r.stack (jump_or_pop r op x (48 - op))
  unfolding opcode_action both
  action_or_pop a b =
      let T : ℕ → Type 0 = λ k. opcode_action P m r k x ≡ with_top r.stack (jump_or_pop r k x (48 - k)) in
      least T a refl (λ c. last T c b refl)

  action_null : opcode_action P m r 44 x ≡ with_top r.stack (null_jump x r)
  unfolding opcode_action both
  action_null = refl

module _ {P : Program} {x : ℕ} {g : registers.Running} {live : List ℕ} where
  -- ---- 51, and 40 to 43
  pub nop_goes : Does P 51 x g (Ok (Goes g)) live live
  unfolding opcode_action both
  nop_goes = acts_goes 0 (omega arith) (none_fewer g) (record { is = λ z m r S i. refl })

  pub jump_jumps : {op : ℕ} {h : registers.Running} → 40 ≤ op → op ≤ 43 → h ≡ fewer_at x 0 g → Does P op x g (Ok (Jumps h)) live live
  jump_jumps a b e = acts_jumps 0 (omega arith) e (record { is = λ z m r S i. action_jump P m r x a b })

  -- ---- 44
  pub null_stops : g.stack ≡ 0 → Does P 44 x g (Err FewValues) live live
  null_stops z = acts_stops (top_none (null_jump x) (λ m r. action_null P m r x) z)

  module _ {v : Cell} {b : Bool} (some : g.stack ≡ 0 → ⊥) (s : Shown g live 0 v) (is : b ≡ eqb v.tag 0) where
    pub null_jumps : {h : registers.Running} → b ≡ true → h ≡ fewer_at x 1 g → Does P 44 x g (Ok (Jumps h)) live live
    null_jumps t e =
        acts_jumps 1 (omega arith) e
        (top_acts (null_jump x) (λ m r. action_null P m r x) some s (λ r st q. rw (sym is ∙ t) (ap (λ (l : List Cell). jumps (placed r x (drop 1 l))) (sym q))))

    pub null_goes : b ≡ false → Does P 44 x g (Ok (Goes g)) live live
    null_goes t =
        acts_goes 0 (omega arith) (none_fewer g)
        (top_acts (null_jump x) (λ m r. action_null P m r x) some s (λ r st q. rw (sym is ∙ t) (ap (λ (l : List Cell). goes (stacked r l)) (sym q))))

  -- ---- 45 and 46
  module _ {op : ℕ} (a : 45 ≤ op) (b : op ≤ 46) where
    pub pop_stops : g.stack ≡ 0 → Does P op x g (Err FewValues) live live
    pop_stops z = acts_stops (top_none (λ r. pop_jump r op x (46 - op)) (λ m r. action_pop P m r x a b) z)

    module _ {v : Cell} {b? : Bool} (some : g.stack ≡ 0 → ⊥) (s : Shown g live 0 v) (is : b? ≡ eqb v.tag 1) where
      pops : {d : Running → Action} → ((r : Running) (st : List Cell) → r.stack ≡ v ∷ st → pop_jump r op x (46 - op) v st ≡ d r) → Acts P op x g live (λ (r : Running). takes (d r))
      pops = top_acts (λ r. pop_jump r op x (46 - op)) (λ m r. action_pop P m r x a b) some s

      pub pop_throws : {h : registers.Running} {t : ℕ} {e : Error} → b? ≡ false → h ≡ fewer 1 g → t ≡ type_of v → e ≡ error_of (un_operator op x t) → Does P op x g (Ok (Throws h e)) live live
      unfolding pop_jump
      pop_throws n e k q =
          acts_throws 1 (un_operator op x (type_of v)) (omega arith) e (q ∙ ap (λ (y : ℕ). error_of (un_operator op x y)) k)
          (pops (λ r st o. rw (sym is ∙ n) (ap (λ (l : List Cell). throws (un_operator op x (type_of v)) (stacked r (drop 1 l))) (sym o))))

      pub pop_jumps : {h : registers.Running} {n : ℕ} → b? ≡ true → n ≡ 46 - op → v.number ≡ n → h ≡ fewer_at x 1 g → Does P op x g (Ok (Jumps h)) live live
      unfolding pop_jump
      pop_jumps n i k e = acts_jumps 1 (omega arith) e (pops (λ r st o. rw (sym is ∙ n, eq-eqb _ _ (k ∙ i)) (ap (λ (l : List Cell). jumps (placed r x (drop 1 l))) (sym o))))

      pub pop_goes : {h : registers.Running} {n : ℕ} → b? ≡ true → n ≡ 46 - op → (v.number ≡ n → ⊥) → h ≡ fewer 1 g → Does P op x g (Ok (Goes h)) live live
      unfolding pop_jump
      pop_goes n i k e = acts_goes 1 (omega arith) e (pops (λ r st o. rw (sym is ∙ n, ne_eqb _ _ (λ y. k (y ∙ sym i))) (ap (λ (l : List Cell). goes (stacked r (drop 1 l))) (sym o))))

  -- ---- 47 and 48
  module _ {op : ℕ} (a : 47 ≤ op) (b : op ≤ 48) where
    pub or_pop_stops : g.stack ≡ 0 → Does P op x g (Err FewValues) live live
    or_pop_stops z = acts_stops (top_none (λ r. jump_or_pop r op x (48 - op)) (λ m r. action_or_pop P m r x a b) z)

    module _ {v : Cell} {b? : Bool} (some : g.stack ≡ 0 → ⊥) (s : Shown g live 0 v) (is : b? ≡ eqb v.tag 1) where
      or_pops : {d : Running → Action} → ((r : Running) (st : List Cell) → r.stack ≡ v ∷ st → jump_or_pop r op x (48 - op) v st ≡ d r) → Acts P op x g live (λ (r : Running). takes (d r))
      or_pops = top_acts (λ r. jump_or_pop r op x (48 - op)) (λ m r. action_or_pop P m r x a b) some s

      pub or_pop_throws : {t : ℕ} {e : Error} → b? ≡ false → t ≡ type_of v → e ≡ error_of (un_operator op x t) → Does P op x g (Ok (Throws g e)) live live
      unfolding jump_or_pop
      or_pop_throws n k q =
          acts_throws 0 (un_operator op x (type_of v)) (omega arith) (none_fewer g) (q ∙ ap (λ (y : ℕ). error_of (un_operator op x y)) k)
          (or_pops (λ r st o. rw (sym is ∙ n) (ap (λ (l : List Cell). throws (un_operator op x (type_of v)) (stacked r l)) (sym o))))

      pub or_pop_jumps : {h : registers.Running} {n : ℕ} → b? ≡ true → n ≡ 48 - op → v.number ≡ n → h ≡ fewer_at x 0 g → Does P op x g (Ok (Jumps h)) live live
      unfolding jump_or_pop
      or_pop_jumps n i k e = acts_jumps 0 (omega arith) e (or_pops (λ r st o. rw (sym is ∙ n, eq-eqb _ _ (k ∙ i)) (ap (λ (l : List Cell). jumps (placed r x l)) (sym o))))

      pub or_pop_goes : {h : registers.Running} {n : ℕ} → b? ≡ true → n ≡ 48 - op → (v.number ≡ n → ⊥) → h ≡ fewer 1 g → Does P op x g (Ok (Goes h)) live live
      unfolding jump_or_pop
      or_pop_goes n i k e = acts_goes 1 (omega arith) e (or_pops (λ r st o. rw (sym is ∙ n, ne_eqb _ _ (λ y. k (y ∙ sym i))) (ap (λ (l : List Cell). goes (stacked r (drop 1 l))) (sym o))))
