-- What an operator leaves of its frame: one law for each return of `computed`, `unary`, `binary` and `type_check`.
use Rattle.std.specs.Prelude.{◌≡◌, ℕ, ◌-◌, ◌<◌, ◌≤◌, length, get_or, Result, Ok, Err}
use Rattle.std.proofs.Math.Path.{refl, ap}
use Rattle.std.proofs.Common.{sym, subst, ◌∙◌}
use mathlib.Core.List.{List, [], ◌∷◌}
use native.Mathlib.Omega.{arith}
use Rattle.std.proofs.Math.ListN.{drop}
use Rattle.std.proofs.Math.Dec.{eqb}
use Rattle.cells.specs.Cells.{null, cells, Sound}
use Rattle.cells.specs.CellsLaws.{length_cells}
use Rattle.cells.specs.declared.Cell.{Cell}
use Rattle.image.specs.Records.{both}
use Rattle.machine.specs.Values as v
use Rattle.machine.specs.Values.{Program, bool, type_of, unary, binary}
use Rattle.machine.specs.Machine.{M}
use Rattle.machine.specs.Opcodes.{Running, Action, goes, throws, Taken, takes, refuses, stacked, with_top, with_two, computed, opcode_action}
use Rattle.machine.specs.Calls.{Sizes, pace_of}
use Rattle.memory.specs.Layout.{Written}
use Rattle.moves.specs.Runs.{Top, Runs, Turns, with_counts, pushed, pop_top}
use Rattle.moves.specs.declared.Running as registers
use Rattle.plan.specs.Plans.{error_of, computed_of}
use Rattle.plan.proofs.RestLaws.{same_refl}
use Rattle.plan.specs.Inside.{Inside, left, Does}
use Rattle.plan.proofs.InsideLaws.{goes_fits, runs_cost, runs_fits, handlers_few, top_none, top_some, refused_does}
use Rattle.plan.specs.declared.Error.{Error}
use Rattle.plan.specs.declared.Next.{Next}
use Rattle.plan.specs.declared.Next.TheVariants.{Goes, Throws}
use Rattle.operators.specs.Numbers.{unary_number, binary_number}
use Rattle.operators.specs.declared.UnaryOperator.{UnaryOperator}
use Rattle.operators.specs.declared.UnaryOperator.TheVariants as u
use Rattle.operators.specs.declared.BinaryOperator.{BinaryOperator}
use Rattle.operators.specs.declared.BinaryOperator.TheVariants as b
use Rattle.operators.specs.Operated.{Operates}
use Rattle.refusals.specs.declared.Refusal.TheVariants.{FewValues}

-- ---- `computed`
-- a cell that is given, and an error
given : (r : Running) (st : List Cell) {c : Cell} (y : v.Computed) → Ok c ≡ computed_of y → computed r st y ≡ goes (stacked r (c ∷ st))
unfolding computed_of computed
given r st {c} (v.computes d) e = let f : d ≡ c = cc in rw f
given r st (v.fails x) e = let z : ◌≡◌ {A = ℕ} 0 1 = cc in absurd (omega arith)

record Failing (r : Running) (st : List Cell) (x : Error) (y : v.Computed) : Type 0 where
  error : v.Error
  is : x ≡ error_of error
  throws : computed r st y ≡ throws error (stacked r st)

failing : (r : Running) (st : List Cell) {x : Error} (y : v.Computed) → Err x ≡ computed_of y → Failing r st x y
unfolding computed_of computed
failing r st {x} (v.fails d) e = record { error = d; is = cc; throws = refl }
failing r st (v.computes x) e = let z : ◌≡◌ {A = ℕ} 0 1 = cc in absurd (omega arith)

module _ (g : registers.Running) (n : ℕ) {old : List ℕ} (few : n ≤ g.stack) where
  goes_by : {c : Result Cell Error} {a : Cell} {r : registers.Running} {new : List ℕ} → c ≡ Ok a → Turns (pushed a) (with_counts g.handlers (g.stack - n) g) old r new → (P : Program) → Operates P g n c (Goes r) old new
  unfolding pace_of
  goes_by {a = a} {r} {new} e t P = record {
    does = λ op x y k. record {
      next = λ z m f S u i.
          let st : List Cell = a ∷ drop n f.stack in
          let o : Runs f.handle f.place f.locals st f.handlers f.below r (cells new) = t.top _ _ (pop_top i.runs n few) in
          record {
            action = goes (left f f.place f.locals st f.handlers);
            place = f.place;
            locals = f.locals;
            stack = st;
            handlers = f.handlers;
            is = goes_fits i f.place f.locals st f.handlers (u ∙ ap takes (given f (drop n f.stack) y (sym e ∙ k))) (handlers_few i)
                (omega (arith, runs_cost f.below o, runs_fits f.below o, length_cells old, length_cells new, t.len, i.room));
            paces = refl;
            runs = o;
          };
      same = record { rest = t.rest; len = t.len };
    };
  }

  throws_by : {c : Result Cell Error} {x : Error} → c ≡ Err x → (P : Program) → Operates P g n c (Throws (with_counts g.handlers (g.stack - n) g) x) old old
  throws_by e P = record {
    does = λ op x y k. record {
      next = λ z m f S u i.
          let b = failing f (drop n f.stack) y (sym e ∙ k) in (
            record {
              error = b.error;
              place = f.place;
              locals = f.locals;
              stack = drop n f.stack;
              handlers = f.handlers;
              is = b.is;
              throws = u ∙ ap takes b.throws;
              runs = pop_top i.runs n few;
            },
            refl,
          );
      same = same_refl old;
    };
  }

  -- over the frame without its operands
  module _ {h : registers.Running} (q : h ≡ with_counts g.handlers (g.stack - n) g) where
    pub computed_goes : {c : Result Cell Error} {a : Cell} {r : registers.Running} {new : List ℕ} → c ≡ Ok a → Turns (pushed a) h old r new → (P : Program) → Operates P g n c (Goes r) old new
    computed_goes {a = a} {r} {new} e t P = goes_by e (subst (λ (k : registers.Running). Turns (pushed a) k old r new) q t) P

    pub computed_throws : {c : Result Cell Error} {x : Error} → c ≡ Err x → (P : Program) → Operates P g n c (Throws h x) old old
    computed_throws {c} {x} e P = subst (λ (k : registers.Running). Operates P g n c (Throws k x) old old) (sym q) (throws_by e P)

-- ---- The opcodes
module _ (P : Program) (m : M) (r : Running) (x : ℕ) where
  unary_action : (o : UnaryOperator) → opcode_action P m r (unary_number o) x ≡ with_top r.stack (λ (a : Cell) (st : List Cell). computed r st (unary (unary_number o) a))
  unfolding opcode_action both
  unary_action u.Neg = refl
  unary_action u.Not = refl

  binary_action : (o : BinaryOperator) → opcode_action P m r (binary_number o) x ≡ with_two r.stack (λ (b a : Cell) (st : List Cell). computed r st (binary P (binary_number o) a b))
  unfolding opcode_action both
  binary_action b.Add = refl
  binary_action b.Sub = refl
  binary_action b.Mul = refl
  binary_action b.Div = refl
  binary_action b.Rem = refl
  binary_action b.Eq = refl
  binary_action b.Ne = refl
  binary_action b.Gt = refl
  binary_action b.Ge = refl
  binary_action b.Lt = refl
  binary_action b.Le = refl

-- ---- The operands
two_none : (st : List Cell) (f : Cell → Cell → List Cell → Action) → length st < 2 → with_two st f ≡ refuses 12
unfolding with_two
two_none [] f l = refl
two_none (a ∷ []) f l = refl
two_none (a ∷ b ∷ st) f l = absurd (omega arith)

two_some : (st : List Cell) (f : Cell → Cell → List Cell → Action) → 2 ≤ length st → with_two st f ≡ takes (f (get_or st 0 null) (get_or st 1 null) (drop 2 st))
unfolding with_two
two_some [] f l = absurd (omega arith)
two_some (a ∷ []) f l = absurd (omega arith)
two_some (a ∷ b ∷ st) f l = refl

-- an operator does what its opcode does
operated : {P : Program} {g : registers.Running} {n : ℕ} {c : Result Cell Error} {w : Next} {old new : List ℕ} (op x : ℕ) (y : v.Computed) → Operates P g n c w old new → c ≡ computed_of y
    → ((z : Sizes) (m : M) (r : Running) (S : List Cell) → Inside P z m r g (cells old) S → opcode_action P m r op x ≡ takes (computed r (drop n r.stack) y)) → Does P op x g (Ok w) old new
operated op x y o e h = let d = o.does op x y e in record { next = λ z m r S q i. d.next z m r S (h z m r S i) i; same = d.same }

-- ---- `unary`
module _ (g : registers.Running) (o : UnaryOperator) (x : ℕ) (old : List ℕ) where
  pub unary_stops : g.stack ≡ 0 → (P : Program) → Does P (unary_number o) x g (Err FewValues) old old
  unary_stops e P = refused_does (λ m r k. unary_action P m r x o ∙ top_none r.stack _ (omega arith))

  pub unary_does : {a : Cell} {c : Result Cell Error} {w : Next} {new : List ℕ} → (g.stack ≡ 0 → ⊥) → ((f : Written) (pre : List Cell) → Top f pre g (cells old) → a ≡ get_or f.stack 0 null) × Sound a
      → c ≡ computed_of (unary (unary_number o) a) → ((P : Program) → Operates P g 1 c w old new) → (P : Program) → Does P (unary_number o) x g (Ok w) old new
  unary_does {a} e s q k P =
      operated (unary_number o) x (unary (unary_number o) a) (k P) q
      (λ z m r S i. unary_action P m r x o ∙ top_some r.stack _ (λ h. e (i.runs.counts.stack ∙ h)) ∙ ap (λ (b : Cell). takes (computed r (drop 1 r.stack) (unary (unary_number o) b))) (sym (s.0 _ _ i.runs)))

-- ---- `binary`
module _ (P : Program) (g : registers.Running) (o : BinaryOperator) (x : ℕ) (old : List ℕ) where
  pub binary_stops : g.stack < 2 → Does P (binary_number o) x g (Err FewValues) old old
  binary_stops l = refused_does (λ m r k. binary_action P m r x o ∙ two_none r.stack _ (omega arith))

  pub binary_does : {a b : Cell} {c : Result Cell Error} {w : Next} {new : List ℕ} → 2 ≤ g.stack → ((f : Written) (pre : List Cell) → Top f pre g (cells old) → b ≡ get_or f.stack 0 null) × Sound b
      → ((f : Written) (pre : List Cell) → Top f pre g (cells old) → a ≡ get_or f.stack 1 null) × Sound a → c ≡ computed_of (binary P (binary_number o) a b) → ((P : Program) → Operates P g 2 c w old new)
      → Does P (binary_number o) x g (Ok w) old new
  binary_does {a} {b} l s t q k =
      operated (binary_number o) x (binary P (binary_number o) a b) (k P) q
      (λ z m r S i. binary_action P m r x o ∙ two_some r.stack _ (omega (arith, i.runs.counts.stack))
      ∙ (λ j. takes (computed r (drop 2 r.stack) (binary P (binary_number o) (sym (t.0 _ _ i.runs) j) (sym (s.0 _ _ i.runs) j)))))

-- ---- `binary` at the operators that take two Ints, whatever the program
-- only `Eq` and `Ne` look into the program
arithmetic_same : (P Q : Program) (o : BinaryOperator) (x y : Cell) → (binary_number o ≡ 24 → ⊥) → (binary_number o ≡ 25 → ⊥) → binary P (binary_number o) x y ≡ binary Q (binary_number o) x y
unfolding binary
arithmetic_same P Q b.Add x y n m = refl
arithmetic_same P Q b.Sub x y n m = refl
arithmetic_same P Q b.Mul x y n m = refl
arithmetic_same P Q b.Div x y n m = refl
arithmetic_same P Q b.Rem x y n m = refl
arithmetic_same P Q b.Eq x y n m = absurd (n refl)
arithmetic_same P Q b.Ne x y n m = absurd (m refl)
arithmetic_same P Q b.Gt x y n m = refl
arithmetic_same P Q b.Ge x y n m = refl
arithmetic_same P Q b.Lt x y n m = refl
arithmetic_same P Q b.Le x y n m = refl

pub arithmetic_gives : (P : Program) (o : BinaryOperator) (x y : Cell) {c : Result Cell Error} → (binary_number o ≡ 24 → ⊥) × (binary_number o ≡ 25 → ⊥) → c ≡ computed_of (binary P (binary_number o) x y)
    → (Q : Program) → c ≡ computed_of (binary Q (binary_number o) x y)
arithmetic_gives P o x y n e Q = e ∙ ap (λ (d : v.Computed). computed_of d) (arithmetic_same P Q o x y n.0 n.1)

module _ (g : registers.Running) (o : BinaryOperator) (x : ℕ) (old : List ℕ) where
  pub arithmetic_stops : g.stack < 2 → (P : Program) → Does P (binary_number o) x g (Err FewValues) old old
  arithmetic_stops l P = binary_stops P g o x old l

  pub arithmetic_does : {a b : Cell} {c : Result Cell Error} {w : Next} {new : List ℕ} → 2 ≤ g.stack → ((f : Written) (pre : List Cell) → Top f pre g (cells old) → b ≡ get_or f.stack 0 null) × Sound b
      → ((f : Written) (pre : List Cell) → Top f pre g (cells old) → a ≡ get_or f.stack 1 null) × Sound a → ((P : Program) → c ≡ computed_of (binary P (binary_number o) a b)) → ((P : Program) → Operates P g 2 c w old new)
      → (P : Program) → Does P (binary_number o) x g (Ok w) old new
  arithmetic_does l s t q k P = binary_does P g o x old l s t (q P) k

-- ---- `type_check`
module _ (g : registers.Running) (x : ℕ) (old : List ℕ) where
  pub check_stops : g.stack ≡ 0 → (P : Program) → Does P 30 x g (Err FewValues) old old
  unfolding opcode_action both
  check_stops e P = refused_does (λ m r k. top_none r.stack _ (omega arith))

  pub check_does : {a b : Cell} {t : ℕ} {w : Next} {new : List ℕ} → (g.stack ≡ 0 → ⊥) → ((f : Written) (pre : List Cell) → Top f pre g (cells old) → a ≡ get_or f.stack 0 null) × Sound a
      → t ≡ type_of a → b ≡ bool (eqb t x) → ((P : Program) → Operates P g 1 (Ok b) w old new) → (P : Program) → Does P 30 x g (Ok w) old new
  unfolding opcode_action both computed computed_of
  check_does {a} {b} e s p q o P =
      operated 30 x (v.computes b) (o P) refl
      (λ z m r S i. top_some r.stack _ (λ k. e (i.runs.counts.stack ∙ k))
      ∙ ap (λ (c : Cell). takes (goes (stacked r (c ∷ drop 1 r.stack)))) (sym (q ∙ ap (λ (k : ℕ). bool (eqb k x)) (p ∙ ap (λ (c : Cell). type_of c) (s.0 _ _ i.runs)))))
