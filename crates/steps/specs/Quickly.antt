-- An opcode done at once: what it leaves; where it is left to `step`, nothing is written.
use Rattle.std.specs.Prelude.{◌≡◌, refl, List, [], ℕ, ◌≤◌, get_or, Result, Ok, Err}
use Rattle.std.proofs.Common.{sym, subst, ◌∙◌}
use Rattle.cells.specs.Cells.{cells}
use Rattle.image.specs.Program.{Code}
use Rattle.image.specs.Layout.{code_at}
use Rattle.image.specs.Fine.{no_constant}
use Rattle.image.specs.declared.Op.{Op}
use Rattle.image.specs.declared.Constant.{Constant}
use Rattle.scan.specs.Tables.{program_in}
use Rattle.machine.specs.Values.{Program}
use Rattle.machine.specs.Machine.{M}
use Rattle.machine.specs.Opcodes.{Running}
use Rattle.machine.specs.Calls.{Sizes}
use Rattle.moves.specs.declared.Running as registers
use Rattle.plan.specs.Inside.{DoesWhere, Does}
use Rattle.plan.specs.declared.Next.{Next}
use Rattle.plan.specs.declared.Next.TheVariants as next
use Rattle.steps.specs.Stepped.{Given, Ready, ReadyWith, Steps, StaysOn}
use Rattle.steps.specs.SteppedLaws.{stays_steps}
use Rattle.steps.specs.Needed.{constant_is}
use Rattle.steps.specs.Families.{does_as, load_const, load_const_is}
use Rattle.steps.specs.declared.After.TheVariants as after
use Rattle.steps.specs.declared.Quick.{Quick}
use Rattle.steps.specs.declared.Quick.TheVariants.{Goes, Jumps, Other}
use Rattle.refusals.specs.declared.Refusal.{Refusal}

abbrev pub quick_next : Result Next Refusal → Quick
quick_next (Ok (next.Goes g)) = Goes g
quick_next (Ok (next.Jumps g)) = Jumps g
quick_next (Ok (next.Throws g x)) = Other
quick_next (Err n) = Other

abbrev pub Ends : Program → registers.Running → ℕ → ℕ → Op → Quick → List ℕ → List ℕ → List ℕ → Type 0
Ends P g handle code o (Goes h) live store live' = (state : List ℕ) → StaysOn P g handle code o (Ok (next.Goes h)) state live store live'
Ends P g handle code o (Jumps h) live store live' = (state : List ℕ) → StaysOn P g handle code o (Ok (next.Jumps h)) state live store live'
Ends P g handle code o Other live store live' = live' ≡ live

pub record Quickly (P : Program) (g : registers.Running) (handle code : ℕ) (o : Op) (r : Quick) (live store live' : List ℕ) : Type 0 where
  pub ends : Ends P g handle code o r live store live'

-- what an opcode does, where what it asks for is given
by_next : {P : Program} {g : registers.Running} {handle code : ℕ} {o : Op} {live store live' : List ℕ} {Q : M → Running → Type 0} (n : Result Next Refusal) → Ready P g handle code o live store
    → ((z : Sizes) (m : M) (r : Running) → Given P z m r g handle code o (cells live) (cells store) → Q m r) → DoesWhere Q P o.number o.operand g n live live' → Ends P g handle code o (quick_next n) live store live'
by_next {store = store} (Ok (next.Goes h)) y q d = λ state. record { next = λ z m r x b. d.next z m r (cells store) (q z m r x) x.inside; same = d.same }
by_next {store = store} (Ok (next.Jumps h)) y q d = λ state. record { next = λ z m r x b. d.next z m r (cells store) (q z m r x) x.inside; same = d.same }
by_next {store = store} (Ok (next.Throws h x)) y q d = (d.next y.sizes y.machine y.frame (cells store) (q y.sizes y.machine y.frame y.given) y.given.inside).1
by_next {store = store} (Err k) y q d = (d.next y.sizes y.machine y.frame (cells store) (q y.sizes y.machine y.frame y.given) y.given.inside).1

-- an opcode with a number of its own
pub quick_by : {P : Program} {g : registers.Running} {handle code u : ℕ} {o : Op} {live store live' : List ℕ} {n : Result Next Refusal} {r : Quick} {i : ℕ} → ReadyWith P g handle code u o live store → o.number ≡ i
    → Does P i o.operand g n live live' → r ≡ quick_next n → Quickly P g handle code o r live store live'
quick_by {n = n} y e d q = record { ends = rw q (by_next n y.ready (λ z m r x. tt) (does_as e d)) }

pub quick_number : {P : Program} {g : registers.Running} {handle code u : ℕ} {o : Op} {live store live' : List ℕ} {n : Result Next Refusal} {r : Quick} {i : ℕ} → ReadyWith P g handle code u o live store → o.number ≡ i
    → ((P : Program) → Does P i o.operand g n live live') → r ≡ quick_next n → Quickly P g handle code o r live store live'
quick_number {P} y e d q = quick_by y e (d P) q

-- those that write nothing
module _ {P : Program} {g : registers.Running} {handle code u : ℕ} {o : Op} {live store : List ℕ} {n : Result Next Refusal} {r : Quick} (y : ReadyWith P g handle code u o live store) where
  pub quick_pop : o.number ≡ 0 → ((P : Program) (x : ℕ) (live : List ℕ) → Does P 0 x g n live live) → r ≡ quick_next n → Quickly P g handle code o r live store live
  quick_pop e d q = quick_number y e (λ P. d P o.operand live) q

  pub quick_jump : {i : ℕ} → o.number ≡ i → 40 ≤ i → i ≤ 43 → ((P : Program) (op : ℕ) (live : List ℕ) → 40 ≤ op → op ≤ 43 → Does P op o.operand g n live live) → r ≡ quick_next n → Quickly P g handle code o r live store live
  quick_jump {i} e a b d q = quick_number y e (λ P. d P i live a b) q

-- a constant
pub quick_made : {P : Program} {g : registers.Running} {handle code u : ℕ} {o : Op} {live store live' : List ℕ} {r : Quick} → ReadyWith P g handle code u o live store → o.number ≡ 6 → Quickly P g handle code (load_const o.operand) r live store live'
    → Quickly P g handle code o r live store live'
quick_made {P} {g} {handle} {code} {o = o} {live} {store} {live'} {r} y e h = subst (λ (p : Op). Quickly P g handle code p r live store live') (sym (load_const_is o e)) h

pub quick_int : (image rows constants inner : List ℕ) (codes : ℕ) {g : registers.Running} {handle code u x : ℕ} {live store live' : List ℕ} {n : Result Next Refusal} {r : Quick} {c : Constant} {number : ℕ} → ReadyWith (program_in image rows constants inner codes) g handle code u (load_const x) live store
    → c ≡ get_or (code_at image rows constants [] code).constants x no_constant → (c.kind ≡ 22 → ⊥) → number ≡ code
    → ((cs : List Code) → DoesWhere (λ (m : M) (r : Running). (number ≡ r.number) × (c ≡ get_or r.code.constants x no_constant) × (c.kind ≡ 22 → ⊥)) (record { image = image; codes = cs }) 6 x g n live live')
    → r ≡ quick_next n → Quickly (program_in image rows constants inner codes) g handle code (load_const x) r live store live'
quick_int image rows constants inner codes {n = n} y e f same d q =
    record { ends = rw q (by_next n y.ready (λ z m s x. (same ∙ x.number, constant_is image rows constants inner codes x e, f)) (d (program_in image rows constants inner codes).codes)) }

-- nothing is written
pub quick_other : {P : Program} {g : registers.Running} {handle code : ℕ} {o : Op} {live store : List ℕ} → Quickly P g handle code o Other live store live
quick_other = record { ends = refl }

-- ---- The same as a step
module _ {P : Program} {g : registers.Running} {handle code : ℕ} {o : Op} {q : Quick} {live store live' : List ℕ} (k : Quickly P g handle code o q live store live') where
  pub goes_steps : (u : ℕ) (state : List ℕ) {h : registers.Running} → q ≡ Goes h → Steps P g handle code u o (Ok (after.On h u)) state live store state live' store
  goes_steps u state e = stays_steps state u ((rw e at k.ends) state) refl

  pub jumps_steps : (u : ℕ) (state : List ℕ) {h : registers.Running} → q ≡ Jumps h → Steps P g handle code u o (Ok (after.Jumped h)) state live store state live' store
  jumps_steps u state e = stays_steps state u ((rw e at k.ends) state) refl

  pub other_same : q ≡ Other → live' ≡ live
  other_same e = rw e at k.ends
