-- One law for each answer of the families: what an opcode's own function leaves is what its number asks for.
use Rattle.std.specs.Prelude.{◌≡◌, List, [], ◌⊎◌, ℕ, ◌+◌, ◌<◌, ◌≤◌, length, get_or, Result, Ok, Err}
use Rattle.std.proofs.Math.Path.{refl, ap}
use Rattle.std.proofs.Common.{sym, subst, ◌∙◌, arith}
use Rattle.std.proofs.Math.Logic.{⊎_elim}
use Rattle.cells.specs.Le.{le_at}
use Rattle.cells.specs.Cells.{room, cells}
use Rattle.cells.specs.CellsLaws.{length_cells}
use Rattle.image.specs.Program.{Code, operand_kind}
use Rattle.image.specs.Layout.{field, code_at}
use Rattle.image.specs.Fine.{Sized, no_constant, bytes_of}
use Rattle.image.specs.declared.Op.{Op}
use Rattle.image.specs.declared.Constant.{Constant}
use Rattle.image.specs.declared.OperandKind.TheVariants.{Global}
use Rattle.program.specs.Looks.{body_at}
use Rattle.scan.specs.Tables.{program_in}
use Rattle.machine.specs.Values.{Program}
use Rattle.machine.specs.Machine.{M}
use Rattle.machine.specs.Opcodes.{Running, Taken}
use Rattle.machine.specs.Calls.{outcome}
use Rattle.moves.specs.Runs.{end_of}
use Rattle.moves.specs.Objects.{Stored}
use Rattle.moves.specs.declared.Running as registers
use Rattle.plan.specs.Rest.{Block}
use Rattle.plan.proofs.Appended.{appends_refl}
use Rattle.plan.specs.Inside.{DoesWhere, Does}
use Rattle.plan.specs.declared.Next.{Next}
use Rattle.makes.specs.declared.Made.{Made}
use Rattle.refusals.specs.declared.Refusal.{Refusal}
use Rattle.makes.specs.Made as m
use Rattle.makes.specs.Made.{Closable, MakesClosure, SetsGlobal}
use Rattle.image.specs.Kinds.{opcode_number, opcode_of}
use Rattle.image.specs.declared.kinds.Unknown.{Unknown}
use Rattle.image.specs.declared.kinds.Opcode.{Opcode}
use Rattle.image.proofs.KindLaws.{opcode_named, opcode_unnamed}
use Rattle.steps.specs.Numbers.{left_out}
use Rattle.steps.specs.Stepped.{Chosen, Ready, ReadyWith, Steps, StaysOn, after_next, after_made}
use Rattle.plan.proofs.RestLaws.{same_refl}
use Rattle.steps.specs.SteppedLaws.{next_is, stays_steps, does_stays, makes_steps, sets_steps}
use Rattle.steps.specs.Needed.{code_low, fits_in, local_in, upvalue_in, upvalue_there, global_within, name_is, name_low, constant_within, constant_is, constant_sized, inner_within, named_by}
use Rattle.steps.specs.declared.Closing as c
use Rattle.steps.specs.declared.Family.{Family}
use Rattle.steps.specs.declared.Family.TheVariants.{Closes}
use Rattle.steps.specs.declared.After.{After}
use Rattle.steps.specs.declared.After.TheVariants.{Closing}
use Rattle.refusals.specs.declared.Refusal.TheVariants.{ImageNumber}

-- ---- The number of an opcode, by what was chosen
pub numbered : {f : Family} (op : ℕ) (k : Family) → f ≡ k → Chosen f op → Chosen k op
numbered op k e h = subst (λ (f : Family). Chosen f op) e h

-- the same by the name that its number gives
pub named_as : {r : Result Opcode Unknown} {n : ℕ} {o : Opcode} → r ≡ opcode_of n → r ≡ Ok o → n ≡ opcode_number o
named_as {n = n} {o} q e = opcode_named n o (sym q ∙ e)

pub chosen_as : (f : Family) (n : ℕ) {r : Result Opcode Unknown} {o : Opcode} → r ≡ opcode_of n → r ≡ Ok o → Chosen f (opcode_number o) → Chosen f n
chosen_as f n q e h = subst (λ (i : ℕ). Chosen f i) (sym (named_as q e)) h

-- what an opcode does, by its number
pub does_as : {P : Program} {op k x : ℕ} {g : registers.Running} {n : Result Next Refusal} {old new : List ℕ} → op ≡ k → Does P k x g n old new → Does P op x g n old new
does_as {P} {x = x} {g} {n} {old} {new} e d = subst (λ (i : ℕ). Does P i x g n old new) (sym e) d

-- ---- What every family needs
module _ {P : Program} {g : registers.Running} {handle code : ℕ} {o : Op} {live store : List ℕ} (y : Ready P g handle code o live store) where
  pub ready_fits : end_of g ≤ room live
  ready_fits = omega (arith, fits_in y.given, length_cells live)

  pub ready_code : code < 4294967296
  ready_code = omega (arith, code_low y.given)

-- ---- Opcodes on the stack: what they need
module _ {P : Program} {g : registers.Running} {handle code : ℕ} {o : Op} {live store : List ℕ} (y : Ready P g handle code o live store) where
  pub local_loads : o.number ≡ 3 → (end_of g ≤ room live) × (o.operand < g.locals)
  unfolding operand_kind
  local_loads e = (ready_fits y, local_in y.given (ap operand_kind e))

  pub local_stores : o.number ≡ 7 → (end_of g ≤ room live) × (o.operand < g.locals)
  unfolding operand_kind
  local_stores e = (ready_fits y, local_in y.given (ap operand_kind e))

  pub upvalue_loads : o.number ≡ 5 → (end_of g ≤ room live) × (handle + 1 + o.operand < room store)
  unfolding operand_kind
  upvalue_loads e = (ready_fits y, omega (arith, upvalue_there y.given (ap operand_kind e), length_cells store))

-- the same of a name of the code
module _ (image rows constants inner : List ℕ) (codes : ℕ) {g : registers.Running} {handle code : ℕ} {o : Op} {live store : List ℕ} (y : Ready (program_in image rows constants inner codes) g handle code o live store) where
  global_kind : (o.number ≡ 4) ⊎ (o.number ≡ 8) → operand_kind o.number ≡ Global
  unfolding operand_kind
  global_kind h = ⊎_elim (λ e. ap operand_kind e) (λ e. ap operand_kind e) h

  pub global_looks : (o.number ≡ 4) ⊎ (o.number ≡ 8) → (code < 4294967296) × (o.operand < field rows code 3)
  global_looks h = (ready_code y, global_within image rows constants inner codes y.given (global_kind h))

  pub global_named : {name : ℕ} → (o.number ≡ 4) ⊎ (o.number ≡ 8) → name ≡ get_or (body_at image rows code).globals o.operand 0 → name < 256
  global_named h q = name_low image rows constants inner codes y.given (global_kind h) q

-- ---- Opcodes on the stack: what they leave
module _ {P : Program} {g : registers.Running} {handle code : ℕ} {o : Op} {n : Result Next Refusal} {state live store : List ℕ} where
  pub pop_stays : o.number ≡ 0 → ((P : Program) (x : ℕ) (live : List ℕ) → Does P 0 x g n live live) → StaysOn P g handle code o n state live store live
  pop_stays e d = does_stays handle code state store (does_as e (d P o.operand live))

  module _ {live' : List ℕ} where
    -- an opcode with a number of its own
    pub number_stays : {i : ℕ} → o.number ≡ i → ((P : Program) → Does P i o.operand g n live live') → StaysOn P g handle code o n state live store live'
    number_stays e d = does_stays handle code state store (does_as e (d P))

    pub load_upvalue_stays : o.number ≡ 5
        → ((P : Program) → DoesWhere (λ (m : M) (r : Running). Stored m.store (cells store) × (handle ≡ r.handle) × (o.operand < length r.upvalues)) P 5 o.operand g n live live')
        → StaysOn P g handle code o n state live store live'
    unfolding operand_kind
    load_upvalue_stays e d = record {
      next = λ z m r y b. rw e ((d P).next z m r (cells store) (y.inside.store, y.closure, upvalue_in y (ap operand_kind e)) y.inside);
      same = (d P).same;
    }

pub load_global_stays : (image rows constants inner : List ℕ) (codes : ℕ) {g : registers.Running} (handle : ℕ) {code : ℕ} {o : Op} {n : Result Next Refusal} {state live live' : List ℕ} (store : List ℕ) {name : ℕ} → o.number ≡ 4
    → name ≡ get_or (body_at image rows code).globals o.operand 0
    → ((P : Program) → DoesWhere (λ (m : M) (r : Running). Block m (cells state) × (name ≡ get_or r.code.globals o.operand 0)) P 4 o.operand g n live live')
    → StaysOn (program_in image rows constants inner codes) g handle code o n state live store live'
load_global_stays image rows constants inner codes handle store e q d =
    let h = d (program_in image rows constants inner codes) in
    record { next = λ z m r y b. rw e (h.next z m r (cells store) (b, name_is image rows constants inner codes y q) y.inside); same = h.same }

-- ---- Operators and jumps: one number, or a function that is told the number
module _ {P : Program} {op x : ℕ} {g : registers.Running} {n : Result Next Refusal} {live : List ℕ} where
  pub number_does : {i : ℕ} {live' : List ℕ} → op ≡ i → ((P : Program) → Does P i x g n live live') → Does P op x g n live live'
  number_does e d = does_as e (d P)

  pub plain_does : ((P : Program) (live : List ℕ) → Does P op x g n live live) → Does P op x g n live live
  plain_does d = d P live

  pub nop_does : op ≡ 51 → ((P : Program) (x : ℕ) (live : List ℕ) → Does P 51 x g n live live) → Does P op x g n live live
  nop_does e d = does_as e (d P x live)

-- ---- 6 `LoadConst`
abbrev pub load_const : ℕ → Op
load_const x = record { number = 6; operand = x }

module _ (image rows constants inner : List ℕ) (codes : ℕ) {g : registers.Running} {handle code u x : ℕ} {live store : List ℕ} (y : ReadyWith (program_in image rows constants inner codes) g handle code u (load_const x) live store) where
  pub const_looks : (code < 4294967296) × (x < field rows code 7)
  unfolding operand_kind
  const_looks = (ready_code y.ready, constant_within image rows constants inner codes y.ready.given refl)

  module _ {c : Constant} (e : c ≡ get_or (code_at image rows constants [] code).constants x no_constant) where
    pub const_loads : (end_of g ≤ room live) × Sized image c
    unfolding operand_kind
    const_loads = (ready_fits y.ready, constant_sized image rows constants inner codes y.ready.given refl e)

    module _ {b : List ℕ} {j : ℕ} (f : c.kind ≡ 22) (q : b ≡ bytes_of image c) (w : j ≡ le_at 2 b 0) where
      pub inner_looks : (code < 4294967296) × (j < field rows code 9)
      unfolding operand_kind
      inner_looks = (ready_code y.ready, inner_within image rows constants inner codes y.ready.given refl e f q w)

      pub closable : {n : ℕ} → n ≡ get_or (code_at [] rows [] inner code).codes j 0 → Closable (program_in image rows constants inner codes) g handle u x n live store
      unfolding operand_kind
      closable v = record {
        sizes = y.ready.sizes;
        machine = y.ready.machine;
        frame = y.ready.frame;
        inside = y.ready.given.inside;
        accepted = y.ready.given.accepted;
        named = named_by image rows constants inner codes y.ready.given refl e f q w v;
        closure = y.ready.given.closure;
        uses = y.uses;
        few = y.few;
      }

module _ (image rows constants inner : List ℕ) (codes : ℕ) {g : registers.Running} {handle code u x : ℕ} {live store live' : List ℕ} {a : Result After Refusal} {c : Constant} (e : c ≡ get_or (code_at image rows constants [] code).constants x no_constant) where
  pub closure_steps : {b : List ℕ} {j k : ℕ} {n : Result Made Refusal} {store' : List ℕ} → c.kind ≡ 22 → b ≡ bytes_of image c → j ≡ le_at 2 b 0 → k ≡ get_or (code_at [] rows [] inner code).codes j 0
      → MakesClosure (program_in image rows constants inner codes) g handle u x k n live store live' store' → a ≡ after_made n
      → (state : List ℕ) → Steps (program_in image rows constants inner codes) g handle code u (load_const x) a state live store state live' store'
  unfolding operand_kind
  closure_steps {n = n} f q w v d r state =
      makes_steps n state u (λ z m s y t. d.next z m s y.inside y.accepted t y.closure (named_by image rows constants inner codes y refl e f q w v)) d.same_live d.appends r

  pub const_steps : {n : Result Next Refusal} {number : ℕ} → (c.kind ≡ 22 → ⊥) → number ≡ code
      → ((cs : List Code) → DoesWhere (λ (m : M) (r : Running). (number ≡ r.number) × (c ≡ get_or r.code.constants x no_constant) × (c.kind ≡ 22 → ⊥)) (record { image = image; codes = cs }) 6 x g n live live')
      → a ≡ after_next n u → (state : List ℕ) → Steps (program_in image rows constants inner codes) g handle code u (load_const x) a state live store state live' store
  const_steps {n} f same d r state =
      let k = d (program_in image rows constants inner codes).codes in
      let s : StaysOn (program_in image rows constants inner codes) g handle code (load_const x) n state live store live' =
      record { next = λ z m s y t. k.next z m s (cells store) (same ∙ y.number, constant_is image rows constants inner codes y e, f) y.inside; same = k.same } in
      stays_steps state u s r

-- ---- Opcodes that make an object or set a global
pub load_const_is : (o : Op) → o.number ≡ 6 → o ≡ load_const o.operand
load_const_is o e = λ j. record { number = e j; operand = o.operand }

module _ {P : Program} {g : registers.Running} {handle code u : ℕ} {o : Op} {live store : List ℕ} where
  pub const_asks : ReadyWith P g handle code u o live store → o.number ≡ 6 → ReadyWith P g handle code u (load_const o.operand) live store
  const_asks y e = subst (λ (p : Op). ReadyWith P g handle code u p live store) (load_const_is o e) y

  pub list_asks : ReadyWith P g handle code u o live store → (end_of g ≤ room live) × (u ≤ room store) × (room store < 4294967296)
  list_asks y = let i = y.ready.given.inside in (ready_fits y.ready, omega (arith, y.uses, i.fits.used, i.room_store, length_cells store), y.few)

  module _ {a : Result After Refusal} {state live' store' : List ℕ} where
    pub const_made : o.number ≡ 6 → ((state : List ℕ) → Steps P g handle code u (load_const o.operand) a state live store state live' store')
        → Steps P g handle code u o a state live store state live' store'
    const_made e h = subst (λ (p : Op). Steps P g handle code u p a state live store state live' store') (sym (load_const_is o e)) (h state)

    pub list_made : {n : Result Made Refusal} → o.number ≡ 10 → ((P : Program) → m.Makes P 10 o.operand g u n live store live' store') → a ≡ after_made n
        → Steps P g handle code u o a state live store state live' store'
    list_made {n} e d r =
        makes_steps n state u (λ z m s y t. rw e ((d P).next z m s y.inside t)) (d P).same_live (d P).appends r

pub global_made : (image rows constants inner : List ℕ) (codes : ℕ) {g : registers.Running} {handle code u : ℕ} {o : Op} {n : Result Next Refusal} {a : Result After Refusal} {state state' live store : List ℕ} {name : ℕ} → o.number ≡ 8
    → name ≡ get_or (body_at image rows code).globals o.operand 0 → ((P : Program) → SetsGlobal P g o.operand name n live state state') → a ≡ after_next n u
    → Steps (program_in image rows constants inner codes) g handle code u o a state live store state' live store
global_made image rows constants inner codes {u = u} {n = n} {live = live} {store} e q d r =
    let k = d (program_in image rows constants inner codes) in
    sets_steps n live store u (λ z m s y b. k.next z m s (cells store) y.inside b (name_is image rows constants inner codes y q)) e k.same r

-- ---- One opcode
module _ {P : Program} {g : registers.Running} {handle code u : ℕ} {o : Op} {f : Family} {state live store : List ℕ} where
  -- the bytes are as they were
  pub closes_steps : {k : c.Closing} → Chosen f o.number → f ≡ Closes k → Steps P g handle code u o (Ok (Closing k)) state live store state live store
  closes_steps {k} w e = record {
    next = λ z m r y b q. (numbered o.number (Closes k) e w, record { state_is = refl; live_is = refl; store_is = refl });
    same_state = same_refl state;
    same_live = same_refl live;
    appends = appends_refl u store;
  }

module _ {P : Program} {g : registers.Running} {handle code u : ℕ} {o : Op} {state live store : List ℕ} where
  pub left_out_steps : {d : Result Opcode Unknown} {n : Unknown} → d ≡ opcode_of o.number → d ≡ Err n → Steps P g handle code u o (Err ImageNumber) state live store state live store
  unfolding outcome
  left_out_steps {n = n} i e = record {
    next = λ z m r y b q.
        (ap (λ (t : Taken). outcome P z t m) (next_is y ∙ left_out o.number (opcode_unnamed o.number n (sym i ∙ e)) P m r o.operand), record { state_is = refl; live_is = refl; store_is = refl });
    same_state = same_refl state;
    same_live = same_refl live;
    appends = appends_refl u store;
  }

module _ {P : Program} {g : registers.Running} {handle code u : ℕ} {o : Op} {n : Result Next Refusal} {a : Result After Refusal} {state live store live' : List ℕ} where
  pub stays_next : StaysOn P g handle code o n state live store live' → a ≡ after_next n u → Steps P g handle code u o a state live store state live' store
  stays_next s r = stays_steps state u s r

  pub does_next : Does P o.number o.operand g n live live' → a ≡ after_next n u → Steps P g handle code u o a state live store state live' store
  does_next d r = stays_steps state u (does_stays handle code state store d) r
