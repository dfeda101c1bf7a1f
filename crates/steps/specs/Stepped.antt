-- One opcode of the frame that runs: what is chosen by its number, and what it leaves.
use Rattle.std.specs.Prelude.{◌≡◌, List, ℕ, ◌+◌, ◌<◌, ◌≤◌, get_or, Result, Ok, Err}
use Rattle.cells.specs.Cells.{room, cells}
use Rattle.cells.specs.declared.Cell.{Cell}
use Rattle.image.specs.Program.{no_op}
use Rattle.image.specs.Fine.{Accepted}
use Rattle.image.specs.declared.Op.{Op}
use Rattle.machine.specs.Values as v
use Rattle.machine.specs.Values.{Program}
use Rattle.machine.specs.Machine.{Frame, M, used}
use Rattle.machine.specs.Opcodes.{Running, Action, throws, takes, next_action}
use Rattle.machine.specs.Calls.{Sizes, Outcome, does, stops, outcome, Pace, free, counted, pace_of}
use Rattle.moves.specs.declared.Running as registers
use Rattle.plan.specs.Rest.{Same, Appends, Block}
use Rattle.plan.specs.Inside.{Inside, Threw, Nexts}
use Rattle.plan.specs.declared.Next.{Next}
use Rattle.plan.specs.declared.Next.TheVariants as next
use Rattle.makes.specs.declared.Made.{Made}
use Rattle.refusals.specs.declared.Refusal.{Refusal}
use Rattle.refusals.specs.Refusals.{number}
use Rattle.operators.specs.Numbers.{unary_number, binary_number}
use Rattle.steps.specs.declared.Stack.{Stack}
use Rattle.steps.specs.declared.Stack.TheVariants.{Pop, Copy, Swap, LoadLocal, LoadGlobal, LoadUpvalue, StoreLocal}
use Rattle.steps.specs.declared.Operator.{Operator}
use Rattle.steps.specs.declared.Operator.TheVariants.{Unary, Binary, TypeCheck}
use Rattle.steps.specs.declared.Jump.{Jump}
use Rattle.steps.specs.declared.Jump.TheVariants.{Plain, PopIfNull, PopIf, IfOrPop, RegisterHandler, CheckEffect, Nop}
use Rattle.steps.specs.declared.Making.{Making}
use Rattle.steps.specs.declared.Making.TheVariants.{LoadConst, StoreGlobal, BuildList}
use Rattle.steps.specs.declared.Closing as c
use Rattle.steps.specs.declared.Closing.TheVariants.{Call, Return, ReturnCall}
use Rattle.steps.specs.declared.Family.{Family}
use Rattle.steps.specs.declared.Family.TheVariants.{OnStack, Computes, Moves, Makes, Closes}
use Rattle.steps.specs.declared.After.{After}
use Rattle.steps.specs.declared.After.TheVariants.{On, Jumped, Throws, Closing}

-- ---- What is chosen, by the number of an opcode
abbrev pub StackNumber : Stack → ℕ → Type 0
StackNumber Pop op = op ≡ 0
StackNumber Copy op = op ≡ 1
StackNumber Swap op = op ≡ 2
StackNumber LoadLocal op = op ≡ 3
StackNumber LoadGlobal op = op ≡ 4
StackNumber LoadUpvalue op = op ≡ 5
StackNumber StoreLocal op = op ≡ 7

abbrev pub OperatorNumber : Operator → ℕ → Type 0
OperatorNumber (Unary k) op = op ≡ unary_number k
OperatorNumber (Binary k) op = op ≡ binary_number k
OperatorNumber TypeCheck op = op ≡ 30

abbrev pub JumpNumber : Jump → ℕ → Type 0
JumpNumber Plain op = (40 ≤ op) × (op ≤ 43)
JumpNumber PopIfNull op = op ≡ 44
JumpNumber PopIf op = (45 ≤ op) × (op ≤ 46)
JumpNumber IfOrPop op = (47 ≤ op) × (op ≤ 48)
JumpNumber RegisterHandler op = op ≡ 49
JumpNumber CheckEffect op = op ≡ 50
JumpNumber Nop op = op ≡ 51

abbrev pub MakingNumber : Making → ℕ → Type 0
MakingNumber LoadConst op = op ≡ 6
MakingNumber StoreGlobal op = op ≡ 8
MakingNumber BuildList op = op ≡ 10

abbrev pub ClosingNumber : c.Closing → ℕ → Type 0
ClosingNumber Call op = op ≡ 36
ClosingNumber Return op = op ≡ 37
ClosingNumber ReturnCall op = op ≡ 38

abbrev pub Chosen : Family → ℕ → Type 0
Chosen (OnStack k) op = StackNumber k op
Chosen (Computes k) op = OperatorNumber k op
Chosen (Moves k) op = JumpNumber k op
Chosen (Makes k) op = MakingNumber k op
Chosen (Closes k) op = ClosingNumber k op

-- ---- What is given: the machine m is about to take the opcode o of the running frame, whose registers are already past it
pub record Given (P : Program) (z : Sizes) (m : M) (r : Running) (g : registers.Running) (handle code : ℕ) (o : Op) (L S : List Cell) : Type 0 where
  pub inside : Inside P z m r g L S
  pub past : r.place ≡ inside.place + 1
  pub opcode : o ≡ get_or r.code.opcodes inside.place no_op
  pub closure : handle ≡ r.handle
  pub number : code ≡ r.number
  pub accepted : Accepted P.image P.codes
  pub small : z.live ≤ 4096

-- some machine is
pub record Ready (P : Program) (g : registers.Running) (handle code : ℕ) (o : Op) (live store : List ℕ) : Type 0 where
  pub sizes : Sizes
  pub machine : M
  pub frame : Running
  pub given : Given P sizes machine frame g handle code o (cells live) (cells store)

-- the same, with u cells of its store used
pub record ReadyWith (P : Program) (g : registers.Running) (handle code u : ℕ) (o : Op) (live store : List ℕ) : Type 0 where
  pub ready : Ready P g handle code o live store
  pub uses : u ≡ used ready.machine.store
  pub few : room store < 4294967296

-- ---- What an opcode leaves
-- it goes on in its frame, over the same frames: memory has the machine that the outcome leads to, at its next opcode
pub record SteppedOn (P : Program) (z : Sizes) (o : Outcome) (pace : Pace) (under : List Frame) (handle code : ℕ) (g : registers.Running) (u : ℕ) (B L S : List Cell) : Type 0 where
  pub action : Action
  pub after : M
  pub frame : Running
  pub is : o ≡ does action after
  pub paces : pace_of action ≡ pace
  pub inside : Inside P z after frame g L S
  pub at : inside.place ≡ frame.place
  pub below : frame.below ≡ under
  pub closure : handle ≡ frame.handle
  pub number : code ≡ frame.number
  pub uses : u ≡ used after.store
  pub block : Block after B

-- nothing is written
pub record Untouched (state live store state' live' store' : List ℕ) : Type 0 where
  pub state_is : state' ≡ state
  pub live_is : live' ≡ live
  pub store_is : store' ≡ store

abbrev pub Stepped : Program → Sizes → M → Running → ℕ → ℕ → ℕ → Op → Result After Refusal → List ℕ → List ℕ → List ℕ → List ℕ → List ℕ → List ℕ → Type 0
Stepped P z m r handle code u o (Ok (On g w)) state live store state' live' store' =
    SteppedOn P z (outcome P z (next_action P m m.frames) m) counted r.below handle code g w (cells state') (cells live') (cells store')
Stepped P z m r handle code u o (Ok (Jumped g)) state live store state' live' store' =
    SteppedOn P z (outcome P z (next_action P m m.frames) m) free r.below handle code g u (cells state') (cells live') (cells store')
Stepped P z m r handle code u o (Ok (Throws g x)) state live store state' live' store' =
    Threw (λ (y : v.Error) (F : List Frame). next_action P m m.frames ≡ takes (throws y F)) r x g (cells live) × Untouched state live store state' live' store'
Stepped P z m r handle code u o (Err n) state live store state' live' store' =
    (outcome P z (next_action P m m.frames) m ≡ stops (number n)) × Untouched state live store state' live' store'
Stepped P z m r handle code u o (Ok (Closing k)) state live store state' live' store' = ClosingNumber k o.number × Untouched state live store state' live' store'

-- how many cells of the store are used then
abbrev pub used_after : ℕ → Result After Refusal → ℕ
used_after u (Ok (On g w)) = w
used_after u (Ok (Jumped g)) = u
used_after u (Ok (Throws g x)) = u
used_after u (Err n) = u
used_after u (Ok (Closing k)) = u

pub record Steps (P : Program) (g : registers.Running) (handle code u : ℕ) (o : Op) (n : Result After Refusal) (state live store state' live' store' : List ℕ) : Type 0 where
  pub next : (z : Sizes) (m : M) (r : Running) → Given P z m r g handle code o (cells live) (cells store) → Block m (cells state) → u ≡ used m.store → Stepped P z m r handle code u o n state live store state' live' store'
  pub same_state : Same state state'
  pub same_live : Same live live'
  pub appends : Appends u (used_after u n) store store'

-- the same of an opcode that changes nothing but its frame
pub record StaysOn (P : Program) (g : registers.Running) (handle code : ℕ) (o : Op) (n : Result Next Refusal) (state live store live' : List ℕ) : Type 0 where
  pub next : (z : Sizes) (m : M) (r : Running) → Given P z m r g handle code o (cells live) (cells store) → Block m (cells state) → Nexts P z o.number o.operand m r n live live'
  pub same : Same live live'

abbrev pub after_next : Result Next Refusal → ℕ → Result After Refusal
after_next (Ok (next.Goes g)) u = Ok (On g u)
after_next (Ok (next.Jumps g)) u = Ok (Jumped g)
after_next (Ok (next.Throws g x)) u = Ok (Throws g x)
after_next (Err n) u = Err n

abbrev pub after_made : Result Made Refusal → Result After Refusal
after_made (Ok y) = Ok (On y.g y.used)
after_made (Err n) = Err n
