-- What the host answers, as the code has it and as the machine's definition does.
use Rattle.std.specs.Prelude.{◌≡◌, List, [], Bool, true, ℕ, ◌≤◌, length, Result, Ok, Err}
use Rattle.cells.specs.Cells.{cells}
use Rattle.cells.specs.declared.Cell.{Cell}
use Rattle.image.specs.Records.{Answer, refused, accepted}
use Rattle.machine.specs.Values.{Program}
use Rattle.machine.specs.Machine.{Object, M, used}
use Rattle.machine.specs.Calls as machine
use Rattle.machine.specs.Form.{StoreFits}
use Rattle.moves.specs.Objects.{Stored}
use Rattle.plan.specs.Rest.{Held}
use Rattle.plan.specs.Plans.{Carries}
use Rattle.plan.specs.declared.Counts.{Counts}
use Rattle.plan.specs.declared.Plan.{Plan}
use Rattle.requests.specs.Returned.{return_fits, done_with}
use Rattle.replies.specs.declared.CallbackReturn.{CallbackReturn}
use Rattle.replies.specs.declared.CallbackReturn.TheVariants.{Call, Perform, TailCall, TailPerform, ReturnValue, Error, Panic}
use Rattle.refusals.specs.Refusals.{number}
use Rattle.refusals.specs.declared.Refusal.{Refusal}

-- each case of the code's enum, with the arguments and handlers that came with it
abbrev pub return_with : CallbackReturn → List Cell → List Cell → machine.CallbackReturn
return_with (Call f) args handlers = machine.call_with f args handlers
return_with (Perform e) args handlers = machine.perform e args
return_with (TailCall f) args handlers = machine.tail_call f args
return_with (TailPerform e) args handlers = machine.tail_perform e args
return_with (ReturnValue v) args handlers = machine.return_it v
return_with (Error v) args handlers = machine.error_with v
return_with (Panic v) args handlers = machine.panic_with v

abbrev pub asks_for : Result CallbackReturn Refusal → List ℕ → List ℕ → Answer machine.CallbackReturn
asks_for (Err r) args handlers = refused (number r)
asks_for (Ok r) args handlers = accepted (return_with r (cells args) (cells handlers))

-- b says whether refusal 5 lets it pass, for every store that is held
pub record ReturnFits (P : Program) (u : ℕ) (r : CallbackReturn) (args handlers : List Cell) (b : Bool) (S : List Cell) : Type 0 where
  pub is : (s : List Object) → Stored s S → StoreFits P [] s → u ≡ used s → b ≡ return_fits P s (return_with r args handlers)

-- some machine is held, with the frames left, that the answer is for
pub record Plannable (P : Program) (frames : ℕ) (r : CallbackReturn) (args L S : List Cell) (starts : List ℕ) : Type 0 where
  pub machine : M
  pub counts : Counts
  pub count : counts.frames ≡ frames
  pub held : Held P machine counts L S starts
  pub handlers : List Cell
  pub fits : return_fits P (machine).store (return_with r args handlers) ≡ true
  pub table : frames ≤ length starts

-- for every machine that is held the plan does what the machine's definition does
pub record PlansReturn (P : Program) (frames : ℕ) (r : CallbackReturn) (args L S : List Cell) (starts : List ℕ) (plan : Plan) : Type 0 where
  pub carries : (m : M) (c : Counts) (handlers : List Cell) → c.frames ≡ frames → Held P m c L S starts → return_fits P m.store (return_with r args handlers) ≡ true
      → Carries P plan args m (done_with P (return_with r args handlers) m)
