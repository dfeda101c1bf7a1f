-- What a step or a request takes from a machine in form is in form: the values that it leaves exist, and its counts are within their limits.
use Prim.Native.Nat.{ℕ}
use Rattle.machine.specs.Opcodes.{Action, Taken, takes, refuses}

-- Q holds of the action, if one is taken.
pub data Taking (Q : Action → Type 0) : Taken → Type 0 where
  took : (d : Action) → Q d → Taking Q (takes d)
  none : (n : ℕ) → Taking Q (refuses n)
