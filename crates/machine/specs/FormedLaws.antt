-- Every accepted step and request keeps a machine in form, so every machine that a list of calls leads to is.
use Rattle.std.specs.Prelude.{ℕ, ◌≤◌}
use mathlib.Core.List.{List}
use Rattle.machine.specs.Values.{Program}
use Rattle.machine.specs.Machine.{Object, M}
use Rattle.machine.specs.Opcodes.{Action, Taken, takes, refuses}
use Rattle.machine.specs.Calls.{handlers_left, Outcome, does, stops}
use Rattle.machine.specs.Formed.{Formed, LeftFormed}

-- The action, if one is taken, leaves what is in form, where its frame has at most 16 handlers.
pub data FormedIf (P : Program) (s : List Object) : Taken → Type 0 where
  took : (d : Action) → (handlers_left d ≤ 16 → LeftFormed P s d) → FormedIf P s (takes d)
  not : (n : ℕ) → FormedIf P s (refuses n)

-- ---- What is accepted is in form
-- The machine that an accepted action makes is in form.
pub data OutcomeFormed (P : Program) : Outcome → Type 0 where
  made : {d : Action} {m : M} → Formed P m → OutcomeFormed P (does d m)
  stopped : {n : ℕ} → OutcomeFormed P (stops n)
