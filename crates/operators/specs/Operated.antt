-- What an operator leaves: its operands are gone, and what it gives is pushed, or its error thrown.
use Rattle.std.specs.Prelude.{◌≡◌, List, ℕ, drop, Result, Ok}
use Rattle.machine.specs.Values as v
use Rattle.machine.specs.Values.{Program}
use Rattle.machine.specs.Machine.{M}
use Rattle.machine.specs.Opcodes.{Running, takes, computed, opcode_action}
use Rattle.moves.specs.declared.Running as registers
use Rattle.plan.specs.Plans.{computed_of}
use Rattle.plan.specs.Inside.{DoesWhere}
use Rattle.plan.specs.declared.Next.{Next}
use Rattle.plan.specs.declared.Error.{Error}
use Rattle.cells.specs.declared.Cell.{Cell}

pub record Operates (P : Program) (g : registers.Running) (n : ℕ) (c : Result Cell Error) (r : Next) (old new : List ℕ) : Type 0 where
  pub does : (op x : ℕ) (y : v.Computed) → c ≡ computed_of y → DoesWhere (λ (m : M) (f : Running). opcode_action P m f op x ≡ takes (computed f (drop n f.stack) y)) P op x g (Ok r) old new
