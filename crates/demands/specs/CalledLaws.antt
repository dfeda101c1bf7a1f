-- What the contracts allow is what is claimed of each call, and the next call finds the world that the machine's definition leaves.
use Rattle.std.specs.Prelude.{◌≡◌, ℕ}
use mathlib.Core.List.{List}
use Rattle.std.proofs.Math.ListN.{length}
use Rattle.image.specs.Records.{Answer, refused, accepted}
use Rattle.machine.specs.Values.{Program}
use Rattle.machine.specs.Calls.{Sizes, World, world_after, Call, call_of}
use Rattle.demands.specs.Called.{Memory, sizes, entered, Exported, Answered, Allows, call_for, DoesAs}

abbrev pub Lengths : Memory → Memory → Type 0
Lengths m n = (length n.state ≡ length m.state) × (length n.live ≡ length m.live) × (length n.store ≡ length m.store)

-- ---- The calls
abbrev pub Finds : List ℕ → Program → Memory → World → Type 0
Finds image P m w = entered image m ≡ accepted (record { program = P; world = w })

-- the world after a call; one that is none of the machine's leaves it
abbrev pub world_by : Program → Sizes → Answer Call → World → World
world_by P z (accepted q) w = world_after (call_of P z q w)
world_by P z (refused k) w = w

-- where memory m holds the world w: what is claimed of a call that is q for the machine, and what the next one finds
pub record Called (image : List ℕ) (P : Program) (w : World) (c : Exported) (q : Answer Call) (m : Memory) (r : Answered c) (n : Memory) : Type 0 where
  pub does : DoesAs P (sizes m) w c q m r n
  pub next : Finds image P n (world_by P (sizes m) q w)
  pub sizes : sizes n ≡ sizes m

-- so it is of an exported call, where its contract allows it
abbrev pub Claimed : List ℕ → Program → World → Memory → (c : Exported) → Answered c → Memory → Type 0
Claimed image P w m c r n = Allows image c m r n → Called image P w c (call_for w c) m r n
