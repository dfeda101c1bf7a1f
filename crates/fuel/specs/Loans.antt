-- Fuel as 5 bytes: the number in two's complement, little-endian, then the mark.
use Rattle.std.specs.Prelude.{not, cond, Result, Ok, Err, List, ℕ, eqb, length, get_or}
use Rattle.std.specs.Int.{w32}
use Rattle.std.proofs.Common.{to_z, of_z}
use Rattle.cells.specs.Le.{le_at, put_at}
use Rattle.fuel.specs.declared.Fuel.{Fuel}
use Rattle.refusals.specs.declared.Refusal.{Refusal}
use Rattle.refusals.specs.declared.Refusal.TheVariants.{BadLoan}

-- the fuel of 5 bytes: a mark byte other than 0 counts as set
abbrev pub held : List ℕ → Fuel
held s = record { fuel = to_z w32 (le_at 4 s 0); interrupted = not (eqb (get_or s 4 0) 0) }

-- a loan of any other length is refusal 6, `BadLoan`
unfoldable pub read : List ℕ → Result Fuel Refusal
read s = cond (eqb (length s) 5) (Ok (held s)) (Err BadLoan)

-- the number is replaced, and the mark byte left; a loan of any other length is left whole
unfoldable pub write : List ℕ → Fuel → List ℕ
write s f = cond (eqb (length s) 5) (put_at 4 s 0 (of_z w32 f.fuel)) s
