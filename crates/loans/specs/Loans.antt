-- Over whole loans: what is used of them is cut to its most; fuel and memory, as a call finds them.
use Rattle.std.specs.Prelude.{Result, Ok, Err, List, ℕ, length, take}
use Rattle.fuel.specs.declared.Fuel.{Fuel}
use Rattle.refusals.specs.declared.Refusal.{Refusal}
use Rattle.refusals.specs.Refusals.{number}
use Rattle.image.specs.Records.{Answer, refused, accepted}
use Rattle.machine.specs.Calls.{Sizes}
use Rattle.form.specs.Entry.{Entered, live_of, store_of}

abbrev pub front_live : List ℕ → List ℕ
front_live live = take 65536 live

abbrev pub front_store : List ℕ → List ℕ
front_store store = take 1048576 store

abbrev pub sizes_of : List ℕ → List ℕ → Sizes
sizes_of live store = record { live = length (live_of live); store = length (store_of store) }

-- the fuel of a loan, and what memory holds: "6, 1, then 2 and 4, 3, 10, 7"
pub record Fueled : Type 0 where
  pub fuel : Fuel
  pub entered : Entered

unfoldable pub with_fuel : Fuel → Answer Entered → Answer Fueled
with_fuel f (refused n) = refused n
with_fuel f (accepted e) = accepted (record { fuel = f; entered = e })

abbrev pub fueled : Result Fuel Refusal → Answer Entered → Answer Fueled
fueled (Err r) e = refused (number r)
fueled (Ok f) e = with_fuel f e
