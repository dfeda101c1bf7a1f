-- What the entry of a call comes to, by what it finds.
use Rattle.std.specs.Prelude.{List, Bool, true, ℕ, get_or, eqb, Option, Some, None, Result, Ok, Err}
use Rattle.cells.specs.Cells.{null, cells}
use Rattle.cells.specs.declared.Cell.{Cell}
use Rattle.image.specs.Records.{if?, Answer, refused, accepted}
use Rattle.machine.specs.Values.{Program, constant_of}
use Rattle.memory.specs.Tests.{value_fits}
use Rattle.form.specs.Entry.{Entered, store_of}
use Rattle.refusals.specs.Refusals.{number}
use Rattle.refusals.specs.declared.Refusal.{Refusal}
use Rattle.asks.specs.Asks.{got_of}
use Rattle.asks.specs.declared.Got.{Got}
use Rattle.asks.specs.declared.Place.{Place}

-- what a result says: a refusal by its number
abbrev pub says : {A : Type 0} → Result A Refusal → Answer A
says (Ok a) = accepted a
says (Err x) = refused (number x)

-- a value that was found, or null and the refusal's number
abbrev pub got_said : Answer Cell → Got
got_said (refused n) = got_of n null
got_said (accepted v) = got_of 0 v

-- the cells of the store that are used
abbrev pub used_in : List ℕ → ℕ
used_in state = (get_or (cells state) 0 null).payload

-- a value that exists
abbrev pub exists : Entered → List ℕ → List ℕ → Cell → Bool
exists e state store v = value_fits e.program (store_of store) (used_in state) v

abbrev pub entry_of : Answer Entered → Answer (Unit {0})
entry_of (refused n) = refused n
entry_of (accepted e) = accepted tt

-- a Str or Bytes of the image names a constant
abbrev pub names_constant : Cell → Bool
names_constant v = if? (eqb v.tag 4) true (eqb v.tag 5)

-- where the constant stands that a value names; another value names none
abbrev pub place_of : Program → Cell → Option Place
place_of P v = if? (names_constant v) (Some (record { start = (constant_of P v).place; size = (constant_of P v).size })) None

-- refusal 5 where the value does not exist
unfoldable pub named_in : Program → List ℕ → List ℕ → Cell → Answer (Option Place)
named_in P state store v = if? (value_fits P (store_of store) (used_in state) v) (accepted (place_of P v)) (refused 5)

abbrev pub named_by : List ℕ → List ℕ → Cell → Answer Entered → Answer (Option Place)
named_by state store v (refused n) = refused n
named_by state store v (accepted e) = named_in e.program state store v
