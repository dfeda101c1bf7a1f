-- What the answer of an entry says of memory and of the value that a call brings.
use Rattle.std.specs.Prelude.{◌≡◌, List, Bool, true, false, ℕ, length, Option, Result, Ok}
use Rattle.std.proofs.Math.Path.{refl}
use Rattle.cells.specs.declared.Cell.{Cell}
use Rattle.image.specs.Records.{if?, Answer, refused, accepted}
use Rattle.refusals.specs.declared.Refusal.{Refusal}
use Rattle.machine.specs.Values.{Program}
use Rattle.memory.specs.Tests.{value_fits}
use Rattle.form.specs.Entry.{Entered, entry, store_of}
use Rattle.asks.specs.Entries.{used_in, says, entry_of, place_of, named_in, named_by}
use Rattle.asks.specs.Ready.{ready}
use Rattle.asks.specs.declared.Place.{Place}

-- the state block has its length where memory is in form
pub formed_size : (image state live store : List ℕ) {o : Result (Unit {0}) Refusal} {u : Unit {0}} → says o ≡ entry_of (entry image state live store) → o ≡ Ok u → length state ≡ 8256
formed_size image state live store {o} {u} h e = by (entry image state live store) refl (rw e at h)
  where
    by : (x : Answer Entered) → entry image state live store ≡ x → accepted u ≡ entry_of x → length state ≡ 8256
    by (refused n) q h = cc
    by (accepted e) q h = (ready image state live store e q).size

-- ---- A call that brings a value: what its entry says of the value
module _ (state store : List ℕ) (v : Cell) where
  module _ (P : Program) where
    abbrev there : Bool
    there = value_fits P (store_of store) (used_in state) v

    not_spot : (b : Bool) {n : ℕ} → refused n ≡ if? b (accepted (place_of P v)) (refused 5) → (b ≡ false) × (n ≡ 5)
    not_spot false h = (refl, cc)
    not_spot true h = cc

    spot : (b : Bool) {p : Option Place} → accepted p ≡ if? b (accepted (place_of P v)) (refused 5) → (b ≡ true) × (p ≡ place_of P v)
    spot false h = cc
    spot true h = (refl, cc)

    -- it is not there; it is, and names this
    pub none_in : {n : ℕ} → refused n ≡ named_in P state store v → (there ≡ false) × (n ≡ 5)
    unfolding named_in
    none_in h = not_spot there h

    pub known_in : {p : Option Place} → accepted p ≡ named_in P state store v → (there ≡ true) × (p ≡ place_of P v)
    unfolding named_in
    known_in h = spot there h

-- the state block has its length where a value is known
pub known_size : (image state live store : List ℕ) (v : Cell) {o : Result (Option Place) Refusal} {p : Option Place} → says o ≡ named_by state store v (entry image state live store) → o ≡ Ok p → length state ≡ 8256
known_size image state live store v {o} {p} h e = by (entry image state live store) refl (rw e at h)
  where
    by : (x : Answer Entered) → entry image state live store ≡ x → accepted p ≡ named_by state store v x → length state ≡ 8256
    by (refused m) q h = cc
    by (accepted e) q h = (ready image state live store e q).size
