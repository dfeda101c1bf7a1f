-- The returns of the functions that read, one law each.
use Rattle.std.proofs.Math.Path.{◌≡◌, ap, sym}
use Rattle.std.proofs.Common.{◌∙◌, arith}
use Rattle.std.specs.Prelude.{List, Bool, Option, ℕ, ◌+◌, ◌<◌, ◌-◌, ◌/◌, ◌≤◌, length, get_or, Result, Ok, Err}
use Rattle.std.proofs.Math.Bool.{true, false}
use Rattle.std.proofs.Math.Dec.{eqb}
use borrow.Author.Tests.{eqb-true, eq-eqb, ne_eqb, lt-ltb, le-ltb, leb-true}
use Rattle.cells.specs.Cells.{null, cells}
use Rattle.cells.specs.declared.Cell.{Cell}
use Rattle.image.specs.Records.{both, Answer, refused, accepted}
use Rattle.image.proofs.Parts.{first}
use Rattle.refusals.specs.Refusals.{number}
use Rattle.refusals.specs.declared.Refusal.{Refusal}
use Rattle.machine.specs.Calls.{Given, line_of, of_page}
use Rattle.memory.specs.Tests.{value_fits}
use Rattle.form.specs.Entry.{Entered, entry}
use Rattle.asks.specs.Entries.{says, entry_of, named_by}
use Rattle.asks.specs.Formed.{formed_size, none_in, known_in}
use Rattle.asks.specs.declared.Place.{Place}
use Rattle.readings.specs.Readings.{image_given, reading, text_given, texting, byting}

-- a cell of the globals or builtins is there
pub room_for : (image state live store : List ℕ) {o : Result (Unit {0}) Refusal} {u : Unit {0}} {first number : ℕ} → says o ≡ entry_of (entry image state live store) → o ≡ Ok u → first ≤ 260 → number < 256
    → first + number < length state / 16
room_for image state live store h e a b = omega (arith, formed_size image state live store h e)

-- ---- Reading a cell of the state block
module _ (first n : ℕ) (state : List ℕ) (x : Answer Entered) {o : Result (Unit {0}) Refusal} (w : says o ≡ entry_of x) where
  pub reading_not : {r : Refusal} → o ≡ Err r → refused (number r) ≡ reading first n state x
  unfolding reading
  reading_not {r} e = by x (rw e at w)
    where
      by : (y : Answer Entered) → refused (number r) ≡ entry_of y → refused (number r) ≡ reading first n state y
      by (refused m) h = let e : number r ≡ m = cc in ap refused e
      by (accepted e) h = cc

  module _ {u : Unit {0}} (e : o ≡ Ok u) where
    pub reading_over : 256 ≤ n → refused 5 ≡ reading first n state x
    unfolding reading
    reading_over l = by x (rw e at w)
      where
        by : (y : Answer Entered) → accepted u ≡ entry_of y → refused 5 ≡ reading first n state y
        by (refused m) h = cc
        by (accepted e) h = rw (le-ltb n 256 l)

    pub reading_in : {v : Cell} → n < 256 → v ≡ get_or (cells state) (first + n) null → accepted v ≡ reading first n state x
    unfolding reading
    reading_in {v} l q = by x (rw e at w)
      where
        by : (y : Answer Entered) → accepted u ≡ entry_of y → accepted v ≡ reading first n state y
        by (refused m) h = cc
        by (accepted e) h = rw (lt-ltb n 256 l) (ap accepted q)

-- ---- Text and bytes
module _ (state store : List ℕ) (v : Cell) (x : Answer Entered) {o : Result (Option Place) Refusal} (w : says o ≡ named_by state store v x) where
  module _ (page : List ℕ) where
    pub text_not : {r : Refusal} → o ≡ Err r → refused (number r) ≡ texting page v state store x
    unfolding texting both
    text_not {r} e = by x (rw e at w)
      where
        by : (y : Answer Entered) → refused (number r) ≡ named_by state store v y → refused (number r) ≡ texting page v state store y
        by (refused m) h = let e : number r ≡ m = cc in ap refused e
        by (accepted e) h = let k = none_in state store v e.program h in rw (k.0, k.1)

    module _ {p : Option Place} (e : o ≡ Ok p) where
      pub text_image : {b : Bool} → b ≡ eqb v.tag 4 → b ≡ true → {g : Answer Given} → g ≡ image_given p → g ≡ texting page v state store x
      unfolding texting text_given both
      text_image q t i = i ∙ by x (rw e at w)
        where
          f : eqb v.tag 4 ≡ true
          f = sym q ∙ t

          by : (y : Answer Entered) → accepted p ≡ named_by state store v y → image_given p ≡ texting page v state store y
          by (refused m) h = cc
          by (accepted e) h = let k = known_in state store v e.program h in let c = rw f at k.1 in rw (k.0, f, c)

      pub text_page : {b : Bool} → b ≡ eqb v.tag 20 → b ≡ true → {g : Given} → g ≡ of_page page (line_of (v.number - 1) 0 0 page) → accepted g ≡ texting page v state store x
      unfolding texting text_given both
      text_page r s {g} q = ap accepted q ∙ by x (rw e at w)
        where
          t : v.tag ≡ 20
          t = eqb-true v.tag 20 (sym r ∙ s)

          by : (y : Answer Entered) → accepted p ≡ named_by state store v y → accepted (of_page page (line_of (v.number - 1) 0 0 page)) ≡ texting page v state store y
          by (refused m) h = cc
          by (accepted e) h = rw ((known_in state store v e.program h).0, ne_eqb v.tag 4 (λ q. omega (arith, t)), eq-eqb v.tag 20 t)

      pub text_other : {a b : Bool} → a ≡ eqb v.tag 4 → a ≡ false → b ≡ eqb v.tag 20 → b ≡ false → refused 5 ≡ texting page v state store x
      unfolding texting text_given both
      text_other a c b d = by x (rw e at w)
        where
          by : (y : Answer Entered) → accepted p ≡ named_by state store v y → refused 5 ≡ texting page v state store y
          by (refused m) h = cc
          by (accepted e) h = rw ((known_in state store v e.program h).0, sym a ∙ c, sym b ∙ d)

  pub bytes_not : {r : Refusal} → o ≡ Err r → refused (number r) ≡ byting v state store x
  unfolding byting both
  bytes_not {r} e = by x (rw e at w)
    where
      by : (y : Answer Entered) → refused (number r) ≡ named_by state store v y → refused (number r) ≡ byting v state store y
      by (refused m) h = let e : number r ≡ m = cc in ap refused e
      by (accepted e) h = let k = none_in state store v e.program h in rw (k.0, k.1)

  module _ {p : Option Place} (e : o ≡ Ok p) where
    pub bytes_in : {b : Bool} → b ≡ eqb v.tag 5 → b ≡ true → {g : Answer Given} → g ≡ image_given p → g ≡ byting v state store x
    unfolding byting both
    bytes_in q t i = i ∙ by x (rw e at w)
      where
        f : eqb v.tag 5 ≡ true
        f = sym q ∙ t

        by : (y : Answer Entered) → accepted p ≡ named_by state store v y → image_given p ≡ byting v state store y
        by (refused m) h = cc
        by (accepted e) h =
            let k = known_in state store v e.program h in
            let t : v.tag ≡ 5 = eqb-true v.tag 5 f in
            let g : eqb v.tag 4 ≡ false = ne_eqb v.tag 4 (λ q. omega arith) in
            let c = rw (g, f) at k.1 in
            rw (k.0, f, c)

    pub bytes_other : {b : Bool} → b ≡ eqb v.tag 5 → b ≡ false → refused 5 ≡ byting v state store x
    unfolding byting both
    bytes_other q t = by x (rw e at w)
      where
        by : (y : Answer Entered) → accepted p ≡ named_by state store v y → refused 5 ≡ byting v state store y
        by (refused m) h = cc
        by (accepted e) h = rw ((known_in state store v e.program h).0, sym q ∙ t)

    -- a message has a number from 1 on
    pub message_low : {b : Bool} → b ≡ eqb v.tag 20 → b ≡ true → 1 ≤ v.number
    unfolding value_fits
    message_low r s = by x (rw e at w)
      where
        t : v.tag ≡ 20
        t = eqb-true v.tag 20 (sym r ∙ s)

        by : (y : Answer Entered) → accepted p ≡ named_by state store v y → 1 ≤ v.number
        by (refused m) h = cc
        by (accepted e) h = let k = (known_in state store v e.program h).0 in leb-true 1 v.number (first _ _ (first _ _ (simp t at k)))
