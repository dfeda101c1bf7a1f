-- A value that a call brings: whether it exists, and where the constant stands that it names.
use Rattle.std.specs.Prelude.{◌≡◌, refl, List, [], Bool, true, false, not, ℕ, ◌+◌, ◌<◌, ◌≤◌, ◌*◌, length, get_or, take, eqb, Option, Some, None, Result, Ok, Err}
use Rattle.std.proofs.Math.Path.{sym, ap}
use Rattle.std.proofs.Common.{◌∙◌, arith}
use borrow.Author.Tests.{eqb-true, not-true, not-false}
use Rattle.cells.specs.Cells.{cells, room}
use Rattle.cells.specs.CellsLaws.{length_cells}
use Rattle.cells.specs.declared.Cell.{Cell}
use Rattle.cells.specs.Parts.{cells_lent}
use Rattle.image.specs.Records.{if?, Answer, refused, accepted}
use Rattle.image.specs.Program.{Code}
use Rattle.image.specs.Fine.{no_constant}
use Rattle.image.specs.Layout.{field, code_at}
use Rattle.image.specs.declared.Constant.{Constant}
use Rattle.layout.specs.declared.Sizes as tables
use Rattle.refusals.specs.Refusals.{number}
use Rattle.refusals.specs.declared.Refusal.{Refusal}
use Rattle.machine.specs.Values.{Program, constant_of}
use Rattle.machine.specs.Calls.{is_constant}
use Rattle.memory.specs.Tests.{value_fits}
use Rattle.scan.specs.Tables.{program_in}
use Rattle.scan.specs.Values.{code_in, constant_code, constant_fits}
use Rattle.form.specs.Entry.{Entered, entry, store_of, view_of, Enters}
use Rattle.asks.specs.Entries.{used_in, names_constant, place_of, named_in, named_by}
use Rattle.asks.specs.Ready.{Ready, ready, used_is}
use Rattle.asks.specs.declared.Place.{Place}

-- the store as far as it is used
lent_room : (store : List ℕ) {l : List ℕ} → l ≡ take (16 * 65536) store → room l ≡ length (store_of store)
lent_room store e = sym (length_cells _) ∙ ap length (ap cells e ∙ cells_lent store 65536)

pub used_lent : (state store : List ℕ) {l : List ℕ} {b : ℕ} → l ≡ take (16 * 65536) store → b ≡ used_in state → used_in state ≤ length (store_of store) → b ≤ room l
used_lent state store el eb h = rw (eb, lent_room store el) h

module _ (image rows constants inner : List ℕ) (codes : ℕ) (state store : List ℕ) (v : Cell) where
  abbrev P : Program
  P = program_in image rows constants inner codes

  -- what the test of the value says
  module _ {l : List ℕ} {b : ℕ} {t : Bool} (el : l ≡ take (16 * 65536) store) (eb : b ≡ used_in state) (w : t ≡ value_fits P (cells l) b v) where
    tests : t ≡ value_fits P (store_of store) (used_in state) v
    tests = w ∙ ap (λ (x : List Cell). value_fits P x b v) (ap cells el ∙ cells_lent store 65536) ∙ ap (λ (n : ℕ). value_fits P (store_of store) n v) eb

    pub named_unknown : not t ≡ true → refused 5 ≡ named_in P state store v
    unfolding named_in
    named_unknown f = sym (ap (λ (c : Bool). if? c (accepted (place_of P v)) (refused 5)) (sym tests ∙ not-true t f))

    module _ (f : not t ≡ false) where
      exists : value_fits P (store_of store) (used_in state) v ≡ true
      exists = sym tests ∙ not-false t f

      at_place : named_in P state store v ≡ accepted (place_of P v)
      unfolding named_in
      at_place = ap (λ (c : Bool). if? c (accepted (place_of P v)) (refused 5)) exists

      abbrev spot_if : Bool → Option Place
      spot_if t = if? t (Some (record { start = (constant_of P v).place; size = (constant_of P v).size })) None

      pub named_none : {n : Bool} → n ≡ names_constant v → not n ≡ true → accepted None ≡ named_in P state store v
      named_none e h = sym (at_place ∙ ap (λ (t : Bool). accepted (spot_if t)) (sym e ∙ not-true _ h))

      str : v.tag ≡ 4 → is_constant P 20 v ≡ true
      unfolding value_fits
      str e = simp e at exists

      bytes : v.tag ≡ 5 → is_constant P 21 v ≡ true
      unfolding value_fits
      bytes e = simp e at exists

      -- then it names a constant that is there
      module _ {n : Bool} (e : n ≡ names_constant v) (g : not n ≡ false) where
        named : names_constant v ≡ true
        named = sym e ∙ not-false n g

        names : is_constant P (16 + v.tag) v ≡ true
        names = by (eqb v.tag 4) refl named
          where
            by : (b : Bool) → eqb v.tag 4 ≡ b → if? b true (eqb v.tag 5) ≡ true → is_constant P (16 + v.tag) v ≡ true
            by true q h =
                let e : v.tag ≡ 4 = eqb-true v.tag 4 q in
                let f : 16 + v.tag ≡ 20 = omega arith in
                ap (λ (n : ℕ). is_constant P n v) f ∙ str e
            by false q h =
                let e : v.tag ≡ 5 = eqb-true v.tag 5 h in
                let f : 16 + v.tag ≡ 21 = omega arith in
                ap (λ (n : ℕ). is_constant P n v) f ∙ bytes e

        pub named_there : v.payload < field rows v.number 7
        named_there = constant_fits image rows constants inner codes (16 + v.tag) v (sym names) refl

        pub named_constant : {c : Constant} → c ≡ get_or (code_at image rows constants [] v.number).constants v.payload no_constant → accepted (Some (record { start = c.place; size = c.size })) ≡ named_in P state store v
        named_constant ec =
            let q = ec ∙ sym (ap (λ (x : Code). get_or x.constants v.payload no_constant) (code_in image rows constants inner codes v.number (constant_code image rows constants inner codes (16 + v.tag) v (sym names) refl))) in
            ap (λ (x : Constant). accepted (Some (record { start = x.place; size = x.size }))) q
            ∙ sym (at_place ∙ ap (λ (t : Bool). accepted (spot_if t)) named)

-- ---- The entry of a call with a value
module _ {image state live store : List ℕ} {o : Result tables.Sizes Refusal} {rows constants inner : List ℕ} (w : Enters image state live store o rows constants inner) where
  pub with_not : (v : Cell) {x : Refusal} → o ≡ Err x → refused (number x) ≡ named_by state store v (entry image state live store)
  with_not v e = ap (named_by state store v) (rw e at w.does)

  module _ {h : tables.Sizes} (e : o ≡ Ok h) where
    abbrev Q : Program
    Q = program_in image (take (10 * h.codes) rows) (take h.constants constants) (take h.inner inner) h.codes

    pub with_named : (v : Cell) {r : Answer (Option Place)} → r ≡ named_in Q state store v → r ≡ named_by state store v (entry image state live store)
    with_named v q = q ∙ ap (named_by state store v) (rw e at w.does)

    abbrev entered : Entered
    entered = record { program = Q; world = view_of state live store }

    with_ready : Ready entered state live store
    with_ready = ready image state live store entered (sym (rw e at w.does))

    pub with_size : length state ≡ 8256
    with_size = with_ready.size

    pub with_used : used_in state ≤ length (store_of store)
    with_used = omega (arith, used_is with_ready, with_ready.fits.used)
