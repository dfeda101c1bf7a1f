-- What every call but a load begins with, as the code does it: a law for each of its answers.
use Rattle.std.specs.Prelude.{◌≡◌, List, Bool, ℕ, ◌*◌, length, get_or, take, Result, Ok, Err}
use Rattle.std.proofs.Common.{sym, ◌∙◌, arith, eq-eqb, ne_eqb}
use Rattle.std.proofs.Math.Path.{ap}
use Rattle.std.proofs.Math.Bool.{true, false}
use Rattle.std.proofs.Math.Dec.{eqb}
use Rattle.cells.specs.Cells.{null, cells}
use Rattle.cells.specs.Parts.{cells_lent}
use Rattle.cells.specs.declared.Cell.{Cell}
use Rattle.image.specs.Records.{if?, Answer, refused, accepted, then}
use Rattle.image.specs.Program.{Code}
use Rattle.image.specs.Image.{parse}
use Rattle.layout.specs.Reads.{Low}
use Rattle.layout.specs.declared.Sizes.{Sizes}
use Rattle.refusals.specs.Refusals.{number}
use Rattle.refusals.proofs.NumberLaws.{number_not_zero}
use Rattle.refusals.specs.declared.Refusal.{Refusal}
use Rattle.refusals.specs.declared.Refusal.TheVariants.{BadLoan}
use Rattle.machine.specs.Values.{Program}
use Rattle.memory.specs.Tests.{in_form}
use Rattle.reader.specs.Reads.{Reads}
use Rattle.scan.specs.Tables.{program_in}
use Rattle.form.specs.Entry.{live_of, store_of, view_of, held_answer, Entered, held, entry, Enters}

-- ---- what memory holds
module _ (P : Program) (state live store : List ℕ) {tag : ℕ} (tagged : tag ≡ (get_or (cells state) 0 null).tag) where
  pub held_other : (tag ≡ 1 → ⊥) → 10 ≡ held_answer P state live store
  unfolding held_answer
  held_other h = let t : eqb (get_or (cells state) 0 null).tag 1 ≡ false = rw tagged at (ne_eqb tag 1 h) in rw t

  module _ (h : tag ≡ 1) {l m : List ℕ} (el : l ≡ take (16 * 4096) live) (em : m ≡ take (16 * 65536) store) {t : Bool} (w : t ≡ in_form P (cells m) (cells state) (cells l)) where
    tested : t ≡ in_form P (store_of store) (cells state) (live_of live)
    tested =
        w ∙ ap (λ (x : List Cell). in_form P x (cells state) (cells l)) (ap cells em ∙ cells_lent store 65536)
        ∙ ap (in_form P (store_of store) (cells state)) (ap cells el ∙ cells_lent live 4096)

    held_is : held_answer P state live store ≡ if? t 0 7
    unfolding held_answer
    held_is =
        let y : eqb (get_or (cells state) 0 null).tag 1 ≡ true = rw tagged at (eq-eqb tag 1 h) in
        ap (λ (b : Bool). if? b (if? (in_form P (store_of store) (cells state) (live_of live)) 0 7) 10) y ∙ ap (λ (b : Bool). if? b 0 7) (sym tested)

    pub held_fits : t ≡ true → 0 ≡ held_answer P state live store
    held_fits e = sym (rw e at held_is)

    pub held_not : t ≡ false → 7 ≡ held_answer P state live store
    held_not e = sym (rw e at held_is)

-- ---- the answers of a call's entry
pub enters_block : (image state live store rows constants inner : List ℕ) → (length state ≡ 8256 → ⊥) → Enters image state live store (Err BadLoan) rows constants inner
unfolding entry
enters_block image state live store rows constants inner h = record { does = rw (ne_eqb (length state) 8256 h); low = omega arith }

pub reads_low : {image : List ℕ} {r : Result Sizes Refusal} {rows constants inner : List ℕ} {h : Sizes} → Reads image r rows constants inner → r ≡ Ok h → Low h.codes h.constants h.inner
reads_low w e = rw e at w.low

module _ {image : List ℕ} (state live store : List ℕ) {r : Result Sizes Refusal} {rows constants inner : List ℕ} (w : Reads image r rows constants inner) (l : length state ≡ 8256) where
  abbrev go : List Code → Answer Entered
  go cs = held (record { image = image; codes = cs }) state live store

  entry_is : entry image state live store ≡ then go (parse image)
  unfolding entry
  entry_is = rw (eq-eqb (length state) 8256 l)

  pub enters_refused : {x : Refusal} → r ≡ Err x → Enters image state live store (Err x) rows constants inner
  enters_refused e = record { does = sym (entry_is ∙ ap (then go) (sym (rw e at w.shows))); low = omega arith }

  module _ {h : Sizes} (e : r ≡ Ok h) where
    abbrev P : Program
    P = program_in image (take (10 * h.codes) rows) (take h.constants constants) (take h.inner inner) h.codes

    held_to : {n : ℕ} → n ≡ held_answer P state live store → entry image state live store ≡ if? (eqb n 0) (accepted (record { program = P; world = view_of state live store })) (refused n)
    unfolding held
    held_to p = entry_is ∙ ap (then go) (sym (rw e at w.shows)) ∙ rw (← p)

    pub enters_not : {x : Refusal} → number x ≡ held_answer P state live store → Enters image state live store (Err x) rows constants inner
    enters_not {x} p = record { does = sym (held_to p ∙ rw (ne_eqb (number x) 0 (number_not_zero x))); low = omega arith }

    pub enters_accepted : 0 ≡ held_answer P state live store → Enters image state live store (Ok h) rows constants inner
    enters_accepted p = record { does = sym (held_to p); low = reads_low w e }

-- what is entered fits the tables
pub enters_low : {image state live store rows constants inner : List ℕ} {r : Result Sizes Refusal} {h : Sizes} → Enters image state live store r rows constants inner → r ≡ Ok h → Low h.codes h.constants h.inner
enters_low w e = rw e at w.low

-- the program of tables that are filled in front
pub filled_is : {i image : List ℕ} {p codes : List Code} → i ≡ image → p ≡ codes → ◌≡◌ {A = Program} (record { image = i; codes = p }) (record { image = image; codes = codes })
filled_is e f = λ j. record { image = e j; codes = f j }
