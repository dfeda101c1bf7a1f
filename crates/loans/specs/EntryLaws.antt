-- What an accepted entry says of memory.
use Rattle.std.specs.Prelude.{◌≡◌, Result, Ok, Err, List, Bool, true, false, ℕ, ◌*◌, ◌≤◌, length, get_or, take, eqb}
use Rattle.std.proofs.Math.Path.{refl}
use Rattle.std.proofs.Common.{sym, ap, subst, ◌∙◌, arith, length-take, eqb-true}
use Rattle.cells.specs.Cells.{null, room, cells}
use Rattle.cells.specs.CellsLaws.{length_cells}
use Rattle.cells.specs.Parts.{cells_lent}
use Rattle.fuel.specs.Loans.{read}
use Rattle.fuel.specs.declared.Fuel.{Fuel}
use Rattle.refusals.specs.declared.Refusal.{Refusal}
use Rattle.refusals.specs.Refusals.{number}
use Rattle.image.specs.Records.{if?, Answer, refused, accepted, then}
use Rattle.image.specs.Program.{Code}
use Rattle.image.specs.Fine.{Accepted}
use Rattle.image.specs.Image.{parse}
use Rattle.image.proofs.Accepted.{accepted_fine}
use Rattle.layout.specs.declared.Sizes as tables
use Rattle.refusals.specs.Refusals.{number}
use Rattle.refusals.specs.declared.Refusal.{Refusal}
use Rattle.machine.specs.Values.{Program}
use Rattle.memory.specs.Tests.{in_form}
use Rattle.memory.proofs.Exact.{exact_in}
use Rattle.scan.specs.Tables.{program_in}
use Rattle.form.specs.Entry as form
use Rattle.form.specs.Entry.{entry, held, held_answer, live_of, store_of, view_of, Enters}
use Rattle.requests.specs.Asked.{rooms_of, Holding, Entered}
use Rattle.loans.specs.Loans.{front_live, front_store, sizes_of, with_fuel, fueled}

-- ---- The cells of a front are the cells that are used
pub live_cells_lem : (live : List ℕ) → cells (front_live live) ≡ live_of live
live_cells_lem live = cells_lent live 4096

pub store_cells : (store : List ℕ) → cells (front_store store) ≡ store_of store
store_cells store = cells_lent store 65536

pub front_sizes : (live store : List ℕ) → rooms_of (front_live live) (front_store store) ≡ sizes_of live store
front_sizes live store =
    let a : room (front_live live) ≡ length (live_of live) = sym (length_cells (front_live live)) ∙ ap length (live_cells_lem live) in
    let b : room (front_store store) ≡ length (store_of store) = sym (length_cells (front_store store)) ∙ ap length (store_cells store) in
    λ j. record { live = a j; store = b j }

-- ---- What an accepted entry says of memory
pub record Ready (e : form.Entered) (state live store : List ℕ) : Type 0 where
  pub size : length state ≡ 8256
  pub holding : Holding e.program e.world state (front_live live) (front_store store)

held_ready : (P : Program) (state live store : List ℕ) (e : form.Entered) → length state ≡ 8256 → held P state live store ≡ accepted e → (e.program ≡ P) × Ready e state live store
unfolding held held_answer
held_ready P state live store e s h = by (eqb (get_or (cells state) 0 null).tag 1) refl (in_form P (store_of store) (cells state) (live_of live)) refl h
  where
    by : (a : Bool) → eqb (get_or (cells state) 0 null).tag 1 ≡ a → (b : Bool) → in_form P (store_of store) (cells state) (live_of live) ≡ b
        → if? (eqb (if? a (if? b 0 7) 10) 0) (accepted (record { program = P; world = view_of state live store })) (refused (if? a (if? b 0 7) 10)) ≡ accepted e → (e.program ≡ P) × Ready e state live store
    by true p true q h =
        let x = exact_in P (cells state) (live_of live) (store_of store) (length_cells state ∙ omega arith) (eqb-true _ 1 p) q in
        let y : record { program = P; world = view_of state live store } ≡ e = cc in
        let r : Ready (record { program = P; world = view_of state live store }) state live store =
        record { size = s; holding = record { holds = rw (live_cells_lem live, store_cells store) x.0; fits = rw (front_sizes live store) x.1 } } in
        (ap (λ (k : form.Entered). k.program) (sym y), subst (λ (k : form.Entered). Ready k state live store) y r)
    by true p false q h = let z : ◌≡◌ {A = ℕ} 0 1 = cc in absurd (omega arith)
    by false p b q h = let z : ◌≡◌ {A = ℕ} 0 1 = cc in absurd (omega arith)

ready : (image state live store : List ℕ) (e : form.Entered) → entry image state live store ≡ accepted e → Ready e state live store × Accepted e.program.image e.program.codes
unfolding entry
ready image state live store e h = by (eqb (length state) 8256) refl (parse image) refl h
  where
    by : (a : Bool) → eqb (length state) 8256 ≡ a → (x : Answer (List Code)) → parse image ≡ x → if? a (then (λ (cs : List Code). held (record { image = image; codes = cs }) state live store) x) (refused 6) ≡ accepted e
        → Ready e state live store × Accepted e.program.image e.program.codes
    by true p (accepted cs) k h =
        let r = held_ready _ state live store e (eqb-true (length state) 8256 p) h in
        (r.1, rw r.0 (accepted_fine image cs k))
    by true p (refused n) k h = let z : ◌≡◌ {A = ℕ} 0 1 = cc in absurd (omega arith)
    by false p x k h = let z : ◌≡◌ {A = ℕ} 0 1 = cc in absurd (omega arith)

-- ---- An accepted entry: the tables hold a program, and memory a world of it
front_room : (s : List ℕ) (n : ℕ) → room (take (16 * n) s) ≤ n
front_room s n = omega (arith, length_cells (take (16 * n) s), ap length (cells_lent s n), length-take n (cells s))

abbrev pub tabled : (image rows constants inner : List ℕ) (c u k : ℕ) → Program
tabled image rows constants inner c u k = program_in image (take (10 * c) rows) (take u constants) (take k inner) c

module _ (image state live store : List ℕ) {x : Result tables.Sizes Refusal} {rows constants inner : List ℕ} (y : Enters image state live store x rows constants inner) where
  pub un_entered : {r : Refusal} → x ≡ Err r → entry image state live store ≡ refused (number r)
  un_entered a = sym (rw a at y.does)

  module _ {h : tables.Sizes} (a : x ≡ Ok h) where
    abbrev P : Program
    P = tabled image rows constants inner h.codes h.constants h.inner

    abbrev found : form.Entered
    found = record { program = P; world = view_of state live store }

    pub is_entered : entry image state live store ≡ accepted found
    is_entered = sym (rw a at y.does)

    pub is_ready_lem : Ready found state live store × Accepted P.image P.codes
    is_ready_lem = ready image state live store found is_entered

    entered_is : Entered P state (front_live live) (front_store store)
    entered_is = record {
      world = view_of state live store;
      holding = is_ready_lem.0.holding;
      accepted = is_ready_lem.1;
      small = (front_room live 4096, front_room store 65536);
      block = is_ready_lem.0.size;
    }

    pub call_enters : {Q : Program} → Q ≡ P → Entered Q state (front_live live) (front_store store)
    call_enters q = rw q entered_is

-- ---- With the fuel that a call is lent
module _ (image state live store fuel : List ℕ) {o : Result Fuel Refusal} (w : o ≡ read fuel) where
  pub un_lent : {r : Refusal} → o ≡ Err r → fueled (read fuel) (entry image state live store) ≡ refused (number r)
  un_lent e = rw (sym w ∙ e) refl

  module _ {f : Fuel} (e : o ≡ Ok f) {x : Result tables.Sizes Refusal} {rows constants inner : List ℕ} (y : Enters image state live store x rows constants inner) where
    pub lent_un_entered : {r : Refusal} → x ≡ Err r → fueled (read fuel) (entry image state live store) ≡ refused (number r)
    unfolding with_fuel
    lent_un_entered a = rw (sym w ∙ e, un_entered image state live store y a) refl

    pub lent_entered : {h : tables.Sizes} → x ≡ Ok h
        → fueled (read fuel) (entry image state live store) ≡ accepted (record { fuel = f; entered = record { program = tabled image rows constants inner h.codes h.constants h.inner; world = view_of state live store } })
    unfolding with_fuel
    lent_entered a = rw (sym w ∙ e, is_entered image state live store y a) refl
