-- What an accepted entry says of memory.
use Rattle.std.specs.Prelude.{◌≡◌, refl, List, [], Bool, true, false, ℕ, length, get_or, eqb}
use Rattle.std.proofs.Common.{ap, ◌∙◌, arith, eqb-true}
use Rattle.cells.specs.Cells.{null, cells}
use Rattle.cells.specs.CellsLaws.{length_cells}
use Rattle.cells.specs.declared.Cell.{Cell}
use Rattle.image.specs.Records.{if?, Answer, refused, accepted, then}
use Rattle.image.specs.Program.{Code}
use Rattle.image.specs.Image.{parse}
use Rattle.machine.specs.Values.{Program}
use Rattle.machine.specs.Machine.{M, used}
use Rattle.machine.specs.Calls.{is_value}
use Rattle.machine.specs.Form.{WorldFits}
use Rattle.memory.specs.Layout.{Holds}
use Rattle.memory.specs.Tests.{value_fits, in_form}
use Rattle.memory.proofs.FrameLaws.{value_is_lem}
use Rattle.memory.proofs.StoreLaws.{reads}
use Rattle.memory.proofs.Exact.{exact_in}
use Rattle.form.specs.Entry.{Entered, entry, held, held_answer, live_of, store_of, view_of}
use Rattle.asks.specs.Asks.{sizes_of}
use Rattle.asks.specs.Entries.{used_in, exists}

pub record Ready (e : Entered) (state live store : List ℕ) : Type 0 where
  pub size : length state ≡ 8256
  pub holds : Holds e.world (cells state) (live_of live) (store_of store)
  pub fits : WorldFits e.program (sizes_of live store) e.world

held_ready : (P : Program) (state live store : List ℕ) (e : Entered) → length state ≡ 8256 → held P state live store ≡ accepted e → Ready e state live store
unfolding held held_answer
held_ready P state live store e s h = by (eqb (get_or (cells state) 0 null).tag 1) refl (in_form P (store_of store) (cells state) (live_of live)) refl h
  where
    by : (a : Bool) → eqb (get_or (cells state) 0 null).tag 1 ≡ a → (b : Bool) → in_form P (store_of store) (cells state) (live_of live) ≡ b
        → if? (eqb (if? a (if? b 0 7) 10) 0) (accepted (record { program = P; world = view_of state live store })) (refused (if? a (if? b 0 7) 10)) ≡ accepted e → Ready e state live store
    by true p true q h =
        let x = exact_in P (cells state) (live_of live) (store_of store) (length_cells state ∙ omega arith) (eqb-true _ 1 p) q in
        let y : record { program = P; world = view_of state live store } ≡ e = cc in
        let r : Ready (record { program = P; world = view_of state live store }) state live store = record { size = s; holds = x.0; fits = x.1 } in
        rw y at r
    by true p false q h = let z : ◌≡◌ {A = ℕ} 0 1 = cc in absurd (omega arith)
    by false p b q h = let z : ◌≡◌ {A = ℕ} 0 1 = cc in absurd (omega arith)

pub ready : (image state live store : List ℕ) (e : Entered) → entry image state live store ≡ accepted e → Ready e state live store
unfolding entry
ready image state live store e h = by (eqb (length state) 8256) refl (parse image) h
  where
    by : (a : Bool) → eqb (length state) 8256 ≡ a → (x : Answer (List Code)) → if? a (then (λ (cs : List Code). held (record { image = image; codes = cs }) state live store) x) (refused 6) ≡ accepted e → Ready e state live store
    by true p (accepted cs) h = held_ready _ state live store e (eqb-true (length state) 8256 p) h
    by true p (refused n) h = let z : ◌≡◌ {A = ℕ} 0 1 = cc in absurd (omega arith)
    by false p x h = let z : ◌≡◌ {A = ℕ} 0 1 = cc in absurd (omega arith)

module _ {e : Entered} {state live store : List ℕ} (r : Ready e state live store) where
  abbrev at : M
  at = e.world.machine

  pub used_is : used_in state ≡ used at.store
  used_is = ap (λ (l : List Cell). (get_or l 0 null).payload) r.holds.state

  pub exists_is : (v : Cell) → exists e state store v ≡ is_value e.program at.store v
  exists_is v =
      ap (λ (n : ℕ). value_fits e.program (store_of store) n v) used_is
      ∙ value_is_lem e.program at.store (store_of store) (used at.store) (reads e.program [] at.store (store_of store) r.holds.free_store r.fits.store r.holds.store) v

module _ (image state live store : List ℕ) where
  abbrev X : Answer Entered
  X = entry image state live store

  -- what holds of the entry, whichever it is
  pub on_entry : (Q : Answer Entered → Type 0) → ((n : ℕ) → Q (refused n)) → ((e : Entered) → Ready e state live store → Q (accepted e)) → Q X
  on_entry Q f g = by X refl
    where
      by : (x : Answer Entered) → X ≡ x → Q x
      by (refused n) h = f n
      by (accepted e) h = g e (ready image state live store e h)
