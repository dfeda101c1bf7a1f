-- The tests of a call that the host asks for, one law for each return.
use Rattle.std.specs.Prelude.{◌≡◌, List, [], Bool, true, false, not, ℕ, ◌+◌, ◌<◌, ◌≤◌, drop}
use Rattle.std.proofs.Math.Path.{refl, sym, ap}
use Rattle.std.proofs.Common.{◌∙◌, arith}
use Rattle.std.proofs.Math.ListN.{length, take}
use Rattle.std.proofs.Math.Seq.{take_all}
use borrow.Author.Tests.{not-true, not-false, le-leb, lt-leb}
use Rattle.cells.specs.Cells.{room, cells}
use Rattle.cells.specs.CellsLaws.{length_cells}
use Rattle.cells.specs.declared.Cell.{Cell}
use Rattle.image.specs.Records.{both}
use Rattle.image.proofs.Parts.{both_true, both_false}
use Rattle.image.specs.Program.{all}
use Rattle.machine.specs.Values.{Program}
use Rattle.machine.specs.Machine.{Object, used, function_of}
use Rattle.machine.specs.Calls.{is_value, are_values, is_function}
use Rattle.machine.specs.Form.{StoreFits}
use Rattle.memory.specs.Reads.{Reads}
use Rattle.memory.specs.Tests.{value_fits}
use Rattle.memory.proofs.FrameLaws.{value_is_lem, values_are}
use Rattle.memory.proofs.StoreLaws.{reads}
use Rattle.moves.specs.Objects.{Stored}
use Rattle.requests.specs.Asked.{CalledFits}

module _ (P : Program) (S : List Cell) (u : ℕ) where
  pub reads_at : (s : List Object) → Stored s S → StoreFits P [] s → u ≡ used s → Reads s S u
  reads_at s h w e = rw e (reads P [] s S h.free w h.is)

  module _ (f : Cell) {v : Bool} (e : v ≡ value_fits P S u f) where
    value_at : (s : List Object) → Stored s S → StoreFits P [] s → u ≡ used s → v ≡ is_value P s f
    value_at s h w q = e ∙ value_is_lem P s S u (reads_at s h w q) f

    pub no_value : {handlers : ℕ} {args : List Cell} → not v ≡ true → CalledFits P u f args handlers false S
    unfolding both
    no_value n = record { is = λ s h w q. rw (sym (value_at s h w q) ∙ not-true v n) refl }

    module _ {g : Bool} (t : not v ≡ false) (k : (P : Program) (s : List Object) → is_value P s f ≡ true → g ≡ is_function (function_of s f)) where
      function_at : (s : List Object) → Stored s S → StoreFits P [] s → u ≡ used s → (is_value P s f ≡ true) × (is_function (function_of s f) ≡ g)
      function_at s h w q = let a : is_value P s f ≡ true = sym (value_at s h w q) ∙ not-false v t in (a, sym (k P s a))

      pub no_function_lem : {handlers : ℕ} {args : List Cell} → not g ≡ true → CalledFits P u f args handlers false S
      unfolding both
      no_function_lem n = record { is = λ s h w q. let a = function_at s h w q in rw (a.0, a.1 ∙ not-true g n) refl }

      pub called_fits_lem : {handlers n : ℕ} (args : List ℕ) {r : Bool} → not g ≡ false → n ≡ room args → n + handlers ≤ 4096 → r ≡ all (value_fits P S u) (take n (drop 0 (cells args)))
          → CalledFits P u f (cells args) handlers r S
      unfolding both
      called_fits_lem {handlers} {n} args {r} y m l b = record {
        is = λ s h w q.
            let a = function_at s h w q in
            let c : n ≡ length (cells args) = m ∙ sym (length_cells args) in
            let x : take n (cells args) ≡ cells args = take_all n (cells args) (omega arith) in
            let z : r ≡ are_values P s (cells args) = b ∙ ap (all (value_fits P S u)) x ∙ values_are P s S u (reads_at s h w q) (cells args) in
            rw (a.0, a.1 ∙ not-false g y, le-leb (length (cells args) + handlers) 4096 (omega arith), both_true) z;
      }

  pub too_many : {f : Cell} {handlers n : ℕ} (args : List ℕ) → n ≡ room args → 4096 < n + handlers → CalledFits P u f (cells args) handlers false S
  too_many {f} {handlers} {n} args m l = record {
    is = λ s h w q.
        let c : n ≡ length (cells args) = m ∙ sym (length_cells args) in
        rw (lt-leb (length (cells args) + handlers) 4096 (omega arith), both_false, both_false) refl;
  }
