-- A longer loan: bytes behind those of a live stack or a store change nothing that a call finds in them.
use Rattle.std.specs.Prelude.{◌≡◌, ℕ, ◌+◌, ◌*◌, ◌-◌, ◌<◌, ◌≤◌, length, drop}
use Rattle.std.proofs.Math.Path.{sym, ap}
use Rattle.std.proofs.Common.{◌∙◌, le_trans, length-append, take_all, take-take}
use mathlib.Core.List.{List, ◌++◌, append_assoc, append-nil}
use Rattle.std.proofs.Math.Decide.{dec_lt}
use native.Mathlib.Omega.{arith}
use Rattle.std.proofs.Math.ListN.{take}
use Rattle.std.proofs.Math.Seq.{take-add}
use Rattle.std.proofs.lemmas.List.{take-append-le}
use Rattle.cells.specs.Cells.{room, cells}
use Rattle.cells.specs.CellsLaws.{length_cells}
use Rattle.cells.specs.Parts.{cells_front}
use Rattle.cells.specs.declared.Cell.{Cell}
use Rattle.machine.specs.Values.{Program}
use Rattle.machine.specs.Calls.{World}
use Rattle.machine.specs.Form.{WorldFits}
use Rattle.memory.specs.Layout.{live_cells, store_cells, Holds}
use Rattle.form.specs.Entry.{live_of, store_of}
use Rattle.loans.specs.Loans.{sizes_of}

module _ (s more : List ℕ) where
  -- its first cells
  same : take (room s) (cells (s ++ more)) ≡ cells s
  same =
      sym (cells_front (s ++ more) (room s) (simp length-append (omega arith)))
      ∙ ap cells (take-append-le (16 * room s) s more (omega arith))
      ∙ cells_front s (room s) (omega arith)
      ∙ take_all (room s) (cells s) (omega (arith, length_cells s))

  -- the new cells among the first n
  new : ℕ → List Cell
  new n = take (n - room s) (drop (room s) (cells (s ++ more)))

  grown : (n : ℕ) → take n (cells (s ++ more)) ≡ take n (cells s) ++ new n
  unfolding new
  grown n = by (dec_lt (room s) n)
    where
      by : Dec (room s < n) → take n (cells (s ++ more)) ≡ take n (cells s) ++ new n
      by (yes h) =
          let e : room s + (n - room s) ≡ n = omega arith in
          sym (ap (λ (k : ℕ). take k (cells (s ++ more))) e)
          ∙ take-add (room s) (n - room s) (cells (s ++ more))
          ∙ ap (λ (l : List Cell). l ++ new n) (same ∙ sym (take_all n (cells s) (omega (arith, length_cells s))))
      by (no h) =
          let e : n - room s ≡ 0 = omega arith in
          sym (take-take n (room s) (cells (s ++ more)) (omega arith))
          ∙ ap (take n) same
          ∙ sym (append-nil (take n (cells s)))
          ∙ ap (λ (k : ℕ). take n (cells s) ++ take k (drop (room s) (cells (s ++ more)))) (sym e)

  longer : (n : ℕ) → length (take n (cells s)) ≤ length (take n (cells (s ++ more)))
  longer n = rw (grown n, length-append) (omega arith)

module _ (P : Program) (w : World) (st : List Cell) (live store live⁺ store⁺ : List ℕ) where
  pub longer_holds : Holds w st (live_of live) (store_of store) → Holds w st (live_of (live ++ live⁺)) (store_of (store ++ store⁺))
  longer_holds h =
      record {
        state = h.state;
        free_live = h.free_live ++ new live live⁺ 4096;
        live = grown live live⁺ 4096 ∙ ap (λ (l : List Cell). l ++ new live live⁺ 4096) h.live ∙ append_assoc (live_cells w) h.free_live (new live live⁺ 4096);
        free_store = h.free_store ++ new store store⁺ 65536;
        store = grown store store⁺ 65536 ∙ ap (λ (l : List Cell). l ++ new store store⁺ 65536) h.store ∙ append_assoc (store_cells w.machine.store) h.free_store (new store store⁺ 65536);
      }

  pub longer_fits : WorldFits P (sizes_of live store) w → WorldFits P (sizes_of (live ++ live⁺) (store ++ store⁺)) w
  longer_fits f =
      record {
        few = f.few;
        frames = f.frames;
        store = f.store;
        result = f.result;
        live = le_trans f.live (longer live live⁺ 4096);
        used = le_trans f.used (longer store store⁺ 65536);
        globals = f.globals;
        builtins = f.builtins;
        turn = f.turn;
      }
