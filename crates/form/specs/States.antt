-- The live stack and the state block in form, as the code tests them.
use Rattle.std.specs.Prelude.{◌≡◌, List, Option, Some, true, ℕ, ◌-◌, ◌≤◌, length, take, drop}
use Rattle.std.proofs.Common.{sym, arith, length-drop, take_all}
use borrow.Author.Tests.{leb-true}
use Rattle.cells.specs.Cells.{room, cells}
use Rattle.cells.specs.CellsLaws.{length_cells}
use Rattle.cells.specs.declared.Cell.{Cell}
use Rattle.std.specs.Bool.{then_some}
use Rattle.image.proofs.Parts.{first, second}
use Rattle.machine.specs.Values.{Program}
use Rattle.memory.specs.View.{frames_size}
use Rattle.memory.specs.Tests.{frames_fit, store_fits, live_fits}
use Rattle.scan.specs.Answers.{some_fits, some_is}
use Rattle.form.specs.Frames.{frames_inside}

-- ---- the live stack x
module _ (P : Program) (S : List Cell) (used count : ℕ) (x : List ℕ) {r : Option ℕ} {end : ℕ} (w : r ≡ then_some (frames_fit P S used count (cells x)) (frames_size count (cells x))) (e : r ≡ Some end) where
  pub fit : frames_fit P S used count (cells x) ≡ true
  fit = some_fits (frames_fit P S used count (cells x)) _ w e

  pub ends : frames_size count (cells x) ≡ end
  ends = sym (some_is (frames_fit P S used count (cells x)) _ w e)

  pub live_end : end ≤ room x
  live_end = omega (arith, ends, length_cells x, frames_inside P S used count (cells x) fit)

  pub behind : length (drop end (cells x)) ≡ room x - end
  behind = simp (length-drop, length_cells)

pub live_frames : (P : Program) (S : List Cell) (used count args : ℕ) (x : List ℕ) → live_fits P S used count args (cells x) ≡ true → frames_size count (cells x) ≤ room x
unfolding live_fits
live_frames P S used count args x e = omega (arith, length_cells x, frames_inside P S used count (cells x) (first _ _ (second _ _ e)))

pub store_inside : (P : Program) (s : List ℕ) (used : ℕ) → store_fits P (cells s) used ≡ true → used ≤ room s
unfolding store_fits
store_inside P s used e = omega (arith, length_cells s, leb-true used (length (cells s)) (first _ _ e))

-- ---- the state block: its values are all its cells behind the first four
pub block_values : (state : List ℕ) → length state ≡ 8256 → take 512 (drop 4 (cells state)) ≡ drop 4 (cells state)
block_values state l = take_all 512 (drop 4 (cells state)) (simp (length-drop, length_cells) (omega arith))
