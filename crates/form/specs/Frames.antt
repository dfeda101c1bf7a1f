-- Frames behind one another: how far they reach, and the top one.
use Rattle.std.specs.Prelude.{◌≡◌, List, true, length, get_or, drop}
use Rattle.std.proofs.Math.Path.{refl}
use Rattle.std.proofs.Common.{length-drop, eq-eqb, ne_eqb, leb-true}
use Prim.Native.Nat.{ℕ, zero, suc, ◌+◌, ◌-◌, ◌≤◌}
use native.Mathlib.Omega.{arith}
use Rattle.cells.specs.Cells.{null}
use Rattle.cells.specs.declared.Cell.{Cell}
use Rattle.image.proofs.Parts.{first, second}
use Rattle.machine.specs.Values.{Program}
use Rattle.memory.specs.View.{frame_size, frames_size}
use Rattle.memory.specs.Tests.{frame_fits, frames_fit, top_kind}

-- frames in form end inside
pub frames_inside : (P : Program) (S : List Cell) (b n : ℕ) (x : List Cell) → frames_fit P S b n x ≡ true → frames_size n x ≤ length x
unfolding frames_fit frames_size frame_fits
frames_inside P S b zero x h = omega arith
frames_inside P S b (suc n) x h =
    let one : frame_size x ≤ length x = leb-true _ _ (first _ _ (second _ _ (first _ _ h))) in
    let rest : frames_size n (drop (frame_size x) x) ≤ length x - frame_size x = rw length-drop at (frames_inside P S b n (drop (frame_size x) x) (second _ _ h)) in
    omega arith

frames_more : (n : ℕ) (x : List Cell) → frames_size n x + 6 ≤ frames_size (suc n) x
unfolding frames_size
frames_more zero x = omega arith
frames_more (suc n) x = omega (arith, frames_more n (drop (frame_size x) x))

-- ---- the top frame
pub top_above : (n : ℕ) (x : List Cell) → (n ≡ 0 → ⊥) → frames_size (n - 1) x + 6 ≤ frames_size n x
top_above zero x h = absurd (h refl)
top_above (suc n) x h = let e : suc n - 1 ≡ n = omega arith in rw e (frames_more n x)

module _ (n result : ℕ) (x : List Cell) where
  pub top_none : n ≡ 0 → 0 ≡ top_kind n result x
  unfolding top_kind
  top_none e = rw e

  pub top_result : (result ≡ 0 → ⊥) → 0 ≡ top_kind n result x
  unfolding top_kind
  top_result h = by n
    where
      by : (k : ℕ) → 0 ≡ top_kind k result x
      by zero = refl
      by (suc k) = rw (ne_eqb result 0 h)

  pub top_is : {at kind : ℕ} → (n ≡ 0 → ⊥) → result ≡ 0 → at ≡ frames_size (n - 1) x → kind ≡ (get_or x at null).tag → kind ≡ top_kind n result x
  unfolding top_kind
  top_is {at} {kind} h z a t = by n h (rw a at t)
    where
      by : (k : ℕ) → (k ≡ 0 → ⊥) → kind ≡ (get_or x (frames_size (k - 1) x) null).tag → kind ≡ top_kind k result x
      by zero f w = absurd (f refl)
      by (suc k) f w = let e : suc k - 1 ≡ k = omega arith in rw (eq-eqb result 0 z) (rw e at w)
