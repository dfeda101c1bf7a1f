-- A whole frame, and frames one after the other: one law for each return of `frame_fits`, and the loop of `frames_fit`.
use Rattle.std.specs.Prelude.{◌≡◌, List, Bool, Option, Some, None, not, ℕ, suc, ◌+◌, ◌*◌, ◌-◌, ◌<◌, ◌≤◌, get_or, take, drop, leb}
use Rattle.std.proofs.Math.Path.{sym, ap}
use Rattle.std.proofs.Common.{◌∙◌}
use Rattle.std.proofs.Math.Bool.{true, false}
use native.Mathlib.Omega.{arith}
use Rattle.std.proofs.Math.ListN.{length, length-drop}
use Rattle.std.proofs.Math.Seq.{drop-drop}
use borrow.Author.Tests.{not-true, not-false, leb-true, le-leb, lt-leb}
use Rattle.cells.specs.Cells.{null, room, cells}
use Rattle.cells.specs.CellsLaws.{length_cells}
use Rattle.cells.specs.Parts.{part_end, cells_end}
use Rattle.cells.specs.declared.Cell.{Cell}
use Rattle.image.specs.Records.{both}
use Rattle.image.proofs.Parts.{first, second}
use Rattle.machine.specs.Values.{Program}
use Rattle.memory.specs.View.{frame_size, frames_size}
use Rattle.memory.specs.Tests.{spare_fits, kind_fits, limit_of, head_fits, body_fits, frame_fits, frames_fit}
use Rattle.std.specs.Bool.{then_some}
use Rattle.scan.specs.Answers.{some_fits, some_is, none_fits}
use Rattle.scan.specs.Heads.{ended}

-- ---- a frame
abbrev pub framed : Program → List Cell → ℕ → List Cell → Option ℕ
framed P S b X = then_some (frame_fits P S b X) (frame_size X)

module _ (P : Program) (S : List Cell) (b : ℕ) (s : List ℕ) {r : ℕ} (e : r ≡ room s) where
  bad : frame_fits P S b (cells s) ≡ false → None ≡ framed P S b (cells s)
  bad f = ap (λ (t : Bool). then_some t (frame_size (cells s))) (sym f)

  length_is : length (cells s) ≡ r
  length_is = length_cells s ∙ sym e

  pub frame_short : r < 6 → None ≡ framed P S b (cells s)
  unfolding frame_fits head_fits both
  frame_short h = bad (simp (length_is, lt-leb _ _ h))

  module _ (h : 6 ≤ r) {t : Bool} (f : t ≡ spare_fits (cells s)) where
    pub frame_spare : not t ≡ true → None ≡ framed P S b (cells s)
    unfolding frame_fits head_fits both
    frame_spare g = bad (simp (length_is, le-leb _ _ h, sym f, not-true t g))

    module _ (g : not t ≡ false) {d : Option ℕ} (k : d ≡ then_some (kind_fits P S b (cells s)) (limit_of P S b (cells s))) where
      pub frame_kind : d ≡ None → None ≡ framed P S b (cells s)
      unfolding frame_fits head_fits both
      frame_kind m = bad (simp (length_is, le-leb _ _ h, sym f, not-false t g, none_fits (kind_fits P S b (cells s)) _ k m))

      module _ {limit : ℕ} (m : d ≡ Some limit) {n : ℕ} (q : n ≡ (get_or (cells s) 0 null).payload) where
        kind : kind_fits P S b (cells s) ≡ true
        kind = some_fits (kind_fits P S b (cells s)) _ k m

        pub frame_handlers : 16 < n → None ≡ framed P S b (cells s)
        unfolding frame_fits head_fits both
        frame_handlers i = bad (simp (length_is, le-leb _ _ h, sym f, not-false t g, kind, sym q, lt-leb _ _ i))

        module _ (i : n ≤ 16) {z : Option ℕ} (y : z ≡ ended (cells s)) where
          head : head_fits P S b (cells s) ≡ true
          unfolding head_fits both
          head = simp (length_is, le-leb _ _ h, sym f, not-false t g, kind, sym q, le-leb _ _ i)

          pub frame_long : z ≡ None → None ≡ framed P S b (cells s)
          unfolding frame_fits both
          frame_long j = bad (simp (head, none_fits (leb (frame_size (cells s)) (length (cells s))) _ y j))

          module _ {end : ℕ} (j : z ≡ Some end) where
            long : leb (frame_size (cells s)) (length (cells s)) ≡ true
            long = some_fits (leb (frame_size (cells s)) (length (cells s))) _ y j

            ends : end ≡ frame_size (cells s)
            ends = some_is (leb (frame_size (cells s)) (length (cells s))) _ y j

            module _ {u : Bool} (v : limit ≡ limit_of P S b (cells s) → u ≡ body_fits P S b (cells s)) where
              body : u ≡ body_fits P S b (cells s)
              body = v (some_is (kind_fits P S b (cells s)) _ k m)

              pub frame_body : {r : Option ℕ} → r ≡ then_some u end → r ≡ framed P S b (cells s)
              unfolding frame_fits both
              frame_body o = simp (head, long) (o ∙ ap (λ (t : Bool). then_some t end) body ∙ ap (then_some (body_fits P S b (cells s))) ends)

pub ended_inside : (s : List ℕ) {z : Option ℕ} {end : ℕ} → z ≡ ended (cells s) → z ≡ Some end → frame_size (cells s) ≤ room s
ended_inside s {z} {end} y j =
    let e : leb (frame_size (cells s)) (length (cells s)) ≡ true = some_fits (leb (frame_size (cells s)) (length (cells s))) _ y j in
    let f : frame_size (cells s) ≤ length (cells s) = leb-true _ _ e in
    omega (arith, f, length_cells s)

-- the cells that the code lends as `s[16 * at..]`
pub lent_end : (s : List ℕ) (at : ℕ) → at ≤ room s → cells (take (length s - 16 * at) (drop (16 * at) s)) ≡ drop at (cells s)
lent_end s at h = ap cells (part_end s (16 * at)) ∙ cells_end s at h

-- ---- frames from the first cell of s on: i are passed, and end at `at`
pub record Frames (P : Program) (S : List Cell) (b : ℕ) (s : List ℕ) (n at i : ℕ) : Type 0 where
  pub less : i ≤ n
  pub inside : at ≤ room s
  pub fit : frames_fit P S b n (cells s) ≡ frames_fit P S b (n - i) (drop at (cells s))
  pub size : frames_size n (cells s) ≡ at + frames_size (n - i) (drop at (cells s))

pub frames_none : (P : Program) (S : List Cell) (b : ℕ) (s : List ℕ) (n : ℕ) → Frames P S b s n 0 0
frames_none P S b s n = let a : n - 0 ≡ n = omega arith in record { less = omega arith; inside = omega arith; fit = rw a; size = rw a (omega arith) }

module _ {P : Program} {S : List Cell} {b : ℕ} {s : List ℕ} {n at i : ℕ} (w : Frames P S b s n at i) where
  module _ (lt : i < n) {z : Option ℕ} (y : z ≡ framed P S b (drop at (cells s))) where
    step : n - i ≡ suc (n - (i + 1))
    step = omega arith

    pub frames_bad : z ≡ None → None ≡ then_some (frames_fit P S b n (cells s)) (frames_size n (cells s))
    unfolding frames_fit both
    frames_bad j =
        let f : frames_fit P S b (n - i) (drop at (cells s)) ≡ false = rw (step, none_fits (frame_fits P S b (drop at (cells s))) _ y j) in
        ap (λ (t : Bool). then_some t (frames_size n (cells s))) (sym (w.fit ∙ f))

    module _ {size : ℕ} (j : z ≡ Some size) where
      fits : frame_fits P S b (drop at (cells s)) ≡ true
      fits = some_fits (frame_fits P S b (drop at (cells s))) _ y j

      room_for : frame_size (drop at (cells s)) ≤ length (drop at (cells s))
      unfolding frame_fits
      room_for = leb-true _ _ (first _ _ (second _ _ fits))

      size_is : size ≡ frame_size (drop at (cells s))
      size_is = some_is (frame_fits P S b (drop at (cells s))) _ y j

      rest : drop (frame_size (drop at (cells s))) (drop at (cells s)) ≡ drop (at + size) (cells s)
      rest = drop-drop (frame_size (drop at (cells s))) at (cells s) ∙ ap (λ (k : ℕ). drop (at + k) (cells s)) (sym size_is)

      pub frame_inside : at + size ≤ room s
      frame_inside =
          let e = size_is in
          let l : length (drop at (cells s)) ≡ room s - at = length-drop at (cells s) ∙ ap (λ (k : ℕ). k - at) (length_cells s) in
          omega (arith, room_for, w.inside)

      pub frames_more : Frames P S b s n (at + size) (i + 1)
      unfolding frames_fit frames_size both
      frames_more =
          let e = size_is in
          record {
            less = omega arith;
            inside = frame_inside;
            fit = w.fit ∙ rw (step, fits, rest);
            size = w.size ∙ rw (step, rest) (omega arith);
          }

  pub frames_all : n ≤ i → Some at ≡ then_some (frames_fit P S b n (cells s)) (frames_size n (cells s))
  unfolding frames_fit frames_size
  frames_all ge =
      let a : n - i ≡ 0 = omega arith in
      let f : frames_fit P S b n (cells s) ≡ true = rw a at w.fit in
      let m : frames_size n (cells s) ≡ at + 0 = rw a at w.size in
      let k : at ≡ frames_size n (cells s) = omega arith in
      ap Some k ∙ ap (λ (t : Bool). then_some t (frames_size n (cells s))) (sym f)
