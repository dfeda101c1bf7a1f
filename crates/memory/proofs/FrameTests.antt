-- The test of a frame on cells, seen as tests of what the frame is written as; and cells that pass are those that what is read off them is written as.
use Rattle.std.specs.Prelude.{◌≡◌, Bool, true}
use Rattle.std.proofs.Math.Path.{refl, sym, ap}
use Rattle.std.proofs.Common.{◌∙◌, take-append-drop, length-take-le}
use mathlib.Core.List.{List, [], ◌∷◌, ◌++◌, reverse, reverse-reverse}
use Prim.Native.Nat.{ℕ, zero, suc, ◌+◌, ◌*◌, ◌<◌, ◌≤◌}
use native.Mathlib.Omega.{arith}
use Rattle.std.proofs.Math.ListN.{length, get_or, take, drop, length-append, length-drop}
use Rattle.std.proofs.lemmas.List.{length-reverse}
use Rattle.std.proofs.Math.Seq.{drop-drop, drop-cons}
use borrow.Author.Tests.{leb-true, le-leb, eqb-true}
use Rattle.cells.specs.Cells.{null}
use Rattle.cells.specs.declared.Cell.{Cell}
use Rattle.image.specs.Records.{both}
use Rattle.image.specs.Program.{all}
use Rattle.image.proofs.Parts.{first, second, both_in}
use Rattle.machine.specs.Values.{Program}
use Rattle.machine.specs.Machine.{Handler}
use Rattle.memory.specs.Layout.{Written, head_cells, handler_cells, written_cells}
use Rattle.memory.specs.View.{locals_of, stack_of, frame_size, handlers_at, written_at}
use Rattle.memory.specs.Tests.{is_null_cell, callback_fits, spare_fits, target_fits, value_fits, effect_fits, lucia_fits, kind_fits, limit_of, handlers_fit, head_fits, body_fits, frame_fits}
use Rattle.memory.specs.Lists.{written_cost}
use Rattle.memory.proofs.Lists.{tests_reverse, length_written, length_read, behind, locals_there, handlers_there, stack_taken}
use Rattle.memory.specs.FrameTests.{target_below}

pub is_null_lem : (c : Cell) → is_null_cell c ≡ true → c ≡ null
is_null_lem c h =
    let t = eqb-true c.tag 0 (first _ _ h) in
    let n = eqb-true c.number 0 (first _ _ (second _ _ h)) in
    let p = eqb-true c.payload 0 (second _ _ (second _ _ h)) in
    λ j. record { tag = t j; number = n j; payload = p j }

module _ (P : Program) (S : List Cell) (b : ℕ) where
  abbrev pub handler_fits : ℕ → Handler → Bool
  handler_fits limit h = both (effect_fits P S b h.effect) (target_below limit h)

  -- the tests that a frame as it is written passes
  pub record WrittenFits (w : Written) : Type 0 where
    pub kinds : kind_fits P S b (head_cells w) ≡ true
    pub few : length w.handlers ≤ 16
    pub values : all (value_fits P S b) w.locals ≡ true
    pub targets : all (handler_fits (limit_of P S b (head_cells w))) w.handlers ≡ true
    pub above : all (value_fits P S b) w.stack ≡ true

  handlers_test : (limit : ℕ) (hs : List Handler) (rest : List Cell) → handlers_fit P S b limit (length hs) (handler_cells hs ++ rest) ≡ all (handler_fits limit) hs
  unfolding handlers_fit handler_cells all
  handlers_test limit [] rest = refl
  handlers_test limit (h ∷ hs) rest = ap (both (handler_fits limit h)) (handlers_test limit hs rest)

  module _ (w : Written) (rest : List Cell) where
    kind_same : kind_fits P S b (written_cells w ++ rest) ≡ kind_fits P S b (head_cells w)
    unfolding kind_fits lucia_fits callback_fits
    kind_same = refl

    limit_same : limit_of P S b (written_cells w ++ rest) ≡ limit_of P S b (head_cells w)
    unfolding limit_of
    limit_same = refl

    spare_there : spare_fits (written_cells w ++ rest) ≡ true
    unfolding spare_fits both
    spare_there = refl

    body_test : body_fits P S b (written_cells w ++ rest) ≡ both (all (value_fits P S b) w.locals) (both (all (handler_fits (limit_of P S b (head_cells w))) w.handlers) (all (value_fits P S b) w.stack))
    unfolding body_fits
    body_test =
        let f = value_fits P S b in
        let l : all f (take (length w.locals) (drop 6 (written_cells w ++ rest))) ≡ all f w.locals = ap (all f) (locals_there w rest) in
        let h : handlers_fit P S b (limit_of P S b (written_cells w ++ rest)) (length w.handlers) (drop (6 + length w.locals) (written_cells w ++ rest)) ≡ all (handler_fits (limit_of P S b (head_cells w))) w.handlers =
        rw (limit_same, handlers_there w rest) (handlers_test (limit_of P S b (head_cells w)) w.handlers _) in
        let v = ap (all f) (stack_taken w rest) ∙ tests_reverse f w.stack in
        λ j. both (l j) (both (h j) (v j))

    pub test_in : frame_fits P S b (written_cells w ++ rest) ≡ true → WrittenFits w
    unfolding frame_fits head_fits
    test_in t =
        let h = second _ _ (second _ _ (first _ _ t)) in
        let v = sym body_test ∙ second _ _ (second _ _ t) in
        record {
          kinds = sym kind_same ∙ first _ _ h;
          few = leb-true _ _ (second _ _ h);
          values = first _ _ v;
          targets = first _ _ (second _ _ v);
          above = second _ _ (second _ _ v);
        }

    pub test_out : WrittenFits w → frame_fits P S b (written_cells w ++ rest) ≡ true
    unfolding frame_fits head_fits
    test_out o =
        let n : written_cost w ≤ length (written_cells w ++ rest) = omega (arith, length_written w, length-append (written_cells w) rest) in
        both_in (both_in (le-leb 6 (length (written_cells w ++ rest)) (omega arith)) (both_in spare_there (both_in (kind_same ∙ o.kinds) (le-leb _ _ o.few))))
        (both_in (le-leb _ _ n) (body_test ∙ both_in o.values (both_in o.targets o.above)))

  -- ---- Cells that pass are those that what is read off them is written as
  handlers_cells : (limit n : ℕ) (y : List Cell) → handlers_fit P S b limit n y ≡ true → 2 * n ≤ length y → y ≡ handler_cells (handlers_at n y) ++ drop (2 * n) y
  unfolding handlers_fit handlers_at handler_cells target_fits
  handlers_cells limit zero y t h = refl
  handlers_cells limit (suc n) y t h =
      let c = get_or y 1 null in
      let e : 67 ≡ c.tag = sym (eqb-true c.tag 67 (first _ _ (second _ _ (first _ _ t)))) in
      let d : 2 + 2 * n ≡ 2 * suc n = omega arith in
      let ih = handlers_cells limit n (drop 2 y) (second _ _ t) (rw length-drop (omega arith)) in
      let r : drop 2 y ≡ handler_cells (handlers_at n (drop 2 y)) ++ drop (2 * suc n) y = rw (← d, ← drop-drop (2 * n) 2 y) ih in
      let f : y ≡ get_or y 0 null ∷ c ∷ drop 2 y = rw (← drop-cons y 1 null (omega arith), ← drop-cons y 0 null (omega arith)) in
      f ∙ (λ j. get_or y 0 null ∷ record { tag = sym e j; number = c.number; payload = c.payload } ∷ r j)

  module _ (x : List Cell) (t : frame_fits P S b x ≡ true) where
    six : 6 ≤ length x
    unfolding frame_fits head_fits
    six = leb-true 6 (length x) (first _ _ (first _ _ t))

    whole : frame_size x ≤ length x
    unfolding frame_fits
    whole = leb-true (frame_size x) (length x) (first _ _ (second _ _ t))

    spares : spare_fits x ≡ true
    unfolding frame_fits head_fits
    spares = first _ _ (second _ _ (first _ _ t))

    parts : drop 6 x ≡ (written_at x).locals ++ (handler_cells (written_at x).handlers ++ reverse (written_at x).stack) ++ drop (frame_size x) x
    unfolding frame_fits body_fits
    parts =
        let n = locals_of x in
        let m = (get_or x 0 null).payload in
        let y = drop (6 + n) x in
        let z = drop (6 + n + 2 * m) x in
        let top = take (stack_of x) z in
        let hs = handler_cells (handlers_at m y) in
        let h = first _ _ (second _ _ (second _ _ (second _ _ t))) in
        let e₁ : drop 6 x ≡ take n (drop 6 x) ++ y = sym (take-append-drop n (drop 6 x)) ∙ ap (λ (l : List Cell). take n (drop 6 x) ++ l) (drop-drop n 6 x) in
        let e₂ : y ≡ hs ++ z = handlers_cells _ m y h (rw length-drop (omega (arith, whole))) ∙ ap (λ (l : List Cell). hs ++ l) (drop-drop (2 * m) (6 + n) x) in
        let e₃ : z ≡ reverse (reverse top) ++ drop (frame_size x) x = sym (take-append-drop (stack_of x) z) ∙ (λ j. sym (reverse-reverse top) j ++ drop-drop (stack_of x) (6 + n + 2 * m) x j) in
        e₁ ∙ ap (λ (l : List Cell). take n (drop 6 x) ++ l) (e₂ ∙ ap (λ (l : List Cell). hs ++ l) e₃) ∙ sym (behind (written_at x) (drop (frame_size x) x))

    locals_read : length (written_at x).locals ≡ locals_of x
    locals_read = length-take-le (locals_of x) (drop 6 x) (rw length-drop (omega (arith, whole)))

    stack_read : length (written_at x).stack ≡ stack_of x
    stack_read =
        let z = drop (6 + locals_of x + 2 * (get_or x 0 null).payload) x in
        length-reverse (take (stack_of x) z) ∙ length-take-le (stack_of x) z (rw length-drop (omega (arith, whole)))

    head : x ≡ head_cells (written_at x) ++ drop 6 x
    unfolding spare_fits
    head =
        let c : (i : ℕ) → i < 6 → drop i x ≡ get_or x i null ∷ drop (suc i) x = λ i h. drop-cons x i null (omega (arith, six)) in
        let f : x ≡ get_or x 0 null ∷ get_or x 1 null ∷ get_or x 2 null ∷ get_or x 3 null ∷ get_or x 4 null ∷ get_or x 5 null ∷ drop 6 x =
        rw (← c 5 (omega arith), ← c 4 (omega arith), ← c 3 (omega arith), ← c 2 (omega arith), ← c 1 (omega arith), ← c 0 (omega arith)) in
        let p = eqb-true (get_or x 2 null).tag 68 (first _ _ spares) in
        let s = second _ _ spares in
        let a = is_null_lem (get_or x 3 null) (first _ _ s) in
        let d = is_null_lem (get_or x 4 null) (first _ _ (second _ _ s)) in
        let e = is_null_lem (get_or x 5 null) (second _ _ (second _ _ s)) in
        f ∙ (λ j.
        record { tag = (get_or x 0 null).tag; number = sym locals_read j; payload = sym (length_read (get_or x 0 null).payload (drop (6 + locals_of x) x)) j }
        ∷ get_or x 1 null ∷ record { tag = p j; number = (get_or x 2 null).number; payload = sym stack_read j } ∷ a j ∷ d j ∷ e j ∷ drop 6 x)

    pub cells_read : x ≡ written_cells (written_at x) ++ drop (frame_size x) x
    cells_read = head ∙ ap (λ (l : List Cell). head_cells (written_at x) ++ l) parts

    pub size_read : frame_size x ≡ written_cost (written_at x)
    size_read = omega (arith, locals_read, stack_read, length_read (get_or x 0 null).payload (drop (6 + locals_of x) x))
