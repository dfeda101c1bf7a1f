-- The store's part of the form test: objects one after the other, of which each names earlier ones, are what the test accepts and what is read off.
use Rattle.std.specs.Prelude.{◌≡◌, Bool, get_or, leb, eqb}
use Rattle.std.proofs.Math.Path.{refl, sym, ap}
use Rattle.std.proofs.Common.{subst, ◌∙◌, length-drop, take-append-drop, length-take-le, drop-drop, drop-cons, get_or-append-add, get_or-drop, take_at}
use mathlib.Core.List.{List, [], ◌∷◌, ◌++◌, append_assoc, append-nil}
use Rattle.std.proofs.Math.Bool.{true, false}
use Prim.Native.Nat.{ℕ, zero, suc, ◌+◌, ◌-◌, ◌<◌, ◌≤◌}
use native.Mathlib.Omega.{arith}
use Rattle.std.proofs.Math.ListN.{length, take, drop, length-append, get_or-append}
use Rattle.std.proofs.Math.Seq.{drop-length, drop_at}
use Rattle.std.proofs.Math.Dec.{ltb}
use Rattle.std.proofs.Math.Arith.{lt_of_le-ne}
use borrow.Author.Tests.{ltb-true, ltb-false, leb-true, eqb-true, eqb-false, lt-ltb, le-ltb, le-leb, eq-eqb, ne_eqb}
use Rattle.cells.specs.Cells.{null}
use Rattle.cells.specs.declared.Cell.{Cell}
use Rattle.image.specs.Records.{if?, both}
use Rattle.image.specs.Program.{all}
use Rattle.image.proofs.Parts.{first, second, all_at}
use Rattle.machine.specs.Values.{Program, cell, code_of}
use Rattle.machine.specs.Machine.{Object, closure, list, continuation, cost, used, frames_cost, Lookup, here, absent, object_at}
use Rattle.machine.proofs.Store.{cost_some, used_append}
use Rattle.machine.specs.Calls.{are_values, is_closure_at, is_list_at, is_continuation_at}
use Rattle.machine.specs.Form.{ObjectFits, StoreFits}
use Rattle.memory.specs.Layout.{flat, object_cells, store_cells}
use Rattle.memory.specs.View.{frames_at, frames_size, read_object, objects_at}
use Rattle.memory.specs.Tests.{value_fits, frames_fit, object_of, closure_fits, list_fits, continuation_fits, object_fits, objects_fit, store_fits}
use Rattle.memory.specs.Reads.{Reads}
use Rattle.memory.proofs.Lists.{length_flat}
use Rattle.memory.specs.FrameLaws.{inner}
use Rattle.memory.proofs.FrameLaws.{values_inner, flat_inner, values_are, frames_in, frames_out}
use Rattle.memory.specs.StoreLaws.{Stocked}

-- ---- Lengths and appends
pub length_object : (o : Object) → length (object_cells o) ≡ cost o
unfolding object_cells cost
length_object (closure c us) = omega arith
length_object (list vs) = omega arith
length_object (continuation K) = omega (arith, length_flat K)

pub length_store : (s : List Object) → length (store_cells s) ≡ used s
unfolding store_cells used
length_store [] = refl
length_store (o ∷ os) = length-append (object_cells o) (store_cells os) ∙ omega (arith, length_object o, length_store os)

pub store_append : (s t : List Object) → store_cells (s ++ t) ≡ store_cells s ++ store_cells t
unfolding store_cells
store_append [] t = refl
store_append (o ∷ s) t = ap (λ (l : List Cell). object_cells o ++ l) (store_append s t) ∙ sym (append_assoc (object_cells o) (store_cells s) (store_cells t))

-- ---- One look at one cell
-- an object's cells behind its first are values and frames, with tags below 128
object_inner : (P : Program) (s : List Object) (o : Object) → ObjectFits P s o → (i : ℕ) → 0 < i → i < cost o → (get_or (object_cells o) i null).tag < 128
unfolding object_cells cost
object_inner P s o w zero z h = absurd (omega arith)
object_inner P s (closure c us) w (suc i) z h = ltb-true _ 128 (all_at inner us i null (values_inner P s us w.2) (omega arith))
object_inner P s (list vs) w (suc i) z h = ltb-true _ 128 (all_at inner vs i null (values_inner P s vs w.1) (omega arith))
object_inner P s (continuation K) w (suc i) z h = ltb-true _ 128 (all_at inner (flat K) i null (flat_inner P s K w.2) (omega (arith, length_flat K)))

ltb_past : (a b c : ℕ) → c ≤ a → ltb a (c + b) ≡ ltb (a - c) b
ltb_past a b c l = by (ltb (a - c) b) refl
  where
    by : (t : Bool) → ltb (a - c) b ≡ t → ltb a (c + b) ≡ t
    by true e = let q : a - c < b = ltb-true (a - c) b e in lt-ltb a (c + b) (omega arith)
    by false e = let q : b ≤ a - c = ltb-false (a - c) b e in le-ltb a (c + b) (omega arith)

-- a cell of a store that begins with an object: one of the object's, or one of the rest
look_in : (o : Object) (rest : List Cell) (h : ℕ) → h < cost o → get_or (object_cells o ++ rest) h null ≡ get_or (object_cells o) h null
look_in o rest h l = get_or-append (object_cells o) rest null h (omega (arith, length_object o))

look_past : (o : Object) (rest : List Cell) (h : ℕ) → cost o ≤ h → get_or (object_cells o ++ rest) h null ≡ get_or rest (h - cost o) null
look_past o rest h l =
    let e : h ≡ length (object_cells o) + (h - cost o) = omega (arith, length_object o) in
    ap (λ (n : ℕ). get_or (object_cells o ++ rest) n null) e ∙ get_or-append-add (object_cells o) rest (h - cost o) null

-- where k is the tag that the objects of a kind begin with, a cell of the tag k is where one of them begins
module _ (P : Program) (k : ℕ) (large : 128 ≤ k) (is : Lookup → Bool) (none : is absent ≡ false) (begins : (o : Object) → eqb (get_or (object_cells o) 0 null).tag k ≡ is (here o)) where
  one_look : (before os : List Object) (free : List Cell) (h : ℕ) → StoreFits P before os → object_of (store_cells os ++ free) (used os) k h ≡ is (object_at os h)
  unfolding object_of store_cells used object_at both
  one_look before [] free h w = ap (λ (t : Bool). both t (eqb (get_or free h null).tag k)) (le-ltb h 0 (omega arith)) ∙ sym none
  one_look before (o ∷ os) free h w = by (eqb h 0) (ltb h (cost o)) refl refl (one_look (before ++ (o ∷ [])) os free (h - cost o) w.1)
    where
      rest : List Cell
      rest = store_cells os ++ free

      cells_are : (object_cells o ++ store_cells os) ++ free ≡ object_cells o ++ (store_cells os ++ free)
      cells_are = append_assoc (object_cells o) (store_cells os) free

      by : (a b : Bool) → eqb h 0 ≡ a → ltb h (cost o) ≡ b
          → both (ltb (h - cost o) (used os)) (eqb (get_or (store_cells os ++ free) (h - cost o) null).tag k) ≡ is (object_at os (h - cost o))
          → both (ltb h (cost o + used os)) (eqb (get_or ((object_cells o ++ store_cells os) ++ free) h null).tag k) ≡ is (if? a (here o) (if? b absent (object_at os (h - cost o))))
      by true b p q ih =
          let z : h ≡ 0 = eqb-true h 0 p in
          let c : 0 < cost o = cost_some o in
          rw (z, lt-ltb 0 (cost o + used os) (omega arith), cells_are, look_in o rest 0 c) (begins o)
      by false true p q ih =
          let l : h < cost o = ltb-true h (cost o) q in
          let t : (get_or (object_cells o) h null).tag < 128 = object_inner P before o w.0 h (lt_of_le-ne (omega arith) (λ e. eqb-false h 0 p (sym e))) l in
          rw (lt-ltb h (cost o + used os) (omega arith), cells_are, look_in o rest h l, ne_eqb (get_or (object_cells o) h null).tag k (λ e. omega arith)) (sym none)
      by false false p q ih =
          let l : cost o ≤ h = ltb-false h (cost o) q in
          rw (ltb_past h (used os) (cost o) l, cells_are, look_past o rest h l) ih

begins_closure : (o : Object) → eqb (get_or (object_cells o) 0 null).tag 128 ≡ is_closure_at (here o)
unfolding object_cells is_closure_at
begins_closure (closure c us) = refl
begins_closure (list vs) = refl
begins_closure (continuation K) = refl

begins_list : (o : Object) → eqb (get_or (object_cells o) 0 null).tag 129 ≡ is_list_at (here o)
unfolding object_cells is_list_at
begins_list (closure c us) = refl
begins_list (list vs) = refl
begins_list (continuation K) = refl

begins_continuation : (o : Object) → eqb (get_or (object_cells o) 0 null).tag 130 ≡ is_continuation_at (here o)
unfolding object_cells is_continuation_at
begins_continuation (closure c us) = refl
begins_continuation (list vs) = refl
begins_continuation (continuation K) = refl

-- the object at h begins with the cell h
begins_at : (os : List Object) (free : List Cell) (h : ℕ) (o : Object) → object_at os h ≡ here o → get_or (store_cells os ++ free) h null ≡ get_or (object_cells o) 0 null
unfolding store_cells object_at
begins_at [] free h o e = let z : ◌≡◌ {A = ℕ} 0 1 = cc in absurd (omega arith)
begins_at (x ∷ os) free h o e = by (eqb h 0) (ltb h (cost x)) refl refl e (begins_at os free (h - cost x) o)
  where
    rest : List Cell
    rest = store_cells os ++ free

    by : (a b : Bool) → eqb h 0 ≡ a → ltb h (cost x) ≡ b → if? a (here x) (if? b absent (object_at os (h - cost x))) ≡ here o
        → (object_at os (h - cost x) ≡ here o → get_or rest (h - cost x) null ≡ get_or (object_cells o) 0 null)
        → get_or ((object_cells x ++ store_cells os) ++ free) h null ≡ get_or (object_cells o) 0 null
    by true b p q e ih =
        let z : h ≡ 0 = eqb-true h 0 p in
        let s : x ≡ o = cc in
        rw (z, append_assoc, look_in x rest 0 (cost_some x), s)
    by false true p q e ih = let z : ◌≡◌ {A = ℕ} 0 1 = cc in absurd (omega arith)
    by false false p q e ih = rw (append_assoc, look_past x rest h (ltb-false h (cost x) q)) (ih e)

-- the form test's looks at the cells of a store in form find its objects
pub reads : (P : Program) (before os : List Object) (S free : List Cell) → StoreFits P before os → S ≡ store_cells os ++ free → Reads os S (used os)
unfolding is_list_at is_closure_at is_continuation_at object_cells
reads P before os S free w e = rw e (record {
  lists = λ h. one_look P 129 (omega arith) is_list_at refl begins_list before os free h w;
  closures = λ h. one_look P 128 (omega arith) is_closure_at refl begins_closure before os free h w;
  continuations = λ h. one_look P 130 (omega arith) is_continuation_at refl begins_continuation before os free h w;
  codes = λ h c us e. ap (λ (x : Cell). x.number) (begins_at os free h (closure c us) e);
})

-- ---- An object at a place
abbrev head_of : Object → Cell
head_of (closure c us) = cell 128 c (length us)
head_of (list vs) = cell 129 0 (length vs)
head_of (continuation K) = cell 130 (length K) (frames_cost K)

abbrev inside_of : Object → List Cell
inside_of (closure c us) = us
inside_of (list vs) = vs
inside_of (continuation K) = flat K

object_cells_lem : (o : Object) → object_cells o ≡ head_of o ∷ inside_of o
unfolding object_cells
object_cells_lem (closure c us) = refl
object_cells_lem (list vs) = refl
object_cells_lem (continuation K) = refl

-- the object o stands at `at`, has n cells behind its first, and fits the objects before it
record Standing (P : Program) (S : List Cell) (before : List Object) (at n : ℕ) (o : Object) : Type 0 where
  is : drop at S ≡ object_cells o ++ drop (at + 1 + n) S
  size : cost o ≡ 1 + n
  fits : ObjectFits P before o

-- the cell at `at`, and as many behind it as it says
abbrev head_at : List Cell → ℕ → Cell
head_at S at = get_or S at null

abbrev inside_at : List Cell → ℕ → List Cell
inside_at S at = take (head_at S at).payload (drop (at + 1) S)

-- what is read of an object that stands at `at`
record Seen (S : List Cell) (at : ℕ) (o : Object) : Type 0 where
  head : head_at S at ≡ head_of o
  inside : take (length (inside_of o)) (drop (at + 1) S) ≡ inside_of o

module _ (P : Program) (S : List Cell) where
  pub stocked_reads : {at : ℕ} {s : List Object} → Stocked P S at s → Reads s S at
  stocked_reads {at} {s} w = subst (λ (n : ℕ). Reads s S n) w.size (reads P [] s S (drop at S) w.fits w.is)

  fits_snoc : (first before : List Object) (o : Object) → StoreFits P first before → ObjectFits P (first ++ before) o → StoreFits P first (before ++ (o ∷ []))
  fits_snoc first [] o w f = (subst (λ (s : List Object). ObjectFits P s o) (append-nil first) f, tt)
  fits_snoc first (x ∷ before) o w f = (w.0, fits_snoc (first ++ (x ∷ [])) before o w.1 (subst (λ (s : List Object). ObjectFits P s o) (sym (append_assoc first (x ∷ []) before)) f))

  stocked_snoc : {at n : ℕ} {before : List Object} {o : Object} → Stocked P S at before → Standing P S before at n o → Stocked P S (at + 1 + n) (before ++ (o ∷ []))
  unfolding store_cells used
  stocked_snoc {at} {n} {before} {o} w i =
      let cells_are : store_cells (before ++ (o ∷ [])) ≡ store_cells before ++ object_cells o = store_append before (o ∷ []) ∙ ap (λ (l : List Cell). store_cells before ++ l) (append-nil (object_cells o)) in
      record {
        is = w.is ∙ ap (λ (l : List Cell). store_cells before ++ l) i.is ∙ sym (append_assoc (store_cells before) (object_cells o) (drop (at + 1 + n) S)) ∙ ap (λ (l : List Cell). l ++ drop (at + 1 + n) S) (sym cells_are);
        size = used_append before (o ∷ []) ∙ omega (arith, w.size, i.size);
        fits = fits_snoc [] before o w.fits i.fits;
      }

  -- ---- What the test accepts
  module _ (before : List Object) (at : ℕ) (k : Reads before S at) (within : at + 1 + (head_at S at).payload ≤ length S) where
    inside_long : length (inside_at S at) ≡ (head_at S at).payload
    inside_long = length-take-le (head_at S at).payload (drop (at + 1) S) (rw length-drop (omega arith))

    -- a head and an inside of its size are an object
    stands : (o : Object) → head_at S at ≡ head_of o → inside_at S at ≡ inside_of o → ObjectFits P before o → Standing P S before at (head_at S at).payload o
    stands o e i f =
        let n = (head_at S at).payload in
        let s : suc at ≡ at + 1 = omega arith in
        let tail : drop (at + 1) S ≡ inside_of o ++ drop (at + 1 + n) S =
        sym (take-append-drop n (drop (at + 1) S)) ∙ rw i (ap (λ (l : List Cell). inside_of o ++ l) (drop-drop n (at + 1) S)) in
        record {
          is = drop-cons S at null (omega arith) ∙ rw (s, tail, object_cells_lem o) (ap (λ (c : Cell). c ∷ (inside_of o ++ drop (at + 1 + n) S)) e);
          size = sym (length_object o) ∙ ap length (object_cells_lem o) ∙ omega (arith, ap length i, inside_long);
          fits = f;
        }

    values_in : all (value_fits P S at) (inside_at S at) ≡ true → are_values P before (inside_at S at) ≡ true
    values_in f = sym (values_are P before S at k (inside_at S at)) ∙ f

    closure_in : (head_at S at).tag ≡ 128 → closure_fits P S at ≡ true → Standing P S before at (head_at S at).payload (closure (head_at S at).number (inside_at S at))
    unfolding closure_fits
    closure_in t f =
        let c = (head_at S at).number in
        let g : both (eqb (head_at S at).payload (length (code_of P c).captures)) (all (value_fits P S at) (inside_at S at)) ≡ true = second _ _ f in
        let e : head_at S at ≡ head_of (closure c (inside_at S at)) = λ j. record { tag = t j; number = c; payload = sym inside_long j } in
        stands _ e refl (ltb-true c (length P.codes) (first _ _ f), inside_long ∙ eqb-true _ _ (first _ _ g), values_in (second _ _ g))

    list_in : (head_at S at).tag ≡ 129 → list_fits P S at ≡ true → Standing P S before at (head_at S at).payload (list (inside_at S at))
    unfolding list_fits
    list_in t f =
        let g : both (leb (head_at S at).payload 4096) (all (value_fits P S at) (inside_at S at)) ≡ true = second _ _ f in
        let z : (head_at S at).number ≡ 0 = eqb-true _ 0 (first _ _ f) in
        let e : head_at S at ≡ head_of (list (inside_at S at)) = λ j. record { tag = t j; number = z j; payload = sym inside_long j } in
        let l : (head_at S at).payload ≤ 4096 = leb-true _ 4096 (first _ _ g) in
        stands _ e refl (omega (arith, inside_long), values_in (second _ _ g))

    continuation_in : (head_at S at).tag ≡ 130 → continuation_fits P S at ≡ true → Standing P S before at (head_at S at).payload (continuation (frames_at (head_at S at).number [] (inside_at S at)))
    unfolding continuation_fits
    continuation_in t f =
        let n = (head_at S at).number in
        let x = inside_at S at in
        let g : both (frames_fit P S at n x) (eqb (frames_size n x) (head_at S at).payload) ≡ true = second _ _ f in
        let few : both (leb 1 n) (leb n 256) ≡ true = first _ _ f in
        let w = frames_in P before S at k n x (first _ _ g) in
        let size : frames_size n x ≡ (head_at S at).payload = eqb-true _ _ (second _ _ g) in
        let cost_is : (head_at S at).payload ≡ frames_cost (frames_at n [] x) = sym size ∙ w.size in
        let all_of : x ≡ flat (frames_at n [] x) = w.cells ∙ ap (λ (l : List Cell). flat (frames_at n [] x) ++ l) (ap (λ (m : ℕ). drop m x) (size ∙ sym inside_long) ∙ drop-length x) ∙ append-nil _ in
        let e : head_at S at ≡ head_of (continuation (frames_at n [] x)) = λ j. record { tag = t j; number = sym w.many j; payload = cost_is j } in
        let one : 1 ≤ n = leb-true 1 n (first _ _ few) in
        let most : n ≤ 256 = leb-true n 256 (second _ _ few) in
        stands _ e all_of (omega (arith, w.many), omega (arith, w.many), w.fits)

  object_in : (before : List Object) (end at : ℕ) → Reads before S at → at < end → end ≤ length S → object_fits P S end at ≡ true → Standing P S before at (head_at S at).payload (read_object S at)
  unfolding object_fits read_object
  object_in before end at k some within f = by (eqb (head_at S at).tag 128) (eqb (head_at S at).tag 129) refl refl (second _ _ f)
    where
      fits_in : at + 1 + (head_at S at).payload ≤ length S
      fits_in = let q : (head_at S at).payload ≤ end - at - 1 = leb-true _ _ (first _ _ f) in omega arith

      by : (a b : Bool) → eqb (head_at S at).tag 128 ≡ a → eqb (head_at S at).tag 129 ≡ b
          → if? a (closure_fits P S at) (if? b (list_fits P S at) (both (eqb (head_at S at).tag 130) (continuation_fits P S at))) ≡ true
          → Standing P S before at (head_at S at).payload (if? a (closure (head_at S at).number (inside_at S at)) (if? b (list (inside_at S at)) (continuation (frames_at (head_at S at).number [] (inside_at S at)))))
      by true b p q g = closure_in before at k fits_in (eqb-true _ 128 p) g
      by false true p q g = list_in before at k fits_in (eqb-true _ 129 q) g
      by false false p q g = continuation_in before at k fits_in (eqb-true _ 130 (first _ _ g)) (second _ _ g)

  -- objects from `at` to `end`, after those before
  objects_in : (end n at : ℕ) (before : List Object) → end ≤ length S → Stocked P S at before → objects_fit P S end n at ≡ true → Stocked P S end (before ++ objects_at S end n at)
  unfolding objects_fit objects_at
  objects_in end zero at before within w f = rw append-nil (subst (λ (m : ℕ). Stocked P S m before) (eqb-true at end f) w)
  objects_in end (suc n) at before within w f = by (ltb at end) refl f (objects_in end n (at + 1 + (head_at S at).payload) (before ++ (read_object S at ∷ [])) within)
    where
      by : (t : Bool) → ltb at end ≡ t → if? t (both (object_fits P S end at) (objects_fit P S end n (at + 1 + (head_at S at).payload))) (eqb at end) ≡ true
          → (Stocked P S (at + 1 + (head_at S at).payload) (before ++ (read_object S at ∷ [])) → objects_fit P S end n (at + 1 + (head_at S at).payload) ≡ true
          → Stocked P S end ((before ++ (read_object S at ∷ [])) ++ objects_at S end n (at + 1 + (head_at S at).payload)))
          → Stocked P S end (before ++ if? t (read_object S at ∷ objects_at S end n (at + 1 + (head_at S at).payload)) [])
      by true p f ih =
          let o = object_in before end at (stocked_reads w) (ltb-true at end p) within (first _ _ f) in
          rw append_assoc at (ih (stocked_snoc w o) (second _ _ f))
      by false p f ih = rw append-nil (subst (λ (m : ℕ). Stocked P S m before) (eqb-true at end f) w)

  pub store_in : (end : ℕ) → store_fits P S end ≡ true → Stocked P S end (objects_at S end end 0)
  unfolding store_fits store_cells used
  store_in end f = objects_in end end 0 [] (leb-true end (length S) (first _ _ f)) (record { is = refl; size = refl; fits = tt }) (second _ _ f)

  -- ---- What a store in form is written as
  seen : (at : ℕ) (o : Object) (rest : List Cell) → drop at S ≡ object_cells o ++ rest → Seen S at o
  seen at o rest e =
      let f : drop at S ≡ head_of o ∷ (inside_of o ++ rest) = e ∙ ap (λ (l : List Cell). l ++ rest) (object_cells_lem o) in
      let z : at + 0 ≡ at = omega arith in
      record {
        head = ap (λ (n : ℕ). get_or S n null) (sym z) ∙ sym (get_or-drop at S 0 null) ∙ ap (λ (l : List Cell). get_or l 0 null) f;
        inside = ap (take (length (inside_of o))) (sym (drop-drop 1 at S) ∙ ap (drop 1) f) ∙ take_at (inside_of o) rest _ refl;
      }

  module _ (before : List Object) (end at : ℕ) (k : Reads before S at) where
    values_out : (vs : List Cell) → are_values P before vs ≡ true → all (value_fits P S at) vs ≡ true
    values_out vs f = values_are P before S at k vs ∙ f

    object_out : (o : Object) → Seen S at o → at + cost o ≤ end → ObjectFits P before o → (object_fits P S end at ≡ true) × (read_object S at ≡ o) × (cost o ≡ 1 + (head_at S at).payload)
    unfolding object_fits closure_fits list_fits continuation_fits read_object both cost
    object_out (closure c us) r l w =
        let p : (head_at S at).payload ≡ length us = ap (λ (c : Cell). c.payload) r.head in (
          rw (p, r.head, le-leb (length us) (end - at - 1) (omega arith), lt-ltb c (length P.codes) w.0, eq-eqb (length us) (length (code_of P c).captures) w.1, r.inside) (values_out us w.2),
          rw (p, r.head, r.inside),
          rw p,
        )
    object_out (list vs) r l w =
        let p : (head_at S at).payload ≡ length vs = ap (λ (c : Cell). c.payload) r.head in (
          rw (p, r.head, le-leb (length vs) (end - at - 1) (omega arith), le-leb (length vs) 4096 w.0, r.inside) (values_out vs w.1),
          rw (p, r.head, r.inside),
          rw p,
        )
    object_out (continuation K) r l w =
        let p : (head_at S at).payload ≡ frames_cost K = ap (λ (c : Cell). c.payload) r.head in
        let o = frames_out P before S at k K [] w.2 in
        let i : take (frames_cost K) (drop (at + 1) S) ≡ flat K ++ [] = ap (λ (n : ℕ). take n (drop (at + 1) S)) (sym (length_flat K)) ∙ r.inside ∙ sym (append-nil (flat K)) in (
          rw (p, r.head, le-leb (frames_cost K) (end - at - 1) (omega arith), le-leb 1 (length K) w.0, le-leb (length K) 256 w.1, i, o.passes, o.size) (eq-eqb (frames_cost K) (frames_cost K) refl),
          rw (p, r.head, i, o.read),
          rw p,
        )

  objects_out : (end n at : ℕ) (before os : List Object) (free : List Cell) → Stocked P S at before → StoreFits P before os → drop at S ≡ store_cells os ++ free → end ≡ at + used os → used os ≤ n
      → (objects_fit P S end n at ≡ true) × (objects_at S end n at ≡ os)
  unfolding objects_fit objects_at store_cells used both
  objects_out end zero at before [] free w f e z l = (eq-eqb at end (omega arith), refl)
  objects_out end (suc n) at before [] free w f e z l = let q : ltb at end ≡ false = le-ltb at end (omega arith) in (rw q (eq-eqb at end (omega arith)), rw q)
  objects_out end zero at before (o ∷ os) free w f e z l = absurd (omega (arith, cost_some o))
  objects_out end (suc n) at before (o ∷ os) free w f e z l =
      let s : drop at S ≡ object_cells o ++ (store_cells os ++ free) = e ∙ append_assoc (object_cells o) (store_cells os) free in
      let c = object_out before end at (stocked_reads w) o (seen at o _ s) (omega arith) f.0 in
      let m : ℕ = (head_at S at).payload in
      let some : 0 < cost o = cost_some o in
      let past : at + 1 + m ≡ at + cost o = omega arith in
      let tail : drop (at + 1 + m) S ≡ store_cells os ++ free =
      ap (λ (i : ℕ). drop i S) past ∙ sym (drop-drop (cost o) at S) ∙ ap (drop (cost o)) s ∙ drop_at (object_cells o) (store_cells os ++ free) (cost o) (length_object o) in
      let ih = objects_out end n (at + 1 + m) (before ++ (o ∷ [])) os free (stocked_snoc w (record { is = s ∙ ap (λ (l : List Cell). object_cells o ++ l) (sym tail); size = c.2; fits = f.0 })) f.1 tail (omega arith) (omega arith) in
      let q : ltb at end ≡ true = lt-ltb at end (omega arith) in
      (rw (q, c.0) ih.0, rw (q, c.1, ih.1))

  pub store_out : (s : List Object) (free : List Cell) → S ≡ store_cells s ++ free → StoreFits P [] s → (store_fits P S (used s) ≡ true) × (objects_at S (used s) (used s) 0 ≡ s)
  unfolding store_fits store_cells used both
  store_out s free e w =
      let r = objects_out (used s) (used s) 0 [] s free (record { is = refl; size = refl; fits = tt }) w e (omega arith) (omega arith) in
      (rw (le-leb (used s) (length S) (omega (arith, ap length e, length-append (store_cells s) free, length_store s))) r.0, r.1)
