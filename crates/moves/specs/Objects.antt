-- Objects of the store: a new one is written behind the others, and the frames of a continuation are put back.
use Rattle.std.specs.Prelude.{◌≡◌, refl, Bool, true, false, ℕ, suc, ◌+◌, ◌-◌, ◌<◌, ◌≤◌, set, drop, eqb, ltb}
use Rattle.std.proofs.Math.Path.{sym, ap}
use Rattle.std.proofs.Common.{subst, ◌∙◌, add-zero, length-append, drop_at, drop-cons, drop-drop, get_or-drop, eqb-true, ltb-false}
use mathlib.Core.List.{List, [], ◌∷◌, ◌++◌, reverse, append_assoc, append-nil}
use native.Mathlib.Omega.{arith}
use Rattle.std.proofs.Math.ListN.{length, get_or, take, length-drop}
use Rattle.std.proofs.lemmas.List.{length-reverse, set_at}
use Rattle.std.proofs.Math.Seq.{paste, get_or_at, take_at, take-append-add, append_snoc, length-take-le}
use Rattle.cells.specs.Cells.{null, cells, rest, room, Writes}
use Rattle.cells.specs.CellsLaws.{length_cells, writes_two}
use Rattle.cells.specs.Moves.{paste_is}
use Rattle.cells.specs.declared.Cell.{Cell}
use Rattle.image.specs.Records.{if?}
use Rattle.machine.specs.Values.{cell}
use Rattle.machine.specs.Machine.{Frame, Object, closure, list, continuation, frame_cost, frames_cost, cost, used, here, absent, object_at, give, put_back}
use Rattle.memory.specs.Layout.{Written, written, handler_cells, frame_cells, flat, object_cells, store_cells}
use Rattle.memory.specs.View.{frame_size, frames_size}
use Rattle.memory.specs.Lists.{written_cost}
use Rattle.memory.proofs.Lists.{length_handlers, length_written, length_flat, flat_append, cost_append, cost_written}
use Rattle.memory.proofs.StoreLaws.{length_object, length_store, store_append}
use Rattle.moves.specs.Runs.{Top, Stands, loose, pushed, end_of, opened, top_length, part_get}
use Rattle.moves.specs.Frames.{Live, Lands, kept_stack, kept_in, kept_opened, give_written, stands_live, top_end}
use Rattle.moves.specs.declared.Running.{Running}

-- the store holds these objects, and free cells behind them
pub record Stored (s : List Object) (S : List Cell) : Type 0 where
  pub free : List Cell
  pub is : S ≡ store_cells s ++ free

store_more : (s : List Object) (o : Object) → store_cells (s ++ (o ∷ [])) ≡ store_cells s ++ object_cells o
unfolding store_cells
store_more s o = store_append s (o ∷ []) ∙ ap (λ (l : List Cell). store_cells s ++ l) (append-nil (object_cells o))

-- ---- A new object
-- n cells of L from `from` on, under a first cell, at `at`
unfoldable pub made : List Cell → ℕ → ℕ → ℕ → List Cell → ℕ → ℕ → List Cell
made S at kind number L from n = paste (set S at (cell kind number n)) (at + 1) (drop from L) n

pub makes : {s a t : List ℕ} (at kind number from n : ℕ) (L : List Cell) → Writes s (set (cells s) at (cell kind number n)) a → Writes a (paste (cells a) (at + 1) (drop from L) n) t → Writes s (made (cells s) at kind number L from n) t
unfolding made
makes at kind number from n L u v = writes_two (λ (l : List Cell). paste l (at + 1) (drop from L) n) u v

pub made_stored : {s : List Object} {S : List Cell} (o : Object) (L : List Cell) (at kind number from n : ℕ) → Stored s S → at ≡ used s → at < length S
    → object_cells o ≡ cell kind number n ∷ take n (drop from L) → Stored (s ++ (o ∷ [])) (made S at kind number L from n)
unfolding made
made_stored {s} {S} o L at kind number from n h e lt q =
    let F : List Cell = store_cells s in
    let c : Cell = cell kind number n in
    let m : length F ≡ at = length_store s ∙ sym e in
    let some : 0 < length h.free = omega (arith, ap length h.is ∙ length-append F h.free) in
    let w : set S at c ≡ F ++ (c ∷ drop 1 h.free) = ap (λ (x : List Cell). set x at c) (h.is ∙ ap (λ (r : List Cell). F ++ r) (drop-cons h.free 0 null some)) ∙ set_at F _ _ c at m in
    let t : take (at + 1) (set S at c) ≡ F ++ (c ∷ []) = ap (take (at + 1)) w ∙ rw (← m) (take-append-add F (c ∷ drop 1 h.free) 1) in
    let Z : List Cell = drop (at + 1 + n) (set S at c) in
    let X : List Cell = take n (drop from L) in
    record {
      free = Z;
      is = paste_is (set S at c) (at + 1) (drop from L) n ∙ ap (λ (l : List Cell). l ++ (X ++ Z)) t ∙ append_snoc F c (X ++ Z)
          ∙ sym (append_assoc F (c ∷ X) Z) ∙ ap (λ (l : List Cell). F ++ l ++ Z) (sym q) ∙ ap (λ (l : List Cell). l ++ Z) (sym (store_more s o));
    }

module _ {s : List Object} {S : List Cell} (L : List Cell) (at from n : ℕ) (h : Stored s S) (e : at ≡ used s) (lt : at < length S) where
  pub list_stored : from + n ≤ length L → Stored (s ++ (list (take n (drop from L)) ∷ [])) (made S at 129 0 L from n)
  unfolding object_cells
  list_stored there =
      let X : List Cell = take n (drop from L) in
      let m : length X ≡ n = length-take-le n (drop from L) (simp length-drop (omega arith)) in
      made_stored (list X) L at 129 0 from n h e lt (ap (λ (k : ℕ). cell 129 0 k ∷ X) m)

  pub closure_stored : (c : ℕ) → from + n ≤ length L → Stored (s ++ (closure c (take n (drop from L)) ∷ [])) (made S at 128 c L from n)
  unfolding object_cells
  closure_stored c there =
      let X : List Cell = take n (drop from L) in
      let m : length X ≡ n = length-take-le n (drop from L) (simp length-drop (omega arith)) in
      made_stored (closure c X) L at 128 c from n h e lt (ap (λ (k : ℕ). cell 128 c k ∷ X) m)

  -- the frames above become a continuation
  pub captured : (above below : List Frame) → Live (above ++ below) L → from ≡ length (flat below) → n ≡ length (flat above)
      → Stored (s ++ (continuation above ∷ [])) (made S at 130 (length above) L from n)
  unfolding object_cells
  captured above below o f m =
      let i : L ≡ flat below ++ (flat above ++ o.free) = o.is ∙ ap (λ (l : List Cell). l ++ o.free) (flat_append above below) ∙ append_assoc (flat below) (flat above) o.free in
      let x : take n (drop from L) ≡ flat above = ap (λ (l : List Cell). take n (drop from l)) i ∙ ap (take n) (drop_at (flat below) _ from (sym f)) ∙ take_at (flat above) o.free n (omega arith) in
      let k : frames_cost above ≡ n = omega (arith, length_flat above) in
      made_stored (continuation above) L at 130 (length above) from n h e lt (λ j. cell 130 (length above) (k j) ∷ sym x j)

-- ---- The object at a handle
pub record There (o : Object) (h : ℕ) (S : List Cell) : Type 0 where
  pub pre : List Cell
  pub post : List Cell
  pub is : S ≡ pre ++ (object_cells o ++ post)
  pub at : length pre ≡ h

there_in : (s : List Object) (h : ℕ) (o : Object) (free : List Cell) → object_at s h ≡ here o → There o h (store_cells s ++ free)
unfolding object_at store_cells
there_in [] h o free q = let z : ◌≡◌ {A = ℕ} 0 1 = cc in absurd (omega arith)
there_in (x ∷ s) h o free q = by (eqb h 0) (ltb h (cost x)) refl refl q (there_in s (h - cost x) o free)
  where
    by : (a b : Bool) → eqb h 0 ≡ a → ltb h (cost x) ≡ b → if? a (here x) (if? b absent (object_at s (h - cost x))) ≡ here o
        → (object_at s (h - cost x) ≡ here o → There o (h - cost x) (store_cells s ++ free)) → There o h (object_cells x ++ store_cells s ++ free)
    by true b p r q ih =
        let e : x ≡ o = cc in
        record { pre = []; post = store_cells s ++ free; is = append_assoc (object_cells x) (store_cells s) free ∙ ap (λ (k : Object). object_cells k ++ (store_cells s ++ free)) e; at = sym (eqb-true h 0 p) }
    by false true p r q ih = let z : ◌≡◌ {A = ℕ} 0 1 = cc in absurd (omega arith)
    by false false p r q ih =
        let t = ih q in
        let l : cost x ≤ h = ltb-false h (cost x) r in
        record {
          pre = object_cells x ++ t.pre;
          post = t.post;
          is = append_assoc (object_cells x) (store_cells s) free ∙ ap (λ (k : List Cell). object_cells x ++ k) t.is ∙ sym (append_assoc (object_cells x) t.pre (object_cells o ++ t.post));
          at = length-append (object_cells x) t.pre ∙ omega (arith, length_object x, t.at);
        }

pub object_there : {s : List Object} {h : ℕ} {o : Object} {S : List Cell} → Stored s S → object_at s h ≡ here o → There o h S
object_there {s} {h} {o} {S} t q = subst (There o h) (sym t.is) (there_in s h o t.free q)

-- an upvalue of a closure
module _ {handle code : ℕ} {us S : List Cell} (t : There (closure code us) handle S) (i : ℕ) (lt : i < length us) where
  abbrev first : List Cell
  first = t.pre ++ (cell 128 code (length us) ∷ [])

  length_first : length first ≡ handle + 1
  length_first = length-append t.pre (cell 128 code (length us) ∷ []) ∙ omega (arith, t.at)

  in_first : S ≡ first ++ (us ++ t.post)
  unfolding object_cells
  in_first = t.is ∙ sym (append_assoc t.pre (cell 128 code (length us) ∷ []) (us ++ t.post))

  pub upvalue_fits : handle + 1 + i < length S
  upvalue_fits = omega (arith, ap length in_first ∙ length-append first (us ++ t.post), length_first, length-append us t.post)

  pub upvalue_there : get_or S (handle + 1 + i) null ≡ get_or us i null
  upvalue_there = ap (λ (l : List Cell). get_or l (handle + 1 + i) null) in_first ∙ part_get first us t.post (handle + 1 + i) i (omega (arith, length_first)) lt

pub upvalue_shows : {r : Cell} (store : List ℕ) (handle i : ℕ) → r ≡ get_or (cells store) (handle + 1 + i) null
    → (s : List Object) (code : ℕ) (us : List Cell) → Stored s (cells store) → object_at s handle ≡ here (closure code us) → i < length us → r ≡ get_or us i null
upvalue_shows store handle i e s code us h q lt = e ∙ upvalue_there (object_there h q) i lt

-- ---- A closure whose upvalues are put one by one
pub record Building (s : List Object) (code n : ℕ) (us S : List Cell) : Type 0 where
  pub free : List Cell
  pub is : S ≡ store_cells s ++ (cell 128 code n ∷ (us ++ free))

pub building_begun : {s : List Object} {S : List Cell} (code n at : ℕ) → Stored s S → at ≡ used s → at < length S → Building s code n [] (set S at (cell 128 code n))
building_begun {s} {S} code n at h e lt =
    let F : List Cell = store_cells s in
    let some : 0 < length h.free = omega (arith, ap length h.is ∙ length-append F h.free, length_store s) in
    record {
      free = drop 1 h.free;
      is = ap (λ (l : List Cell). set l at (cell 128 code n)) (h.is ∙ ap (λ (l : List Cell). F ++ l) (drop-cons h.free 0 null some)) ∙ set_at F _ _ _ at (length_store s ∙ sym e);
    }

pub building_more : {s : List Object} {code n : ℕ} {us S : List Cell} (v : Cell) (at : ℕ) → Building s code n us S → at ≡ used s + 1 + length us → at < length S → Building s code n (us ++ (v ∷ [])) (set S at v)
building_more {s} {code} {n} {us} {S} v at h e lt =
    let Q : List Cell = store_cells s ++ (cell 128 code n ∷ us) in
    let m : length Q ≡ at = length-append (store_cells s) (cell 128 code n ∷ us) ∙ omega (arith, length_store s) in
    let i : S ≡ Q ++ h.free = h.is ∙ sym (append_assoc (store_cells s) (cell 128 code n ∷ us) h.free) in
    let some : 0 < length h.free = omega (arith, ap length i ∙ length-append Q h.free) in
    let f : Q ++ (v ∷ drop 1 h.free) ≡ store_cells s ++ (cell 128 code n ∷ ((us ++ (v ∷ [])) ++ drop 1 h.free)) = simp append_assoc in
    record { free = drop 1 h.free; is = ap (λ (l : List Cell). set l at v) (i ∙ ap (λ (l : List Cell). Q ++ l) (drop-cons h.free 0 null some)) ∙ set_at Q _ _ v at m ∙ f }

pub building_done : {s : List Object} {code n : ℕ} {us S : List Cell} → Building s code n us S → n ≡ length us → Stored (s ++ (closure code us ∷ [])) S
unfolding object_cells
building_done {s} {code} {n} {us} {S} h e = record {
  free = h.free;
  is = h.is ∙ ap (λ (m : ℕ). store_cells s ++ (cell 128 code m ∷ (us ++ h.free))) e ∙ sym (append_assoc (store_cells s) (cell 128 code (length us) ∷ us) h.free)
      ∙ ap (λ (l : List Cell). l ++ h.free) (sym (store_more s (closure code us)));
}

-- ---- A walk over frames by their heads
-- from `at` so many frames but one are left to pass, and then the goal is reached
pub record Walks (X : List Cell) (goal at left : ℕ) : Type 0 where
  pub some : 0 < left
  pub ahead : at + frames_size (left - 1) (drop at X) ≡ goal

pub end_opened : (X : List Cell) (at : ℕ) → end_of (opened X at) ≡ at + frame_size (drop at X)
end_opened X at =
    let z : get_or (drop at X) 0 null ≡ get_or X at null = get_or-drop at X 0 null ∙ ap (λ (k : ℕ). get_or X k null) (add-zero at) in
    omega (arith, ap (λ (c : Cell). c.number) z, ap (λ (c : Cell). c.payload) z, ap (λ (c : Cell). c.payload) (get_or-drop at X 2 null))

-- one frame more is passed
walk_step : {X : List Cell} {goal at left : ℕ} → Walks X goal at left → 1 < left → end_of (opened X at) + frames_size (left - 1 - 1) (drop (end_of (opened X at)) X) ≡ goal
unfolding frames_size
walk_step {X} {goal} {at} {left} i lt =
    let n : left - 1 ≡ suc (left - 1 - 1) = omega arith in
    let f : at + frames_size (suc (left - 1 - 1)) (drop at X) ≡ goal = (rw n at i.ahead) in
    let e = end_opened X at in
    let d : drop (frame_size (drop at X)) (drop at X) ≡ drop (end_of (opened X at)) X = drop-drop (frame_size (drop at X)) at X ∙ ap (λ (k : ℕ). drop k X) (sym e) in
    let g : at + (frame_size (drop at X) + frames_size (left - 1 - 1) (drop (end_of (opened X at)) X)) ≡ goal = rw d at f in
    omega arith

pub walks_on : {X : List Cell} {goal at left next : ℕ} {g : Running} → Walks X goal at left → 1 < left → g ≡ opened X at → next ≡ end_of g → Walks X goal next (left - 1)
walks_on {X} {goal} {at} {left} {next} i lt e n =
    let q : next ≡ end_of (opened X at) = n ∙ ap (λ (k : Running). end_of k) e in
    record { some = omega arith; ahead = rw q (walk_step i lt) }

-- the frame in the way lies before the goal
pub walks_fits : {X : List Cell} {goal at left : ℕ} → Walks X goal at left → 1 < left → end_of (opened X at) ≤ goal
walks_fits {X} {goal} {at} {left} i lt = omega (arith, walk_step i lt)

pub walks_done : {X : List Cell} {goal at left : ℕ} → Walks X goal at left → left ≤ 1 → at ≡ goal
unfolding frames_size
walks_done {X} {goal} {at} {left} i le = let n : left - 1 ≡ 0 = omega (arith, i.some) in let f : at + frames_size 0 (drop at X) ≡ goal = rw n at i.ahead in omega arith

-- so many frames at the front have so many cells
pub sizes : (fs : List Frame) (m : ℕ) (after : List Cell) → frames_size (length fs + m) (flat fs ++ after) ≡ length (flat fs) + frames_size m after
unfolding flat frames_size
sizes [] m after = let z : 0 + m ≡ m = omega arith in rw z (omega arith)
sizes (f ∷ fs) m after =
    let n : suc (length fs) + m ≡ length fs + suc m = omega arith in
    let d : drop (frame_size (frame_cells f ++ after)) (frame_cells f ++ after) ≡ after = drop_at (frame_cells f) after _ (length_written (written f)) in
    let i : frames_size (length fs + suc m) (flat fs ++ (frame_cells f ++ after)) ≡ length (flat fs) + frames_size (suc m) (frame_cells f ++ after) = sizes fs (suc m) (frame_cells f ++ after) in
    rw (n, append_assoc (flat fs) (frame_cells f) after)
    (i ∙ omega (arith, ap (λ (l : List Cell). frames_size m l) d, length-append (flat fs) (frame_cells f), length_written (written f)))

-- ---- Frames of a continuation on top
-- a frame, with the cells B before it, is copied from behind A to behind D
copy_top : {w : Written} {g : Running} {S : List Cell} (A B L D free : List Cell) (at from : ℕ) → Top w (A ++ B) g S → L ≡ D ++ free → at ≡ length D → from ≡ length A
    → Top w (D ++ B) (record { base = at + (g.base - from); locals = g.locals; handlers = g.handlers; stack = g.stack; place = g.place }) (paste L at (drop from S) (end_of g - from))
copy_top {w} {g} {S} A B L D free at from o i d a =
    let R : List Cell = reverse w.stack in
    let H : List Cell = handler_cells w.handlers in
    let C : List Cell = cell w.kind (length w.locals) o.x ∷ w.subject ∷ cell 68 o.y o.z ∷ null ∷ null ∷ null ∷ (w.locals ++ (H ++ R)) in
    let e : S ≡ A ++ ((B ++ C) ++ o.free) = o.is ∙ simp append_assoc in
    let b : g.base ≡ length A + length B = o.base ∙ length-append A B in
    let n : length (B ++ C) ≡ end_of g - from =
    length-append B C ∙ omega (arith, length-append w.locals (H ++ R), length-append H R, length_handlers w.handlers, length-reverse w.stack, o.counts.locals, o.counts.handlers, o.counts.stack) in
    let x : take (end_of g - from) (drop from S) ≡ B ++ C =
    ap (λ (l : List Cell). take (end_of g - from) (drop from l)) e ∙ ap (take (end_of g - from)) (drop_at A _ from (sym a)) ∙ take_at (B ++ C) o.free _ n in
    let t : take at L ≡ D = ap (take at) i ∙ take_at D free at (sym d) in
    let Z : List Cell = drop (at + (end_of g - from)) L in
    let p : paste L at (drop from S) (end_of g - from) ≡ D ++ ((B ++ C) ++ Z) = paste_is L at (drop from S) (end_of g - from) ∙ (λ j. t j ++ (x j ++ Z)) in
    let q : D ++ ((B ++ C) ++ Z) ≡ (D ++ B) ++ loose w o.x o.y o.z Z = simp append_assoc in
    record {
      x = o.x;
      y = o.y;
      z = o.z;
      free = Z;
      is = p ∙ q;
      base = omega (arith, length-append D B);
      counts = record { locals = o.counts.locals; handlers = o.counts.handlers; stack = o.counts.stack; place = o.counts.place };
    }

-- the last frame of the continuation at h begins here
abbrev pub last_of : ℕ → List Cell → ℕ
last_of h S = h + 1 + frames_size ((get_or S h null).number - 1) (drop (h + 1) S)

-- the frames below, the continuation at the handle, and room for both and a value
pub record Kept (v : Cell) (at handle : ℕ) (live store : List ℕ) : Type 0 where
  pub below : List Frame
  pub objects : List Object
  pub top : Frame
  pub under : List Frame
  pub held : Live below (cells live)
  pub used : at ≡ length (flat below)
  pub stored : Stored objects (cells store)
  pub there : object_at objects handle ≡ here (continuation (top ∷ under))
  pub fits : frames_cost (put_back v (top ∷ under) ++ below) ≤ room live

pub record Resumed (v : Cell) (at handle : ℕ) (live store : List ℕ) (r : ℕ) (new : List ℕ) : Type 0 where
  pub back : (k : Kept v at handle live store) → Live (put_back v (k.top ∷ k.under) ++ k.below) (cells new)
  pub end : (k : Kept v at handle live store) → r ≡ length (flat (put_back v (k.top ∷ k.under) ++ k.below))
  pub rest : rest new ≡ rest live
  pub len : length new ≡ length live

-- the numbers of the move: the last frame begins at `last`, and g is what it keeps
pub record Fits (at handle last : ℕ) (g : Running) (live store : List ℕ) : Type 0 where
  pub behind : handle + 1 ≤ last
  pub base : g.base ≡ last
  pub end : end_of g ≤ room store
  pub room : at + (end_of g - (handle + 1)) + 1 ≤ room live

module _ {v : Cell} {at handle : ℕ} {live store : List ℕ} (k : Kept v at handle live store) where
  found : There (continuation (k.top ∷ k.under)) handle (cells store)
  found = object_there k.stored k.there

  abbrev before : List Cell
  before = found.pre ++ (cell 130 (length (k.top ∷ k.under)) (frames_cost (k.top ∷ k.under)) ∷ [])

  abbrev after : List Cell
  after = frame_cells k.top ++ found.post

  length_before : handle + 1 ≡ length before
  length_before = omega (arith, length-append found.pre (cell 130 (length (k.top ∷ k.under)) (frames_cost (k.top ∷ k.under)) ∷ []), found.at)

  in_before : cells store ≡ before ++ (flat k.under ++ after)
  unfolding object_cells flat
  in_before = found.is ∙ simp append_assoc

  head_is : (get_or (cells store) handle null).number ≡ length (k.top ∷ k.under)
  unfolding object_cells
  head_is = ap (λ (c : Cell). c.number) (ap (λ (l : List Cell). get_or l handle null) found.is ∙ get_or_at found.pre _ _ null handle found.at)

  frames_there : drop (handle + 1) (cells store) ≡ flat k.under ++ after
  frames_there = ap (drop (handle + 1)) in_before ∙ drop_at before _ _ (sym length_before)

  stands : Stands (written k.top) (before ++ flat k.under) (cells store)
  stands = record { free = found.post; is = in_before ∙ sym (append_assoc before (flat k.under) after) }

  pub handle_fits : handle < room store
  handle_fits = omega (arith, length_cells store, ap length in_before ∙ length-append before (flat k.under ++ after), length_before)

  module _ {count : ℕ} (c : count ≡ (get_or (cells store) handle null).number) where
    size_is : frames_size (count - 1) (drop (handle + 1) (cells store)) ≡ length (flat k.under)
    unfolding frames_size
    size_is =
        let n : count - 1 ≡ length k.under + 0 = omega (arith, head_is) in
        ap (λ (m : ℕ). frames_size m (drop (handle + 1) (cells store))) n ∙ ap (frames_size (length k.under + 0)) frames_there ∙ sizes k.under 0 after ∙ omega arith

    pub walk_fits : (0 < count) × (handle + 1 + frames_size (count - 1) (drop (handle + 1) (cells store)) ≤ room store)
    walk_fits = (
      omega (arith, head_is),
      omega (arith, size_is, length_cells store, ap length in_before ∙ length-append before (flat k.under ++ after), length-append (flat k.under) after, length_before),
    )

    module _ {last : ℕ} (l : last ≡ handle + 1 + frames_size (count - 1) (drop (handle + 1) (cells store))) where
      last_is : last ≡ length (before ++ flat k.under)
      last_is = omega (arith, length-append before (flat k.under), length_before, size_is)

      kept_there : Top (kept_stack (written k.top)) (before ++ flat k.under) (kept_in (cells store) last) (cells store)
      kept_there = kept_opened last stands last_is

      pub open_fits : last + 6 ≤ room store
      open_fits = omega (arith, top_length kept_there, length_cells store)

      pub back_fits : {g : Running} → g ≡ kept_in (cells store) last → Fits at handle last g live store
      unfolding put_back frames_cost
      back_fits {g} e =
          let o = kept_there in
          let cost_is : written_cost (pushed v (kept_stack (written k.top))) ≡ frame_cost (give v k.top) = ap (λ (w : Written). written_cost w) (give_written v k.top) ∙ cost_written (give v k.top) in
          rw e (record {
            behind = omega arith;
            base = refl;
            end = omega (arith, top_length o, length_cells store);
            room = omega (arith, k.fits, cost_is, cost_append k.under k.below, length_flat k.under, length_flat k.below, k.used, size_is, o.counts.locals, o.counts.handlers, o.counts.stack);
          })

      -- the frame where it was copied to
      copied : Top (kept_stack (written k.top)) (flat k.below ++ flat k.under)
          (record { base = at + (last - (handle + 1)); locals = (kept_in (cells store) last).locals; handlers = (kept_in (cells store) last).handlers; stack = (kept_in (cells store) last).stack; place = (kept_in (cells store) last).place })
          (paste (cells live) at (drop (handle + 1) (cells store)) (end_of (kept_in (cells store) last) - (handle + 1)))
      copied = copy_top before (flat k.under) (cells live) (flat k.below) k.held.free at (handle + 1) kept_there k.held.is k.used length_before

pub resumed : {v : Cell} {at handle count last m n : ℕ} {live store a new : List ℕ} {g : Running} → count ≡ (get_or (cells store) handle null).number
    → last ≡ handle + 1 + frames_size (count - 1) (drop (handle + 1) (cells store)) → g ≡ kept_in (cells store) last → m ≡ end_of g
    → Writes live (paste (cells live) at (drop (handle + 1) (cells store)) (m - (handle + 1))) a
    → Lands v (record { base = at + (last - (handle + 1)); locals = g.locals; handlers = g.handlers; stack = g.stack; place = g.place }) a n new → Resumed v at handle live store n new
unfolding put_back
resumed {v} {at} {handle} {last = last} {live = live} {store} {a} {new} {g} c l q x u s =
    let t : Running = record { base = at + (last - (handle + 1)); locals = g.locals; handlers = g.handlers; stack = g.stack; place = g.place } in
    let top : (k : Kept v at handle live store) → Top (kept_stack (written k.top)) (flat (k.under ++ k.below)) t (cells a) =
    λ k. rw (flat_append k.under k.below, u.cells, x, q) (copied k c l) in
    record {
      back = λ k. stands_live (subst (λ (w : Written). Stands w (flat (k.under ++ k.below)) (cells new)) (give_written v k.top) (s.stands _ _ (top k)));
      end = λ k. s.end ∙ top_end (give v k.top) (k.under ++ k.below) v (top k) (give_written v k.top);
      rest = s.rest ∙ u.rest;
      len = s.len ∙ u.len;
    }
