-- The form test is exact: it accepts what a world in form is written as, and nothing else; and the world read off accepted cells is the only one that they hold.
use Rattle.std.specs.Prelude.{◌≡◌, ℕ, ◌≤◌, get_or}
use Rattle.std.proofs.Math.Path.{refl, sym, ap}
use Rattle.std.proofs.Common.{◌∙◌, take-append-drop, drop-drop}
use mathlib.Core.List.{List, [], ◌∷◌, ◌++◌, append_assoc}
use Rattle.std.proofs.Math.Bool.{true}
use native.Mathlib.Omega.{arith}
use Rattle.std.proofs.Math.ListN.{length, take, drop, length-append, length-drop}
use Rattle.std.proofs.Math.Seq.{length-take-le, take_at, drop_at}
use borrow.Author.Tests.{leb-true, le-leb}
use Rattle.cells.specs.Cells.{null}
use Rattle.cells.specs.declared.Cell.{Cell}
use Rattle.image.specs.Records.{both}
use Rattle.image.specs.Program.{all}
use Rattle.image.proofs.Parts.{first, second, both_in}
use Rattle.machine.specs.Values.{Program}
use Rattle.machine.specs.Machine.{Frame, Object, Result, frames_cost, used, result_cost}
use Rattle.machine.specs.Calls.{Sizes, World, are_values}
use Rattle.machine.specs.Demand.{All}
use Rattle.machine.specs.Form.{FrameFits, top_of, TurnFits, WorldFits}
use Rattle.memory.specs.Layout.{flat, store_cells, Shown, bit, result_shown, state_cells, Holds}
use Rattle.memory.specs.View.{frames_at, frames_size, objects_at, bit_of, read_result, view}
use Rattle.memory.specs.Tests.{value_fits, top_kind, turn_fits, live_fits, in_form}
use Rattle.memory.specs.Reads.{Reads}
use Rattle.memory.proofs.Lists.{length_flat}
use Rattle.memory.proofs.FrameLaws.{values_append, values_are, frames_in, frames_out}
use Rattle.memory.specs.StoreLaws.{Stocked}
use Rattle.memory.proofs.StoreLaws.{stocked_reads, store_in, store_out, length_store, reads}
use Rattle.memory.specs.StateLaws.{top_number, Shows, ResultOut}
use Rattle.memory.proofs.StateLaws.{of_bit, turn_in, turn_out, result_in, result_out, top_is}

-- ---- The live stack
-- so many frames in form at the front of x, then so many values
record LiveIn (P : Program) (s : List Object) (count args : ℕ) (x : List Cell) : Type 0 where
  few : count ≤ 256
  many : length (frames_at count [] x) ≡ count
  frames : All (FrameFits P s) (frames_at count [] x)
  long : length (take args (drop (frames_size count x) x)) ≡ args
  values : are_values P s (take args (drop (frames_size count x) x)) ≡ true
  is : x ≡ flat (frames_at count [] x) ++ (take args (drop (frames_size count x) x) ++ drop args (drop (frames_size count x) x))

record LiveOut (P : Program) (S : List Cell) (b : ℕ) (fs : List Frame) (args x : List Cell) : Type 0 where
  fits : live_fits P S b (length fs) (length args) x ≡ true
  frames : frames_at (length fs) [] x ≡ fs
  behind : take (length args) (drop (frames_size (length fs) x) x) ≡ args

module _ (P : Program) (s : List Object) (S : List Cell) (b : ℕ) (k : Reads s S b) where
  live_in : (count args : ℕ) (x : List Cell) → live_fits P S b count args x ≡ true → LiveIn P s count args x
  unfolding live_fits
  live_in count args x f =
      let g = second _ _ f in
      let h = second _ _ g in
      let w = frames_in P s S b k count x (first _ _ g) in
      let rest : List Cell = drop (frames_size count x) x in
      record {
        few = leb-true count 256 (first _ _ f);
        many = w.many;
        frames = w.fits;
        long = length-take-le args rest (leb-true args (length rest) (first _ _ h));
        values = sym (values_are P s S b k (take args rest)) ∙ second _ _ h;
        is = w.cells ∙ ap (λ (l : List Cell). flat (frames_at count [] x) ++ l) (sym (take-append-drop args rest));
      }

  live_out : (fs : List Frame) (args free : List Cell) → length fs ≤ 256 → All (FrameFits P s) fs → are_values P s args ≡ true → LiveOut P S b fs args (flat fs ++ (args ++ free))
  unfolding live_fits both
  live_out fs args free few w v =
      let o = frames_out P s S b k fs (args ++ free) w in
      let d : drop (frames_size (length fs) (flat fs ++ (args ++ free))) (flat fs ++ (args ++ free)) ≡ args ++ free = rw o.size (drop_at (flat fs) (args ++ free) (frames_cost fs) (length_flat fs)) in
      let t : take (length args) (args ++ free) ≡ args = take_at args free (length args) refl in
      record {
        fits = rw (le-leb (length fs) 256 few, o.passes, d, le-leb (length args) (length (args ++ free)) (rw length-append (omega arith)), t, values_are P s S b k args) v;
        frames = o.read;
        behind = rw d t;
      }

-- ---- What the test accepts
-- what `view` reads, by its parts
abbrev size_of : List Cell → ℕ
size_of st = (get_or st 0 null).payload

abbrev count_of : List Cell → ℕ
count_of st = (get_or st 0 null).number

abbrev args_of : List Cell → ℕ
args_of st = (get_or st 3 null).payload

abbrev frames_of : List Cell → List Cell → List Frame
frames_of st lv = frames_at (count_of st) [] lv

abbrev objects_of : List Cell → List Cell → List Object
objects_of st S = objects_at S (size_of st) (size_of st) 0

abbrev shown_of : List Cell → List Cell → Shown
shown_of st lv = record {
  kind = (get_or st 1 null).payload;
  value = get_or st 2 null;
  second = (get_or st 3 null).tag;
  args = take (args_of st) (drop (frames_size (count_of st) lv) lv);
}

abbrev result_of : List Cell → List Cell → Result
result_of st lv = read_result (shown_of st lv)

record Accepted (P : Program) (st lv S : List Cell) : Type 0 where
  store : Stocked P S (size_of st) (objects_of st S)
  live : LiveIn P (objects_of st S) (count_of st) (args_of st) lv
  zero_is : (get_or st 3 null).number ≡ 0
  result : Shows P (objects_of st S) (shown_of st lv) (result_of st lv)
  turn : TurnFits (top_of (result_of st lv) (frames_of st lv)) (bit_of (get_or st 1 null).number) (get_or st 1 null).tag
  wait : bit (bit_of (get_or st 1 null).number) ≡ (get_or st 1 null).number
  tables : are_values P (objects_of st S) (drop 4 st) ≡ true

accepted : (P : Program) (st lv S : List Cell) → in_form P S st lv ≡ true → Accepted P st lv S
unfolding in_form
accepted P st lv S f =
    let s : List Object = objects_of st S in
    let live? = second _ _ f in
    let result? = second _ _ live? in
    let turn? = second _ _ result? in
    let o = store_in P S (size_of st) (first _ _ f) in
    let k = stocked_reads P S o in
    let l = live_in P s S (size_of st) k (count_of st) (args_of st) lv (first _ _ live?) in
    let r = result_in P s S (size_of st) k (get_or st 1 null).payload (get_or st 2 null) (get_or st 3 null) (shown_of st lv).args l.long l.values (first _ _ result?) in
    let top : top_kind (count_of st) (get_or st 1 null).payload lv ≡ top_number (top_of (result_of st lv) (frames_of st lv)) =
    ap (λ (n : ℕ). top_kind n (get_or st 1 null).payload lv) (sym l.many)
    ∙ ap (λ (x : Shown). top_kind (length (frames_of st lv)) x.kind lv) (sym r.1.is)
    ∙ ap (top_kind (length (frames_of st lv)) (result_shown (result_of st lv)).kind) l.is
    ∙ top_is P s S (size_of st) k (result_of st lv) (frames_of st lv) _ l.frames in
    let t = turn_in (top_of (result_of st lv) (frames_of st lv)) (get_or st 1 null).number (get_or st 1 null).tag (rw top at (first _ _ turn?)) in
    record {
      store = o;
      live = l;
      zero_is = r.0;
      result = r.1;
      turn = t.0;
      wait = t.1;
      tables = sym (values_are P s S (size_of st) k (drop 4 st)) ∙ second _ _ turn?;
    }

four : (st : List Cell) → 4 ≤ length st → st ≡ get_or st 0 null ∷ get_or st 1 null ∷ get_or st 2 null ∷ get_or st 3 null ∷ drop 4 st
four [] h = absurd (omega arith)
four (a ∷ []) h = absurd (omega arith)
four (a ∷ b ∷ []) h = absurd (omega arith)
four (a ∷ b ∷ c ∷ []) h = absurd (omega arith)
four (a ∷ b ∷ c ∷ d ∷ st) h = refl

module _ (P : Program) (st lv S : List Cell) (long : length st ≡ 516) (a : Accepted P st lv S) where
  tables_are : drop 4 st ≡ take 256 (drop 4 st) ++ drop 260 st
  tables_are = sym (take-append-drop 256 (drop 4 st)) ∙ ap (λ (l : List Cell). take 256 (drop 4 st) ++ l) (drop-drop 256 4 st)

  accepted_holds : (get_or st 0 null).tag ≡ 1 → Holds (view st lv S) st lv S
  unfolding view
  accepted_holds mark =
      let e : shown_of st lv ≡ result_shown (result_of st lv) = sym a.result.is in
      let n : args_of st ≡ length (result_shown (result_of st lv)).args = sym a.live.long ∙ ap (λ (x : Shown). length x.args) e in
      record {
        state = four st (omega arith)
            ∙ (λ j.
            record { tag = mark j; number = sym a.live.many j; payload = sym a.store.size j }
            ∷ record { tag = (get_or st 1 null).tag; number = sym a.wait j; payload = (e j).kind }
            ∷ (e j).value ∷ record { tag = (e j).second; number = a.zero_is j; payload = n j } ∷ tables_are j);
        free_live = drop (args_of st) (drop (frames_size (count_of st) lv) lv);
        live = a.live.is ∙ ap (λ (x : Shown). flat (frames_of st lv) ++ (x.args ++ drop (args_of st) (drop (frames_size (count_of st) lv) lv))) e ∙ sym (append_assoc (flat (frames_of st lv)) _ _);
        free_store = drop (size_of st) S;
        store = a.store.is;
      }

  accepted_fits : WorldFits P (record { live = length lv; store = length S }) (view st lv S)
  unfolding view
  accepted_fits =
      let free : List Cell = drop (args_of st) (drop (frames_size (count_of st) lv) lv) in
      let values = rw values_append at (rw tables_are at a.tables) in
      let size : length (result_shown (result_of st lv)).args ≡ result_cost (result_of st lv) = (result_out P (objects_of st S) S (size_of st) (stocked_reads P S a.store) (result_of st lv) a.result.fits).size in
      record {
        few = omega (arith, a.live.few, a.live.many);
        frames = a.live.frames;
        store = a.store.fits;
        result = a.result.fits;
        live = omega (arith, ap length a.live.is, length-append (flat (frames_of st lv)) ((shown_of st lv).args ++ free), length-append (shown_of st lv).args free, length_flat (frames_of st lv), size, ap (λ (x : Shown). length x.args) a.result.is);
        used = omega (arith, ap length a.store.is, length-append (store_cells (objects_of st S)) (drop (size_of st) S), length_store (objects_of st S));
        globals = (length-take-le 256 (drop 4 st) (rw length-drop (omega arith)), first _ _ values);
        builtins = (length-drop 260 st ∙ omega arith, second _ _ values);
        turn = a.turn;
      }

-- What the test accepts is a world in form, and is what that world is written as.
pub exact_in : (P : Program) (st lv S : List Cell) → length st ≡ 516 → (get_or st 0 null).tag ≡ 1 → in_form P S st lv ≡ true
    → Holds (view st lv S) st lv S × WorldFits P (record { live = length lv; store = length S }) (view st lv S)
exact_in P st lv S long mark f = let a = accepted P st lv S f in (accepted_holds P st lv S long a mark, accepted_fits P st lv S long a)

-- ---- What a world in form is written as
module _ (P : Program) (w : World) (st lv S : List Cell) (h : Holds w st lv S) (z : Sizes) (f : WorldFits P z w) where
  abbrev the_store : List Object
  the_store = w.machine.store

  abbrev the_frames : List Frame
  the_frames = w.machine.frames

  abbrev the_result : Shown
  the_result = result_shown w.machine.result

  reads_store : Reads w.machine.store S (used w.machine.store)
  reads_store = reads P [] w.machine.store S h.free_store f.store h.store

  live_is_lem : lv ≡ flat w.machine.frames ++ ((result_shown w.machine.result).args ++ h.free_live)
  live_is_lem = h.live ∙ append_assoc (flat w.machine.frames) (result_shown w.machine.result).args h.free_live

  result_of_lem : ResultOut P the_store S (used the_store) w.machine.result the_result
  result_of_lem = result_out P the_store S (used the_store) reads_store w.machine.result f.result

  live_of : LiveOut P S (used the_store) the_frames the_result.args lv
  live_of = rw live_is_lem (live_out P the_store S (used the_store) reads_store the_frames the_result.args h.free_live f.few f.frames result_of_lem.args)

  written_fits : in_form P S (state_cells w) lv ≡ true
  unfolding in_form
  written_fits =
      let turn : turn_fits (top_kind (length the_frames) the_result.kind lv) (bit w.wait) w.slice ≡ true =
      rw (live_is_lem, top_is P the_store S (used the_store) reads_store w.machine.result the_frames _ f.frames) (turn_out (top_of w.machine.result the_frames) w.wait w.slice f.turn) in
      let tables : all (value_fits P S (used the_store)) (w.machine.globals ++ w.machine.builtins) ≡ true =
      values_are P the_store S (used the_store) reads_store _ ∙ values_append P the_store w.machine.globals w.machine.builtins ∙ both_in f.globals.1 f.builtins.1 in
      both_in (store_out P S the_store h.free_store h.store f.store).0 (both_in live_of.fits (both_in result_of_lem.fits (both_in turn tables)))

  written_seen : view (state_cells w) lv S ≡ w
  unfolding view
  written_seen =
      let s = (store_out P S the_store h.free_store h.store f.store).1 in
      let g = take_at w.machine.globals w.machine.builtins 256 f.globals.0 in
      let b = drop_at w.machine.globals w.machine.builtins 256 f.globals.0 in
      let r = ap (λ (args : List Cell). read_result (record { kind = the_result.kind; value = the_result.value; second = the_result.second; args = args })) live_of.behind ∙ result_of_lem.read in
      λ j. record { machine = record { frames = live_of.frames j; store = s j; globals = g j; builtins = b j; result = r j }; wait = of_bit w.wait j; slice = w.slice }

-- What a world in form is written as passes the test, and it is that world which is read off.
pub exact_out : (P : Program) (w : World) (st lv S : List Cell) → Holds w st lv S → WorldFits P (record { live = length lv; store = length S }) w
    → (length st ≡ 516) × ((get_or st 0 null).tag ≡ 1) × (in_form P S st lv ≡ true) × (view st lv S ≡ w)
exact_out P w st lv S h f =
    let long : length (w.machine.globals ++ w.machine.builtins) ≡ 512 = length-append w.machine.globals w.machine.builtins ∙ omega (arith, f.globals.0, f.builtins.0) in (
      ap length h.state ∙ omega arith,
      ap (λ (l : List Cell). (get_or l 0 null).tag) h.state,
      rw h.state (written_fits P w st lv S h _ f),
      rw h.state (written_seen P w st lv S h _ f),
    )

-- Two worlds in form that the same cells hold are one.
pub world_unique : (P : Program) (v w : World) (st lv S : List Cell) → Holds v st lv S → Holds w st lv S → WorldFits P (record { live = length lv; store = length S }) v
    → WorldFits P (record { live = length lv; store = length S }) w → v ≡ w
world_unique P v w st lv S h i f g = sym (exact_out P v st lv S h f).3 ∙ (exact_out P w st lv S i g).3
