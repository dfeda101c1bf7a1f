-- A code that is read with the codes in it, and the image: what the tables hold then.
use Rattle.std.specs.Prelude.{◌≡◌, List, [], ◌∷◌, ◌++◌, Bool, true, false, not, ◌⊎◌, length, get_or, take, drop, set, eqb, Option, None, Some, Result, Ok, Err}
use Rattle.std.proofs.Math.Path.{refl, sym, ap}
use Rattle.std.proofs.Common.{◌∙◌, append_assoc, append-nil, take_all, add-one, add-zero, length-set, take-suc, take-suc-set, length-take-le}
use Prim.Native.Nat.{ℕ, zero, suc, ◌+◌, ◌-◌, ◌*◌, ◌<◌, ◌≤◌}
use Rattle.std.proofs.Math.Logic.{⊎_elim}
use native.Mathlib.Omega.{arith}
use Rattle.std.proofs.Math.Seq.{take-set-lt}
use borrow.Author.Tests.{lt-ltb, le-ltb, le-leb, lt-leb, eq-eqb, ne_eqb, not-true, not-false}
use Rattle.image.specs.Records.{if?, Answer, refused, accepted, then, size, body, after, whole}
use Rattle.layout.specs.RecordsLaws.{Behind, part_length}
use Rattle.image.specs.Image.{refusal, codes_at}
use Rattle.layout.specs.ImageLaws.{passed}
use Rattle.image.proofs.RowLaws.{row_within, with_codes, flat_codes}
use Rattle.image.specs.declared.Row.{Row}
use Rattle.image.specs.Layout.{flat, no_row, Tables, Found, found_from, finished, code_by, deeper, code, layout}
use Rattle.layout.specs.Tables.{view, Pushed, Ready, Front, Lies, Begins, Begun}
use Rattle.layout.specs.declared.Parts.{Parts}
use Rattle.layout.specs.declared.Sizes.{Sizes}
use Rattle.refusals.specs.Refusals.{number, number_of}
use Rattle.refusals.proofs.NumberLaws.{number_not_zero}
use Rattle.refusals.specs.declared.Refusal.{Refusal}
use Rattle.refusals.specs.declared.Refusal.TheVariants.{ImageStructure}

-- ---- A code is done: the numbers of the codes in it are put down
pub record Finishable (rows inner : List ℕ) (k kept : ℕ) (numbers : List ℕ) : Type 0 where
  pub row : 10 * k + 10 ≤ length rows
  pub room : kept + length numbers ≤ 256
  pub long : 256 ≤ length inner

pub record Finished (k kept : ℕ) (numbers rows inner rows' inner' : List ℕ) : Type 0 where
  pub marked : rows' ≡ set (set rows (10 * k + 8) kept) (10 * k + 9) (length numbers)
  pub listed : take (kept + length numbers) inner' ≡ take kept inner ++ numbers

pub record Copying (kept : ℕ) (numbers inner₀ : List ℕ) (i : ℕ) (inner : List ℕ) : Type 0 where
  pub listed : take (kept + i) inner ≡ take kept inner₀ ++ take i numbers
  pub size : length inner ≡ length inner₀

pub copying_first : (kept : ℕ) (numbers inner : List ℕ) → Copying kept numbers inner 0 inner
copying_first kept numbers inner = record { listed = rw add-zero (sym (append-nil (take kept inner))); size = refl }

module _ {kept : ℕ} {numbers inner₀ : List ℕ} {i : ℕ} {inner : List ℕ} (c : Copying kept numbers inner₀ i inner) where
  pub copying_next : {inner' : List ℕ} → i < length numbers → Pushed (kept + i) (get_or numbers i 0 ∷ []) inner inner' → length inner' ≡ length inner
      → Copying kept numbers inner₀ (i + 1) inner'
  copying_next {inner'} h p e =
      let n : kept + (i + 1) ≡ kept + i + 1 = omega arith in
      record {
        listed = rw n (rw (add-one i, take-suc numbers i 0 h) (p.does ∙ ap (λ (l : List ℕ). l ++ (get_or numbers i 0 ∷ [])) c.listed ∙ append_assoc (take kept inner₀) (take i numbers) (get_or numbers i 0 ∷ [])));
        size = e ∙ c.size;
      }

pub copying_ends : {kept : ℕ} {numbers inner₀ inner : List ℕ} → Copying kept numbers inner₀ (length numbers) inner → (k : ℕ) (rows : List Row) → Finishable (flat rows) inner₀ k kept numbers
    → Finished k kept numbers (flat rows) inner₀ (flat (set rows k (with_codes (get_or rows k no_row) kept (length numbers)))) inner
copying_ends {kept} {numbers} {inner₀} c k rows f = record {
  marked = sym (flat_codes rows k kept (length numbers) (row_within rows k f.row));
  listed = c.listed ∙ ap (λ (l : List ℕ). take kept inner₀ ++ l) (take_all (length numbers) numbers (omega arith));
}

-- ---- A code
-- what the answer and the tables say
abbrev pub out_of : Result Sizes Refusal → List ℕ → List ℕ → List ℕ → Answer Tables
out_of (Err r) rows constants inner = refused (number r)
out_of (Ok h) rows constants inner = accepted (view h.codes h.constants h.inner rows constants inner)

-- a code can be read: each code but the outermost gives one number of an inner code
pub record Open (base : ℕ) (s : List ℕ) (held : Sizes) (rows constants inner : List ℕ) : Type 0 where
  pub ready : Ready base s held.codes held.constants rows constants
  pub fewer : held.inner ≤ held.codes
  pub space : 256 ≤ length inner

pub record Span (held : Sizes) (by : ℕ) (now : Sizes) : Type 0 where
  pub more : held.codes < now.codes
  pub few : now.codes ≤ 256
  pub most : 6 * now.constants ≤ 6 * held.constants + by
  pub fewer : now.inner + held.codes + 1 ≤ held.inner + now.codes

abbrev pub Span? : Sizes → ℕ → Result Sizes Refusal → Type 0
Span? held by (Err r) = 0 ≤ by
Span? held by (Ok now) = Span held by now

-- a code was read
pub record Reads (d base : ℕ) (s : List ℕ) (held : Sizes) (rows constants inner : List ℕ) (r : Result Sizes Refusal) (rows' constants' inner' : List ℕ) : Type 0 where
  pub does : out_of r rows' constants' inner' ≡ code d base s (view held.codes held.constants held.inner rows constants inner)
  pub span : Span? held (length s) r

module _ (dp : ℕ → List ℕ → Tables → Answer Tables) (d : ℕ) where
  found_done : (f base : ℕ) (s : List ℕ) (at : ℕ) (r : Found) → length s ≤ at → found_from dp d f base s at r ≡ accepted r
  unfolding found_from
  found_done zero base s at r h = refl
  found_done (suc f) base s at r h = simp (le-leb _ _ h)

  found_not : (f base : ℕ) (s : List ℕ) (at : ℕ) (r : Found) → at < length s → length s ≤ at + f → (refusal d r.tables.codes s at ≡ 0 → ⊥)
      → found_from dp d f base s at r ≡ refused (refusal d r.tables.codes s at)
  unfolding found_from
  found_not zero base s at r h k n = absurd (omega arith)
  found_not (suc f) base s at r h k n = simp (lt-leb _ _ h, ne_eqb _ _ n)

  found_turn : (f base : ℕ) (s : List ℕ) (at : ℕ) (r : Found) → at < length s → length s ≤ at + f → refusal d r.tables.codes s at ≡ 0
      → found_from dp d f base s at r
      ≡ then (λ (t : Tables). found_from dp d (f - 1) base s (after s at) (record { numbers = r.numbers ++ (r.tables.codes ∷ []); tables = t })) (dp (base + (at + 6)) (body s at) r.tables)
  unfolding found_from
  found_turn zero base s at r h k n = absurd (omega arith)
  found_turn (suc f) base s at r h k n = let e : suc f - 1 ≡ f = omega arith in rw e (simp (lt-leb _ _ h, eq-eqb _ _ n))

deeper_is : (d base : ℕ) (s : List ℕ) (t : Tables) → 1 ≤ d → deeper d base s t ≡ code (d - 1) base s t
unfolding deeper
deeper_is zero base s t h = absurd (omega arith)
deeper_is (suc d) base s t h = let e : suc d - 1 ≡ d = omega arith in rw e

abbrev found : List ℕ → ℕ → Sizes → List ℕ → List ℕ → List ℕ → Found
found numbers count now rows constants inner = record { numbers = take count numbers; tables = view now.codes now.constants now.inner rows constants inner }

-- the loop over the codes in a code, from where it began: what is left of them is the whole
pub record Reading (d base : ℕ) (s rows₀ constants₀ inner₀ : List ℕ) (first : Sizes) (at₀ : ℕ) (numbers : List ℕ) (count : ℕ) (now : Sizes) (at : ℕ) (rows constants inner : List ℕ) : Type 0 where
  pub fuel : ℕ
  pub left : found_from (deeper d) d fuel base s at (found numbers count now rows constants inner)
      ≡ found_from (deeper d) d (length s) base s at₀ (record { numbers = []; tables = view first.codes first.constants first.inner rows₀ constants₀ inner₀ })
  pub enough : length s ≤ at + fuel
  pub inside : at ≤ length s
  pub counted : first.codes + count ≤ now.codes
  pub few : now.codes ≤ 256
  pub most : 6 * now.constants + at₀ ≤ 6 * first.constants + at
  pub fewer : now.inner + count + first.codes ≤ first.inner + now.codes
  pub rowsize : length rows ≡ length rows₀
  pub placesize : length constants ≡ length constants₀
  pub innersize : length inner ≡ length inner₀
  pub array : length numbers ≡ 256

-- what the tables hold when a code is begun
abbrev pub begun_sizes : Sizes → ℕ → Sizes
begun_sizes held to = record { codes = held.codes + 1; constants = to; inner = held.inner }

-- a code is begun, and the codes in it come
pub record Entered (d base : ℕ) (s : List ℕ) (held : Sizes) (rows constants inner rows₀ constants₀ inner₀ : List ℕ) (top₀ at₀ : ℕ) : Type 0 where
  pub whole : then (λ (r : Found). accepted (finished held.codes r)) (found_from (deeper d) d (length s) base s at₀ (record { numbers = []; tables = view (held.codes + 1) top₀ held.inner rows₀ constants₀ inner₀ }))
      ≡ code d base s (view held.codes held.constants held.inner rows constants inner)
  pub fit : Open base s held rows constants inner
  pub most : 6 * top₀ ≤ 6 * held.constants + at₀
  pub rowsize : length rows₀ ≡ length rows
  pub placesize : length constants₀ ≡ length constants
  pub innersize : length inner₀ ≡ length inner

codes_at_lem : {s : List ℕ} {p : Parts} → Lies s p → p.codes ≡ codes_at s
codes_at_lem {s} l = l.codes.is ∙ ap (after s) (l.constants.is ∙ ap (after s) (l.captures.is ∙ ap (after s) l.globals.is))

module _ {base : ℕ} {s : List ℕ} {codes used : ℕ} {rows constants : List ℕ} {f : Option ℕ} {rows' constants' : List ℕ} (w : Begins base s codes used rows constants f rows' constants') {to : ℕ} (b : f ≡ Some to) where
  pub begun : Begun used to s
  begun = rw b at w.room

  pub begun_front : Front s
  begun_front = begun.front

module _ {base : ℕ} {s : List ℕ} {held : Sizes} {rows constants : List ℕ} {f : Option ℕ} {rows' constants' : List ℕ} (w : Begins base s held.codes held.constants rows constants f rows' constants') where
  pub reads_broken : (d : ℕ) (inner : List ℕ) → f ≡ None → Reads d base s held rows constants inner (Err ImageStructure) rows' constants' inner
  unfolding code_by
  reads_broken d inner b = record { does = ap (then _) (rw b at (w.does held.inner inner)); span = omega arith }

  pub entered : {to : ℕ} → f ≡ Some to → (d : ℕ) {inner : List ℕ} {p : Parts} → Open base s held rows constants inner → Lies s p → length rows' ≡ length rows → length constants' ≡ length constants
      → Entered d base s held rows constants inner rows' constants' inner to p.codes
  unfolding code_by
  entered b d {inner} {p} o l i j = record {
    whole = rw (codes_at_lem l) (ap (then (λ (t : Tables). then (λ (r : Found). accepted (finished held.codes r)) (found_from (deeper d) d (length s) base s (codes_at s) (record { numbers = []; tables = t })))) (rw b at (w.does held.inner inner)));
    fit = o;
    most = omega (arith, (begun w b).most, codes_at_lem l);
    rowsize = i;
    placesize = j;
    innersize = refl;
  }

pub reading_first : (d base : ℕ) (s rows constants inner numbers : List ℕ) (now : Sizes) {p : Parts} → Lies s p → now.codes ≤ 256 → length numbers ≡ 256
    → Reading d base s rows constants inner now p.codes numbers 0 now p.codes rows constants inner
reading_first d base s rows constants inner numbers now l f m = record {
  fuel = length s;
  left = refl;
  enough = omega arith;
  inside = l.codes.most;
  counted = omega arith;
  few = f;
  most = omega arith;
  fewer = omega arith;
  rowsize = refl;
  placesize = refl;
  innersize = refl;
  array = m;
}

module _ {d base : ℕ} {s : List ℕ} {held : Sizes} {rowsₑ constantsₑ innerₑ rows₀ constants₀ inner₀ : List ℕ} {top₀ at₀ : ℕ}
    (n : Entered d base s held rowsₑ constantsₑ innerₑ rows₀ constants₀ inner₀ top₀ at₀)
    {numbers : List ℕ} {count : ℕ} {now : Sizes} {at : ℕ} {rows constants inner : List ℕ}
    (i : Reading d base s rows₀ constants₀ inner₀ (begun_sizes held top₀) at₀ numbers count now at rows constants inner) where
  pub reading_refused : {o : Result (Unit {0}) Refusal} → at < length s → number_of o ≡ refusal d now.codes s at → {r : Refusal} → o ≡ Err r → Reads d base s held rowsₑ constantsₑ innerₑ (Err r) rows constants inner
  reading_refused h w {r} b =
      let e : number r ≡ refusal d now.codes s at = rw b at w in
      record {
        does = ap refused e ∙ ap (then _) (sym (found_not (deeper d) d i.fuel base s at (found numbers count now rows constants inner) h i.enough (λ y. number_not_zero r (e ∙ y))) ∙ i.left) ∙ n.whole;
        span = omega arith;
      }

  pub reading_there : count ≤ length numbers
  reading_there = omega (arith, i.counted, i.few, i.array)

  numbers_length : length (take count numbers) ≡ count
  numbers_length = length-take-le count numbers reading_there

  pub reading_finishable : Finishable rows inner held.codes now.inner (take count numbers)
  reading_finishable = record {
    row = omega (arith, i.rowsize, n.rowsize, n.fit.ready.long, n.fit.ready.few);
    room = omega (arith, numbers_length, i.fewer, i.few, n.fit.fewer);
    long = omega (arith, i.innersize, n.innersize, n.fit.space);
  }

  pub reading_ends : {rows' inner' : List ℕ} → length s ≤ at → Finished held.codes now.inner (take count numbers) rows inner rows' inner'
      → Reads d base s held rowsₑ constantsₑ innerₑ (Ok (record { codes = now.codes; constants = now.constants; inner = now.inner + count })) rows' constants inner'
  reading_ends {rows'} {inner'} h f =
      let l = numbers_length in
      let a : take (10 * now.codes) rows' ≡ set (set (take (10 * now.codes) rows) (10 * held.codes + 8) now.inner) (10 * held.codes + 9) count =
      ap (take (10 * now.codes)) (rw l at f.marked) ∙ take-set-lt (10 * now.codes) _ (10 * held.codes + 9) count (omega (arith, i.counted))
      ∙ ap (λ (x : List ℕ). set x (10 * held.codes + 9) count) (take-set-lt (10 * now.codes) rows (10 * held.codes + 8) now.inner (omega (arith, i.counted))) in
      let e = ap (then (λ (r : Found). accepted (finished held.codes r))) (sym (found_done (deeper d) d i.fuel base s at (found numbers count now rows constants inner) h) ∙ i.left) ∙ n.whole in
      let q : take (now.inner + count) inner' ≡ take now.inner inner ++ take count numbers = rw l at f.listed in
      record {
        does = rw (a, q) (rw l at e);
        span = record { more = omega (arith, i.counted); few = i.few; most = omega (arith, i.most, i.inside, n.most); fewer = omega (arith, i.fewer) };
      }

  module _ (h : at < length s) {o : Result (Unit {0}) Refusal} (e : number_of o ≡ refusal d now.codes s at) {x : Unit {0}} (z : o ≡ Ok x) {end : ℕ} (w : Behind s at end) where
    inner_size : end - (at + 6) ≡ size s at
    inner_size = omega (arith, w.is)

    inner_length : length (take (end - (at + 6)) (drop (at + 6) s)) ≡ end - (at + 6)
    inner_length = part_length s (at + 6) end w.least w.most

    pub reading_open : Open (base + (at + 6)) (take (end - (at + 6)) (drop (at + 6) s)) now rows constants inner
    reading_open =
        let l = inner_length in
        let m = w.most in
        let o = w.least in
        record {
          ready = record {
            room = record {
              places = omega (arith, n.fit.ready.room.places);
              numbers = omega (arith, n.fit.ready.room.numbers, i.most, n.most);
              long = omega (arith, n.fit.ready.room.long, i.placesize, n.placesize);
            };
            few = (passed d now.codes s at e z).few;
            long = omega (arith, n.fit.ready.long, i.rowsize, n.rowsize);
          };
          fewer = omega (arith, i.fewer, n.fit.fewer);
          space = omega (arith, n.fit.space, i.innersize, n.innersize);
        }

    module _ {r : Result Sizes Refusal} {rows' constants' inner' : List ℕ}
        (v : Reads (d - 1) (base + (at + 6)) (take (end - (at + 6)) (drop (at + 6) s)) now rows constants inner r rows' constants' inner') where
      here : then (λ (t : Tables). found_from (deeper d) d (i.fuel - 1) base s (after s at) (record { numbers = take count numbers ++ (now.codes ∷ []); tables = t })) (out_of r rows' constants' inner')
          ≡ found_from (deeper d) d (length s) base s at₀ (record { numbers = []; tables = view (held.codes + 1) top₀ held.inner rows₀ constants₀ inner₀ })
      here =
          let t = found_turn (deeper d) d i.fuel base s at (found numbers count now rows constants inner) h i.enough (sym (rw z at e)) in
          let x : out_of r rows' constants' inner' ≡ code (d - 1) (base + (at + 6)) (body s at) (view now.codes now.constants now.inner rows constants inner) = rw inner_size at v.does in
          let k = x ∙ sym (deeper_is d (base + (at + 6)) (body s at) (view now.codes now.constants now.inner rows constants inner) (passed d now.codes s at e z).deep) in
          ap (then (λ (t : Tables). found_from (deeper d) d (i.fuel - 1) base s (after s at) (record { numbers = take count numbers ++ (now.codes ∷ []); tables = t }))) k ∙ sym t ∙ i.left

      pub reading_lost : {x' : Refusal} → r ≡ Err x' → Reads d base s held rowsₑ constantsₑ innerₑ (Err x') rows' constants' inner'
      reading_lost b = record { does = ap (then _) (rw b at here) ∙ n.whole; span = omega arith }

      pub reading_next : {now' : Sizes} → r ≡ Ok now' → length rows' ≡ length rows → length constants' ≡ length constants → length inner' ≡ length inner
          → Reading d base s rows₀ constants₀ inner₀ (begun_sizes held top₀) at₀ (set numbers count now.codes) (count + 1) now' end rows' constants' inner'
      reading_next {now'} b x y q =
          let g : Span now (length (take (end - (at + 6)) (drop (at + 6) s))) now' = rw b at v.span in
          let m : take (count + 1) (set numbers count now.codes) ≡ take count numbers ++ (now.codes ∷ []) =
          rw add-one (take-suc-set numbers count now.codes (omega (arith, i.counted, (passed d now.codes s at e z).few, i.array))) in
          record {
            fuel = i.fuel - 1;
            left = rw (m, w.is) (rw b at here);
            enough = omega (arith, i.enough, w.least);
            inside = w.most;
            counted = omega (arith, i.counted, g.more);
            few = g.few;
            most = omega (arith, i.most, g.most, inner_length, w.least);
            fewer = omega (arith, i.fewer, g.fewer);
            rowsize = x ∙ i.rowsize;
            placesize = y ∙ i.placesize;
            innersize = q ∙ i.innersize;
            array = simp length-set i.array;
          }

-- ---- The image
pub record Low (c u k : ℕ) : Type 0 where
  pub codes : c ≤ 256
  pub used : u ≤ 10922
  pub kept : k < c

abbrev pub Low? : Result Sizes Refusal → Type 0
Low? (Err r) = 0 ≤ number r
Low? (Ok h) = Low h.codes h.constants h.inner

-- the image was read
pub record Laid (s : List ℕ) (r : Result Sizes Refusal) (rows constants inner : List ℕ) : Type 0 where
  pub does : out_of r rows constants inner ≡ layout s
  pub low : Low? r

module _ (s : List ℕ) where
  pub layout_unsized : (length s < 6) ⊎ ((6 ≤ length s) × (65536 < length s)) → refused 1 ≡ layout s
  unfolding layout
  layout_unsized = ⊎_elim (λ h. simp (lt-ltb _ _ h)) (λ (h, k). simp (le-ltb _ _ h, lt-ltb _ _ k))

  module _ (h : 6 ≤ length s) where
    module _ (k : length s ≤ 65536) {t : Bool} (e : t ≡ whole s 0 1) where
      pub layout_not : not t ≡ true → refused 2 ≡ layout s
      unfolding layout
      layout_not n = simp (le-ltb _ _ h, le-ltb _ _ k, sym e, not-true t n)

      module _ (n : not t ≡ false) {end : ℕ} (w : Behind s 0 end) {rows constants inner : List ℕ} {r : Result Sizes Refusal} {rows' constants' inner' : List ℕ}
          (v : Reads 7 6 (take (end - 6) (drop 6 s)) (record { codes = 0; constants = 0; inner = 0 }) rows constants inner r rows' constants' inner') where
        layout_is : layout s ≡ then (λ (t : Tables). if? (eqb end (length s)) (accepted t) (refused 2)) (out_of r rows' constants' inner')
        unfolding layout
        layout_is =
            let z : end - 6 ≡ size s 0 = omega (arith, w.is) in
            let x : out_of r rows' constants' inner' ≡ code 7 6 (body s 0) (view 0 0 0 rows constants inner) = rw z at v.does in
            simp (le-ltb _ _ h, le-ltb _ _ k, sym e, not-false t n, sym x, w.is)

        pub layout_refused : {x : Refusal} → r ≡ Err x → Laid s (Err x) rows' constants' inner'
        layout_refused b = record { does = sym (rw b at layout_is); low = omega arith }

        module _ {now : Sizes} (b : r ≡ Ok now) where
          last : layout s ≡ if? (eqb end (length s)) (accepted (view now.codes now.constants now.inner rows' constants' inner')) (refused 2)
          last = rw b at layout_is

          pub layout_accepted : end ≡ length s → Laid s (Ok now) rows' constants' inner'
          layout_accepted y =
              let g : Span (record { codes = 0; constants = 0; inner = 0 }) (length (take (end - 6) (drop 6 s))) now = rw b at v.span in
              let l = part_length s 6 end w.least w.most in
              record {
                does = sym (last ∙ ap (λ (t : Bool). if? t (accepted (view now.codes now.constants now.inner rows' constants' inner')) (refused 2)) (eq-eqb _ _ y));
                low = record { codes = g.few; used = omega (arith, g.most); kept = omega (arith, g.fewer) };
              }

          pub layout_over : (end ≡ length s → ⊥) → Laid s (Err ImageStructure) rows' constants' inner'
          layout_over y = record { does = sym (last ∙ ap (λ (t : Bool). if? t (accepted (view now.codes now.constants now.inner rows' constants' inner')) (refused 2)) (ne_eqb _ _ y)); low = omega arith }
