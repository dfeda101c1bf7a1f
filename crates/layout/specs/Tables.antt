-- How the lent tables hold what was read, up to a code that is begun.
use Rattle.std.specs.Prelude.{◌≡◌, refl, List, [], ◌∷◌, ◌++◌, Bool, true, false, not, ℕ, zero, suc, ◌+◌, ◌-◌, ◌*◌, ◌/◌, ◌<◌, ◌≤◌, length, take, drop, set, Option, None, Some}
use Rattle.std.proofs.Math.Path.{sym}
use Rattle.std.proofs.Common.{ap, ◌∙◌, append_assoc, add-one, add_assoc, length-append, take-suc-set}
use native.Mathlib.Omega.{arith}
use borrow.Author.Tests.{le-leb, lt-leb, not-true, not-false}
use Rattle.image.specs.Records.{both, Answer, refused, accepted, then, size, body, after, whole, listed}
use Rattle.layout.specs.RecordsLaws.{Behind, part_length}
use Rattle.image.proofs.Parts.{first, second, whole_true, listed_true}
use Rattle.image.specs.Image.{opcodes_at, globals_at, captures_at, constants_at, codes_at, constant}
use Rattle.image.proofs.RowLaws.{row_within, flat_push}
use Rattle.image.specs.declared.Row.{Row}
use Rattle.image.specs.Layout.{numbers_of, flat, Tables, Places, places_from, front, row, row_of, begin}
use Rattle.layout.specs.declared.Parts.{Parts}

-- ---- The front of a code
pub record Front (s : List ℕ) : Type 0 where
  pub is : front s ≡ true
  pub globals : globals_at s ≤ length s
  pub captures : captures_at s ≤ length s
  pub constants : constants_at s ≤ length s
  pub codes : codes_at s ≤ length s

front_true : (s : List ℕ) → front s ≡ true → Front s
unfolding front
front_true s h =
    let a = second _ _ h in
    let b = second _ _ a in
    let c = second _ _ b in
    record {
      is = h;
      globals = listed_true s opcodes_at 2 6 (first _ _ a);
      captures = listed_true s (globals_at s) 3 2 (first _ _ b);
      constants = listed_true s (captures_at s) 4 4 (first _ _ c);
      codes = whole_true s (constants_at s) 5 (second _ _ c);
    }

pub front_of : (s : List ℕ) {t : Bool} → t ≡ front s → not t ≡ false → Front s
front_of s {t} e n = front_true s (sym e ∙ not-false t n)

module _ (s : List ℕ) where
  pub front_none : length s < 8 → false ≡ front s
  unfolding front both
  front_none h = simp (lt-leb _ _ h)

  module _ (h : 8 ≤ length s) {t : Bool} (e : t ≡ listed s 8 2 6) where
    pub front_opcodes : not t ≡ true → false ≡ front s
    unfolding front both
    front_opcodes n = simp (le-leb _ _ h, sym e, not-true t n)

    module _ (n : not t ≡ false) {g : ℕ} (b : Behind s 8 g) {u : Bool} (f : u ≡ listed s g 3 2) where
      pub front_globals : not u ≡ true → false ≡ front s
      unfolding front both
      front_globals m = let i : u ≡ listed s (globals_at s) 3 2 = rw b.is at f in simp (le-leb _ _ h, sym e, not-false t n, sym i, not-true u m)

      module _ (m : not u ≡ false) {c : ℕ} (d : Behind s g c) {v : Bool} (j : v ≡ listed s c 4 4) where
        pub front_captures : not v ≡ true → false ≡ front s
        unfolding front both
        front_captures o =
            let i : u ≡ listed s (globals_at s) 3 2 = rw b.is at f in
            let k : v ≡ listed s (captures_at s) 4 4 = rw (d.is, b.is) at j in
            simp (le-leb _ _ h, sym e, not-false t n, sym i, not-false u m, sym k, not-true v o)

        pub front_ends : not v ≡ false → {x : ℕ} → Behind s c x → {w : Bool} → w ≡ whole s x 5 → w ≡ front s
        unfolding front both
        front_ends o y {w} z =
            let i : u ≡ listed s (globals_at s) 3 2 = rw b.is at f in
            let k : v ≡ listed s (captures_at s) 4 4 = rw (d.is, b.is) at j in
            let l : w ≡ whole s (constants_at s) 5 = rw (y.is, d.is, b.is) at z in
            simp (le-leb _ _ h, sym e, not-false t n, sym i, not-false u m, sym k, not-false v o) l

-- where the records of a code lie, one behind the other
pub record Lies (s : List ℕ) (p : Parts) : Type 0 where
  pub globals : Behind s opcodes_at p.globals
  pub captures : Behind s p.globals p.captures
  pub constants : Behind s p.captures p.constants
  pub codes : Behind s p.constants p.codes

module _ {s : List ℕ} (f : Front s) {g : ℕ} (a : Behind s 8 g) where
  pub front_captures_fit : after s g ≤ length s
  front_captures_fit = rw a.is f.captures

  module _ {c : ℕ} (b : Behind s g c) where
    pub front_constants_fit : after s c ≤ length s
    front_constants_fit = rw (b.is, a.is) f.constants

    pub front_codes_fit : {k : ℕ} → Behind s c k → after s k ≤ length s
    front_codes_fit d = rw (d.is, b.is, a.is) f.codes

-- ---- What the tables hold
abbrev pub view : ℕ → ℕ → ℕ → List ℕ → List ℕ → List ℕ → Tables
view codes used kept rows constants inner =
    record { codes = codes; used = used; kept = kept; rows = take (10 * codes) rows; constants = take used constants; inner = take kept inner }

-- xs was put after the first n
pub record Pushed (n : ℕ) (xs old new : List ℕ) : Type 0 where
  pub does : take (n + length xs) new ≡ take n old ++ xs

pub pushed : (n v : ℕ) (old : List ℕ) → n < length old → Pushed n (v ∷ []) old (set old n v)
pushed n v old h = record { does = rw add-one (take-suc-set old n v h) }

pub pushed_row : (rows : List Row) (k : ℕ) (r : Row) → k < length rows → Pushed (10 * k) (numbers_of r) (flat rows) (flat (set rows k r))
pushed_row rows k r h = record { does = flat_push rows k r h }

-- ---- Constants: each takes six bytes at least, so 10,922 is the most
abbrev pub places_of : Option ℕ → List ℕ → Answer Places
places_of None constants = refused 2
places_of (Some n) constants = accepted (record { used = n; list = take n constants })

pub record Grown (used by n : ℕ) : Type 0 where
  pub least : used ≤ n
  pub most : 6 * n ≤ 6 * used + by
  pub low : n ≤ 10922

abbrev pub Grown? : ℕ → ℕ → Option ℕ → Type 0
Grown? used by None = 0 ≤ by
Grown? used by (Some n) = Grown used by n

-- the constants of s were listed
pub record Listed (base : ℕ) (s : List ℕ) (used : ℕ) (constants : List ℕ) (r : Option ℕ) (constants' : List ℕ) : Type 0 where
  pub does : places_of r constants' ≡ places_from (length s) base s 0 (record { used = used; list = take used constants })
  pub room : Grown? used (length s) r

-- there is room for all that s can give
pub record Room (base : ℕ) (s : List ℕ) (used : ℕ) (constants : List ℕ) : Type 0 where
  pub places : base + length s ≤ 65536
  pub numbers : 6 * used + length s ≤ 65536
  pub long : 10923 ≤ length constants

-- the loop over the constants: what is left of them is the whole
pub record Listing (base : ℕ) (s : List ℕ) (used₀ : ℕ) (constants₀ : List ℕ) (at to : ℕ) (constants : List ℕ) : Type 0 where
  pub fuel : ℕ
  pub left : places_from fuel base s at (record { used = to; list = take to constants }) ≡ places_from (length s) base s 0 (record { used = used₀; list = take used₀ constants₀ })
  pub enough : length s ≤ at + fuel
  pub inside : at ≤ length s
  pub least : used₀ ≤ to
  pub most : 6 * to ≤ 6 * used₀ + at
  pub size : length constants ≡ length constants₀

pub listing_first : (base : ℕ) (s : List ℕ) (used : ℕ) (constants : List ℕ) → Listing base s used constants 0 used constants
listing_first base s used constants = record { fuel = length s; left = refl; enough = omega arith; inside = omega arith; least = omega arith; most = omega arith; size = refl }

places_done : (f base : ℕ) (s : List ℕ) (at : ℕ) (p : Places) → length s ≤ at → places_from f base s at p ≡ accepted p
unfolding places_from
places_done zero base s at p h = refl
places_done (suc f) base s at p h = simp (le-leb _ _ h)

places_not : (f base : ℕ) (s : List ℕ) (at : ℕ) (p : Places) → at < length s → length s ≤ at + f → constant s at ≡ false → places_from f base s at p ≡ refused 2
unfolding places_from
places_not zero base s at p h k e = absurd (omega arith)
places_not (suc f) base s at p h k e = simp (lt-leb _ _ h, e)

places_turn : (f base : ℕ) (s : List ℕ) (at : ℕ) (p : Places) → at < length s → length s ≤ at + f → constant s at ≡ true
    → places_from f base s at p ≡ places_from (f - 1) base s (after s at) (record { used = p.used + 1; list = p.list ++ ((base + at) ∷ []) })
unfolding places_from
places_turn zero base s at p h k e = absurd (omega arith)
places_turn (suc f) base s at p h k e = let n : suc f - 1 ≡ f = omega arith in rw n (simp (lt-leb _ _ h, e))

module _ {base : ℕ} {s : List ℕ} {used₀ : ℕ} {constants₀ : List ℕ} {at to : ℕ} {constants : List ℕ} (i : Listing base s used₀ constants₀ at to constants) where
  pub listing_ends : length s ≤ at → Room base s used₀ constants₀ → Listed base s used₀ constants₀ (Some to) constants
  listing_ends h q = record {
    does = sym (places_done i.fuel base s at (record { used = to; list = take to constants }) h) ∙ i.left;
    room = record { least = i.least; most = omega (arith, i.most, i.inside); low = omega (arith, i.most, i.inside, q.numbers) };
  }

  module _ (h : at < length s) {t : Bool} (e : t ≡ constant s at) where
    pub listing_broken : not t ≡ true → Listed base s used₀ constants₀ None constants
    listing_broken n = record {
      does = sym (places_not i.fuel base s at (record { used = to; list = take to constants }) h i.enough (sym e ∙ not-true t n)) ∙ i.left;
      room = omega arith;
    }

    pub listing_next : not t ≡ false → {next : ℕ} {constants' : List ℕ} → Pushed to ((base + at) ∷ []) constants constants' → length constants' ≡ length constants → Behind s at next
        → Listing base s used₀ constants₀ next (to + 1) constants'
    listing_next n p k b = record {
      fuel = i.fuel - 1;
      left = rw (b.is, p.does) (sym (places_turn i.fuel base s at (record { used = to; list = take to constants }) h i.enough (sym e ∙ not-false t n)) ∙ i.left);
      enough = omega (arith, i.enough, b.least);
      inside = b.most;
      least = omega (arith, i.least);
      most = omega (arith, i.most, b.least);
      size = k ∙ i.size;
    }

module _ {base : ℕ} {s : List ℕ} {used : ℕ} {constants : List ℕ} {d : Option ℕ} {constants' : List ℕ} {to : ℕ} (w : Listed base s used constants d constants') (b : d ≡ Some to) where
  pub listed_grown : Grown used (length s) to
  listed_grown = rw b at w.room

  pub listed_least : used ≤ to
  listed_least = listed_grown.least

  pub listed_fits : to - used < 4294967296
  listed_fits = omega (arith, listed_grown.low)

-- ---- A code that is begun
pub record Ready (base : ℕ) (s : List ℕ) (codes used : ℕ) (rows constants : List ℕ) : Type 0 where
  pub room : Room base s used constants
  pub few : codes < 256
  pub long : 2560 ≤ length rows

pub record Begun (used n : ℕ) (s : List ℕ) : Type 0 where
  pub most : 6 * n ≤ 6 * used + codes_at s
  pub front : Front s

abbrev pub Begun? : ℕ → Option ℕ → List ℕ → Type 0
Begun? used None s = 0 ≤ used
Begun? used (Some n) s = Begun used n s

abbrev pub begun_of : ℕ → ℕ → Option ℕ → List ℕ → List ℕ → List ℕ → Answer Tables
begun_of codes kept None rows constants inner = refused 2
begun_of codes kept (Some n) rows constants inner = accepted (view (codes + 1) n kept rows constants inner)

-- whatever numbers of inner codes are there
pub record Begins (base : ℕ) (s : List ℕ) (codes used : ℕ) (rows constants : List ℕ) (r : Option ℕ) (rows' constants' : List ℕ) : Type 0 where
  pub does : (kept : ℕ) (inner : List ℕ) → begun_of codes kept r rows' constants' inner ≡ begin base s (view codes used kept rows constants inner)
  pub room : Begun? used r s

module _ (base : ℕ) (s : List ℕ) (codes used : ℕ) (rows constants : List ℕ) where
  pub begin_not : {t : Bool} → t ≡ front s → not t ≡ true → Begins base s codes used rows constants None rows constants
  unfolding begin
  begin_not {t} e n = record { does = λ kept inner. simp (sym e, not-true t n); room = omega arith }

  module _ (f : Front s) {p : Parts} (l : Lies s p) {d : Option ℕ} {constants' : List ℕ}
      (w : Listed (base + (p.constants + 6)) (take (p.codes - (p.constants + 6)) (drop (p.constants + 6) s)) used constants d constants') where
    at_captures : p.captures ≡ captures_at s
    at_captures = l.captures.is ∙ ap (after s) l.globals.is

    at_constants : p.constants ≡ constants_at s
    at_constants = l.constants.is ∙ ap (after s) at_captures

    own_size : p.codes - (p.constants + 6) ≡ size s p.constants
    own_size = omega (arith, l.codes.is)

    own_length : length (take (p.codes - (p.constants + 6)) (drop (p.constants + 6) s)) ≡ size s p.constants
    own_length = part_length s (p.constants + 6) p.codes l.codes.least l.codes.most ∙ own_size

    places : places_of d constants' ≡ places_from (size s (constants_at s)) (base + (constants_at s + 6)) (body s (constants_at s)) 0 (record { used = used; list = take used constants })
    places = rw at_constants at (rw own_size at (rw own_length at w.does))

    begin_is : (kept : ℕ) (inner : List ℕ) → begin base s (view codes used kept rows constants inner)
        ≡ then (λ (q : Places). accepted (record { codes = codes + 1; used = q.used; kept = kept; rows = take (10 * codes) rows ++ row base s used q.used; constants = q.list; inner = take kept inner })) (places_of d constants')
    unfolding begin
    begin_is kept inner = simp (f.is, sym places)

    pub begin_broken : d ≡ None → Begins base s codes used rows constants None rows constants'
    begin_broken b = record { does = λ kept inner. sym (rw b at (begin_is kept inner)); room = omega arith }

    pub begin_ends : {to : ℕ} → d ≡ Some to → {rows' : List ℕ}
        → Pushed (10 * codes) (row_of base ((p.globals + 6 - 20) / 6) (base + (p.globals + 6)) ((p.captures + 6 - 6 - (p.globals + 6)) / 2)
        (base + (p.captures + 6)) ((p.constants + 6 - 6 - (p.captures + 6)) / 4) used (to - used)) rows rows'
        → Begins base s codes used rows constants (Some to) rows' constants'
    begin_ends {to} b {rows'} r =
        let n : 10 * (codes + 1) ≡ 10 * codes + 10 = omega arith in
        let x : p.globals + 6 - 20 ≡ size s opcodes_at = omega (arith, l.globals.is) in
        let y : p.captures + 6 - 6 - (p.globals + 6) ≡ size s p.globals = omega (arith, l.captures.is) in
        let z : p.constants + 6 - 6 - (p.captures + 6) ≡ size s p.captures = omega (arith, l.constants.is) in
        let u = listed_grown w b in
        record {
          does = λ kept inner. rw (n, r.does, x, y, z, at_captures, l.globals.is) (sym (rw b at (begin_is kept inner)));
          room = record { most = omega (arith, u.most, own_length, l.codes.is, at_constants, ap (size s) at_constants); front = f };
        }
