-- `layout` and `parse` are one: the tables that the reader fills stand for the program that the image is.
use Rattle.std.specs.Prelude.{◌≡◌, Bool, get_or, set, ltb, leb, eqb}
use Rattle.std.proofs.Math.Path.{refl, ap₂}
use Rattle.std.proofs.Common.{sym, ap, ◌∙◌, arith, add-zero, length-set, get_or-append-add, get_or-set_same, get_or-set_other, ext_get_or, eqb-true}
use mathlib.Core.List.{List, [], ◌∷◌, ◌++◌, map, map-id, append-nil, append_assoc}
use Rattle.std.proofs.Math.Bool.{true, false}
use Prim.Native.Nat.{ℕ, zero, suc, ◌+◌, ◌-◌, ◌*◌, ◌/◌, ◌<◌}
use Rattle.std.proofs.Math.Decide.{ℕ_discrete, dec_lt}
use Rattle.std.proofs.Math.ListN.{length, length-append, get_or-append}
use Rattle.std.proofs.Math.Seq.{get_or-append_seam, set-append_seam}
use Rattle.cells.specs.Le.{le_at}
use Rattle.image.specs.Records.{if?, both, Answer, refused, accepted, then, size, kind, body, after, whole}
use Rattle.image.specs.Program.{Code, tab, no_code, program_fine}
use Rattle.image.specs.Image.{opcodes_at, globals_at, captures_at, constants_at, codes_at, constant, constants?, constants_from, own, code_of, refusal, Inner, none, inner_from, read_by, read_inner, parse}
use Rattle.image.specs.Layout.{Tables, empty, Places, places_from, front, row, begin, Found, found_from, finished, code_by, deeper, code, layout, field, opcode_at, capture_at, constant_at, code_at, program_of}
use Rattle.image.specs.Parts.{Part, There, Own}
use Rattle.image.proofs.Parts.{first, second, both_assoc, length_tab, tab_at, tab_same, tab_span, part_whole, part_body, part_number, whole_true, constant_true, own_true, entered}
use Rattle.image.specs.declared.Constant.{Constant}
use Rattle.image.specs.Agrees.{Shows}

-- ---- two answers are alike: refused with one number, or accepted with what P relates
data Alike {A B : Type 0} (P : A → B → Type 0) : Answer A → Answer B → Type 0 where
  both_refused : {k : ℕ} → Alike P (refused k) (refused k)
  both_accepted : {a : A} {b : B} → P a b → Alike P (accepted a) (accepted b)

module _ {A B : Type 0} {P : A → B → Type 0} where
  alike_if : (t : Bool) {x x' : Answer A} {y y' : Answer B} → (t ≡ true → Alike P x y) → (t ≡ false → Alike P x' y') → Alike P (if? t x x') (if? t y y')
  alike_if true f g = f refl
  alike_if false f g = g refl

  alike_then : {C D : Type 0} {Q : C → D → Type 0} {f : A → Answer C} {g : B → Answer D} {x : Answer A} {y : Answer B} → Alike P x y → ((a : A) (b : B) → P a b → Alike Q (f a) (g b)) → Alike Q (then f x) (then g y)
  alike_then both_refused w = both_refused
  alike_then (both_accepted h) w = w _ _ h

  alike_right : {D : Type 0} {Q : A → D → Type 0} {g : B → Answer D} {x : Answer A} {y : Answer B} → Alike P x y → ((a : A) (b : B) → P a b → Alike Q (accepted a) (g b)) → Alike Q x (then g y)
  alike_right both_refused w = both_refused
  alike_right (both_accepted h) w = w _ _ h

  alike_begun : {T : Type 0} (f : T → Answer A) (x : T) (k : ℕ) (t : Bool) {y : Answer B} → (t ≡ true → Alike P (f x) y) → Alike P (then f (if? t (accepted x) (refused k))) (if? t y (refused k))
  alike_begun f x k true h = h refl
  alike_begun f x k false h = both_refused

  alike_is : {C : Type 0} {f : A → Answer C} {g : B → Answer C} {x : Answer A} {y : Answer B} → Alike P x y → ((a : A) (b : B) → P a b → f a ≡ g b) → then f x ≡ then g y
  alike_is both_refused w = refl
  alike_is (both_accepted h) w = w _ _ h

-- ---- the places of a code's constants
unfoldable places : ℕ → ℕ → List ℕ → ℕ → List ℕ
places zero base s at = []
places (suc f) base s at = if? (leb (length s) at) [] ((base + at) ∷ places f base s (after s at))

abbrev grown : Places → List ℕ → Places
grown p l = record { used = p.used + length l; list = p.list ++ l }

places_is : (f base : ℕ) (s : List ℕ) (at : ℕ) (p : Places) → places_from f base s at p ≡ if? (constants? f s at) (accepted (grown p (places f base s at))) (refused 2)
unfolding places_from constants? places both
places_is zero base s at p = rw (add-zero, append-nil)
places_is (suc f) base s at p =
    by (leb (length s) at) (constant s at) _ _ _ (places_is f base s (after s at) (record { used = p.used + 1; list = p.list ++ ((base + at) ∷ []) }))
  where
    by : (a b c : Bool) (l : List ℕ) (x : Answer Places) → x ≡ if? c (accepted (record { used = p.used + 1 + length l; list = p.list ++ ((base + at) ∷ []) ++ l })) (refused 2)
        → if? a (accepted p) (if? b x (refused 2)) ≡ if? (if? a true (both b c)) (accepted (grown p (if? a [] ((base + at) ∷ l)))) (refused 2)
    by true b c l x h = rw (add-zero, append-nil)
    by false true c l x h = let e : p.used + 1 + length l ≡ p.used + suc (length l) = omega arith in rw (e, append_assoc) at h
    by false false c l x h = refl

module _ {image : List ℕ} {base : ℕ} {s : List ℕ} (q : Part image base s) where
  constant_is : (at : ℕ) → There s at → ◌≡◌ {A = Constant} (constant_at image (base + at)) (record { kind = kind s at; place = base + (at + 6); size = size s at })
  constant_is at w =
      let k : le_at 2 image (base + at + 4) ≡ le_at 2 s (at + 4) = part_number q 2 (at + 4) (omega arith) (omega (arith, w.fits)) in
      let p : base + at + 6 ≡ base + (at + 6) = omega arith in
      λ i. record { kind = k i; place = p i; size = part_number q 4 at refl (omega (arith, w.fits)) i }

  -- what stands at them in the image
  constants_are : (f at : ℕ) → constants? f s at ≡ true → map (constant_at image) (places f base s at) ≡ constants_from f base s at
  unfolding constants? places constants_from
  constants_are zero at h = refl
  constants_are (suc f) at h = by (leb (length s) at) (constants_are f (after s at)) h
    where
      by : (a : Bool) → (constants? f s (after s at) ≡ true → map (constant_at image) (places f base s (after s at)) ≡ constants_from f base s (after s at))
          → if? a true (both (constant s at) (constants? f s (after s at))) ≡ true
          → map (constant_at image) (if? a [] ((base + at) ∷ places f base s (after s at)))
          ≡ if? a [] (record { kind = kind s at; place = base + (at + 6); size = size s at } ∷ constants_from f base s (after s at))
      by true ih h = refl
      by false ih h = ap₂ (λ (x : Constant) (l : List Constant). x ∷ l) (constant_is at (constant_true s at (first _ _ h))) (ih (second _ _ h))

-- those of a code, and the tables once it is begun
abbrev mine : ℕ → List ℕ → List ℕ
mine base s = places (size s (constants_at s)) (base + (constants_at s + 6)) (body s (constants_at s)) 0

abbrev begun : ℕ → List ℕ → Tables → Tables
begun base s t = record {
  codes = t.codes + 1;
  used = t.used + length (mine base s);
  kept = t.kept;
  rows = t.rows ++ row base s t.used (t.used + length (mine base s));
  constants = t.constants ++ mine base s;
  inner = t.inner;
}

own_is : (s : List ℕ) → own s ≡ both (front s) (constants? (size s (constants_at s)) (body s (constants_at s)) 0)
unfolding own front
own_is s = simp both_assoc

begin_is : (base : ℕ) (s : List ℕ) (t : Tables) → begin base s t ≡ if? (own s) (accepted (begun base s t)) (refused 2)
unfolding begin both
begin_is base s t = rw (own_is s, places_is) (by (front s) (constants? (size s (constants_at s)) (body s (constants_at s)) 0) _ _)
  where
    by : (a b : Bool) (f : Places → Answer Tables) (p : Places) → if? a (then f (if? b (accepted p) (refused 2))) (refused 2) ≡ if? (both a b) (f p) (refused 2)
    by true true f p = refl
    by true false f p = refl
    by false b f p = refl

pub shows_program : {image : List ℕ} {t : Tables} {p : List Code} → Shows image t p → program_of image t ≡ p
shows_program {image} {t} {p} w =
    ext_get_or no_code _ _ (length_tab _ _ ∙ w.codes)
    (λ i h. let l : i < t.codes = rw length_tab at h in
    tab_at _ _ i no_code l ∙ simp append-nil at (w.each i [] [] (omega (arith, w.codes))))

shows_empty : (image : List ℕ) → Shows image empty []
shows_empty image = record { codes = refl; used = refl; kept = refl; rows = refl; each = λ k xs ys h. absurd (omega arith) }

-- a code goes by its row
code_same : (image cs is rows rows' : List ℕ) (k : ℕ) → ((f : ℕ) → f < 10 → field rows k f ≡ field rows' k f) → code_at image rows cs is k ≡ code_at image rows' cs is k
code_same image cs is rows rows' k h =
    rw (h 0 (omega arith), h 1 (omega arith), h 2 (omega arith), h 3 (omega arith), h 4 (omega arith), h 5 (omega arith), h 6 (omega arith), h 7 (omega arith), h 8 (omega arith), h 9 (omega arith))

field_old : (rows r : List ℕ) (n k f : ℕ) → length rows ≡ 10 * n → k < n → f < 10 → field (rows ++ r) k f ≡ field rows k f
field_old rows r n k f e h l = get_or-append rows r 0 (10 * k + f) (omega arith)

field_new : (rows r : List ℕ) (k f : ℕ) → length rows ≡ 10 * k → field (rows ++ r) k f ≡ get_or r f 0
field_new rows r k f e = rw (← e) (get_or-append-add rows r f 0)

-- ---- a code is begun
module _ {image : List ℕ} {base : ℕ} {s : List ℕ} (q : Part image base s) (o : Own s) where
  opcodes_are : tab (size s opcodes_at / 6) (opcode_at image (base + 14)) ≡ (code_of base s []).opcodes
  opcodes_are = tab_same _ _ _ λ i h.
      let n : le_at 2 image (base + 14 + 6 * i) ≡ le_at 2 s (14 + 6 * i) = part_number q 2 (14 + 6 * i) (omega arith) (omega (arith, o.opcodes)) in
      let x : le_at 4 image (base + 14 + 6 * i + 2) ≡ le_at 4 s (14 + 6 * i + 2) = part_number q 4 (14 + 6 * i + 2) (omega arith) (omega (arith, o.opcodes)) in
      λ j. record { number = n j; operand = x j }

  globals_are : tab (size s (globals_at s) / 2) (λ (i : ℕ). le_at 2 image (base + (globals_at s + 6) + 2 * i)) ≡ (code_of base s []).globals
  globals_are = tab_same _ _ _ λ i h. part_number q 2 (globals_at s + 6 + 2 * i) (omega arith) (omega (arith, o.globals))

  captures_are : tab (size s (captures_at s) / 4) (capture_at image (base + (captures_at s + 6))) ≡ (code_of base s []).captures
  captures_are = tab_same _ _ _ λ i h.
      let n : le_at 2 image (base + (captures_at s + 6) + 4 * i) ≡ le_at 2 s (captures_at s + 6 + 4 * i) = part_number q 2 (captures_at s + 6 + 4 * i) (omega arith) (omega (arith, o.captures)) in
      let x : le_at 2 image (base + (captures_at s + 6) + 4 * i + 2) ≡ le_at 2 s (captures_at s + 6 + 4 * i + 2) = part_number q 2 (captures_at s + 6 + 4 * i + 2) (omega arith) (omega (arith, o.captures)) in
      λ j. record { from = n j; index = x j }

  mine_are : (cs xs : List ℕ) → tab (length cs + length (mine base s) - length cs) (λ (j : ℕ). constant_at image (get_or (cs ++ (mine base s ++ xs)) (length cs + j) 0)) ≡ (code_of base s []).constants
  mine_are cs xs =
      let e : length cs + length (mine base s) - length cs ≡ length (mine base s) = omega arith in
      rw e (tab_span (constant_at image) cs (mine base s) xs ∙ constants_are (part_body q (constants_at s) o.constants) (size s (constants_at s)) 0 o.fine)

  begun_code : (rows cs xs is : List ℕ) (k : ℕ) → length rows ≡ 10 * k
      → code_at image (rows ++ row base s (length cs) (length cs + length (mine base s))) (cs ++ (mine base s ++ xs)) is k ≡ code_of base s []
  unfolding tab
  begun_code rows cs xs is k e =
      let n : (f : ℕ) → _ = λ f. field_new rows (row base s (length cs) (length cs + length (mine base s))) k f e in
      rw (n 0, n 1, n 2, n 3, n 4, n 5, n 6, n 7, n 8, n 9)
      λ j. record {
        params = part_number q 2 0 {x = base} (omega arith) (omega (arith, o.opcodes)) j;
        variadic = part_number q 2 2 refl (omega (arith, o.opcodes)) j;
        locals = part_number q 2 4 refl (omega (arith, o.opcodes)) j;
        stack_size = part_number q 2 6 refl (omega (arith, o.opcodes)) j;
        opcodes = opcodes_are j;
        globals = globals_are j;
        captures = captures_are j;
        constants = mine_are cs xs j;
        codes = [];
      }

  shows_begun : {t : Tables} {p : List Code} → Shows image t p → Shows image (begun base s t) (p ++ (code_of base s [] ∷ []))
  shows_begun {t} {p} w = record {
    codes = simp length-append (omega (arith, w.codes));
    used = simp length-append (omega (arith, w.used));
    kept = w.kept;
    rows = simp length-append (omega (arith, w.rows));
    each = λ k xs ys h. by k xs ys (rw length-append at h) (dec_lt k (length p));
  }
    where
      by : (k : ℕ) (xs ys : List ℕ) → k < length p + 1 → Dec (k < length p) → code_at image (begun base s t).rows (t.constants ++ mine base s ++ xs) (t.inner ++ ys) k ≡ get_or (p ++ (code_of base s [] ∷ [])) k no_code
      by k xs ys h (yes l) =
          code_same image (t.constants ++ mine base s ++ xs) (t.inner ++ ys) (begun base s t).rows t.rows k
          (λ f b. field_old t.rows (row base s t.used (t.used + length (mine base s))) (length p) k f w.rows l b)
          ∙ ap (λ (l : List ℕ). code_at image t.rows l (t.inner ++ ys) k) (append_assoc t.constants (mine base s) xs)
          ∙ w.each k (mine base s ++ xs) ys l
          ∙ sym (get_or-append p _ no_code k l)
      by k xs ys h (no l) =
          let e : k ≡ length p = omega arith in
          rw (e, w.used, append_assoc) (begun_code t.rows t.constants xs (t.inner ++ ys) (length p) w.rows ∙ sym (get_or-append_seam p _ [] no_code))

-- ---- a code is done
-- of a list, all but the item at the seam is kept
seam_other : (p : List Code) (a b : Code) (cs : List Code) (j : ℕ) → (j ≡ length p → ⊥) → get_or (p ++ (a ∷ cs)) j no_code ≡ get_or (p ++ (b ∷ cs)) j no_code
seam_other p a b cs j n = sym (ap (λ (l : List Code). get_or l j no_code) (sym (set-append_seam p a cs b)) ∙ get_or-set_other (p ++ (a ∷ cs)) (length p) j b no_code n)

-- two numbers of row k are set: the others, and all other rows, are kept
field_kept : (rows : List ℕ) (k a b j f : ℕ) → (10 * j + f ≡ 10 * k + 8 → ⊥) → (10 * j + f ≡ 10 * k + 9 → ⊥) → field (set (set rows (10 * k + 8) a) (10 * k + 9) b) j f ≡ field rows j f
field_kept rows k a b j f m n = get_or-set_other (set rows (10 * k + 8) a) (10 * k + 9) (10 * j + f) b 0 n ∙ get_or-set_other rows (10 * k + 8) (10 * j + f) a 0 m

module _ {image : List ℕ} (base : ℕ) (s : List ℕ) (p cs : List Code) (r : Found) (w : Shows image r.tables (p ++ (code_of base s [] ∷ cs))) where
  numbers_are : (ys : List ℕ) → tab (length r.numbers) (λ (j : ℕ). get_or (r.tables.inner ++ r.numbers ++ ys) (r.tables.kept + j) 0) ≡ r.numbers
  numbers_are ys = rw (w.kept, append_assoc) (tab_span (λ (x : ℕ). x) r.tables.inner r.numbers ys ∙ map-id r.numbers)

  finished_code : (j : ℕ) (xs ys : List ℕ) → j < length (p ++ (code_of base s [] ∷ cs)) → Dec (j ≡ length p)
      → code_at image (finished (length p) r).rows (r.tables.constants ++ xs) (r.tables.inner ++ r.numbers ++ ys) j ≡ get_or (p ++ (code_of base s r.numbers ∷ cs)) j no_code
  finished_code j xs ys h (no n) =
      code_same image (r.tables.constants ++ xs) (r.tables.inner ++ r.numbers ++ ys) (finished (length p) r).rows r.tables.rows j
      (λ f b. field_kept r.tables.rows (length p) _ _ j f (λ e. n (omega arith)) (λ e. n (omega arith)))
      ∙ ap (λ (l : List ℕ). code_at image r.tables.rows (r.tables.constants ++ xs) l j) (append_assoc r.tables.inner r.numbers ys)
      ∙ w.each j xs (r.numbers ++ ys) h
      ∙ seam_other p _ _ cs j n
  finished_code j xs ys h (yes e) =
      let k = length p in
      let rows = r.tables.rows in
      let l : 10 * k + 9 < length rows = omega (arith, w.rows) in
      let o : code_at image rows (r.tables.constants ++ xs) (r.tables.inner ++ (r.numbers ++ ys)) k ≡ code_of base s [] = w.each k xs (r.numbers ++ ys) (omega arith) ∙ get_or-append_seam p _ cs no_code in
      let f : (f : ℕ) → f < 8 → field (finished k r).rows k f ≡ field rows k f = λ f b. field_kept rows k _ _ k f (omega arith) (omega arith) in
      let f8 : field (finished k r).rows k 8 ≡ r.tables.kept = get_or-set_other (set rows (10 * k + 8) _) (10 * k + 9) (10 * k + 8) _ 0 (omega arith) ∙ get_or-set_same rows (10 * k + 8) _ 0 (omega arith) in
      let f9 : field (finished k r).rows k 9 ≡ length r.numbers = get_or-set_same (set rows (10 * k + 8) r.tables.kept) (10 * k + 9) _ 0 (simp length-set l) in
      rw e
      (rw (get_or-append_seam p (code_of base s r.numbers) cs no_code, f 0 (omega arith), f 1 (omega arith), f 2 (omega arith), f 3 (omega arith), f 4 (omega arith), f 5 (omega arith), f 6 (omega arith), f 7 (omega arith), f8, f9)
      λ i. record {
        params = (o i).params;
        variadic = (o i).variadic;
        locals = (o i).locals;
        stack_size = (o i).stack_size;
        opcodes = (o i).opcodes;
        globals = (o i).globals;
        captures = (o i).captures;
        constants = (o i).constants;
        codes = numbers_are ys i;
      })

  shows_finished : Shows image (finished (length p) r) (p ++ (code_of base s r.numbers ∷ cs))
  shows_finished = record {
    codes = w.codes ∙ simp length-append;
    used = w.used;
    kept = simp length-append (omega (arith, w.kept));
    rows = simp (length-append, length-set) (simp length-append at w.rows);
    each = λ j xs ys h. finished_code j xs ys (simp length-append (simp length-append at h)) (ℕ_discrete j (length p));
  }

-- ---- the codes in a code
-- the codes found are those read, behind what was there
record Finds (image ns : List ℕ) (p : List Code) (r : Found) (q : Inner) : Type 0 where
  numbers : r.numbers ≡ ns ++ q.numbers
  shows : Shows image r.tables (p ++ q.codes)

none_found : {image : List ℕ} {r : Found} {p : List Code} → Shows image r.tables p → Alike (Finds image r.numbers p) (accepted r) (accepted none)
none_found {r = r} w = both_accepted {a = r} {b = none} (record { numbers = sym (append-nil _); shows = rw append-nil w })

-- a reader of codes into tables and a reader of codes do the same
record SameReader (image : List ℕ) (f : ℕ → List ℕ → Tables → Answer Tables) (g : ℕ → ℕ → List ℕ → Answer (List Code)) : Type 0 where
  alike : {base : ℕ} {s : List ℕ} {t : Tables} {p : List Code} → Part image base s → Shows image t p
      → Alike (λ (t' : Tables) (cs : List Code). Shows image t' (p ++ cs)) (f base s t) (g t.codes base s)

module _ {image : List ℕ} {f : ℕ → List ℕ → Tables → Answer Tables} {g : ℕ → ℕ → List ℕ → Answer (List Code)} (h : SameReader image f g) (d : ℕ) where
  found_inner : {base : ℕ} {s : List ℕ} → Part image base s → (n at : ℕ) (r : Found) {p : List Code} → Shows image r.tables p
      → Alike (Finds image r.numbers p) (found_from f d n base s at r) (inner_from g d n r.tables.codes base s at)
  unfolding found_from inner_from
  found_inner q zero at r w = none_found w
  found_inner {base} {s} q (suc n) at r {p} w =
      alike_if (leb (length s) at) (λ _. none_found w) (λ _.
      alike_if (eqb (refusal d r.tables.codes s at) 0) (λ e.
      alike_then (h.alike (part_body q at (entered d r.tables.codes s at (eqb-true _ _ e)).fits) w) (λ t cs v.
      let c : r.tables.codes + length cs ≡ t.codes = omega (arith, w.codes, v.codes, length-append p cs) in
      rw c
      (alike_right (found_inner q n (after s at) (record { numbers = r.numbers ++ (r.tables.codes ∷ []); tables = t }) v) (λ r' i z.
      both_accepted (record { numbers = z.numbers ∙ append_assoc r.numbers (r.tables.codes ∷ []) i.numbers; shows = rw append_assoc at z.shows })))))
      (λ _. both_refused))

  reads_by : SameReader image (code_by f d) (read_by g d)
  unfolding code_by read_by
  reads_by = record {
    alike = λ {base} {s} {t} {p} q w.
        rw (begin_is base s t)
        (alike_begun _ (begun base s t) 2 (own s) (λ e.
        alike_then (found_inner q (length s) (codes_at s) (record { numbers = []; tables = begun base s t }) (shows_begun q (own_true s e) w)) (λ r i z.
        both_accepted (rw (w.codes, ← z.numbers) (shows_finished base s p i.codes r (rw append_assoc at z.shows))))));
  }

reads : (image : List ℕ) (d : ℕ) → SameReader image (deeper d) (read_inner d)
unfolding deeper read_inner
reads image zero = record { alike = λ q w. both_refused }
reads image (suc d) = record { alike = λ q w. (reads_by (reads image d) d).alike q w }

-- ---- the image
reads_image : (image : List ℕ) (d : ℕ) → whole image 0 1 ≡ true → Alike (Shows image) (code d 6 (body image 0) empty) (read_by (read_inner d) d 0 6 (body image 0))
reads_image image d h = (reads_by (reads image d) d).alike (part_body (part_whole image) 0 (whole_true image 0 1 h)) (shows_empty image)

module _ {A B : Type 0} (f : A → Answer B) where
  then_if : (t : Bool) (x y : Answer A) {x' y' : Answer B} → (t ≡ true → then f x ≡ x') → (t ≡ false → then f y ≡ y') → then f (if? t x y) ≡ if? t x' y'
  then_if true x y g h = g refl
  then_if false x y g h = h refl

  then_then : {C : Type 0} (g : C → Answer A) (x : Answer C) → then f (then g x) ≡ then (λ c. then f (g c)) x
  then_then g (refused k) = refl
  then_then g (accepted c) = refl

pub agrees : (image : List ℕ) → then (λ (t : Tables). if? (program_fine image (program_of image t)) (accepted (program_of image t)) (refused 3)) (layout image) ≡ parse image
unfolding layout parse
agrees image =
    then_if _ (ltb (length image) 6) _ _ (λ _. refl) (λ _.
    then_if _ (ltb 65536 (length image)) _ _ (λ _. refl) (λ _.
    then_if _ (whole image 0 1) _ _ (λ w.
    then_then _ _ (code _ 6 (body image 0) empty) ∙ alike_is (reads_image image _ w) (λ t p s.
    then_if _ (eqb (after image 0) (length image)) (accepted t) (refused 2) (λ _. rw (shows_program s)) (λ _. refl)))
    (λ _. refl)))

-- what the reader's answer says of the image
pub laid_refused : (image : List ℕ) {k : ℕ} → layout image ≡ refused k → parse image ≡ refused k
laid_refused image e = sym (rw e at (agrees image))

pub laid_accepted : (image : List ℕ) {t : Tables} → layout image ≡ accepted t → parse image ≡ if? (program_fine image (program_of image t)) (accepted (program_of image t)) (refused 3)
laid_accepted image e = sym (rw e at (agrees image))
