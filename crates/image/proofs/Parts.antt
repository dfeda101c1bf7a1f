-- Laws that several theorems and the reader share: parts of the image, what the tests say, and lists by number.
use Rattle.std.specs.Prelude.{◌≡◌, Bool, true, false, length, drop, leb, eqb}
use Rattle.std.proofs.Math.Path.{refl}
use Rattle.std.proofs.Common.{sym, ap, ◌∙◌, arith, zero-add, pos_of_ne-zero, length-take, length-drop, get_or-take, get_or-drop, get_or-append-add, ext_get_or, leb-true, leb-false}
use mathlib.Core.List.{List, [], ◌∷◌, ◌++◌, map}
use Prim.Native.Nat.{ℕ, zero, suc, ◌+◌, ◌-◌, ◌<◌, ◌≤◌}
use Rattle.std.proofs.Math.Decide.{ℕ_discrete}
use Rattle.std.proofs.Math.ListN.{get_or, length-append, get_or-append, get_or-map}
use Rattle.std.proofs.lemmas.List.{length-map, get_or_at}
use Rattle.std.proofs.Math.Arith.{lt_of_le-ne}
use Rattle.std.proofs.lemmas.Bool.{eqb-false, false≢true}
use Rattle.cells.specs.Le.{le_at, le_same}
use Rattle.image.specs.Records.{if?, both, size, kind, body, after, headed, inside, whole, listed}
use Rattle.image.specs.Program.{all, tab}
use Rattle.image.specs.Image.{constant, own, refusal}
use Rattle.image.specs.Parts.{Part, There, Own, Entered}

-- ---- what both say
pub first : (a b : Bool) → both a b ≡ true → a ≡ true
unfolding both
first true b h = refl
first false b h = h

pub second : (a b : Bool) → both a b ≡ true → b ≡ true
unfolding both
second true b h = h
second false b h = absurd (false≢true h)

pub both_assoc : (a b c : Bool) → both (both a b) c ≡ both a (both b c)
unfolding both
both_assoc true b c = refl
both_assoc false b c = refl

pub both_true : (a : Bool) → both a true ≡ a
unfolding both
both_true true = refl
both_true false = refl

pub both_false : (a : Bool) → both a false ≡ false
unfolding both
both_false true = refl
both_false false = refl

pub both_swap : (a b : Bool) → both a b ≡ both b a
unfolding both
both_swap true true = refl
both_swap true false = refl
both_swap false true = refl
both_swap false false = refl

-- two tests that hold hold together
pub both_in : {a b : Bool} → a ≡ true → b ≡ true → both a b ≡ true
unfolding both
both_in {a} {b} p q = rw (p, q)

-- ---- lists by number
module _ {A : Type 0} where
  pub all_at : (f : A → Bool) (l : List A) (i : ℕ) (d : A) → all f l ≡ true → i < length l → f (get_or l i d) ≡ true
  unfolding all
  all_at f [] i d h k = absurd (omega arith)
  all_at f (x ∷ l) zero d h k = first _ _ h
  all_at f (x ∷ l) (suc i) d h k = all_at f l i d (second _ _ h) (omega arith)

  pub length_tab : (n : ℕ) (f : ℕ → A) → length (tab n f) ≡ n
  unfolding tab
  length_tab zero f = refl
  length_tab (suc n) f = length-append (tab n f) (f n ∷ []) ∙ omega (arith, length_tab n f)

  pub tab_at : (n : ℕ) (f : ℕ → A) (i : ℕ) (d : A) → i < n → get_or (tab n f) i d ≡ f i
  unfolding tab
  tab_at zero f i d h = absurd (omega arith)
  tab_at (suc n) f i d h = by (λ k. tab_at n f i d k) (ℕ_discrete i n)
    where
      by : (i < n → get_or (tab n f) i d ≡ f i) → Dec (i ≡ n) → get_or (tab n f ++ (f n ∷ [])) i d ≡ f i
      by ih (yes e) = rw e (get_or_at (tab n f) (f n) [] d n (length_tab n f))
      by ih (no k) = let l : i < n = lt_of_le-ne (omega arith) k in get_or-append (tab n f) (f n ∷ []) d i (omega (arith, length_tab n f)) ∙ ih l

  pub tab_same : (n : ℕ) (f g : ℕ → A) → ((i : ℕ) → i < n → f i ≡ g i) → tab n f ≡ tab n g
  unfolding tab
  tab_same zero f g h = refl
  tab_same (suc n) f g h = rw (tab_same n f g (λ i l. h i (omega arith)), h n (omega arith))

  -- a list that stands in a longer one, item by item
  pub tab_span : (f : ℕ → A) (a l b : List ℕ) → tab (length l) (λ j. f (get_or (a ++ (l ++ b)) (length a + j) 0)) ≡ map f l
  tab_span f a l b =
      ext_get_or (f 0) _ _ (length_tab _ _ ∙ sym (length-map l f))
      (λ i h. let k : i < length l = rw length_tab at h in
      tab_at _ _ i (f 0) k ∙ ap f (get_or-append-add a (l ++ b) i 0 ∙ get_or-append l b 0 i k) ∙ sym (get_or-map f l i 0))

-- the whole image
pub part_whole : (image : List ℕ) → Part image 0 image
part_whole image = record { byte = λ i h. rw zero-add; fits = omega arith }

pub length_body : (s : List ℕ) (at : ℕ) → at + 6 + size s at ≤ length s → length (body s at) ≡ size s at
length_body s at h = simp (length-take, length-drop) (omega arith)

module _ {image : List ℕ} {base : ℕ} {s : List ℕ} (p : Part image base s) where
  -- the body of a record in it
  pub part_body : (at : ℕ) → at + 6 + size s at ≤ length s → Part image (base + (at + 6)) (body s at)
  part_body at h =
      let e = length_body s at h in
      record {
        byte = λ i l. get_or-take (size s at) (drop (at + 6) s) i 0 (omega arith) ∙ get_or-drop (at + 6) s i 0 ∙ p.byte (at + 6 + i) (omega arith) ∙ ap (λ (n : ℕ). get_or image n 0) (omega arith);
        fits = omega (arith, p.fits);
      }

  -- a number in it is a number of the image
  pub part_number : (k at : ℕ) {x : ℕ} → x ≡ base + at → at + k ≤ length s → le_at k image x ≡ le_at k s at
  part_number k at {x} e h = le_same k image s x at (λ j l. ap (λ (n : ℕ). get_or image n 0) (omega arith) ∙ sym (p.byte (at + j) (omega arith)))

-- ---- what the tests on records say
pub whole_true : (s : List ℕ) (at k : ℕ) → whole s at k ≡ true → after s at ≤ length s
unfolding whole
whole_true s at k h = omega (arith, leb-true 6 (length s - at) (first _ _ h), leb-true (size s at) (length s - (at + 6)) (second _ _ (second _ _ h)))

pub listed_true : (s : List ℕ) (at k n : ℕ) → listed s at k n ≡ true → after s at ≤ length s
unfolding listed
listed_true s at k n h = whole_true s at k (first _ _ h)

pub constant_true : (s : List ℕ) (at : ℕ) → constant s at ≡ true → There s at
unfolding constant
constant_true s at h =
    let a : 6 ≤ length s - at = leb-true _ _ (first _ _ h) in
    let b : size s at ≤ length s - (at + 6) = leb-true _ _ (first _ _ (second _ _ h)) in
    record { fits = omega arith; fine = second _ _ (second _ _ h) }

pub own_true : (s : List ℕ) → own s ≡ true → Own s
unfolding own
own_true s h =
    let a = second _ _ h in
    let b = second _ _ a in
    let c = second _ _ b in
    let d = second _ _ c in
    record {
      opcodes = listed_true s _ _ _ (first _ _ a);
      globals = listed_true s _ _ _ (first _ _ b);
      captures = listed_true s _ _ _ (first _ _ c);
      constants = whole_true s _ _ (first _ _ d);
      fine = second _ _ d;
    }

pub entered : (d n : ℕ) (s : List ℕ) (at : ℕ) → refusal d n s at ≡ 0 → Entered d n s at
unfolding refusal
entered d n s at h = by (headed s at) (eqb (kind s at) 1) (eqb d 0) (leb _ n) (inside s at) (leb-true _ _) (λ e. pos_of_ne-zero (eqb-false _ _ e)) (leb-false _ _) (leb-true _ _) h
  where
    by : (a b c e f : Bool) → (a ≡ true → 6 ≤ length s - at) → (c ≡ false → 1 ≤ d) → (e ≡ false → n < 256) → (f ≡ true → size s at ≤ length s - (at + 6))
        → ◌≡◌ {A = ℕ} (if? a (if? b (if? c 4 (if? e 4 (if? f 0 2))) 2) 2) 0 → Entered d n s at
    by false b c e f p o q r w = absurd (omega arith)
    by true false c e f p o q r w = absurd (omega arith)
    by true true true e f p o q r w = absurd (omega arith)
    by true true false true f p o q r w = absurd (omega arith)
    by true true false false false p o q r w = absurd (omega arith)
    by true true false false true p o q r w = record { deep = o refl; few = q refl; fits = omega (arith, p refl, r refl) }
