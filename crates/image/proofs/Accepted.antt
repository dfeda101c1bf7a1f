-- An accepted image is `Fine`, code by code, and a refused one is refused with 1, 2, 3 or 4.
use Rattle.std.specs.Prelude.{◌≡◌, refl, Bool, get_or, ltb, leb, eqb}
use Rattle.std.proofs.Common.{sym, ap, ◌∙◌, arith, add-zero}
use mathlib.Core.List.{List, [], ◌∷◌, ◌++◌}
use Rattle.std.proofs.Math.Bool.{true, false}
use Prim.Native.Nat.{ℕ, zero, suc, ◌+◌, ◌-◌, ◌<◌, ◌≤◌}
use Rattle.std.proofs.Math.Decide.{ℕ_discrete}
use Rattle.std.proofs.Math.ListN.{length, length-append}
use borrow.Author.Tests.{ltb-true, ltb-false, leb-true, leb-false, eqb-true, eqb-false}
use Rattle.cells.specs.Le.{le_at, le_part}
use Rattle.image.specs.Records.{if?, both, Answer, refused, accepted, then, size, kind, after, headed, inside, whole}
use Rattle.image.specs.Program.{Code, operand_kind, operand_fine, opcode_fine, last_fine, part, effect_fine, constant_fine, capture_fine, no_op, no_code, counts_fine, code_fine, program_fine}
use Rattle.image.specs.Image.{constants_at, codes_at, sized, constant, constants?, constants_from, own, code_of, refusal, Inner, none, inner_from, read_by, read_inner, parse}
use Rattle.image.specs.Parts.{Part, There}
use Rattle.std.proofs.lemmas.Bool.{false≢true, false_from_ne_true}
use Rattle.image.proofs.Parts.{first, second, all_at, part_whole, part_body, part_number, whole_true, constant_true, own_true, entered}
use Rattle.image.specs.declared.Op.{Op}
use Rattle.image.specs.declared.Capture.{Capture}
use Rattle.image.specs.declared.Constant.{Constant}
use Rattle.image.specs.declared.OperandKind.{OperandKind}
use Rattle.image.specs.declared.OperandKind.TheVariants.{Unused, Count, ValueType, Local, Global, Upvalue, Const, Target, LeftOut}
use Rattle.image.specs.Fine.{no_constant, no_capture, OperandIn, EffectSized, Sized, Declared, Valued, CaptureIn, Fine, Accepted}

-- ---- what the tests of the numbers say
-- what an answer of tests says, by its first test
pick : {R : Type 0} (t : Bool) {x y : Bool} → (t ≡ true → x ≡ true → R) → (t ≡ false → y ≡ true → R) → if? t x y ≡ true → R
pick true f g h = f refl h
pick false f g h = g refl h

operand_in : (c : Code) (k : OperandKind) (x : ℕ) → operand_fine c k x ≡ true → OperandIn c k x
operand_in c Unused x h = eqb-true _ _ h
operand_in c Count x h = tt
operand_in c ValueType x h = leb-true _ _ h
operand_in c Local x h = ltb-true _ _ h
operand_in c Global x h = ltb-true _ _ h
operand_in c Upvalue x h = ltb-true _ _ h
operand_in c Const x h = ltb-true _ _ h
operand_in c Target x h = ltb-true _ _ h
operand_in c LeftOut x h = false≢true h

-- an opcode that is none of the five after which a code may end
pub not_last : (o : Op) → (o.number ≡ 37 → ⊥) → (40 ≤ o.number → 43 < o.number) → last_fine o ≡ false
unfolding last_fine
not_last o a b = false_from_ne_true (last_fine o) (pick (eqb o.number 37) (λ e _. a (eqb-true _ _ e)) (λ _ h.
    let l : 40 ≤ o.number = leb-true _ _ (first _ _ h) in
    let m : o.number ≤ 43 = leb-true _ _ (second _ _ h) in
    omega (arith, b l)))

capture_in : (c : Code) (x : Capture) → capture_fine c x ≡ true → CaptureIn c x
unfolding capture_fine
capture_in c x =
    pick (eqb x.from 0)
    (λ e h. let z = eqb-true x.from 0 e in record { from = omega arith; local = λ _. ltb-true _ _ h; upvalue = λ o. absurd (omega arith) })
    (λ e h. let z = eqb-true x.from 1 (first _ _ h) in record { from = omega arith; local = λ o. absurd (omega arith); upvalue = λ _. ltb-true _ _ (second _ _ h) })

effect_fine_lem : (b : List ℕ) → effect_fine b ≡ true → (le_at 2 b 0 ≤ 3) × (le_at 2 b 0 ≡ 3 → Declared b)
unfolding effect_fine
effect_fine_lem b =
    pick (leb (le_at 2 b 0) 2)
    (λ l _. let z = leb-true (le_at 2 b 0) 2 l in (omega arith, λ e. absurd (omega arith)))
    (λ _ h. let z = eqb-true (le_at 2 b 0) 3 (first _ _ h) in
    let w = second _ _ h in
    (omega arith, λ _. record { params = leb-true _ _ (first _ _ w); variadic = leb-true _ _ (first _ _ (second _ _ w)); name = second _ _ (second _ _ w) }))

valued : (image : List ℕ) (codes : ℕ) (c : Constant) → constant_fine image codes c ≡ true → Valued image codes c
unfolding constant_fine
valued image codes c h = record {
  bool = λ e. leb-true _ _ (rw e at h);
  str = λ e. rw e at h;
  function = λ e. ltb-true _ _ (rw e at h);
  effect = λ e. (effect_fine_lem _ (rw e at h)).0;
  declared = λ e. (effect_fine_lem _ (rw e at h)).1;
}

-- a code of a program whose numbers are fine, but for what its place in the image says
module _ (image : List ℕ) (p : List Code) (c : Code) (h : code_fine image p c ≡ true) where
  next_in : (i : ℕ) → i < length c.opcodes → last_fine (get_or c.opcodes i no_op) ≡ false → i + 1 < length c.opcodes
  unfolding code_fine
  next_in i l w = by (ℕ_discrete i (length c.opcodes - 1))
    where
      last : last_fine (get_or c.opcodes (length c.opcodes - 1) no_op) ≡ true
      last = first _ _ (second _ _ (second _ _ h))

      by : Dec (i ≡ length c.opcodes - 1) → i + 1 < length c.opcodes
      by (yes e) = absurd (false≢true (sym w ∙ ap (λ (n : ℕ). last_fine (get_or c.opcodes n no_op)) e ∙ last))
      by (no n) = omega arith

  fine_in : (n : ℕ) → ((i : ℕ) → i < length c.constants → Sized image (get_or c.constants i no_constant))
      → ((i : ℕ) → i < length c.codes → n < get_or c.codes i 0) → ((i : ℕ) → i < length c.codes → get_or c.codes i 0 < length p) → Fine image p n c
  unfolding code_fine counts_fine
  fine_in n s a b =
      let counts = first _ _ h in
      let c3 = second _ _ (second _ _ (second _ _ counts)) in
      let c5 = second _ _ (second _ _ c3) in
      let h3 = second _ _ (second _ _ (second _ _ h)) in
      record {
        params = leb-true _ _ (first _ _ counts);
        variadic = leb-true _ _ (first _ _ (second _ _ counts));
        locals = leb-true _ _ (first _ _ (second _ _ (second _ _ counts)));
        some = leb-true _ _ (first _ _ c3);
        opcodes = leb-true _ _ (first _ _ (second _ _ c3));
        globals = leb-true _ _ (first _ _ c5);
        captures = leb-true _ _ (first _ _ (second _ _ c5));
        constants = leb-true _ _ (second _ _ (second _ _ c5));
        operand = λ i l. operand_in c (operand_kind (get_or c.opcodes i no_op).number) (get_or c.opcodes i no_op).operand (all_at (opcode_fine c) c.opcodes i no_op (first _ _ (second _ _ h)) l);
        next = next_in;
        name = λ i l. leb-true _ _ (all_at _ c.globals i 0 (first _ _ h3) l);
        sized = s;
        valued = λ i l. valued image _ _ (all_at _ c.constants i no_constant (first _ _ (second _ _ h3)) l);
        above = a;
        below = b;
        capture = λ i j l m. capture_in c _ (all_at (capture_fine c) _ j no_capture (all_at _ c.codes i 0 (second _ _ (second _ _ h3)) l) m);
      }

-- ---- an answer is a refusal with 1 to 4, or accepted with what P says
data Only {A : Type 0} (P : A → Type 0) : Answer A → Type 0 where
  refuses : (k : ℕ) → (1 ≤ k) × (k ≤ 4) → Only P (refused k)
  accepts : {a : A} → P a → Only P (accepted a)

module _ {A : Type 0} {P : A → Type 0} where
  only_if : (t : Bool) {x y : Answer A} → (t ≡ true → Only P x) → (t ≡ false → Only P y) → Only P (if? t x y)
  only_if true f g = f refl
  only_if false f g = g refl

  only_then : {B : Type 0} {Q : B → Type 0} {f : A → Answer B} {x : Answer A} → Only P x → ((a : A) → P a → Only Q (f a)) → Only Q (then f x)
  only_then (refuses k w) h = refuses k w
  only_then (accepts w) h = h _ w

  only_accepted : {a : A} → Only P (accepted a) → P a
  only_accepted (accepts w) = w

  only_refused : {k : ℕ} → Only P (refused k) → (1 ≤ k) × (k ≤ 4)
  only_refused (refuses k w) = w

-- ---- what holds of each item of a list, by its number from n on
data Each {A : Type 0} (P : ℕ → A → Type 0) : ℕ → List A → Type 0 where
  done : {n : ℕ} → Each P n []
  more : {n : ℕ} {x : A} {l : List A} → P n x → Each P (n + 1) l → Each P n (x ∷ l)

module _ {A : Type 0} {P : ℕ → A → Type 0} where
  each_at : {n : ℕ} {l : List A} → Each P n l → (i : ℕ) (d : A) → i < length l → P (n + i) (get_or l i d)
  each_at done i d h = absurd (omega arith)
  each_at (more p q) zero d h = rw add-zero p
  each_at (more {n = n} p q) (suc i) d h = let e : n + suc i ≡ n + 1 + i = omega arith in rw e (each_at q i d (omega arith))

  each_append : {n : ℕ} {a : List A} → Each P n a → {b : List A} → Each P (n + length a) b → Each P n (a ++ b)
  each_append done w = rw add-zero at w
  each_append (more {n = n} {l = l} p q) w = let e : n + suc (length l) ≡ n + 1 + length l = omega arith in more p (each_append q (rw e at w))

  each_map : {Q : ℕ → A → Type 0} {n : ℕ} {l : List A} → ((m : ℕ) (x : A) → P m x → Q m x) → Each P n l → Each Q n l
  each_map f done = done
  each_map f (more p q) = more (f _ _ p) (each_map f q)

-- ---- the constants of a code
sized_range : (k e n : ℕ) → sized k e n ≡ true → (16 ≤ k) × (k ≤ 23)
unfolding sized
sized_range k e n = is 16 _ _ (omega arith) (is 17 _ _ (omega arith) (is 18 _ _ (omega arith) (is 19 _ _ (omega arith) (is 20 _ _ (omega arith) (is 21 _ _ (omega arith) (is 22 _ _ (omega arith) (is 23 _ _ (omega arith) (λ h. absurd (false≢true h)))))))))
  where
    is : (m : ℕ) (x y : Bool) → (16 ≤ m) × (m ≤ 23) → (y ≡ true → (16 ≤ k) × (k ≤ 23)) → if? (eqb k m) x y ≡ true → (16 ≤ k) × (k ≤ 23)
    is m x y b f = pick (eqb k m) (λ t _. let z = eqb-true k m t in omega arith) (λ _. f)

sized_effect : (e n : ℕ) → sized 23 e n ≡ true → EffectSized e n
unfolding sized
sized_effect e n h = record {
  least = leb-true 2 n (first _ _ h);
  builtin = λ l. pick (leb e 2) (λ _ w. eqb-true n 2 w) (λ f _. absurd (omega (arith, leb-false e 2 f))) (second _ _ h);
  declared = λ q. pick (leb e 2) (λ t _. absurd (omega (arith, leb-true e 2 t))) (λ _. pick (eqb e 3) (λ _ w. leb-true _ _ w) (λ f _. absurd (eqb-false e 3 f q))) (second _ _ h);
}

module _ {image : List ℕ} {base : ℕ} {s : List ℕ} (q : Part image base s) where
  effect_in : (at : ℕ) → There s at → kind s at ≡ 23 → EffectSized (le_at 2 (part image (base + (at + 6)) (size s at)) 0) (size s at)
  effect_in at w k =
      let r = sized_effect (le_at 2 s (at + 6)) (size s at) (rw k at w.fine) in
      let e : le_at 2 image (base + (at + 6) + 0) ≡ le_at 2 s (at + 6) = part_number q 2 (at + 6) (omega arith) (omega (arith, w.fits, r.least)) in
      rw (le_part 2 image (base + (at + 6)) (size s at) 0 (omega (arith, r.least)), e) r

  sized_in : (at : ℕ) → There s at → Sized image (record { kind = kind s at; place = base + (at + 6); size = size s at })
  unfolding sized
  sized_in at w =
      let r = sized_range (kind s at) (le_at 2 s (at + 6)) (size s at) w.fine in
      record {
        inside = omega (arith, w.fits, q.fits);
        low = r.0;
        high = r.1;
        null = λ k. eqb-true _ _ (rw k at w.fine);
        bool = λ k. eqb-true _ _ (rw k at w.fine);
        int = λ k. eqb-true _ _ (rw k at w.fine);
        float = λ k. eqb-true _ _ (rw k at w.fine);
        function = λ k. eqb-true _ _ (rw k at w.fine);
        effect = effect_in at w;
      }

  constants_sized : (f n at : ℕ) → constants? f s at ≡ true → Each (λ (_ : ℕ) (c : Constant). Sized image c) n (constants_from f base s at)
  unfolding constants? constants_from
  constants_sized zero n at h = done
  constants_sized (suc f) n at h = by (leb (length s) at) (λ k. constants_sized f (n + 1) (after s at) k) h
    where
      by : (a : Bool) {l : List Constant} {t : Bool} → (t ≡ true → Each (λ (_ : ℕ) (c : Constant). Sized image c) (n + 1) l) → if? a true (both (constant s at) t) ≡ true
          → Each (λ (_ : ℕ) (c : Constant). Sized image c) n (if? a [] (record { kind = kind s at; place = base + (at + 6); size = size s at } ∷ l))
      by true r w = done
      by false r w = more (sized_in at (constant_true s at (first _ _ w))) (r (second _ _ w))

-- ---- the codes
-- code number n, with its constants and the numbers of the codes in it, which lie below `top`
record Sound (image : List ℕ) (top n : ℕ) (c : Code) : Type 0 where
  constants : Each (λ (_ : ℕ) (x : Constant). Sized image x) 0 c.constants
  codes : Each (λ (_ k : ℕ). (n < k) × (k < top)) 0 c.codes

-- a code with number n, and the codes in it
record Codes (image : List ℕ) (n : ℕ) (cs : List Code) : Type 0 where
  some : 1 ≤ length cs
  few : n + length cs ≤ 256
  each : Each (Sound image (n + length cs)) n cs

-- the codes in a code, the first with number n
record Inners (image : List ℕ) (n : ℕ) (q : Inner) : Type 0 where
  few : n + length q.codes ≤ 256
  numbers : (m : ℕ) → Each (λ (_ k : ℕ). (n ≤ k) × (k < n + length q.codes)) m q.numbers
  each : Each (Sound image (n + length q.codes)) n q.codes

-- the codes so far may be followed by others
sound_up : {image : List ℕ} {top top' : ℕ} → top ≤ top' → (n : ℕ) (c : Code) → Sound image top n c → Sound image top' n c
sound_up l n c w = record { constants = w.constants; codes = each_map (λ m x h. omega arith) w.codes }

refusal_small : (d n : ℕ) (s : List ℕ) (at : ℕ) → refusal d n s at ≤ 4
unfolding refusal
refusal_small d n s at = by (headed s at) (eqb (kind s at) 1) (eqb d 0) (leb _ n) (inside s at)
  where
    by : (a b c e f : Bool) → if? a (if? b (if? c 4 (if? e 4 (if? f 0 2))) 2) 2 ≤ 4
    by false b c e f = omega arith
    by true false c e f = omega arith
    by true true true e f = omega arith
    by true true false true f = omega arith
    by true true false false true = omega arith
    by true true false false false = omega arith

none_read : (image : List ℕ) (n : ℕ) → n ≤ 256 → Only (Inners image n) (accepted none)
none_read image n l = accepts {a = none} (record { few = omega arith; numbers = λ m. done; each = done })

-- a reader of codes refuses with 1 to 4, or gives such codes
record Reader (image : List ℕ) (g : ℕ → ℕ → List ℕ → Answer (List Code)) : Type 0 where
  reads : {n base : ℕ} {s : List ℕ} → Part image base s → n < 256 → Only (Codes image n) (g n base s)

module _ {image : List ℕ} {g : ℕ → ℕ → List ℕ → Answer (List Code)} (h : Reader image g) (d : ℕ) where
  inner_read : {base : ℕ} {s : List ℕ} → Part image base s → (f n at : ℕ) → n ≤ 256 → Only (Inners image n) (inner_from g d f n base s at)
  unfolding inner_from
  inner_read q zero n at l = none_read image n l
  inner_read {base} {s} q (suc f) n at l =
      only_if (leb (length s) at) (λ _. none_read image n l) (λ _.
      only_if (eqb (refusal d n s at) 0) (λ e.
      let r = entered d n s at (eqb-true _ _ e) in
      only_then (h.reads (part_body q at r.fits) r.few) (λ cs w.
      only_then (inner_read q f (n + length cs) (after s at) w.few) (λ i v.
      let z = length-append cs i.codes in
      accepts {a = record { numbers = n ∷ i.numbers; codes = cs ++ i.codes }} (record {
        few = omega (arith, v.few);
        numbers = λ m. more (omega (arith, w.some)) (each_map (λ _ k b. omega arith) (v.numbers (m + 1)));
        each = each_append (each_map (sound_up (omega arith)) w.each) (each_map (sound_up (omega arith)) v.each);
      }))))
      (λ e. let z = eqb-false (refusal d n s at) 0 e in refuses (refusal d n s at) (omega (arith, refusal_small d n s at))))

  reader_by : Reader image (read_by g d)
  unfolding read_by
  reader_by = record {
    reads = λ {n} {base} {s} q l.
        only_if (own s) (λ e.
        let o = own_true s e in
        only_then (inner_read q (length s) (n + 1) (codes_at s) (omega arith)) (λ i v.
        accepts {a = code_of base s i.numbers ∷ i.codes} (record {
          some = omega arith;
          few = omega (arith, v.few);
          each = more (record { constants = constants_sized (part_body q (constants_at s) o.constants) (size s (constants_at s)) 0 0 o.fine; codes = each_map (λ _ k b. omega arith) (v.numbers 0) })
              (each_map (sound_up (omega arith)) v.each);
        })))
        (λ _. refuses 2 (omega arith));
  }

reader : (image : List ℕ) (d : ℕ) → Reader image (read_inner d)
unfolding read_inner
reader image zero = record { reads = λ q l. refuses 4 (omega arith) }
reader image (suc d) = record { reads = λ q l. (reader_by (reader image d) d).reads q l }

-- ---- the image
-- what the definition of an accepted image says
record Parsed (image : List ℕ) (p : List Code) : Type 0 where
  least : 6 ≤ length image
  most : length image ≤ 65536
  codes : Codes image 0 p
  fine : program_fine image p ≡ true

parsed : (image : List ℕ) → Only (Parsed image) (parse image)
unfolding parse
parsed image =
    only_if (ltb (length image) 6) (λ _. refuses 1 (omega arith)) (λ l.
    only_if (ltb 65536 (length image)) (λ _. refuses 1 (omega arith)) (λ m.
    only_if (whole image 0 1) (λ w.
    only_then ((reader_by (reader image 7) 7).reads (part_body (part_whole image) 0 (whole_true image 0 1 w)) (omega arith)) (λ p c.
    only_if (eqb (after image 0) (length image)) (λ _.
    only_if (program_fine image p) (λ f. accepts (record { least = ltb-false _ _ l; most = ltb-false _ _ m; codes = c; fine = f })) (λ _. refuses 3 (omega arith)))
    (λ _. refuses 2 (omega arith))))
    (λ _. refuses 2 (omega arith))))

-- an image is refused with 1, 2, 3 or 4
pub refused_small : (image : List ℕ) (k : ℕ) → parse image ≡ refused k → (1 ≤ k) × (k ≤ 4)
refused_small image k e = only_refused (rw e at (parsed image))

pub accepted_fine : (image : List ℕ) (p : List Code) → parse image ≡ accepted p → Accepted image p
unfolding program_fine
accepted_fine image p e =
    let w = only_accepted (rw e at (parsed image)) in
    let g : (n : ℕ) → n < length p → Fine image p n (get_or p n no_code) = λ n l.
    let s = each_at w.codes.each n no_code l in
    fine_in image p (get_or p n no_code) (all_at (code_fine image p) p n no_code w.fine l) n
    (λ i k. each_at s.constants i no_constant k) (λ i k. omega (arith, (each_at s.codes i 0 k).0)) (λ i k. omega (arith, (each_at s.codes i 0 k).1)) in
    record { least = w.least; most = w.most; some = w.codes.some; few = omega (arith, w.codes.few); fine = g }
