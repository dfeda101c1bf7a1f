-- The laws of the functions' returns: a text from an index on, octet by octet.
use Rattle.std.specs.Prelude.{◌≡◌, refl, Option, Some, None, Bool, true, false, ℕ, zero, suc, ◌+◌, ◌-◌, ◌<◌, ◌≤◌, length, get_or, drop, leb}
use Rattle.std.proofs.Common.{sym, ap, ◌∙◌, add-zero, length-drop, drop-cons, drop-drop, le-leb, leb-true, leb-false}
use mathlib.Core.List.{List, [], ◌∷◌}
use Rattle.std.proofs.Math.Bool.{cond}
use native.Mathlib.Omega.{arith}
use Rattle.std.proofs.Math.Numerals.{add-one}
use Rattle.std.proofs.Math.Seq.{drop-length}
use Rattle.std.specs.Int.Bits.{bit_or, or_add_and}
use Rattle.std.proofs.lemmas.Nat.{or_lt, and_le_l, and_le_r}
use Rattle.std.proofs.lemmas.Bool.{lt-leb}
use Rattle.utf8.specs.Utf8.{Range, ◌to◌, both, within, tail, Row, rows, starts, char, octets, utf8}
use Rattle.utf8.specs.First.{lead_of, tails, follow, followed}
use Rattle.utf8.proofs.FirstLaws.{both_left, both_right, both_no, within_yes, within_low, within_high, char_lead, width_most}
use Rattle.utf8.specs.Ascii.{ascii, Passed}
use Rattle.utf8.specs.declared.Lead.{Lead}
use Rattle.utf8.specs.Laws.{Joined}

starts_at : (r : Range) (rs : List Range) (s : List ℕ) (j k : ℕ) {p : Bool} → j < length s → k ≡ j + 1 → within r (get_or s j 0) ≡ p → starts (r ∷ rs) (drop j s) ≡ both p (starts rs (drop k s))
unfolding starts
starts_at r rs s j k h e w = rw (e, add-one j) (ap (starts (r ∷ rs)) (drop-cons s j 0 h) ∙ ap (λ (q : Bool). both q (starts rs (drop (suc j) s))) w)

starts_short : (rs : List Range) (s : List ℕ) → length s < length rs → starts rs s ≡ false
unfolding starts
starts_short [] s h = absurd (omega arith)
starts_short (r ∷ rs) [] h = refl
starts_short (r ∷ rs) (x ∷ s) h = ap (both (within r x)) (starts_short rs s (omega arith)) ∙ both_no (within r x)

length_tails : (k : ℕ) → length (tails k) ≡ k
unfolding tails
length_tails zero = refl
length_tails (suc k) = ap suc (length_tails k)

tails_more : (k : ℕ) → 0 < k → tails k ≡ tail ∷ tails (k - 1)
unfolding tails
tails_more zero h = absurd (omega arith)
tails_more (suc k) h =
    let e : k ≡ suc k - 1 = omega arith in
    ap (λ (n : ℕ). tail ∷ tails n) e

alone : (b : Bool) → both b true ≡ b
alone true = refl
alone false = refl

-- the character at i, whose first octet says d
module _ (s : List ℕ) (i : ℕ) {d : Lead} (e : Some d ≡ lead_of (get_or s i 0)) where
  abbrev char_is : ℕ → Type 0
  char_is n = n ≡ char rows (get_or s i 0) (drop (i + 1) s)

  is : (n : ℕ) → followed (Some d) (drop (i + 1) s) ≡ n → char_is n
  is n h = sym (char_lead (get_or s i 0) (drop (i + 1) s) ∙ ap (λ (z : Option Lead). followed z (drop (i + 1) s)) (sym e) ∙ h)

  pub char_alone : d.width ≤ 1 → char_is d.width
  unfolding follow
  char_alone h = is _ (simp (le-leb _ _ h))

  module _ (two : 1 < d.width) where
    starting : {p : Bool} → starts ((d.low to d.high) ∷ tails (d.width - 2)) (drop (i + 1) s) ≡ p → char_is (cond p d.width 0)
    unfolding follow
    starting h = is _ (simp (lt-leb _ _ two) (ap (λ (q : Bool). cond q d.width 0) h))

    pub char_cut : i < length s → length s - i < d.width → char_is 0
    char_cut l h = starting (starts_short _ _ (simp length-drop (omega (arith, length_tails (d.width - 2)))))

    module _ (l : d.width ≤ length s - i) where
      second : {p : Bool} → within (d.low to d.high) (get_or s (i + 1) 0) ≡ p → starts ((d.low to d.high) ∷ tails (d.width - 2)) (drop (i + 1) s) ≡ both p (starts (tails (d.width - 2)) (drop (i + 2) s))
      second w = starts_at _ _ s (i + 1) (i + 2) (omega arith) (omega arith) w

      pub second_low : get_or s (i + 1) 0 < d.low → char_is 0
      second_low h = starting (second (within_low _ _ h))

      pub second_high : d.high < get_or s (i + 1) 0 → char_is 0
      second_high h = starting (second (within_high _ _ h))

      module _ (low : d.low ≤ get_or s (i + 1) 0) (high : get_or s (i + 1) 0 ≤ d.high) where
        tailing : {p : Bool} → starts (tails (d.width - 2)) (drop (i + 2) s) ≡ p → char_is (cond p d.width 0)
        tailing h = starting (second (within_yes _ _ low high) ∙ h)

        pub char_two : d.width ≤ 2 → char_is d.width
        unfolding tails starts
        char_two h =
            let z : d.width - 2 ≡ 0 = omega arith in
            tailing (ap (λ (n : ℕ). starts (tails n) (drop (i + 2) s)) z)

        module _ (three : 2 < d.width) where
          third : {p : Bool} → within tail (get_or s (i + 2) 0) ≡ p → starts (tails (d.width - 2)) (drop (i + 2) s) ≡ both p (starts (tails (d.width - 2 - 1)) (drop (i + 3) s))
          third w = ap (λ (rs : List Range). starts rs (drop (i + 2) s)) (tails_more (d.width - 2) (omega arith)) ∙ starts_at _ _ s (i + 2) (i + 3) (omega arith) (omega arith) w

          pub third_no : {q : Bool} → q ≡ within tail (get_or s (i + 2) 0) → q ≡ false → char_is 0
          third_no w h = tailing (third (sym w ∙ h))

          module _ {p : Bool} (w : p ≡ within tail (get_or s (i + 2) 0)) (yes : p ≡ true) where
            ending : {q : Bool} → starts (tails (d.width - 2 - 1)) (drop (i + 3) s) ≡ q → char_is (cond q d.width 0)
            ending h = tailing (third (sym w ∙ yes) ∙ h)

            pub char_three : d.width ≤ 3 → char_is d.width
            unfolding tails starts
            char_three h =
                let z : d.width - 2 - 1 ≡ 0 = omega arith in
                ending (ap (λ (n : ℕ). starts (tails n) (drop (i + 3) s)) z)

            module _ (four : 3 < d.width) {q : Bool} (w' : q ≡ within tail (get_or s (i + 3) 0)) where
              pub char_four : char_is (cond q d.width 0)
              unfolding tails starts
              char_four =
                  let fits : d.width ≤ 4 = (width_most (get_or s i 0) e).1 in
                  let z : d.width - 2 - 1 ≡ 1 = omega arith in
                  ending (ap (λ (n : ℕ). starts (tails n) (drop (i + 3) s)) z ∙ starts_at tail [] s (i + 3) (i + 4) (omega arith) (omega arith) (sym w') ∙ alone q)

-- the text is UTF-8 up to i: what is left from i on decides
octets_drop : (k : ℕ) (s : List ℕ) → octets k s ≡ utf8 (drop k s)
unfolding octets
octets_drop zero s = refl
octets_drop (suc k) [] = refl
octets_drop (suc k) (x ∷ s) = octets_drop k s

module _ (s : List ℕ) (i : ℕ) {n : ℕ} (h : i < length s) (e : n ≡ char rows (get_or s i 0) (drop (i + 1) s)) where
  utf8_at : utf8 (drop i s) ≡ both (leb 1 n) (octets (n - 1) (drop (i + 1) s))
  unfolding octets
  utf8_at = rw (e, add-one i) (ap utf8 (drop-cons s i 0 h))

  pub utf8_ends : n ≡ 0 → false ≡ utf8 (drop i s)
  utf8_ends z = sym (utf8_at ∙ ap (λ (m : ℕ). both (leb 1 m) (octets (m - 1) (drop (i + 1) s))) z)

  pub utf8_next : 0 < n → utf8 (drop (i + n) s) ≡ utf8 (drop i s)
  utf8_next l =
      let z : i + 1 + (n - 1) ≡ i + n = omega arith in
      sym (utf8_at ∙ simp (le-leb 1 n l) (octets_drop (n - 1) (drop (i + 1) s) ∙ ap utf8 (drop-drop (n - 1) (i + 1) s ∙ ap (λ (m : ℕ). drop m s) z)))

-- one octet of UTF8-1
utf8_one : (s : List ℕ) (i : ℕ) → i < length s → get_or s i 0 ≤ 127 → utf8 (drop (i + 1) s) ≡ utf8 (drop i s)
unfolding char starts
utf8_one s i h l = utf8_next s i h (sym (simp (le-leb (get_or s i 0) 127 l, le-leb 0 (get_or s i 0) (omega arith)))) (omega arith)

ascii_at : (s : List ℕ) (n m i j : ℕ) → n ≡ m + 1 → j ≡ i + 1 → ascii n s i ≡ both (leb (get_or s i 0) 127) (ascii m s j)
unfolding ascii
ascii_at s n m i j e k = rw (e, k, add-one m)

both_both : (a b c : Bool) → both (both a b) c ≡ both a (both b c)
both_both true b c = refl
both_both false b c = refl

-- the highest bit of two octets joined tells of both
or_leb : (a b : ℕ) → leb (bit_or a b) 127 ≡ both (leb a 127) (leb b 127)
or_leb a b = by (leb a 127) (leb b 127) refl refl
  where
    by : (p q : Bool) → leb a 127 ≡ p → leb b 127 ≡ q → leb (bit_or a b) 127 ≡ both p q
    by true true v w = le-leb (bit_or a b) 127 (omega (arith, or_lt 7 a b (omega (arith, leb-true a 127 v)) (omega (arith, leb-true b 127 w))))
    by true false v w = lt-leb (bit_or a b) 127 (omega (arith, leb-false b 127 w, or_add_and a b, and_le_l a b))
    by false q v w = lt-leb (bit_or a b) 127 (omega (arith, leb-false a 127 v, or_add_and a b, and_le_r a b))

pub joined_none : (s : List ℕ) (i n : ℕ) → Joined s i n 0 0
joined_none s i n =
    let z : n - 0 ≡ n = omega arith in
    record { whole = rw (z, add-zero); inside = omega arith }

pub joined_more : {s : List ℕ} {i n joint k : ℕ} → Joined s i n joint k → k < n → Joined s i n (bit_or joint (get_or s (i + k) 0)) (k + 1)
joined_more {s} {i} {n} {joint} {k} w h =
    let left = ascii (n - (k + 1)) s (i + (k + 1)) in
    record {
      whole =
          ap (λ (q : Bool). both q left) (or_leb joint (get_or s (i + k) 0))
          ∙ both_both (leb joint 127) (leb (get_or s (i + k) 0) 127) left
          ∙ ap (both (leb joint 127)) (sym (ascii_at s (n - k) (n - (k + 1)) (i + k) (i + (k + 1)) (omega arith) (omega arith)))
          ∙ w.whole;
      inside = omega arith;
    }

pub joined_all : {s : List ℕ} {i n joint k : ℕ} → Joined s i n joint k → n ≤ k → leb joint 127 ≡ ascii n s i
unfolding ascii
joined_all {s} {i} {n} {joint} {k} w h =
    let z : n - k ≡ 0 = omega arith in
    sym (alone (leb joint 127)) ∙ ap (λ (m : ℕ). both (leb joint 127) (ascii m s (i + k))) (sym z) ∙ w.whole

-- a step over octets of UTF8-1
pub pass_none : (s : List ℕ) (i : ℕ) → i ≤ length s → Passed s i i
pass_none s i h = record { after = omega arith; inside = h; same = refl }

pub pass_one : {s : List ℕ} {from i : ℕ} → Passed s from i → i < length s → get_or s i 0 ≤ 127 → Passed s from (i + 1)
pass_one {s} {from} {i} w h l = record { after = omega (arith, w.after); inside = omega arith; same = utf8_one s i h l ∙ w.same }

pass_some : (k : ℕ) {s : List ℕ} {from i : ℕ} → Passed s from i → i + k ≤ length s → ascii k s i ≡ true → Passed s from (i + k)
unfolding ascii
pass_some zero {s} {from} {i} w h a = rw add-zero w
pass_some (suc k) {s} {from} {i} w h a =
    let z : i + 1 + k ≡ i + suc k = omega arith in
    let l : get_or s i 0 ≤ 127 = leb-true (get_or s i 0) 127 (both_left (leb (get_or s i 0) 127) (ascii k s (i + 1)) a) in
    rw z at (pass_some k (pass_one w (omega arith) l) (omega arith) (both_right (leb (get_or s i 0) 127) (ascii k s (i + 1)) a))

pub pass_block : {s : List ℕ} {from i : ℕ} {all : Bool} → Passed s from i → 32 ≤ length s - i → all ≡ ascii 32 s i → all ≡ true → Passed s from (i + 32)
pass_block w h e t = pass_some 32 w (omega (arith, w.inside)) (sym e ∙ t)

pub pass_run : {s : List ℕ} {from i r : ℕ} → Passed s from i → i < length s → get_or s i 0 ≤ 127 → Passed s (i + 1) r → Passed s from r
pass_run {s} {from} {i} {r} w h l v = record { after = omega (arith, w.after, v.after); inside = v.inside; same = v.same ∙ utf8_one s i h l ∙ w.same }

-- a step over one character lies inside the text
starts_long : (rs : List Range) (s : List ℕ) → starts rs s ≡ true → length rs ≤ length s
unfolding starts
starts_long [] s h = omega arith
starts_long (r ∷ rs) [] h = absurd (let z : ◌≡◌ {A = ℕ} 0 1 = cc in omega arith)
starts_long (r ∷ rs) (x ∷ s) h = omega (arith, starts_long rs s (both_right (within r x) (starts rs s) h))

char_long : (rs : List Row) (x : ℕ) (s : List ℕ) → char rs x s ≤ 1 + length s
unfolding char
char_long [] x s = omega arith
char_long (r ∷ rs) x s = by (char_long rs x s) (both (within r.first x) (starts r.rest s)) refl
  where
    by : char rs x s ≤ 1 + length s → (p : Bool) → both (within r.first x) (starts r.rest s) ≡ p → cond p (1 + length r.rest) (char rs x s) ≤ 1 + length s
    by h true w = omega (arith, starts_long r.rest s (both_right (within r.first x) (starts r.rest s) w))
    by h false w = h

inside_at_lem : (s : List ℕ) (i : ℕ) {n : ℕ} → i < length s → n ≡ char rows (get_or s i 0) (drop (i + 1) s) → i + n ≤ length s
inside_at_lem s i h e = omega (arith, char_long rows (get_or s i 0) (drop (i + 1) s), length-drop (i + 1) s)

pub pass_none_starts : {s : List ℕ} {i : ℕ} → Passed s 0 i → i < length s → None ≡ lead_of (get_or s i 0) → false ≡ utf8 s
pass_none_starts {s} {i} w h e =
    let none : 0 ≡ char rows (get_or s i 0) (drop (i + 1) s) = ap (λ (z : Option Lead). followed z (drop (i + 1) s)) e ∙ sym (char_lead (get_or s i 0) (drop (i + 1) s)) in
    utf8_ends s i h none refl ∙ w.same

module _ {s : List ℕ} {i : ℕ} (w : Passed s 0 i) (h : i < length s) {d : Lead} (e : Some d ≡ lead_of (get_or s i 0)) where
  module _ {r : Bool} (f : cond r d.width 0 ≡ char rows (get_or s i 0) (drop (i + 1) s)) where
    pub char_inside : r ≡ true → i + d.width ≤ length s
    char_inside t = inside_at_lem s i h (ap (λ (q : Bool). cond q d.width 0) (sym t) ∙ f)

    pub pass_char : r ≡ true → Passed s 0 (i + d.width)
    pass_char t = record { after = omega (arith, w.after); inside = char_inside t; same = utf8_next s i h (ap (λ (q : Bool). cond q d.width 0) (sym t) ∙ f) (width_most (get_or s i 0) e).0 ∙ w.same }

    pub pass_not_followed : r ≡ false → false ≡ utf8 s
    pass_not_followed t = utf8_ends s i h (ap (λ (q : Bool). cond q d.width 0) (sym t) ∙ f) refl ∙ w.same

pub pass_true : {s : List ℕ} {i : ℕ} → Passed s 0 i → length s ≤ i → true ≡ utf8 s
unfolding octets
pass_true {s} {i} w h =
    let e : i ≡ length s = omega (arith, w.inside) in
    sym (ap utf8 (ap (λ (n : ℕ). drop n s) e ∙ drop-length s)) ∙ w.same
