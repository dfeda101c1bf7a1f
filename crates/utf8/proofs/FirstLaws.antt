-- The first octet decides the row: `char` is `followed` after `lead_of`, for every octet and every text after it.
use Rattle.std.specs.Prelude.{◌≡◌, refl, Option, Some, None, List, [], ◌∷◌, Bool, true, false, cond, ℕ, ◌+◌, ◌<◌, ◌≤◌, length, leb}
use Rattle.std.proofs.Common.{sym, ap, ◌∙◌, arith}
use borrow.Author.Tests.{le-leb, lt-leb, leb-true}
use Rattle.utf8.specs.Utf8.{Range, both, within, tail, Row, rows, starts, char}
use Rattle.utf8.specs.First.{lead, lead_to, lead_in, lead_of, tails, follow, followed}
use Rattle.utf8.specs.declared.Lead.{Lead}

pub both_left : (a b : Bool) → both a b ≡ true → a ≡ true
both_left true b h = refl
both_left false b h = h

pub both_right : (a b : Bool) → both a b ≡ true → b ≡ true
both_right true b h = h
both_right false true h = refl
both_right false false h = h

pub both_no : (a : Bool) → both a false ≡ false
both_no true = refl
both_no false = refl

module _ (r : Range) (x : ℕ) where
  pub within_yes : r.from ≤ x → x ≤ r.to → within r x ≡ true
  within_yes h k = simp (le-leb _ _ h, le-leb _ _ k)

  pub within_low : x < r.from → within r x ≡ false
  within_low h = ap (both (leb x r.to)) (lt-leb r.from x h) ∙ both_no (leb x r.to)

  pub within_high : r.to < x → within r x ≡ false
  within_high h = simp (lt-leb _ _ h)

-- the returns of `is_tail`
module _ (x : ℕ) where
  pub tail_to : x ≤ 191 → leb 128 x ≡ within tail x
  tail_to h = simp (le-leb x 191 h)

  pub tail_above : 191 < x → false ≡ within tail x
  tail_above h = simp (lt-leb x 191 h)

-- a row whose first octets start at b or above, and whose other ranges are as `lead_to` has them
record Fine (b : ℕ) (r : Row) : Type 0 where
  low : b ≤ r.first.from
  high : r.first.from ≤ r.first.to
  some : 0 < (lead_to r.rest).width
  few : (lead_to r.rest).width ≤ 4
  same : (s : List ℕ) → followed (Some (lead_to r.rest)) s ≡ cond (starts r.rest s) (1 + length r.rest) 0

-- such rows, in the order of their first octets
unfoldable Good : ℕ → List Row → Type 0
Good b [] = Unit
Good b (r ∷ rs) = Fine b r × Good (r.first.to + 1) rs

good : Good 0 rows
unfolding Good tails follow starts
good = (
  record { low = omega arith; high = omega arith; some = omega arith; few = omega arith; same = λ s. refl },
  (
    record { low = omega arith; high = omega arith; some = omega arith; few = omega arith; same = λ s. refl },
    (
      record { low = omega arith; high = omega arith; some = omega arith; few = omega arith; same = λ s. refl },
      (
        record { low = omega arith; high = omega arith; some = omega arith; few = omega arith; same = λ s. refl },
        (
          record { low = omega arith; high = omega arith; some = omega arith; few = omega arith; same = λ s. refl },
          (
            record { low = omega arith; high = omega arith; some = omega arith; few = omega arith; same = λ s. refl },
            (
              record { low = omega arith; high = omega arith; some = omega arith; few = omega arith; same = λ s. refl },
              (
                record { low = omega arith; high = omega arith; some = omega arith; few = omega arith; same = λ s. refl },
                (
                  record { low = omega arith; high = omega arith; some = omega arith; few = omega arith; same = λ s. refl },
                  tt,
                ),
              ),
            ),
          ),
        ),
      ),
    ),
  ),
)

-- a row, where p says whether the first octet is its own, or else n
abbrev either : Row → ℕ → List ℕ → Bool → ℕ
either r n s p = cond (both p (starts r.rest s)) (1 + length r.rest) n

-- below the first octets of all rows
char_low : (b : ℕ) (rs : List Row) → Good b rs → (x : ℕ) (s : List ℕ) → x < b → char rs x s ≡ 0
unfolding char Good
char_low b [] g x s h = refl
char_low b (r ∷ rs) g x s h =
    let f : Fine b r = g.0 in
    ap (either r (char rs x s) s) (within_low r.first x (omega arith))
    ∙ char_low (r.first.to + 1) rs g.1 x s (omega arith)

char_in : (b : ℕ) (rs : List Row) → Good b rs → (x : ℕ) (s : List ℕ) → char rs x s ≡ followed (lead_in rs x) s
unfolding char lead_in follow Good
char_in b [] g x s = refl
char_in b (r ∷ rs) g x s = by (char_in (r.first.to + 1) rs g.1 x s) (within r.first x) refl
  where
    by : char rs x s ≡ followed (lead_in rs x) s → (p : Bool) → within r.first x ≡ p → either r (char rs x s) s (within r.first x) ≡ followed (cond (within r.first x) (Some (lead_to r.rest)) (lead_in rs x)) s
    by e true w =
        ap (either r (char rs x s) s) w
        ∙ ap (λ (n : ℕ). cond (starts r.rest s) (1 + length r.rest) n) (char_low (r.first.to + 1) rs g.1 x s (omega (arith, leb-true x r.first.to (both_left (leb x r.first.to) (leb r.first.from x) w))))
        ∙ sym (g.0.same s)
        ∙ ap (λ (q : Bool). followed (cond q (Some (lead_to r.rest)) (lead_in rs x)) s) (sym w)
    by e false w = ap (either r (char rs x s) s) w ∙ e ∙ ap (λ (q : Bool). followed (cond q (Some (lead_to r.rest)) (lead_in rs x)) s) (sym w)

-- the first octet decides
pub char_lead : (x : ℕ) (s : List ℕ) → char rows x s ≡ followed (lead_of x) s
char_lead = char_in 0 rows good

width_in : (b : ℕ) (rs : List Row) → Good b rs → (x : ℕ) {d : Lead} → Some d ≡ lead_in rs x → (0 < d.width) × (d.width ≤ 4)
unfolding lead_in Good
width_in b [] g x e = absurd (let z : ◌≡◌ {A = ℕ} 0 1 = cc in omega arith)
width_in b (r ∷ rs) g x {d} e = by (width_in (r.first.to + 1) rs g.1 x) (within r.first x) e
  where
    by : (Some d ≡ lead_in rs x → (0 < d.width) × (d.width ≤ 4)) → (p : Bool) → Some d ≡ cond p (Some (lead_to r.rest)) (lead_in rs x) → (0 < d.width) × (d.width ≤ 4)
    by h true e =
        let z : d ≡ lead_to r.rest = cc in
        let w : d.width ≡ (lead_to r.rest).width = ap (λ (l : Lead). l.width) z in
        (omega (arith, g.0.some), omega (arith, g.0.few))
    by h false e = h e

pub width_most : (x : ℕ) {d : Lead} → Some d ≡ lead_of x → (0 < d.width) × (d.width ≤ 4)
width_most = width_in 0 rows good

-- one law for each return of `lead_of`
module _ (x : ℕ) where
  pub lead_127 : {r : Option Lead} → x ≤ 127 → r ≡ Some (lead 1 0 0) → r ≡ lead_of x
  unfolding lead_in
  lead_127 h e = e ∙ simp (le-leb x 127 h, le-leb 0 x (omega arith))

  module _ (a127 : 127 < x) where
    pub lead_193 : {r : Option Lead} → x ≤ 193 → r ≡ None → r ≡ lead_of x
    unfolding lead_in
    lead_193 h e = e ∙ simp (lt-leb x 127 a127, le-leb x 223 (omega arith), lt-leb 194 x (omega arith), le-leb x 224 (omega arith), lt-leb 224 x (omega arith), le-leb x 236 (omega arith), lt-leb 225 x (omega arith), le-leb x 237 (omega arith), lt-leb 237 x (omega arith), le-leb x 239 (omega arith), lt-leb 238 x (omega arith), le-leb x 240 (omega arith), lt-leb 240 x (omega arith), le-leb x 243 (omega arith), lt-leb 241 x (omega arith), le-leb x 244 (omega arith), lt-leb 244 x (omega arith))

    module _ (a193 : 193 < x) where
      pub lead_223 : {r : Option Lead} → x ≤ 223 → r ≡ Some (lead 2 128 191) → r ≡ lead_of x
      unfolding lead_in
      lead_223 h e = e ∙ simp (lt-leb x 127 a127, le-leb x 223 h, le-leb 194 x (omega arith))

      module _ (a223 : 223 < x) where
        pub lead_224 : {r : Option Lead} → x ≤ 224 → r ≡ Some (lead 3 160 191) → r ≡ lead_of x
        unfolding lead_in
        lead_224 h e = e ∙ simp (lt-leb x 127 a127, lt-leb x 223 a223, le-leb x 224 h, le-leb 224 x (omega arith))

        module _ (a224 : 224 < x) where
          pub lead_236 : {r : Option Lead} → x ≤ 236 → r ≡ Some (lead 3 128 191) → r ≡ lead_of x
          unfolding lead_in
          lead_236 h e = e ∙ simp (lt-leb x 127 a127, lt-leb x 223 a223, lt-leb x 224 a224, le-leb x 236 h, le-leb 225 x (omega arith))

          module _ (a236 : 236 < x) where
            pub lead_237 : {r : Option Lead} → x ≤ 237 → r ≡ Some (lead 3 128 159) → r ≡ lead_of x
            unfolding lead_in
            lead_237 h e = e ∙ simp (lt-leb x 127 a127, lt-leb x 223 a223, lt-leb x 224 a224, lt-leb x 236 a236, le-leb x 237 h, le-leb 237 x (omega arith))

            module _ (a237 : 237 < x) where
              pub lead_239 : {r : Option Lead} → x ≤ 239 → r ≡ Some (lead 3 128 191) → r ≡ lead_of x
              unfolding lead_in
              lead_239 h e = e ∙ simp (lt-leb x 127 a127, lt-leb x 223 a223, lt-leb x 224 a224, lt-leb x 236 a236, lt-leb x 237 a237, le-leb x 239 h, le-leb 238 x (omega arith))

              module _ (a239 : 239 < x) where
                pub lead_240 : {r : Option Lead} → x ≤ 240 → r ≡ Some (lead 4 144 191) → r ≡ lead_of x
                unfolding lead_in
                lead_240 h e = e ∙ simp (lt-leb x 127 a127, lt-leb x 223 a223, lt-leb x 224 a224, lt-leb x 236 a236, lt-leb x 237 a237, lt-leb x 239 a239, le-leb x 240 h, le-leb 240 x (omega arith))

                module _ (a240 : 240 < x) where
                  pub lead_243 : {r : Option Lead} → x ≤ 243 → r ≡ Some (lead 4 128 191) → r ≡ lead_of x
                  unfolding lead_in
                  lead_243 h e = e ∙ simp (lt-leb x 127 a127, lt-leb x 223 a223, lt-leb x 224 a224, lt-leb x 236 a236, lt-leb x 237 a237, lt-leb x 239 a239, lt-leb x 240 a240, le-leb x 243 h, le-leb 241 x (omega arith))

                  module _ (a243 : 243 < x) where
                    pub lead_244 : {r : Option Lead} → x ≤ 244 → r ≡ Some (lead 4 128 143) → r ≡ lead_of x
                    unfolding lead_in
                    lead_244 h e = e ∙ simp (lt-leb x 127 a127, lt-leb x 223 a223, lt-leb x 224 a224, lt-leb x 236 a236, lt-leb x 237 a237, lt-leb x 239 a239, lt-leb x 240 a240, lt-leb x 243 a243, le-leb x 244 h, le-leb 244 x (omega arith))

                    module _ (a244 : 244 < x) where
                      pub lead_none : {r : Option Lead} → r ≡ None → r ≡ lead_of x
                      unfolding lead_in
                      lead_none e = e ∙ simp (lt-leb x 127 a127, lt-leb x 223 a223, lt-leb x 224 a224, lt-leb x 236 a236, lt-leb x 237 a237, lt-leb x 239 a239, lt-leb x 240 a240, lt-leb x 243 a243, lt-leb x 244 a244)
