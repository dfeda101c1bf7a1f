-- The search for a line of the page, LF by LF.
use Rattle.std.specs.Prelude.{◌≡◌, refl, List, [], ◌∷◌, Bool, true, false, Option, Some, None, unwrap_or, ℕ, zero, suc, ◌+◌, ◌-◌, ◌<◌, ◌≤◌, eqb, length, take, drop}
use Rattle.std.specs.List.{position, position_or_len}
use Rattle.std.proofs.Common.{sym, ap, ◌∙◌, arith, drop-drop, length-drop, lt-ltb, le-ltb}
use Rattle.std.proofs.Math.Decide.{dec_lt}
use Rattle.cells.specs.Parts.{part_end}
use Rattle.machine.specs.Calls.{line_of, of_page, Line, line, missing}
use Rattle.readings.specs.declared.Spot.TheVariants.{Page}
use Rattle.readings.specs.Readings.{is_feed, found_of, given_at}

-- how many bytes stand before the first LF
abbrev before : List ℕ → ℕ
before s = position_or_len is_feed s

-- ---- The first LF ends a line, or there is none
line_last : (at n : ℕ) (s : List ℕ) → before s < length s → line_of zero at n s ≡ line at (n + before s)
unfolding line_of
line_last at n [] h = absurd (omega arith)
line_last at n (x ∷ s) h = by (eqb x 10) refl (line_last at (n + 1) s)
  where
    by : (b : Bool) → eqb x 10 ≡ b → (before s < length s → line_of zero at (n + 1) s ≡ line at (n + 1 + before s)) → line_of zero at n (x ∷ s) ≡ line at (n + before (x ∷ s))
    by true e more = rw e (ap (line at) (omega arith))
    by false e more = let l = rw e at h in rw e (more (omega (arith, l)) ∙ ap (line at) (omega arith))

line_more : (k at n : ℕ) (s : List ℕ) → before s < length s → line_of (suc k) at n s ≡ line_of k (at + n + before s + 1) 0 (drop (before s + 1) s)
unfolding line_of
line_more k at n [] h = absurd (omega arith)
line_more k at n (x ∷ s) h = by (eqb x 10) refl (line_more k at (n + 1) s)
  where
    by : (b : Bool) → eqb x 10 ≡ b → (before s < length s → line_of (suc k) at (n + 1) s ≡ line_of k (at + (n + 1) + before s + 1) 0 (drop (before s + 1) s))
        → line_of (suc k) at n (x ∷ s) ≡ line_of k (at + n + before (x ∷ s) + 1) 0 (drop (before (x ∷ s) + 1) (x ∷ s))
    by true e more = rw e (ap (λ (m : ℕ). line_of k m 0 s) (omega arith))
    by false e more =
        let l = rw e at h in
        let a : at + (n + 1) + before s + 1 ≡ at + n + (1 + before s) + 1 = omega arith in
        let b : 1 + before s + 1 ≡ suc (before s + 1) = omega arith in
        rw (e, b) (more (omega (arith, l)) ∙ ap (λ (m : ℕ). line_of k m 0 (drop (before s + 1) s)) a)

line_none : (k at n : ℕ) (s : List ℕ) → length s ≤ before s → line_of k at n s ≡ missing
unfolding line_of
line_none zero at n [] h = refl
line_none (suc k) at n [] h = refl
line_none zero at n (x ∷ s) h = by (eqb x 10) refl (line_none zero at (n + 1) s)
  where
    by : (b : Bool) → eqb x 10 ≡ b → (length s ≤ before s → line_of zero at (n + 1) s ≡ missing) → line_of zero at n (x ∷ s) ≡ missing
    by true e more = let l = rw e at h in absurd (omega (arith, l))
    by false e more = let l = rw e at h in rw e (more (omega (arith, l)))
line_none (suc k) at n (x ∷ s) h = by (eqb x 10) refl (line_none (suc k) at (n + 1) s)
  where
    by : (b : Bool) → eqb x 10 ≡ b → (length s ≤ before s → line_of (suc k) at (n + 1) s ≡ missing) → line_of (suc k) at n (x ∷ s) ≡ missing
    by true e more = let l = rw e at h in absurd (omega (arith, l))
    by false e more = let l = rw e at h in rw e (more (omega (arith, l)))

-- what the search of a list gives
feed_at : (s : List ℕ) {o : Option ℕ} {m : ℕ} → o ≡ position is_feed s → o ≡ Some m → (m < length s) × (m ≡ before s)
feed_at s {o} {m} w e = by (dec_lt (before s) (length s))
  where
    by : Dec (before s < length s) → (m < length s) × (m ≡ before s)
    by (yes h) = let q : m ≡ before s = let y = rw (lt-ltb _ _ h) at w in cc in (omega arith, q)
    by (no h) = let y = rw (le-ltb (before s) (length s) (omega arith)) at w in cc

feed_none : (s : List ℕ) {o : Option ℕ} → o ≡ position is_feed s → o ≡ None → length s ≤ before s
feed_none s {o} w e = by (dec_lt (before s) (length s))
  where
    by : Dec (before s < length s) → length s ≤ before s
    by (yes h) = let y = rw (lt-ltb _ _ h) at w in cc
    by (no h) = omega arith

-- ---- i lines are passed, and the next begins at `start`
pub record Seeking (page : List ℕ) (k start i : ℕ) : Type 0 where
  pub rest : line_of k 0 0 page ≡ line_of (k - i) start 0 (drop start page)
  pub inside : start ≤ length page

pub seeking_first : (page : List ℕ) (k : ℕ) → Seeking page k 0 0
seeking_first page k = let e : k - 0 ≡ k = omega arith in record { rest = rw e; inside = omega arith }

module _ {page : List ℕ} {k start i : ℕ} (w : Seeking page k start i) {o : Option ℕ} (g : o ≡ position is_feed (take (length page - start) (drop start page))) where
  f : o ≡ position is_feed (drop start page)
  f = g ∙ ap (position is_feed) (part_end page start)

  pub seeking_none : o ≡ None → None ≡ found_of (line_of k 0 0 page)
  seeking_none e = ap found_of (sym (w.rest ∙ line_none (k - i) start 0 (drop start page) (feed_none (drop start page) f e)))

  module _ {m : ℕ} (e : o ≡ Some m) where
    pub feed_inside : start + m < length page
    feed_inside = omega (arith, feed_at (drop start page) f e, length-drop start page)

    pub seeking_next : i < k → Seeking page k (start + (m + 1)) (i + 1)
    seeking_next h =
        let a : k - i ≡ suc (k - (i + 1)) = omega arith in
        let b : start + 0 + m + 1 ≡ start + (m + 1) = omega arith in
        let q = feed_at (drop start page) f e in
        record {
          rest = w.rest ∙ ap (λ (n : ℕ). line_of n start 0 (drop start page)) a
              ∙ line_more (k - (i + 1)) start 0 (drop start page) (omega (arith, q)) ∙ ap (λ (n : ℕ). line_of (k - (i + 1)) (start + 0 + n + 1) 0 (drop (n + 1) (drop start page))) (sym q.1)
              ∙ ap (λ (n : ℕ). line_of (k - (i + 1)) n 0 (drop (m + 1) (drop start page))) b ∙ ap (line_of (k - (i + 1)) (start + (m + 1)) 0) (drop-drop (m + 1) start page);
          inside = omega (arith, feed_inside);
        }

    pub seeking_found : k ≤ i → Some (record { start = start; size = m }) ≡ found_of (line_of k 0 0 page)
    seeking_found h =
        let a : k - i ≡ 0 = omega arith in
        let q = feed_at (drop start page) f e in
        ap found_of (sym (w.rest ∙ ap (λ (n : ℕ). line_of n start 0 (drop start page)) a ∙ line_last start 0 (drop start page) (omega (arith, q)) ∙ ap (line start) (omega (arith, q))))

-- where a message stands; a missing one is empty, at the page's end
pub message_at : (page : List ℕ) (l : Line) → given_at (Page (unwrap_or (found_of l) (record { start = length page; size = 0 }))) ≡ of_page page l
unfolding of_page
message_at page (line at n) = refl
message_at page missing = refl
