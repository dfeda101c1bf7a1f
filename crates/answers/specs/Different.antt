-- The different effects of a list, one by one: what is kept, and what that leaves of the rest.
use Rattle.std.specs.Prelude.{◌≡◌, Bool, get_or, set, Option, Some, None, IfSome, IfNone}
use Rattle.std.proofs.Math.Path.{refl, sym, ap}
use Rattle.std.proofs.Common.{subst, ◌∙◌, true≢false, add-one, length-append, drop-cons, get_or-take, length-take-le, take-suc-set}
use mathlib.Core.List.{List, [], ◌∷◌, ◌++◌, append_assoc, append-nil}
use Rattle.std.proofs.Math.Bool.{true, false}
use Rattle.std.proofs.lemmas.Bool.{false≢true}
use Rattle.std.specs.Bool.{MatchBool}
use Rattle.std.specs.List.{range_with_len, AllWithin, HoldsAt}
use Rattle.std.proofs.lemmas.List.FromFn.{length-range_with_len, get_or-range_with_len}
use Prim.Native.Nat.{ℕ, zero, suc, ◌+◌, ◌<◌, ◌≤◌}
use native.Mathlib.Omega.{arith}
use Rattle.std.proofs.Math.ListN.{length, take, drop, drop_of_length-le}
use Rattle.cells.specs.Cells.{null, room, cells, Sound, Writes}
use Rattle.cells.specs.CellsLaws.{length_cells}
use Rattle.cells.specs.declared.Cell.{Cell}
use Rattle.image.specs.Records.{if?}
use Rattle.machine.specs.Values.{Program, equal_effects}
use Rattle.machine.specs.Calls.{without, distinct}
use Rattle.answers.specs.Answered.{Among, Distinct}

-- ---- Is an effect among those kept?
module _ (P : Program) (kept : List Cell) (n : ℕ) (e : Cell) where
  -- the j-th is equal to e, or it is not
  abbrev pub Equal : Bool → ℕ → Type 0
  Equal b j = equal_effects P (get_or kept j null) e ≡ b

  -- what `any` over their places answers
  pub among_any : (r : Bool) → MatchBool r ((k : ℕ) × (k < length (range_with_len 0 n)) × HoldsAt (Equal true) (range_with_len 0 n) k) (AllWithin (Equal false) (range_with_len 0 n) 0 (length (range_with_len 0 n)))
      → Among P kept n e r
  among_any true m =
      let lt : m.0 < n = rw length-range_with_len at m.1 in
      let h : Equal true m.0 = subst (Equal true) (get_or-range_with_len 0 n m.0 0 lt ∙ omega arith) (m.2 0) in
      record { there = λ r. (m.0, lt, h); absent = λ r. absurd (true≢false r) }
  among_any false m = record {
    there = λ r. absurd (false≢true r);
    absent = λ r j lt. subst (Equal false) (get_or-range_with_len 0 n j 0 lt ∙ omega arith) (m j 0 (omega arith) (rw length-range_with_len lt));
  }

-- ---- What is left of a list without the effects kept
module _ (P : Program) where
  unfoldable pub without_all : List Cell → List Cell → List Cell
  without_all [] xs = xs
  without_all (k ∷ ks) xs = without_all ks (without P k xs)

  abbrev pub different : List Cell → List Cell
  different xs = distinct P (length xs) xs

  all_none : (ks : List Cell) → without_all ks [] ≡ []
  unfolding without_all without
  all_none [] = refl
  all_none (k ∷ ks) = all_none ks

  all_more : (ks : List Cell) (e : Cell) (xs : List Cell) → without_all (ks ++ (e ∷ [])) xs ≡ without P e (without_all ks xs)
  unfolding without_all
  all_more [] e xs = refl
  all_more (k ∷ ks) e xs = all_more ks e (without P k xs)

  -- the first stays if none is equal to it, and goes if one is
  all_keep : (ks : List Cell) (e : Cell) (xs : List Cell) → ((j : ℕ) → j < length ks → equal_effects P (get_or ks j null) e ≡ false) → without_all ks (e ∷ xs) ≡ e ∷ without_all ks xs
  unfolding without_all without
  all_keep [] e xs h = refl
  all_keep (k ∷ ks) e xs h = rw (h 0 (omega arith)) (all_keep ks e (without P k xs) (λ j lt. h (suc j) (omega arith)))

  all_drop : (ks : List Cell) (e : Cell) (xs : List Cell) (j : ℕ) → j < length ks → equal_effects P (get_or ks j null) e ≡ true → without_all ks (e ∷ xs) ≡ without_all ks xs
  unfolding without_all without
  all_drop [] e xs j lt h = absurd (omega arith)
  all_drop (k ∷ ks) e xs zero lt h = rw h
  all_drop (k ∷ ks) e xs (suc j) lt h = by (all_drop ks e (without P k xs) j (omega arith) h) (equal_effects P k e)
    where
      by : without_all ks (e ∷ without P k xs) ≡ without_all ks (without P k xs) → (b : Bool) → without_all ks (if? b (without P k xs) (e ∷ without P k xs)) ≡ without_all ks (without P k xs)
      by ih true = refl
      by ih false = ih

  -- ---- As many turns as there are effects are enough
  length_without : (e : Cell) (xs : List Cell) → length (without P e xs) ≤ length xs
  unfolding without
  length_without e [] = omega arith
  length_without e (x ∷ xs) = by (length_without e xs) (equal_effects P e x)
    where
      by : length (without P e xs) ≤ length xs → (b : Bool) → length (if? b (without P e xs) (x ∷ without P e xs)) ≤ suc (length xs)
      by ih true = omega arith
      by ih false = omega arith

  distinct_turns : (n m : ℕ) (xs : List Cell) → length xs ≤ n → length xs ≤ m → distinct P n xs ≡ distinct P m xs
  unfolding distinct
  distinct_turns zero zero xs a b = refl
  distinct_turns zero (suc m) [] a b = refl
  distinct_turns zero (suc m) (x ∷ xs) a b = absurd (omega arith)
  distinct_turns (suc n) zero [] a b = refl
  distinct_turns (suc n) zero (x ∷ xs) a b = absurd (omega arith)
  distinct_turns (suc n) (suc m) [] a b = refl
  distinct_turns (suc n) (suc m) (x ∷ xs) a b =
      ap (λ (l : List Cell). x ∷ l) (distinct_turns n m (without P x xs) (omega (arith, length_without x xs)) (omega (arith, length_without x xs)))

  different_more : (e : Cell) (xs : List Cell) → different (e ∷ xs) ≡ e ∷ different (without P e xs)
  unfolding distinct
  different_more e xs = ap (λ (l : List Cell). e ∷ l) (distinct_turns (length xs) (length (without P e xs)) (without P e xs) (length_without e xs) (omega arith))

  -- ---- One effect more
  -- what the kept ks and the effects xs still to come are together
  abbrev pub total : List Cell → List Cell → List Cell
  total ks xs = ks ++ different (without_all ks xs)

  total_drop : (ks : List Cell) (e : Cell) (xs : List Cell) (j : ℕ) → j < length ks → equal_effects P (get_or ks j null) e ≡ true → total ks (e ∷ xs) ≡ total ks xs
  total_drop ks e xs j lt h = ap (λ (l : List Cell). ks ++ different l) (all_drop ks e xs j lt h)

  module _ (ks : List Cell) (e : Cell) (xs : List Cell) (h : (j : ℕ) → j < length ks → equal_effects P (get_or ks j null) e ≡ false) where
    first_new : different (without_all ks (e ∷ xs)) ≡ e ∷ different (without P e (without_all ks xs))
    first_new = ap (λ (l : List Cell). different l) (all_keep ks e xs h) ∙ different_more e (without_all ks xs)

    total_keep : total ks (e ∷ xs) ≡ total (ks ++ (e ∷ [])) xs
    total_keep =
        ap (λ (l : List Cell). ks ++ l) first_new ∙ sym (append_assoc ks (e ∷ []) _)
        ∙ ap (λ (l : List Cell). (ks ++ (e ∷ [])) ++ different l) (sym (all_more ks e xs))

    total_more : length ks < length (total ks (e ∷ xs))
    total_more = omega (arith, length-append ks (different (without_all ks (e ∷ xs))), ap length first_new)

-- e goes behind the first n that are kept, unless one of them is equal to it; r are kept then, or there is no place for it
pub record Keeps (P : Program) (e : Cell) (n : ℕ) (old : List ℕ) (r : Option ℕ) (new : List ℕ) : Type 0 where
  pub most : IfSome r (λ k. k ≤ 16)
  pub few : IfSome r (λ k. (xs : List Cell) → total P (take n (cells old)) (e ∷ xs) ≡ total P (take k (cells new)) xs)
  pub many : IfNone r ((xs : List Cell) → 16 < length (total P (take n (cells old)) (e ∷ xs)))

module _ {P : Program} {e : Cell} {n : ℕ} {t : Bool} (old : List ℕ) (fits : (n ≤ 16) × (16 ≤ room old)) (a : Among P (cells old) n e t) where
  length_kept : length (take n (cells old)) ≡ n
  length_kept = length-take-le n (cells old) (omega (arith, fits.0, fits.1, length_cells old))

  -- none of them is equal to it
  misses : t ≡ false → (j : ℕ) → j < length (take n (cells old)) → equal_effects P (get_or (take n (cells old)) j null) e ≡ false
  misses f j lt =
      let k : j < n = omega (arith, length_kept) in
      ap (λ (x : Cell). equal_effects P x e) (get_or-take n (cells old) j null k) ∙ a.absent f j k

  pub keeps_old : t ≡ true → Keeps P e n old (Some n) old
  keeps_old f =
      let w = a.there f in
      record {
        most = omega (arith, fits.0);
        few = λ xs. total_drop P (take n (cells old)) e xs w.0 (omega (arith, w.1, length_kept)) (ap (λ (x : Cell). equal_effects P x e) (get_or-take n (cells old) w.0 null w.1) ∙ w.2);
        many = tt;
      }

  pub keeps_many : t ≡ false → n ≡ 16 → Keeps P e n old None old
  keeps_many f q = record {
    most = tt;
    few = tt;
    many = λ xs. omega (arith, total_more P (take n (cells old)) e xs (misses f), length_kept);
  }

  pub keeps_new : {new : List ℕ} → t ≡ false → (n ≡ 16 → ⊥) → Writes old (set (cells old) n e) new → Keeps P e n old (Some (n + 1)) new
  keeps_new {new} f ne u =
      let less : n < 16 = omega (arith, fits.0) in
      record {
        most = omega arith;
        few = λ xs.
            let k : take (n + 1) (cells new) ≡ take n (cells old) ++ (e ∷ []) = ap (take (n + 1)) u.cells ∙ rw add-one (take-suc-set (cells old) n e (omega (arith, less, fits.1, length_cells old))) in
            total_keep P (take n (cells old)) e xs (misses f) ∙ ap (λ (l : List Cell). total P l xs) (sym k);
        many = tt;
      }

-- ---- All of them
-- i effects were looked at, and n of them are kept
pub record Sorted (P : Program) (es : List Cell) (size n i : ℕ) (kept : List ℕ) : Type 0 where
  pub within : i ≤ length es
  pub few : n ≤ 16
  pub whole : total P (take n (cells kept)) (drop i es) ≡ different P es
  pub len : length kept ≡ size

pub sorted_none : (P : Program) (es : List Cell) (kept : List ℕ) → Sorted P es (length kept) 0 0 kept
unfolding without_all
sorted_none P es kept = record { within = omega arith; few = omega arith; whole = refl; len = refl }

module _ {P : Program} (b : List ℕ) {all z n i : ℕ} {kept : List ℕ} (s : Sorted P (cells b) z n i kept) (q : all ≡ room b) where
  module _ (lt : i < all) {e : Cell} {r : Option ℕ} {new : List ℕ} (is : (e ≡ get_or (cells b) i null) × Sound e) (k : Keeps P e n kept r new) where
    here : drop i (cells b) ≡ e ∷ drop (i + 1) (cells b)
    here = rw (is.0, add-one) (drop-cons (cells b) i null (omega (arith, length_cells b)))

    now_whole : total P (take n (cells kept)) (e ∷ drop (i + 1) (cells b)) ≡ different P (cells b)
    now_whole = ap (total P (take n (cells kept))) (sym here) ∙ s.whole

    pub sorted_more : {m : ℕ} → r ≡ Some m → length new ≡ length kept → Sorted P (cells b) z m (i + 1) new
    sorted_more w l =
        let few : IfSome r (λ j. j ≤ 16) = k.most in
        let moved = k.few in
        record { within = omega (arith, length_cells b); few = rw w at few; whole = sym ((rw w at moved) (drop (i + 1) (cells b))) ∙ now_whole; len = l ∙ s.len }

    pub distinct_many : r ≡ None → Distinct P (cells b) None (cells new)
    distinct_many w =
        let more = k.many in
        record { most = tt; few = tt; many = omega (arith, (rw w at more) (drop (i + 1) (cells b)), ap length now_whole) }

  pub distinct_few : all ≤ i → Distinct P (cells b) (Some n) (cells kept)
  unfolding distinct
  distinct_few le = record {
    most = s.few;
    few =
        let K : List Cell = take n (cells kept) in
        let d : drop i (cells b) ≡ [] = drop_of_length-le (cells b) {i = i} (omega (arith, length_cells b)) in
        sym (append-nil K) ∙ ap (λ (l : List Cell). K ++ different P l) (sym (all_none P K)) ∙ ap (total P K) (sym d) ∙ s.whole;
    many = tt;
  }
