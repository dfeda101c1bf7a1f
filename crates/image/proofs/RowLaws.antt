-- Rows and their numbers one behind the other: number f of row k, the first rows, and a row that is set.
use Rattle.std.specs.Prelude.{◌≡◌, refl, List, [], ◌∷◌, ◌++◌, ℕ, zero, suc, ◌+◌, ◌-◌, ◌*◌, ◌<◌, ◌≤◌, length, get_or, take, set}
use Rattle.std.proofs.Common.{sym, ap, ◌∙◌, arith, add-one, length-append, get_or-append-add, append_assoc, append-nil, take-suc-set}
use Rattle.std.proofs.Math.ListN.{get_or-append}
use Rattle.std.proofs.Math.Seq.{take-nil, take-append-add}
use Rattle.std.proofs.lemmas.List.{set-append_right, get_or-replicate}
use Rattle.image.specs.Layout.{numbers_of, flat, no_row, field}
use Rattle.image.specs.declared.Row.{Row}

pub length_flat : (l : List Row) → length (flat l) ≡ 10 * length l
unfolding flat
length_flat [] = refl
length_flat (r ∷ l) = omega (arith, length-append (numbers_of r) (flat l), length_flat l)

pub same_length : (l m : List Row) → length l ≡ length m → length (flat l) ≡ length (flat m)
same_length l m e = omega (arith, e, length_flat l, length_flat m)

pub row_within : (l : List Row) (k : ℕ) → 10 * k + 10 ≤ length (flat l) → k < length l
row_within l k h = omega (arith, h, length_flat l)

pub rows_long : (l : List Row) → 256 ≤ length l → 2560 ≤ length (flat l)
rows_long l h = omega (arith, h, length_flat l)

pub long_rows : (l : List Row) → 2560 ≤ length (flat l) → 256 ≤ length l
long_rows l h = omega (arith, h, length_flat l)

pub flat_append : (l m : List Row) → flat (l ++ m) ≡ flat l ++ flat m
unfolding flat
flat_append [] m = refl
flat_append (r ∷ l) m = ap (λ (x : List ℕ). numbers_of r ++ x) (flat_append l m) ∙ sym (append_assoc (numbers_of r) (flat l) (flat m))

none_zero : (f : ℕ) → f < 10 → 0 ≡ get_or (numbers_of no_row) f 0
none_zero f h = sym (get_or-replicate 10 f 0 0 h)

-- number f of row k
pub flat_field : (l : List Row) (k f : ℕ) → f < 10 → field (flat l) k f ≡ get_or (numbers_of (get_or l k no_row)) f 0
unfolding flat
flat_field [] k f h = none_zero f h
flat_field (r ∷ l) zero f h = let e : 10 * 0 + f ≡ f = omega arith in rw e (get_or-append (numbers_of r) (flat l) 0 f h)
flat_field (r ∷ l) (suc k) f h =
    let e : 10 * suc k + f ≡ 10 + (10 * k + f) = omega arith in
    rw e (get_or-append-add (numbers_of r) (flat l) (10 * k + f) 0) ∙ flat_field l k f h

-- the first n rows
pub flat_take : (n : ℕ) (l : List Row) → flat (take n l) ≡ take (10 * n) (flat l)
unfolding flat
flat_take zero l = refl
flat_take (suc n) [] = sym (take-nil (10 * suc n))
flat_take (suc n) (r ∷ l) =
    let e : 10 * suc n ≡ 10 + 10 * n = omega arith in
    rw e (ap (λ (x : List ℕ). numbers_of r ++ x) (flat_take n l) ∙ sym (take-append-add (numbers_of r) (flat l) (10 * n)))

-- row k is set: what lies before it, and its numbers
pub flat_push : (l : List Row) (k : ℕ) (r : Row) → k < length l → take (10 * k + 10) (flat (set l k r)) ≡ take (10 * k) (flat l) ++ numbers_of r
unfolding flat
flat_push l k r h =
    let e : 10 * k + 10 ≡ 10 * suc k = omega arith in
    rw e (sym (flat_take (suc k) (set l k r)) ∙ ap flat (take-suc-set l k r h) ∙ flat_append (take k l) (r ∷ []) ∙ ap (λ (x : List ℕ). x ++ flat (r ∷ [])) (flat_take k l))

-- row k with other last two numbers
abbrev pub with_codes : Row → ℕ → ℕ → Row
with_codes r from n = record {
  place = r.place;
  opcodes = r.opcodes;
  globals_at = r.globals_at;
  globals = r.globals;
  captures_at = r.captures_at;
  captures = r.captures;
  constants_from = r.constants_from;
  constants = r.constants;
  codes_from = from;
  codes = n;
}

pub flat_codes : (l : List Row) (k from n : ℕ) → k < length l → set (set (flat l) (10 * k + 8) from) (10 * k + 9) n ≡ flat (set l k (with_codes (get_or l k no_row) from n))
unfolding flat
flat_codes [] k from n h = absurd (omega (arith, h))
flat_codes (r ∷ l) zero from n h = refl
flat_codes (r ∷ l) (suc k) from n h =
    let a : 10 * suc k + 8 ≡ 10 + (10 * k + 8) = omega arith in
    let b : 10 * suc k + 9 ≡ 10 + (10 * k + 9) = omega arith in
    let c : (x y : ℕ) (s : List ℕ) → set (numbers_of r ++ s) (10 + x) y ≡ numbers_of r ++ set s x y =
    λ x y s. let d : 10 + x - 10 ≡ x = omega arith in rw d at (set-append_right (numbers_of r) s 10 (10 + x) y refl (omega arith)) in
    rw (a, b) (ap (λ (s : List ℕ). set s (10 + (10 * k + 9)) n) (c (10 * k + 8) from (flat l)) ∙ c (10 * k + 9) n (set (flat l) (10 * k + 8) from) ∙ ap (λ (x : List ℕ). numbers_of r ++ x) (flat_codes l k from n (omega (arith, h))))
