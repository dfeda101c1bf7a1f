-- An image is read: its structure, then its numbers. What is left in the tables is the program of `parse`.
use Rattle.std.specs.Prelude.{◌≡◌, refl, List, Bool, true, false, ℕ, ◌*◌, ◌≤◌, length, take, Result, Ok, Err, MatchResult, IsOkAnd}
use Rattle.std.proofs.Common.{sym, ◌∙◌, arith}
use Rattle.std.proofs.Math.Path.{ap}
use Rattle.image.specs.Records.{if?, Answer, refused, accepted, then}
use Rattle.image.specs.Program.{Code, tab, program_fine}
use Rattle.image.specs.Image.{parse}
use Rattle.image.specs.Layout.{Tables, layout, code_at, program_of}
use Rattle.image.proofs.Agrees.{agrees}
use Rattle.layout.specs.Reads.{out_of, Low, Low?, Laid}
use Rattle.layout.specs.declared.Sizes.{Sizes}
use Rattle.refusals.specs.Refusals.{number_of}
use Rattle.refusals.specs.declared.Refusal.{Refusal}
use Rattle.refusals.specs.declared.Refusal.TheVariants.{ImageNumber}

-- the structure, then the numbers
unfoldable pub tested : List ℕ → Answer Tables
tested image = then (λ (t : Tables). if? (program_fine image (program_of image t)) (accepted t) (refused 3)) (layout image)

-- the program that an answer's tables stand for
abbrev pub shown : List ℕ → Answer Tables → Answer (List Code)
shown image = then (λ (t : Tables). accepted (program_of image t))

-- the refusal's number, 0 for none
abbrev pub refusal_of : Answer (List Code) → ℕ
refusal_of (refused n) = n
refusal_of (accepted p) = 0

tested_is : (image : List ℕ) → shown image (tested image) ≡ parse image
unfolding tested
tested_is image = by (layout image) ∙ agrees image
  where
    fine : (b : Bool) (t : Tables) → shown image (if? b (accepted t) (refused 3)) ≡ if? b (accepted (program_of image t)) (refused 3)
    fine true t = refl
    fine false t = refl

    by : (o : Answer Tables) → shown image (then (λ (t : Tables). if? (program_fine image (program_of image t)) (accepted t) (refused 3)) o)
        ≡ then (λ (t : Tables). if? (program_fine image (program_of image t)) (accepted (program_of image t)) (refused 3)) o
    by (refused n) = refl
    by (accepted t) = fine (program_fine image (program_of image t)) t

pub record Reads (image : List ℕ) (r : Result Sizes Refusal) (rows constants inner : List ℕ) : Type 0 where
  pub does : out_of r rows constants inner ≡ tested image
  pub shows : shown image (out_of r rows constants inner) ≡ parse image
  pub low : Low? r

reads : (image : List ℕ) {r : Result Sizes Refusal} {rows constants inner : List ℕ} → out_of r rows constants inner ≡ tested image → Low? r → Reads image r rows constants inner
reads image e l = record { does = e; shows = ap (shown image) e ∙ tested_is image; low = l }

-- so much is in the tables
pub record Fits (c u k : ℕ) (t p n : List ℕ) : Type 0 where
  pub codes : c ≤ 256
  pub rows : 2560 ≤ length t
  pub constants : u ≤ length p
  pub inner : k ≤ length n

module _ {image : List ℕ} {r : Result Sizes Refusal} {rows constants inner : List ℕ} (w : Laid image r rows constants inner) where
  pub laid_fits : {h : Sizes} → r ≡ Ok h → 2560 ≤ length rows → 10923 ≤ length constants → 256 ≤ length inner → Fits h.codes h.constants h.inner rows constants inner
  laid_fits {h} e a b d =
      let l : Low h.codes h.constants h.inner = rw e at w.low in
      record { codes = l.codes; rows = a; constants = omega (arith, l.used); inner = omega (arith, l.codes, l.kept) }

  pub reads_refused : {x : Refusal} → r ≡ Err x → Reads image (Err x) rows constants inner
  unfolding tested
  reads_refused e = reads image (ap (then _) (rw e at w.does)) (rw e at w.low)

  module _ {h : Sizes} (e : r ≡ Ok h) {t : Bool} (f : t ≡ program_fine image (tab h.codes (code_at image (take (10 * h.codes) rows) (take h.constants constants) (take h.inner inner)))) where
    tested_to : tested image ≡ if? t (out_of (Ok h) rows constants inner) (refused 3)
    unfolding tested
    tested_to = ap (then _) (sym (rw e at w.does)) ∙ ap (λ (b : Bool). if? b (out_of (Ok h) rows constants inner) (refused 3)) (sym f)

    pub reads_accepted : t ≡ true → Reads image (Ok h) rows constants inner
    reads_accepted y = reads image (sym (rw y at tested_to)) (rw e at w.low)

    pub reads_not : t ≡ false → Reads image (Err ImageNumber) rows constants inner
    reads_not y = reads image (sym (rw y at tested_to)) (omega arith)

-- what is tested of a program with these parts
pub fine_of : {i image : List ℕ} {p codes : List Code} → i ≡ image → p ≡ codes → {t : Bool} → t ≡ program_fine i p → t ≡ program_fine image codes
fine_of e f h = rw (e, f) at h

-- the answer's number
pub reads_number : {image : List ℕ} (r : Result Sizes Refusal) {rows constants inner : List ℕ} → Reads image r rows constants inner
    → (o : Result (Unit {0}) Refusal) (P : Sizes → Unit {0} → Type 0) → MatchResult r (λ h. IsOkAnd o (P h)) (λ x. o ≡ Err x) → number_of o ≡ refusal_of (parse image)
reads_number (Ok h) w (Ok u) P m = ap refusal_of w.shows
reads_number (Ok h) w (Err x) P m = absurd m
reads_number (Err x) w o P m = ap number_of m ∙ ap refusal_of w.shows
