-- The bytes of a number as std's `from_le_bytes` and `to_le_bytes` have them are those of `le_at` and `put_at`.
-- Assumes nothing.
use Rattle.std.specs.Prelude.{◌≡◌, refl, List, ℕ, zero, suc, ◌+◌, ◌*◌, ◌/◌, ◌%◌, ◌^◌, ◌<◌, ◌≤◌}
use Rattle.std.specs.Prelude.{length, get_or, set, take, drop}
use Rattle.std.specs.Int.{byte_at, bytes_low_first}
use Rattle.std.proofs.Common.{sym, ap, ◌∙◌, zero-add, add-zero, add-one, div-one, arith}
use Rattle.std.proofs.Math.Nat.{pow-suc}
use Rattle.std.proofs.Math.Seq.{paste, paste-zero, paste-suc}
use Rattle.std.proofs.lemmas.Slice.{put_mid-paste}
use borrow.Rule.Slice.PartMut.{put_mid}
use Rattle.cells.specs.Le.{le_at, put_at, limit, le_part, put_join}

-- the k bytes at `at` as a list of their own
pub le_bytes : (k : ℕ) (s b : List ℕ) (at n : ℕ) → b ≡ take n (drop at s) → n ≡ k → le_at k b 0 ≡ le_at k s at
le_bytes k s b at n e m = rw e (le_part k s at n 0 (omega arith)) ∙ ap (le_at k s) (add-zero at)

limit_pow : (k : ℕ) → limit k ≡ 256 ^ k
unfolding limit
limit_pow zero = refl
limit_pow (suc k) = ap (λ (n : ℕ). n * 256) (limit_pow k) ∙ sym (pow-suc 256 k)

byte_limit : (i x : ℕ) → byte_at i x ≡ x / limit i % 256
unfolding limit
byte_limit zero x = ap (λ (n : ℕ). n % 256) (sym (div-one x))
byte_limit (suc i) x = ap (λ (n : ℕ). x / n % 256) (sym (limit_pow (suc i)))

length_low : (i k x : ℕ) → length (bytes_low_first i k x) ≡ k
length_low i zero x = refl
length_low i (suc k) x = ap suc (length_low (suc i) k x)

get_or_low : (i k x j : ℕ) → j < k → get_or (bytes_low_first i k x) j 0 ≡ x / limit (i + j) % 256
get_or_low i zero x j h = absurd (omega arith)
get_or_low i (suc k) x zero h = byte_limit i x ∙ ap (λ (n : ℕ). x / limit n % 256) (sym (add-zero i))
get_or_low i (suc k) x (suc j) h =
    get_or_low (suc i) k x j (omega arith) ∙ ap (λ (n : ℕ). x / limit n % 256) (omega arith)

-- the first j of the k lowest bytes of x are written, the lowest first
paste_low : (k j : ℕ) (s : List ℕ) (at x : ℕ) → j ≤ k → at + k ≤ length s
    → paste s at (bytes_low_first 0 k x) j ≡ put_at j s at x
unfolding put_at
paste_low k zero s at x h l = sym (paste-zero s at (bytes_low_first 0 k x))
paste_low k (suc j) s at x h l =
    let b : List ℕ = bytes_low_first 0 k x in
    let n : j < length b = rw (length_low 0 k x) (omega arith) in
    let v : get_or b j 0 ≡ x / limit j % 256 =
    get_or_low 0 k x j (omega arith) ∙ ap (λ (m : ℕ). x / limit m % 256) (zero-add j) in
    let w : set (paste s at b j) (at + j) (get_or b j 0) ≡ set (put_at j s at x) (at + j) (x / limit j % 256) =
    λ i. set (paste_low k j s at x (omega arith) l i) (at + j) (v i) in
    sym (paste-suc s at b j 0 (omega arith) n) ∙ w ∙ sym (put_join j 1 s at x)
    ∙ ap (λ (m : ℕ). put_at m s at x) (add-one j)

-- what `s[at..at + k].copy_from_slice(&x.to_le_bytes())` leaves
pub put_bytes : (k : ℕ) (s b : List ℕ) (at x n : ℕ) → b ≡ bytes_low_first 0 k x → n ≡ k → at + k ≤ length s
    → put_mid at n s b ≡ put_at k s at x
put_bytes k s b at x n e m h =
    put_mid-paste at n s b (bytes_low_first 0 k x) k e (sym m) (sym (length_low 0 k x))
    ∙ paste_low k k s at x (omega arith) h
