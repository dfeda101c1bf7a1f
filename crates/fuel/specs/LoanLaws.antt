-- Laws of fuel as 5 bytes.
use Rattle.std.specs.Prelude.{◌≡◌, refl, not, Ok, Err, List, ℕ, eqb, length, get_or}
use Rattle.std.proofs.Common.{sym, ap, ◌∙◌, subst, inr, arith, eq-eqb, ne_eqb, SFits, to_z, of_z, to_z-of_z}
use Rattle.std.proofs.Math.Decide.{ℕ_discrete}
use Rattle.std.specs.Int.{w32}
use Rattle.std.proofs.Math.Facts.{of_z-to_z, Fits-of_z, sfits_to_z}
use Rattle.cells.specs.Le.{le_at, put_at, limit, Bytes, length_put, get_or_put, le_put_same, le_bound, put_le}
use Rattle.fuel.specs.declared.Fuel.{Fuel}
use Rattle.refusals.specs.declared.Refusal.TheVariants.{BadLoan}
use Rattle.fuel.specs.Loans.{held, read, write}

-- the two cases of each definition
module _ (s : List ℕ) (is : length s ≡ 5) where
  pub read_held : read s ≡ Ok (held s)
  unfolding read
  read_held = simp (eq-eqb _ _ is)

  pub write_held : (f : Fuel) → write s f ≡ put_at 4 s 0 (of_z w32 f.fuel)
  unfolding write
  write_held f = simp (eq-eqb _ _ is)

module _ (s : List ℕ) (else : length s ≡ 5 → ⊥) where
  pub read_other : read s ≡ Err BadLoan
  unfolding read
  read_other = simp (ne_eqb _ _ else)

  pub write_other : (f : Fuel) → write s f ≡ s
  unfolding write
  write_other f = simp (ne_eqb _ _ else)

-- the number read is an i32
pub held_fits : (s : List ℕ) → Bytes s → SFits w32 (held s).fuel
unfolding limit
held_fits s bytes = sfits_to_z {w = w32} (record { fits = le_bound 4 s 0 bytes })

-- what holds of both cases of a write
on_write : (P : List ℕ → Type 0) (s : List ℕ) (f : Fuel) → (length s ≡ 5 → P (put_at 4 s 0 (of_z w32 f.fuel))) → P s → P (write s f)
on_write P s f h k = by (ℕ_discrete (length s) 5)
  where
    by : Dec (length s ≡ 5) → P (write s f)
    by (yes is) = subst P (sym (write_held s is f)) (h is)
    by (no else) = subst P (sym (write_other s else f)) k

pub length_write : (s : List ℕ) (f : Fuel) → length (write s f) ≡ length s
length_write s f = on_write (λ t. length t ≡ length s) s f (λ is. length_put 4 s 0 _) refl

-- the mark byte is left
pub write_mark : (s : List ℕ) (f : Fuel) → get_or (write s f) 4 0 ≡ get_or s 4 0
write_mark s f = on_write (λ t. get_or t 4 0 ≡ get_or s 4 0) s f (λ is. get_or_put 4 s 0 _ 4 (inr (omega arith))) refl

-- fuel that was written is read, if its mark is the one that was there
pub read_write : (s : List ℕ) (f : Fuel) → length s ≡ 5 → SFits w32 f.fuel → f.interrupted ≡ (held s).interrupted → read (write s f) ≡ Ok f
unfolding limit
read_write s f is n m =
    let bits : le_at 4 (write s f) 0 ≡ of_z w32 f.fuel = ap (λ (t : List ℕ). le_at 4 t 0) (write_held s is f) ∙ le_put_same 4 s 0 _ (omega arith) (Fits-of_z n).fits in
    let number : to_z w32 (le_at 4 (write s f) 0) ≡ f.fuel = ap (to_z w32) bits ∙ to_z-of_z n in
    let mark : (held (write s f)).interrupted ≡ f.interrupted = ap (λ (b : ℕ). not (eqb b 0)) (write_mark s f) ∙ sym m in
    read_held (write s f) (length_write s f ∙ is) ∙ (λ i. Ok (record { fuel = number i; interrupted = mark i }))

-- to write what was read changes nothing
pub write_read : (s : List ℕ) (f : Fuel) → Bytes s → read s ≡ Ok f → write s f ≡ s
unfolding limit
write_read s f bytes e = on_write (λ t. t ≡ s) s f same refl
  where
    same : length s ≡ 5 → put_at 4 s 0 (of_z w32 f.fuel) ≡ s
    same is =
        let was : f ≡ held s = cc (read_held s is) in
        let bits : of_z w32 f.fuel ≡ le_at 4 s 0 = ap (λ (g : Fuel). of_z w32 g.fuel) was ∙ of_z-to_z {w = w32} (record { fits = le_bound 4 s 0 bytes }) in
        ap (put_at 4 s 0) bits ∙ put_le 4 s 0 bytes
