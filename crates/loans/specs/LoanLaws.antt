-- The fronts of loans are lent, and come back before what lies behind them.
use Rattle.std.specs.Prelude.{◌≡◌, List, ◌++◌, ℕ, ◌+◌, ◌<◌, length, take, drop}
use Rattle.std.proofs.Common.{sym, ap, ◌∙◌, append-nil, arith, drop_of_length-le, length-append, length-drop, length-take, take-append-drop, take_all, take_at, drop_at, length-take-le}
use Rattle.std.proofs.Math.Decide.{dec_lt}
use Rattle.machine.specs.Values.{Program}
use Rattle.requests.specs.Asked.{Entered}
use Rattle.loans.specs.Loans.{front_live, front_store}

-- a front of up to n bytes comes back as t
module _ (s : List ℕ) (n : ℕ) (t : List ℕ) (len : length t ≡ length (take n s)) where
  front_back : take n (t ++ drop n s) ≡ t
  front_back = by (dec_lt (length s) n)
    where
      by : Dec (length s < n) → take n (t ++ drop n s) ≡ t
      by (yes h) =
          take_all n (t ++ drop n s) (simp (length-append, length-drop) (omega (arith, len, length-take n s)))
          ∙ ap (λ (d : List ℕ). t ++ d) (drop_of_length-le s {i = n} (omega arith)) ∙ append-nil t
      by (no h) = take_at t (drop n s) n (len ∙ length-take-le n s (omega arith))

  behind_back : drop n (t ++ drop n s) ≡ drop n s
  behind_back = by (dec_lt (length s) n)
    where
      by : Dec (length s < n) → drop n (t ++ drop n s) ≡ drop n s
      by (yes h) =
          drop_of_length-le (t ++ drop n s) {i = n} (simp (length-append, length-drop) (omega (arith, len, length-take n s)))
          ∙ sym (drop_of_length-le s {i = n} (omega arith))
      by (no h) = drop_at t (drop n s) n (len ∙ length-take-le n s (omega arith))

-- what was done to the fronts that were lent was done to the loans, and bytes behind them did not change
pub record Parted (live store l s b d : List ℕ) : Type 0 where
  pub lent_live : l ≡ front_live live
  pub lent_store : s ≡ front_store store
  pub behind_live : b ≡ drop 65536 live
  pub behind_store : d ≡ drop 1048576 store

module _ {live store l s b d : List ℕ} (p : Parted live store l s b d) where
  pub loans_entered : {P : Program} {state : List ℕ} → Entered P state (front_live live) (front_store store) → Entered P state l s
  loans_entered x = rw (p.lent_live, p.lent_store) x

  pub loans_back : (W : List ℕ → List ℕ → List ℕ → List ℕ → Type 0) {f g live' store' : List ℕ} → W l s f g → length f ≡ length l → length g ≡ length s → live' ≡ f ++ b → store' ≡ g ++ d
      → W (front_live live) (front_store store) (front_live live') (front_store store') × (drop 65536 live' ≡ drop 65536 live) × (drop 1048576 store' ≡ drop 1048576 store)
  loans_back W {f} {g} {live'} {store'} w u v a c =
      let x : live' ≡ f ++ drop 65536 live = a ∙ ap (λ (t : List ℕ). f ++ t) p.behind_live in
      let y : store' ≡ g ++ drop 1048576 store = c ∙ ap (λ (t : List ℕ). g ++ t) p.behind_store in
      let i : length f ≡ length (front_live live) = u ∙ ap length p.lent_live in
      let j : length g ≡ length (front_store store) = v ∙ ap length p.lent_store in
      let k : front_live live' ≡ f = ap (take 65536) x ∙ front_back live 65536 f i in
      let m : front_store store' ≡ g = ap (take 1048576) y ∙ front_back store 1048576 g j in
      (rw (k, m, ← p.lent_live, ← p.lent_store) w, ap (drop 65536) x ∙ behind_back live 65536 f i, ap (drop 1048576) y ∙ behind_back store 1048576 g j)

-- ---- A front and what lies behind it are the whole
pub whole : (n : ℕ) (s t : List ℕ) → take n t ≡ take n s → drop n t ≡ drop n s → t ≡ s
whole n s t a b = sym (take-append-drop n t) ∙ (λ j. a j ++ b j) ∙ take-append-drop n s

pub length_whole : (n : ℕ) (s t : List ℕ) → length (take n t) ≡ length (take n s) → drop n t ≡ drop n s → length t ≡ length s
length_whole n s t a b =
    let f : (l : List ℕ) → length l ≡ length (take n l) + length (drop n l) = λ l. ap length (sym (take-append-drop n l)) ∙ length-append (take n l) (drop n l) in
    omega (arith, f s, f t, a, ap length b)
