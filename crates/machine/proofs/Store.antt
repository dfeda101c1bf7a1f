-- Laws of the store: an object keeps its place as the store grows.
use Rattle.std.specs.Prelude.{◌≡◌, refl, List, [], ◌∷◌, ◌++◌, ◌⊎◌, Bool, true, false, ℕ, ◌+◌, ◌-◌, ◌≤◌, ◌<◌, eqb, ltb}
use Rattle.std.proofs.Common.{inl, inr, ⊎_elim, arith, eqb-true, ltb-false, ne_eqb, le-ltb}
use Rattle.cells.specs.declared.Cell.{Cell}
use Rattle.image.specs.Records.{if?}
use Rattle.machine.specs.Machine.{Object, closure, list, continuation, cost, used, Lookup, here, absent, object_at}

pub cost_some : (o : Object) → 0 < cost o
unfolding cost
cost_some (closure c us) = omega arith
cost_some (list vs) = omega arith
cost_some (continuation K) = omega arith

pub used_append : (s t : List Object) → used (s ++ t) ≡ used s + used t
unfolding used
used_append [] t = omega arith
used_append (o ∷ s) t = omega (arith, used_append s t)

-- The only object of a store stands at 0.
pub at_one : (x o : Object) (k : ℕ) → object_at (x ∷ []) k ≡ here o → (k ≡ 0) × (x ≡ o)
unfolding object_at
at_one x o k h = by (eqb k 0) (ltb k (cost x)) refl h
  where
    by : (a b : Bool) → eqb k 0 ≡ a → if? a (here x) (if? b absent absent) ≡ here o → (k ≡ 0) × (x ≡ o)
    by true b q h = (eqb-true k 0 q, cc)
    by false true q h = let z : ◌≡◌ {A = ℕ} 0 1 = cc in absurd (omega arith)
    by false false q h = let z : ◌≡◌ {A = ℕ} 0 1 = cc in absurd (omega arith)

-- An object of a longer store is one of the store, or one of the new.
pub at_append : (s new : List Object) (k : ℕ) (o : Object) → object_at (s ++ new) k ≡ here o → (object_at s k ≡ here o) ⊎ ((j : ℕ) × (k ≡ used s + j) × (object_at new j ≡ here o))
unfolding object_at used
at_append [] new k o h = inr (k, omega arith, h)
at_append (x ∷ s) new k o h = by (eqb k 0) (ltb k (cost x)) refl h (at_append s new (k - cost x) o)
  where
    Old : Bool → Bool → Type 0
    Old a b = if? a (here x) (if? b absent (object_at s (k - cost x))) ≡ here o

    by : (a b : Bool) → ltb k (cost x) ≡ b → if? a (here x) (if? b absent (object_at (s ++ new) (k - cost x))) ≡ here o
        → (object_at (s ++ new) (k - cost x) ≡ here o → (object_at s (k - cost x) ≡ here o) ⊎ ((j : ℕ) × (k - cost x ≡ used s + j) × (object_at new j ≡ here o)))
        → Old a b ⊎ ((j : ℕ) × (k ≡ cost x + used s + j) × (object_at new j ≡ here o))
    by true b q h ih = inl h
    by false true q h ih = let z : ◌≡◌ {A = ℕ} 0 1 = cc in absurd (omega arith)
    by false false q h ih = let l : cost x ≤ k = ltb-false k (cost x) q in ⊎_elim inl (λ w. inr (w.0, omega (arith, w.1), w.2)) (ih h)

pub at_keeps : (s new : List Object) (k : ℕ) (o : Object) → object_at s k ≡ here o → object_at (s ++ new) k ≡ here o
unfolding object_at
at_keeps [] new k o h = let z : ◌≡◌ {A = ℕ} 0 1 = cc in absurd (omega arith)
at_keeps (x ∷ s) new k o h = by (eqb k 0) (ltb k (cost x)) h (at_keeps s new (k - cost x) o)
  where
    by : (a b : Bool) → if? a (here x) (if? b absent (object_at s (k - cost x))) ≡ here o
        → (object_at s (k - cost x) ≡ here o → object_at (s ++ new) (k - cost x) ≡ here o)
        → if? a (here x) (if? b absent (object_at (s ++ new) (k - cost x))) ≡ here o
    by true b h ih = h
    by false true h ih = h
    by false false h ih = ih h

-- A new object stands at what was used.
pub at_new : (s : List Object) (o : Object) (rest : List Object) → object_at (s ++ o ∷ rest) (used s) ≡ here o
unfolding object_at used
at_new [] o rest = refl
at_new (x ∷ s) o rest =
    let p : 0 < cost x = cost_some x in
    let e : cost x + used s - cost x ≡ used s = omega arith in
    rw (ne_eqb (cost x + used s) 0 (λ q. omega arith), le-ltb (cost x + used s) (cost x) (omega arith), e) (at_new s o rest)

-- One look-up finds one closure's code.
pub same_code : {x : Lookup} {c d : ℕ} {us vs : List Cell} → x ≡ here (closure c us) → x ≡ here (closure d vs) → c ≡ d
same_code h k = cc
