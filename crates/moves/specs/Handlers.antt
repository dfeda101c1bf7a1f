-- Handlers by their places: what registering an effect and looking for one come to, where the tests one by one are known.
use Rattle.std.specs.Prelude.{◌≡◌, true, false, length, get_or, set}
use Rattle.std.proofs.Math.Path.{refl}
use Rattle.std.proofs.Common.{ap, arith}
use mathlib.Core.List.{List, [], ◌∷◌, ◌++◌}
use Prim.Native.Nat.{ℕ, zero, suc, ◌<◌}
use Rattle.cells.specs.declared.Cell.{Cell}
use Rattle.machine.specs.Values.{Program, equal_effects}
use Rattle.machine.specs.Machine.{Handler, effects, holds, target_of}
use Rattle.machine.specs.Opcodes.{registered}
use Rattle.moves.specs.Runs.{no_handler}

module _ (P : Program) (e : Cell) where
  -- none of the first n has the effect
  abbrev pub Misses : List Handler → ℕ → Type 0
  Misses hs n = (i : ℕ) → i < n → equal_effects P (get_or hs i no_handler).effect e ≡ false

  -- the i-th is the first that has it
  pub record First (hs : List Handler) (i : ℕ) : Type 0 where
    pub within : i < length hs
    pub before : Misses hs i
    pub has : equal_effects P (get_or hs i no_handler).effect e ≡ true

  later : (h : Handler) (hs : List Handler) (n : ℕ) → Misses (h ∷ hs) (suc n) → Misses hs n
  later h hs n m i lt = m (suc i) (omega arith)

  next : (h : Handler) (hs : List Handler) (i : ℕ) → First (h ∷ hs) (suc i) → First hs i
  next h hs i o = record { within = omega (arith, o.within); before = later h hs i o.before; has = o.has }

  -- `add_handler` where none has it, `set_handler` at the first that does
  pub registered_new : (t n : ℕ) (hs : List Handler) → Misses hs (length hs) → registered P e t n hs ≡ hs ++ (record { effect = e; target = t; stack_size = n } ∷ [])
  unfolding registered
  registered_new t n [] m = refl
  registered_new t n (h ∷ hs) m = rw (m 0 (omega arith)) (ap (λ (l : List Handler). h ∷ l) (registered_new t n hs (later h hs (length hs) m)))

  pub registered_at : (t n : ℕ) (hs : List Handler) (i : ℕ) → First hs i
      → registered P e t n hs ≡ set hs i (record { effect = (get_or hs i no_handler).effect; target = t; stack_size = n })
  unfolding registered
  registered_at t n [] i o = absurd (omega (arith, o.within))
  registered_at t n (h ∷ hs) zero o = rw o.has
  registered_at t n (h ∷ hs) (suc i) o = rw (o.before 0 (omega arith)) (ap (λ (l : List Handler). h ∷ l) (registered_at t n hs i (next h hs i o)))

  pub target_at : (hs : List Handler) (i : ℕ) → First hs i → target_of P e hs ≡ (get_or hs i no_handler).target
  unfolding target_of
  target_at [] i o = absurd (omega (arith, o.within))
  target_at (h ∷ hs) zero o = rw o.has
  target_at (h ∷ hs) (suc i) o = rw (o.before 0 (omega arith)) (target_at hs i (next h hs i o))

  pub holds_at : (hs : List Handler) (i : ℕ) → First hs i → holds P e (effects hs) ≡ true
  unfolding holds effects
  holds_at [] i o = absurd (omega (arith, o.within))
  holds_at (h ∷ hs) zero o = rw o.has
  holds_at (h ∷ hs) (suc i) o = rw (o.before 0 (omega arith)) (holds_at hs i (next h hs i o))

  pub holds_none : (hs : List Handler) → Misses hs (length hs) → holds P e (effects hs) ≡ false
  unfolding holds effects
  holds_none [] m = refl
  holds_none (h ∷ hs) m = rw (m 0 (omega arith)) (holds_none hs (later h hs (length hs) m))
