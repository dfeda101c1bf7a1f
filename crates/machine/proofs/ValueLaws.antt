-- Laws of values: a value exists however the store grows, and what the rules make of values are values.
use Rattle.std.specs.Prelude.{◌≡◌, Bool, ℕ, zero, suc, ◌%◌, ◌<◌, ◌≤◌, length, take, drop, set, replicate, leb, eqb}
use Rattle.std.proofs.Math.Path.{refl}
use mathlib.Core.List.{List, [], ◌∷◌, ◌++◌, reverse, reverse_aux, map}
use Rattle.std.proofs.Math.Bool.{true, false}
use Rattle.std.proofs.Common.{arith}
use Rattle.std.proofs.Math.ListN.{get_or}
use borrow.Author.Tests.{eqb-true, leb-false, ltb-true, eq-eqb, le-leb, lt-ltb}
use Rattle.cells.specs.Cells.{null}
use Rattle.cells.specs.declared.Cell.{Cell}
use Rattle.cells.specs.Le.{le_at}
use Rattle.image.specs.Records.{if?, both}
use Rattle.image.specs.Program.{Code, no_code}
use Rattle.image.specs.Fine.{Accepted, no_constant, bytes_of}
use Rattle.std.proofs.lemmas.Bool.{false≢true}
use Rattle.image.proofs.Parts.{first, second, both_in}
use Rattle.machine.specs.Values.{Program, code_of, bool, list_at, closure_at, continuation_at, type_of, is_effect, bytes_at, effect_params}
use Rattle.machine.specs.Machine.{Frame, Object, closure, list, continuation, used, Lookup, here, absent, object_at}
use Rattle.machine.specs.Opcodes.{constant_value}
use Rattle.machine.specs.Calls.{is_closure_at, is_list_at, is_continuation_at, is_constant, value_is, is_value, are_values, are_effects}
use Rattle.machine.specs.Demand.{All}
use Rattle.machine.proofs.Store.{at_keeps, at_new}
use Rattle.machine.specs.StepLaws.{Grown}
use Rattle.machine.proofs.StepLaws.{if_cases}
use Rattle.machine.proofs.Formed.{all_map}
use Rattle.machine.specs.ValueLaws.{Value, Effect}

-- ---- All of a list
module _ {A : Type 0} (Q : A → Type 0) where
  pub all_take : (n : ℕ) (l : List A) → All Q l → All Q (take n l)
  all_take zero l h = tt
  all_take (suc n) [] h = tt
  all_take (suc n) (x ∷ l) h = (h.0, all_take n l h.1)

  pub all_drop : (n : ℕ) (l : List A) → All Q l → All Q (drop n l)
  all_drop zero l h = h
  all_drop (suc n) [] h = tt
  all_drop (suc n) (x ∷ l) h = all_drop n l h.1

  all_onto : (l r : List A) → All Q l → All Q r → All Q (reverse_aux l r)
  all_onto [] r h k = k
  all_onto (x ∷ l) r h k = all_onto l (x ∷ r) h.1 (h.0, k)

  pub all_reverse : (l : List A) → All Q l → All Q (reverse l)
  all_reverse l h = all_onto l [] h tt

  pub all_get : (l : List A) (i : ℕ) (d : A) → Q d → All Q l → Q (get_or l i d)
  all_get [] i d k h = k
  all_get (x ∷ l) zero d k h = h.0
  all_get (x ∷ l) (suc i) d k h = all_get l i d k h.1

  pub all_set : (l : List A) (i : ℕ) (x : A) → Q x → All Q l → All Q (set l i x)
  all_set [] i x k h = tt
  all_set (y ∷ l) zero x k h = (k, h.1)
  all_set (y ∷ l) (suc i) x k h = (h.0, all_set l i x k h.1)

  pub all_replicate : (n : ℕ) (x : A) → Q x → All Q (replicate n x)
  all_replicate zero x k = tt
  all_replicate (suc n) x k = (k, all_replicate n x k)

  pub all_mapped : {B : Type 0} (f : B → A) (l : List B) → ((x : B) → Q (f x)) → All Q (map f l)
  all_mapped f [] k = tt
  all_mapped f (x ∷ l) k = (k x, all_mapped f l k)

module _ (P : Program) (s : List Object) where
  pub values_all : (vs : List Cell) → are_values P s vs ≡ true → All (Value P s) vs
  unfolding are_values
  values_all [] h = tt
  values_all (v ∷ vs) h = (first _ _ h, values_all vs (second (is_value P s v) _ h))

  pub all_values : (vs : List Cell) → All (Value P s) vs → are_values P s vs ≡ true
  unfolding are_values
  all_values [] h = refl
  all_values (v ∷ vs) h = both_in h.0 (all_values vs h.1)

  pub effects_all : (es : List Cell) → are_values P s es ≡ true → are_effects es ≡ true → All (Effect P s) es
  unfolding are_values are_effects
  effects_all [] h k = tt
  effects_all (e ∷ es) h k = ((first _ _ h, first _ _ k), effects_all es (second (is_value P s e) _ h) (second (is_effect e) _ k))

  pub all_effects : (es : List Cell) → All (Effect P s) es → are_effects es ≡ true
  unfolding are_effects
  all_effects [] h = refl
  all_effects (e ∷ es) h = both_in h.0.1 (all_effects es h.1)

-- ---- The store grows
if_mono : (b x y x' y' : Bool) → (x ≡ true → x' ≡ true) → (y ≡ true → y' ≡ true) → if? b x y ≡ true → if? b x' y' ≡ true
if_mono true x y x' y' f g h = f h
if_mono false x y x' y' f g h = g h

kinds_mono : (P : Program) (v : Cell) (a b c a' b' c' : Bool) → (a ≡ true → a' ≡ true) → (b ≡ true → b' ≡ true) → (c ≡ true → c' ≡ true) → value_is P a b c v ≡ true → value_is P a' b' c' v ≡ true
kinds_mono P v a b c a' b' c' f g k =
    let plain : (x y : Bool) → (x ≡ true → y ≡ true) → both (eqb v.payload 0) x ≡ true → both (eqb v.payload 0) y ≡ true = λ x y t h. both_in (first _ _ h) (t (second (eqb v.payload 0) x h)) in
    if_mono (eqb v.tag 0) _ _ _ _ (λ h. h) (if_mono (eqb v.tag 1) _ _ _ _ (λ h. h) (if_mono (eqb v.tag 2) _ _ _ _ (λ h. h) (if_mono (eqb v.tag 3) _ _ _ _ (λ h. h)
    (if_mono (eqb v.tag 4) _ _ _ _ (λ h. h) (if_mono (eqb v.tag 5) _ _ _ _ (λ h. h) (if_mono (eqb v.tag 6) _ _ _ _ (plain a a' f) (if_mono (eqb v.tag 7) _ _ _ _ (plain b b' g)
    (if_mono (eqb v.tag 8) _ _ _ _ (λ h. h) (if_mono (eqb v.tag 20) _ _ _ _ (λ h. h)
    (if_mono (eqb v.tag 23) _ _ _ _ (plain c c' k) (if_mono (eqb v.tag 24) _ _ _ _ (λ h. h) (λ h. h))))))))))))

module _ (s new : List Object) where
  -- an object that stands there still does
  lookup_grown : (f : Lookup → Bool) → f absent ≡ false → (k : ℕ) → f (object_at s k) ≡ true → f (object_at (s ++ new) k) ≡ true
  lookup_grown f none k = by (object_at s k) refl
    where
      by : (o : Lookup) → object_at s k ≡ o → f o ≡ true → f (object_at (s ++ new) k) ≡ true
      by (here o) q h = rw (at_keeps s new k o q) h
      by absent q h = absurd (false≢true (rw none at h))

  value_appended : (P : Program) (v : Cell) → Value P s v → Value P (s ++ new) v
  unfolding is_value is_list_at is_closure_at is_continuation_at
  value_appended P v = kinds_mono P v _ _ _ _ _ _ (lookup_grown is_list_at refl v.number) (lookup_grown is_closure_at refl v.number) (lookup_grown is_continuation_at refl v.number)

module _ (P : Program) {s t : List Object} (g : Grown s t) where
  pub value_grown : (v : Cell) → Value P s v → Value P t v
  value_grown v h = rw g.store (value_appended s g.new P v h)

  pub values_grown : (vs : List Cell) → All (Value P s) vs → All (Value P t) vs
  values_grown = all_map value_grown

  pub effect_grown : (e : Cell) → Effect P s e → Effect P t e
  effect_grown e h = (value_grown e h.0, h.1)

-- ---- What a value is
test : {R : Type 0} (b x y : Bool) → (b ≡ true → x ≡ true → R) → (y ≡ true → R) → if? b x y ≡ true → R
test true x y f g h = f refl h
test false x y f g h = g h

-- A value is of one of the types 0 to 7, or a builtin, or an effect that the image declares.
value_cases : {R : Type 0} (P : Program) (s : List Object) (v : Cell) → (type_of v < 8 → R) → (v.tag ≡ 8 → R) → (v.tag ≡ 24 → is_constant P 23 v ≡ true → le_at 2 (bytes_at P v) 0 ≡ 3 → R) → Value P s v → R
unfolding is_value
value_cases {R} P s v plain builtin declared =
    let low : (k : ℕ) → k % 16 < 8 → eqb v.tag k ≡ true → R = λ k l q. plain (rw (eqb-true v.tag k q) l) in
    test _ _ _ (λ q _. low 0 (omega arith) q) (test _ _ _ (λ q _. low 1 (omega arith) q) (test _ _ _ (λ q _. low 2 (omega arith) q) (test _ _ _ (λ q _. low 3 (omega arith) q)
    (test _ _ _ (λ q _. low 4 (omega arith) q) (test _ _ _ (λ q _. low 5 (omega arith) q) (test _ _ _ (λ q _. low 6 (omega arith) q) (test _ _ _ (λ q _. low 7 (omega arith) q)
    (test _ _ _ (λ q _. builtin (eqb-true v.tag 8 q)) (test _ _ _ (λ q _. low 20 (omega arith) q) (test _ _ _ (λ q _. low 23 (omega arith) q)
    (test _ _ _ (λ q h. declared (eqb-true v.tag 24 q) (first _ _ h) (eqb-true _ 3 (second (is_constant P 23 v) _ h))) (low 39 (omega arith)))))))))))))

pub type_small : (P : Program) (s : List Object) (v : Cell) → Value P s v → type_of v < 10
type_small P s v = value_cases P s v (λ l. omega (arith, l)) (λ e. rw e (omega arith)) (λ e _ _. rw e (omega arith))

-- a code that has a constant is one of the program
known_code : (l : List Code) (n i : ℕ) → i < length (get_or l n no_code).constants → n < length l
known_code [] n i h = absurd (omega arith)
known_code (c ∷ l) zero i h = omega arith
known_code (c ∷ l) (suc n) i h = omega (arith, known_code l n i h)

-- An effect has at most 32 parameters.
pub effect_few : (P : Program) → Accepted P.image P.codes → (s : List Object) (e : Cell) → Effect P s e → (effect_params P e).count ≤ 32
unfolding effect_params is_constant
effect_few P a s e h =
    value_cases P s e (λ l. absurd (omega (arith, l, eqb-true (type_of e) 8 h.1))) (λ q. rw q (omega arith))
    (λ q c three.
    let i = ltb-true _ _ (first _ _ c) in
    let f = (a.fine e.number (known_code P.codes e.number e.payload i)).valued e.payload i in
    rw q (f.declared (eqb-true _ 23 (second _ _ c)) three).params) h.0

-- ---- Values that the rules make
module _ (P : Program) (s : List Object) where
  pub null_value : Value P s null
  unfolding is_value both
  null_value = refl

  pub bool_value : (b : Bool) → Value P s (bool b)
  unfolding is_value both
  bool_value true = refl
  bool_value false = refl

  pub constant_value_lem : Accepted P.image P.codes → (c i : ℕ) → c < length P.codes → i < length (code_of P c).constants → Value P s (constant_value P c i (get_or (code_of P c).constants i no_constant))
  unfolding constant_value is_value is_constant
  constant_value_lem a c i k l =
      let x = get_or (code_of P c).constants i no_constant in
      let b = bytes_of P.image x in
      let f = (a.fine c k).valued i l in
      if_cases (Value P s) (eqb x.kind 17) _ _ (λ q. both_in (le-leb _ _ (f.bool (eqb-true _ 17 q))) refl) (λ _.
      if_cases (Value P s) (eqb x.kind 18) _ _ (λ q. refl) (λ _.
      if_cases (Value P s) (eqb x.kind 19) _ _ (λ q. refl) (λ _.
      if_cases (Value P s) (eqb x.kind 20) _ _ (λ q. both_in (lt-ltb _ _ l) q) (λ _.
      if_cases (Value P s) (eqb x.kind 21) _ _ (λ q. both_in (lt-ltb _ _ l) q) (λ _.
      if_cases (Value P s) (eqb x.kind 23) _ _
      (λ q. if_cases (Value P s) (leb (le_at 2 b 0) 2) _ _ (λ t. both_in t refl)
      (λ t. both_in (both_in (lt-ltb _ _ l) q) (eq-eqb (le_at 2 b 0) 3 (omega (arith, leb-false (le_at 2 b 0) 2 t, f.effect (eqb-true _ 23 q)))))) (λ _. null_value))))))

  pub new_list : (vs : List Cell) → Value P (s ++ (list vs ∷ [])) (list_at (used s))
  unfolding is_value both is_list_at
  new_list vs = rw (at_new s (list vs) []) refl

  pub new_closure : (c : ℕ) (us : List Cell) → Value P (s ++ (closure c us ∷ [])) (closure_at (used s))
  unfolding is_value both is_closure_at
  new_closure c us = rw (at_new s (closure c us) []) refl

  pub new_continuation : (K : List Frame) → Value P (s ++ (continuation K ∷ [])) (continuation_at (used s))
  unfolding is_value both is_continuation_at
  new_continuation K = rw (at_new s (continuation K) []) refl
