-- What the state block shows of a world, and the world that a write to it makes of the one before.
use Rattle.std.specs.Prelude.{◌≡◌, refl, List, ◌++◌, Bool, ℕ, ◌+◌, ◌<◌, length, get_or, set}
use Rattle.std.proofs.Common.{sym, ap, ◌∙◌, arith, get_or-append-add}
use Rattle.std.proofs.Math.ListN.{get_or-append}
use Rattle.std.proofs.lemmas.List.{set-append_left}
use Rattle.cells.specs.Cells.{null, cells, rest, Writes, set_payload}
use Rattle.cells.specs.CellsLaws.{writes_two}
use Rattle.cells.specs.declared.Cell.{Cell}
use Rattle.machine.specs.Values.{cell}
use Rattle.machine.specs.Machine.{Frame, Object, Result, running, used, with_result}
use Rattle.machine.specs.Calls.{World, world}
use Rattle.memory.specs.Layout.{bit, result_shown, state_head, state_cells}
use Rattle.memory.proofs.Lists.{set_append_add}

-- ---- Worlds with other parts
abbrev pub with_counts : List Frame → List Object → World → World
with_counts F S w = world (record { frames = F; store = S; globals = w.machine.globals; builtins = w.machine.builtins; result = w.machine.result }) w.wait w.slice

abbrev pub with_turn : Bool → ℕ → World → World
with_turn b n w = world w.machine b n

abbrev pub with_outcome : Result → World → World
with_outcome r w = world (with_result r w.machine) w.wait w.slice

abbrev pub with_names : List Cell → List Cell → World → World
with_names G B w = world (record { frames = w.machine.frames; store = w.machine.store; globals = G; builtins = B; result = w.machine.result }) w.wait w.slice

-- ---- What a writer does: which worlds follow a world
-- other frames and another store, of which the block shows counts
pub record Counted (n u : ℕ) (w w' : World) : Type 0 where
  pub frames : n ≡ length w'.machine.frames
  pub used : u ≡ used w'.machine.store
  pub world : w' ≡ with_counts w'.machine.frames w'.machine.store w

-- another slice, and a wait or none
pub record Turned (n b : ℕ) (w w' : World) : Type 0 where
  pub wait : b ≡ bit w'.wait
  pub world : w' ≡ with_turn w'.wait n w

-- another result
pub record Resulted (k : ℕ) (v : Cell) (u n : ℕ) (w w' : World) : Type 0 where
  pub kind : k ≡ (result_shown w'.machine.result).kind
  pub value : v ≡ (result_shown w'.machine.result).value
  pub second : u ≡ (result_shown w'.machine.result).second
  pub args : n ≡ length (result_shown w'.machine.result).args
  pub world : w' ≡ with_outcome w'.machine.result w

-- another value of a global or a builtin
pub record GlobalSet (g : ℕ) (v : Cell) (w w' : World) : Type 0 where
  pub globals : length w.machine.globals ≡ 256
  pub world : w' ≡ with_names (set w.machine.globals g v) w.machine.builtins w

pub record BuiltinSet (g : ℕ) (v : Cell) (w w' : World) : Type 0 where
  pub globals : length w.machine.globals ≡ 256
  pub world : w' ≡ with_names w.machine.globals (set w.machine.builtins g v) w

-- what a writer leaves: of each world that the block held, one that follows it
pub record Changes (to : World → World → Type 0) (old new : List ℕ) : Type 0 where
  pub state : (w w' : World) → to w w' → cells old ≡ state_cells w → cells new ≡ state_cells w'
  pub rest : rest new ≡ rest old
  pub len : length new ≡ length old

-- each writer has a world that follows: with the parts that it is given
module _ (w : World) where
  pub counts_follow : (F : List Frame) (S : List Object) → Counted (length F) (used S) w (with_counts F S w)
  counts_follow F S = record { frames = refl; used = refl; world = refl }

  pub turn_follows : (b : Bool) (n : ℕ) → Turned n (bit b) w (with_turn b n w)
  turn_follows b n = record { wait = refl; world = refl }

  pub result_follows : (r : Result) → Resulted (result_shown r).kind (result_shown r).value (result_shown r).second (length (result_shown r).args) w (with_outcome r w)
  result_follows r = record { kind = refl; value = refl; second = refl; args = refl; world = refl }

  -- a result is dropped by kind 0, null, 0 and 0
  pub none_follows : Resulted 0 null 0 0 w (with_outcome running w)
  unfolding result_shown
  none_follows = result_follows running

  pub global_follows : (g : ℕ) (v : Cell) → length w.machine.globals ≡ 256 → GlobalSet g v w (with_names (set w.machine.globals g v) w.machine.builtins w)
  global_follows g v n = record { globals = n; world = refl }

  pub builtin_follows : (g : ℕ) (v : Cell) → length w.machine.globals ≡ 256 → BuiltinSet g v w (with_names w.machine.globals (set w.machine.builtins g v) w)
  builtin_follows g v n = record { globals = n; world = refl }

-- ---- Readers
abbrev Read : (World → ℕ) → List Cell → ℕ → Type 0
Read f l r = (w : World) → l ≡ state_cells w → r ≡ f w

module _ {l : List Cell} {r : ℕ} where
  pub frames_read : r ≡ (get_or l 0 null).number → Read (λ (w : World). length w.machine.frames) l r
  frames_read e w h = e ∙ ap (λ (x : List Cell). (get_or x 0 null).number) h

  pub used_read : r ≡ (get_or l 0 null).payload → Read (λ (w : World). used w.machine.store) l r
  used_read e w h = e ∙ ap (λ (x : List Cell). (get_or x 0 null).payload) h

  pub slice_read : r ≡ (get_or l 1 null).tag → Read (λ (w : World). w.slice) l r
  slice_read e w h = e ∙ ap (λ (x : List Cell). (get_or x 1 null).tag) h

  pub wait_read : r ≡ (get_or l 1 null).number → Read (λ (w : World). bit w.wait) l r
  wait_read e w h = e ∙ ap (λ (x : List Cell). (get_or x 1 null).number) h

  pub kind_read : r ≡ (get_or l 1 null).payload → Read (λ (w : World). (result_shown w.machine.result).kind) l r
  kind_read e w h = e ∙ ap (λ (x : List Cell). (get_or x 1 null).payload) h

-- ---- Globals from cell 4 on, builtins from cell 260 on
abbrev head_of : World → List Cell
head_of w = state_head w (result_shown w.machine.result)

abbrev names_of : World → List Cell
names_of w = w.machine.globals ++ w.machine.builtins

module _ (w : World) (g : ℕ) (n : length w.machine.globals ≡ 256) where
  at_builtin : 260 + g ≡ 4 + (length w.machine.globals + g)
  at_builtin = omega (arith, n)

  global_at : g < 256 → get_or (state_cells w) (4 + g) null ≡ get_or w.machine.globals g null
  global_at l = get_or-append-add (head_of w) (names_of w) g null ∙ get_or-append w.machine.globals w.machine.builtins null g (omega (arith, n))

  builtin_at : get_or (state_cells w) (260 + g) null ≡ get_or w.machine.builtins g null
  builtin_at =
      ap (λ (k : ℕ). get_or (state_cells w) k null) at_builtin ∙ get_or-append-add (head_of w) (names_of w) (length w.machine.globals + g) null
      ∙ get_or-append-add w.machine.globals w.machine.builtins g null

  global_to : (v : Cell) → g < 256 → set (state_cells w) (4 + g) v ≡ state_cells (with_names (set w.machine.globals g v) w.machine.builtins w)
  global_to v l =
      set_append_add (head_of w) (names_of w) g v ∙ ap (λ (x : List Cell). head_of w ++ x) (set-append_left w.machine.globals w.machine.builtins g v (omega (arith, n)))

  builtin_to : (v : Cell) → set (state_cells w) (260 + g) v ≡ state_cells (with_names w.machine.globals (set w.machine.builtins g v) w)
  builtin_to v =
      ap (λ (k : ℕ). set (state_cells w) k v) at_builtin ∙ set_append_add (head_of w) (names_of w) (length w.machine.globals + g) v
      ∙ ap (λ (x : List Cell). head_of w ++ x) (set_append_add w.machine.globals w.machine.builtins g v)

module _ (g : ℕ) {l : List Cell} {r : Cell} where
  pub global_read : g < 256 → r ≡ get_or l (4 + g) null → (w : World) → length w.machine.globals ≡ 256 → l ≡ state_cells w → r ≡ get_or w.machine.globals g null
  global_read k e w n h = e ∙ ap (λ (x : List Cell). get_or x (4 + g) null) h ∙ global_at w g n k

  pub builtin_read : r ≡ get_or l (260 + g) null → (w : World) → length w.machine.globals ≡ 256 → l ≡ state_cells w → r ≡ get_or w.machine.builtins g null
  builtin_read e w n h = e ∙ ap (λ (x : List Cell). get_or x (260 + g) null) h ∙ builtin_at w g n

-- ---- Writers
-- a write of the cells that f makes is a change, if f takes the cells of a world to those of the next
changes : {to : World → World → Type 0} {s t : List ℕ} (f : List Cell → List Cell) → ((w w' : World) → to w w' → f (state_cells w) ≡ state_cells w') → Writes s (f (cells s)) t → Changes to s t
changes f k a = record { state = λ w w' q h. a.cells ∙ ap f h ∙ k w w' q; rest = a.rest; len = a.len }

module _ {s t : List ℕ} where
  pub counts_set : (n u : ℕ) → Writes s (set (cells s) 0 (cell 1 n u)) t → Changes (Counted n u) s t
  counts_set n u = changes (λ (l : List Cell). set l 0 (cell 1 n u)) to
    where
      to : (w w' : World) → Counted n u w w' → set (state_cells w) 0 (cell 1 n u) ≡ state_cells w'
      to w w' q = rw (q.frames, q.used) (sym (ap (λ (x : World). state_cells x) q.world))

  pub turn_set : (n b : ℕ) {k : ℕ} → k ≡ (get_or (cells s) 1 null).payload → Writes s (set (cells s) 1 (cell n b k)) t → Changes (Turned n b) s t
  turn_set n b e a = changes (λ (l : List Cell). set l 1 (cell n b (get_or l 1 null).payload)) to (rw (← e) a)
    where
      to : (w w' : World) → Turned n b w w' → set (state_cells w) 1 (cell n b (get_or (state_cells w) 1 null).payload) ≡ state_cells w'
      to w w' q = rw q.wait (sym (ap (λ (x : World). state_cells x) q.world))

  pub global_set : (g : ℕ) (v : Cell) → g < 256 → Writes s (set (cells s) (4 + g) v) t → Changes (GlobalSet g v) s t
  global_set g v l = changes (λ (x : List Cell). set x (4 + g) v) (λ w w' q. global_to w g q.globals v l ∙ sym (ap (λ (x : World). state_cells x) q.world))

  pub builtin_set : (g : ℕ) (v : Cell) → Writes s (set (cells s) (260 + g) v) t → Changes (BuiltinSet g v) s t
  builtin_set g v = changes (λ (x : List Cell). set x (260 + g) v) (λ w w' q. builtin_to w g q.globals v ∙ sym (ap (λ (x : World). state_cells x) q.world))

-- the kind, the value, the second type and the count of arguments
module _ (kind : ℕ) (value : Cell) (second args : ℕ) where
  abbrev kinded : List Cell → List Cell
  kinded l = set l 1 (set_payload (get_or l 1 null) kind)

  abbrev resulted : List Cell → List Cell
  resulted l = set (set (kinded l) 2 value) 3 (cell second 0 args)

  result_to : (w w' : World) → Resulted kind value second args w w' → resulted (state_cells w) ≡ state_cells w'
  result_to w w' q = rw (q.kind, q.value, q.second, q.args) (sym (ap (λ (x : World). state_cells x) q.world))

  pub result_set : {s t u x : List ℕ} → Writes s (kinded (cells s)) t → Writes t (set (cells t) 2 value) u → Writes u (set (cells u) 3 (cell second 0 args)) x → Changes (Resulted kind value second args) s x
  result_set a b c =
      changes resulted result_to (writes_two (λ (l : List Cell). set l 3 (cell second 0 args)) (writes_two (λ (l : List Cell). set l 2 value) a b) c)
