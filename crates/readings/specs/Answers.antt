-- What the functions that read give is what the machine's definitions say of the world that memory holds.
use Rattle.std.specs.Prelude.{◌≡◌, refl, List, ◌++◌, Bool, false, ℕ, ◌+◌, ◌<◌, length, get_or, eqb, ltb, Result}
use Rattle.std.proofs.Common.{ap, ◌∙◌, arith, get_or-append-add, ltb-true}
use Rattle.std.proofs.Math.Bool.{true}
use Rattle.std.proofs.Math.ListN.{get_or-append}
use Rattle.cells.specs.Cells.{null, cells}
use Rattle.cells.specs.declared.Cell.{Cell}
use Rattle.image.specs.Records.{if?, both, Answer, refused, accepted}
use Rattle.machine.specs.Machine.{M}
use Rattle.machine.specs.Opcodes.{doing}
use Rattle.machine.specs.Calls.{Given, nothing, is_value, text, bytes, get_global, get_builtin, given_by, of_image}
use Rattle.memory.specs.Layout.{state_head, state_cells, result_shown}
use Rattle.form.specs.Entry.{Entered, entry}
use Rattle.asks.specs.Asks.{sizes_of, got_of, part_of, answer, given, got_by, part_by}
use Rattle.asks.specs.Ready.{Ready, exists_is, on_entry}
use Rattle.asks.specs.Requests.{answers, gives, get_global_lem, get_builtin_lem, text_plain, bytes_plain}
use Rattle.asks.specs.declared.Got.{Got}
use Rattle.asks.specs.declared.Part.{Part}
use Rattle.asks.specs.Entries.{says, got_said}
use Rattle.refusals.specs.declared.Refusal.{Refusal}
use Rattle.readings.specs.declared.Spot.{Spot}
use Rattle.readings.specs.Readings.{spotted, part_said, reading, text_given, texting, byting}

module _ {e : Entered} {state live store : List ℕ} (r : Ready e state live store) where
  abbrev at : M
  at = e.world.machine

  pub global_is : (g : ℕ) → g < 256 → get_or (cells state) (4 + g) null ≡ get_or at.globals g null
  global_is g l =
      ap (λ (x : List Cell). get_or x (4 + g) null) r.holds.state
      ∙ get_or-append-add (state_head e.world (result_shown at.result)) (at.globals ++ at.builtins) g null
      ∙ get_or-append at.globals at.builtins null g (omega (arith, r.fits.globals.0))

  pub builtin_is : (g : ℕ) → get_or (cells state) (260 + g) null ≡ get_or at.builtins g null
  builtin_is g =
      let a : 260 + g ≡ 4 + (256 + g) = omega arith in
      let b : 256 + g ≡ length at.globals + g = omega (arith, r.fits.globals.0) in
      ap (λ (x : List Cell). get_or x (260 + g) null) r.holds.state ∙ ap (λ (n : ℕ). get_or (state_cells e.world) n null) a
      ∙ get_or-append-add (state_head e.world (result_shown at.result)) (at.globals ++ at.builtins) (256 + g) null
      ∙ ap (λ (n : ℕ). get_or (at.globals ++ at.builtins) n null) b ∙ get_or-append-add at.globals at.builtins g null

-- ---- The contracts
module _ (image state live store : List ℕ) where
  abbrev X : Answer Entered
  X = entry image state live store

  if_got : (b : Bool) (v w : Cell) → (b ≡ true → v ≡ w) → got_said (if? b (accepted v) (refused 5)) ≡ got_of (if? b 0 5) (if? b (record { value = w; from = 0; start = 0; size = 0 }) nothing).value
  if_got true v w h = ap (got_of 0) (h refl)
  if_got false v w h = refl

  global_got : (g : ℕ) → got_said (reading 4 g state X) ≡ got_by (get_global g) image state live store
  unfolding reading answer given given_by doing
  global_got g = on_entry image state live store (λ x. got_said (reading 4 g state x) ≡ got_of (answer (sizes_of live store) (get_global g) x) (given (sizes_of live store) (get_global g) x).value) (λ n. refl)
      (λ e k. let p = get_global_lem e.program (sizes_of live store) e.world k.fits g in
      rw (answers p, gives p) (if_got (ltb g 256) _ _ (λ t. global_is k g (ltb-true g 256 t))))

  builtin_got : (g : ℕ) → got_said (reading 260 g state X) ≡ got_by (get_builtin g) image state live store
  unfolding reading answer given given_by doing
  builtin_got g = on_entry image state live store (λ x. got_said (reading 260 g state x) ≡ got_of (answer (sizes_of live store) (get_builtin g) x) (given (sizes_of live store) (get_builtin g) x).value) (λ n. refl)
      (λ e k. let p = get_builtin_lem e.program (sizes_of live store) e.world k.fits g in
      rw (answers p, gives p) (if_got (ltb g 256) _ _ (λ t. builtin_is k g)))

  pub got_global : (g : ℕ) (o : Result Cell Refusal) {r : Got} → says o ≡ reading 4 g state X → r ≡ got_said (says o) → r ≡ got_by (get_global g) image state live store
  got_global g o e q = q ∙ ap got_said e ∙ global_got g

  pub got_builtin : (g : ℕ) (o : Result Cell Refusal) {r : Got} → says o ≡ reading 260 g state X → r ≡ got_said (says o) → r ≡ got_by (get_builtin g) image state live store
  got_builtin g o e q = q ∙ ap got_said e ∙ builtin_got g

  if_part : (b : Bool) (v w : Given) → v ≡ w → part_said (if? b (accepted v) (refused 5)) ≡ part_of (if? b 0 5) (if? b w nothing)
  if_part true v w h = ap (part_of 0) h
  if_part false v w h = refl

  given_text : (page : List ℕ) (v : Cell) → part_said (texting page v state store X) ≡ part_by (text page v) image state live store
  unfolding texting text_given answer given given_by doing
  given_text page v = on_entry image state live store (λ x. part_said (texting page v state store x) ≡ part_of (answer (sizes_of live store) (text page v) x) (given (sizes_of live store) (text page v) x)) (λ n. refl)
      (λ e k. let p = text_plain e.program (sizes_of live store) e.world k.fits page v in
      rw (answers p, gives p, exists_is k v) (if_part (both (is_value e.program e.world.machine.store v) (if? (eqb v.tag 4) true (eqb v.tag 20))) (text_given e.program page v) _ refl))

  given_bytes : (v : Cell) → part_said (byting v state store X) ≡ part_by (bytes v) image state live store
  unfolding byting answer given given_by doing
  given_bytes v = on_entry image state live store (λ x. part_said (byting v state store x) ≡ part_of (answer (sizes_of live store) (bytes v) x) (given (sizes_of live store) (bytes v) x)) (λ n. refl)
      (λ e k. let p = bytes_plain e.program (sizes_of live store) e.world k.fits v in
      rw (answers p, gives p, exists_is k v) (if_part (both (is_value e.program e.world.machine.store v) (eqb v.tag 5)) (of_image e.program v) _ refl))

  pub text_given_lem : (page : List ℕ) (o : Result Spot Refusal) {u v : Cell} {r : Part} → u ≡ v → spotted o ≡ texting page u state store X → r ≡ part_said (spotted o) → r ≡ part_by (text page v) image state live store
  text_given_lem page o q e p = rw (← q) (p ∙ ap part_said e ∙ given_text page _)

  pub bytes_given : (o : Result Spot Refusal) {u v : Cell} {r : Part} → u ≡ v → spotted o ≡ byting u state store X → r ≡ part_said (spotted o) → r ≡ part_by (bytes v) image state live store
  bytes_given o q e p = rw (← q) (p ∙ ap part_said e ∙ given_bytes _)
