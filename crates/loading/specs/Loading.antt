-- A load: what its inner functions give and leave is what the machine's definitions say.
use Rattle.std.proofs.Math.Path.{◌≡◌, ap, subst}
use Rattle.std.specs.Prelude.{refl, ℕ, suc, ◌+◌, ◌<◌, ◌≤◌, ◌*◌, min, get_or, take, drop, Result, Ok, Err}
use Rattle.std.proofs.Common.{sym, ◌∙◌, arith, length-take, eq-eqb, ne_eqb, lt-ltb, le-ltb}
use mathlib.Core.List.{List, ◌++◌, ◌∷◌, append-nil}
use Rattle.std.proofs.Math.ListN.{length, replicate, length-replicate}
use Rattle.std.proofs.lemmas.List.{replicate-append-replicate}
use Rattle.cells.specs.Cells.{null, cells, Writes, room}
use Rattle.cells.specs.CellsLaws.{length_cells}
use Rattle.cells.specs.declared.Cell.{Cell}
use Rattle.image.specs.Records.{Answer, refused, accepted}
use Rattle.image.specs.Program.{Code, no_code, tab}
use Rattle.image.specs.Image.{parse}
use Rattle.image.proofs.Parts.{tab_at, length_tab}
use Rattle.image.specs.Layout.{flat, field, code_at, capture_at}
use Rattle.image.proofs.Accepted.{accepted_fine}
use Rattle.layout.specs.declared.Sizes as tables
use Rattle.refusals.specs.Refusals.{number}
use Rattle.refusals.specs.declared.Refusal.{Refusal}
use Rattle.reader.specs.Reads.{Reads}
use Rattle.lookups.specs.declared.Program as lent
use Rattle.scan.specs.Tables.{program_in}
use Rattle.machine.specs.Values.{Program, closure_at, cell}
use Rattle.machine.specs.Machine.{used, cost}
use Rattle.machine.specs.Calls.{Sizes, loaded, loaded_machine, load_of, program_of, load}
use Rattle.memory.specs.Layout.{state_cells, result_shown, store_cells, object_cells}
use Rattle.asks.specs.Asks.{sizes_of, got_of, loading, load_answer, LoadLeft, Loaded}
use Rattle.asks.specs.declared.Got.{Got}
use Rattle.asks.specs.Entries.{says}
use Rattle.loading.specs.Fresh.{fresh_store, fresh_state, outermost_of}

-- ---- The outermost code of an image
module _ {image : List ℕ} {o : Result tables.Sizes Refusal} {rows constants inner : List ℕ} (w : Reads image o rows constants inner) where
  pub outermost_not : {x : Refusal} → o ≡ Err x → refused (number x) ≡ outermost_of (parse image)
  outermost_not e = ap outermost_of (rw e at w.shows)

  pub outermost_is : {t : tables.Sizes} (p : lent.Program) {n : ℕ} → o ≡ Ok t → program_in p.image.now (flat p.rows.now) p.constants.now p.inner.now p.codes ≡ program_in image (take (10 * t.codes) rows) (take t.constants constants) (take t.inner inner) t.codes
      → n ≡ field (flat p.rows.now) 0 5 → accepted n ≡ outermost_of (parse image)
  outermost_is {t} p {n} e f g =
      let codes = tab p.codes (code_at p.image.now (flat p.rows.now) p.constants.now p.inner.now) in
      let q : accepted codes ≡ parse image = ap (λ (x : Program). accepted x.codes) f ∙ rw e at w.shows in
      let some : 1 ≤ length codes = (accepted_fine image codes (sym q)).some in
      let l : 1 ≤ p.codes = omega (arith, some, length_tab p.codes (code_at p.image.now (flat p.rows.now) p.constants.now p.inner.now)) in
      ap accepted (g ∙ sym (ap (λ (x : Code). length x.captures) (tab_at p.codes (code_at p.image.now (flat p.rows.now) p.constants.now p.inner.now) 0 no_code (omega arith))
      ∙ length_tab (field (flat p.rows.now) 0 5) (capture_at p.image.now (field (flat p.rows.now) 0 4))))
      ∙ ap outermost_of q

-- an accepted image's outermost code has at most 256 captures
pub captures_few : (image : List ℕ) {n : ℕ} → accepted n ≡ outermost_of (parse image) → n ≤ 256
captures_few image {n} h = by (parse image) refl h
  where
    by : (x : Answer (List Code)) → parse image ≡ x → accepted n ≡ outermost_of x → n ≤ 256
    by (refused m) q h = cc
    by (accepted cs) q h =
        let e : n ≡ length (get_or cs 0 no_code).captures = cc in
        let a = accepted_fine image cs q in
        omega (arith, e, (a.fine 0 (omega (arith, a.some))).captures)

pub load_few : (image : List ℕ) {n : ℕ} {o : Result ℕ Refusal} → says o ≡ outermost_of (parse image) → o ≡ Ok n → n ≤ 256
load_few image h e = captures_few image (rw e at h)

-- the state block's last cells, for any number m of globals and of builtins
nulls : {a b : ℕ} (m : ℕ) → a ≡ b
    → ◌≡◌ {A = List Cell} (cell 1 0 a ∷ cell 64 0 0 ∷ replicate (suc (suc (m + m))) null)
    (cell 1 0 b ∷ cell 64 0 0 ∷ null ∷ null ∷ (replicate m null ++ replicate m null))
nulls m e = rw (e, replicate-append-replicate m m null)

-- over plain values: on terms of the store's first 65,536 cells `omega` and `rw` take seconds
too_few_lem : {t r s u n : ℕ} → t ≡ min 65536 r → r ≡ s → n ≤ 256 → u ≡ 1 + n → s < 1 + n → t < u
too_few_lem a b c d e = omega arith

enough : {t r s u n : ℕ} → t ≡ min 65536 r → r ≡ s → n ≤ 256 → u ≡ 1 + n → 1 + n ≤ s → u ≤ t
enough a b c d e = omega arith

module _ (image state live store : List ℕ) where
  abbrev Both : Answer Program → Got → List ℕ → List ℕ → Type 0
  Both x r state' store' = (r ≡ load_answer x) × LoadLeft x state store state' store'

  whole : (r : Got) (state' store' : List ℕ) → Both (loading image state live store) r state' store' → Loaded image state live store r state' store'
  whole r state' store' b = record { answers = b.0; leaves = b.1 }

  -- 6 comes before all of the image
  pub at_length : (length state ≡ 8256 → ⊥) → Loaded image state live store (got_of 6 null) state store
  unfolding loading load_answer
  at_length h = whole (got_of 6 null) state store (rw (ne_eqb (length state) 8256 h) (refl, (refl, refl)))

  module _ (size : length state ≡ 8256) where
    here : loading image state live store ≡ load image (sizes_of live store)
    unfolding loading
    here = rw (eq-eqb (length state) 8256 size)

    on_load : {r : Got} {state' store' : List ℕ} → Both (load image (sizes_of live store)) r state' store' → Loaded image state live store r state' store'
    on_load {r} {state'} {store'} b = whole r state' store' (rw here b)

    at_not : {n : ℕ} → refused n ≡ outermost_of (parse image) → Loaded image state live store (got_of n null) state store
    unfolding load_of program_of load_answer
    at_not {n} h = on_load (by (parse image) h)
      where
        by : (x : Answer (List Code)) → refused n ≡ outermost_of x → Both (load_of image (sizes_of live store) (program_of image x)) (got_of n null) state store
        by (refused m) h = let e : n ≡ m = cc in (ap (λ (k : ℕ). got_of k null) e, (refl, refl))
        by (accepted cs) h = cc

    module _ {n : ℕ} (h : accepted n ≡ outermost_of (parse image)) where
      -- the store's cells, used up to 65,536, are enough exactly if all of them are
      abbrev of : List Code → Program
      of cs = record { image = image; codes = cs }

      cost_is : (cs : List Code) → n ≡ length (get_or cs 0 no_code).captures → used (loaded_machine (of cs)).store ≡ 1 + n
      unfolding loaded_machine used cost
      cost_is cs e = omega (arith, length-replicate (length (get_or cs 0 no_code).captures) null)

      -- what is written is what the loaded world is written as
      block_is : (cs : List Code) → n ≡ length (get_or cs 0 no_code).captures → fresh_state n ≡ state_cells (loaded (of cs))
      unfolding loaded_machine result_shown
      block_is cs e = nulls 256 (sym (cost_is cs e))

      objects_are : (cs : List Code) → n ≡ length (get_or cs 0 no_code).captures → fresh_store n ≡ store_cells (loaded_machine (of cs)).store
      unfolding loaded_machine store_cells object_cells
      objects_are cs e =
          let m = length (get_or cs 0 no_code).captures in
          ap fresh_store e ∙ ap (λ (k : ℕ). cell 128 0 k ∷ replicate m null) (sym (length-replicate m null)) ∙ ap (λ (l : List Cell). cell 128 0 (length (replicate m null)) ∷ l) (sym (append-nil (replicate m null)))

      few : n ≤ 256
      few = captures_few image h

      module _ (cs : List Code) (z : Sizes) where
        full_is : z.store < used (loaded_machine (of cs)).store
            → load_of image z (program_of image (accepted cs)) ≡ refused 15
        unfolding load_of program_of
        full_is l = rw (lt-ltb z.store (used (loaded_machine (of cs)).store) l)

        fresh_is : used (loaded_machine (of cs)).store ≤ z.store
            → load_of image z (program_of image (accepted cs)) ≡ accepted (of cs)
        unfolding load_of program_of
        fresh_is l = rw (le-ltb z.store (used (loaded_machine (of cs)).store) l)

      at_full : room store < 1 + n → Loaded image state live store (got_of 15 null) state store
      unfolding load_answer
      at_full l = on_load (by (parse image) h)
        where
          by : (x : Answer (List Code)) → accepted n ≡ outermost_of x → Both (load_of image (sizes_of live store) (program_of image x)) (got_of 15 null) state store
          by (refused m) h = cc
          by (accepted cs) h = let e : n ≡ length (get_or cs 0 no_code).captures = cc in
              let t = too_few_lem (length-take 65536 (cells store)) (length_cells store) few (cost_is cs e) l in
              let q = full_is cs (sizes_of live store) t in
              subst (λ (x : Answer Program). Both x (got_of 15 null) state store) (sym q) (refl, (refl, refl))

      at_fresh : 1 + n ≤ room store → {state' store' : List ℕ} → Writes state (fresh_state n) state' → Writes store (fresh_store n ++ drop (1 + n) (cells store)) store'
          → Loaded image state live store (got_of 0 (closure_at 0)) state' store'
      unfolding load_answer
      at_fresh l {state'} {store'} a b = on_load (by (parse image) h)
        where
          by : (x : Answer (List Code)) → accepted n ≡ outermost_of x → Both (load_of image (sizes_of live store) (program_of image x)) (got_of 0 (closure_at 0)) state' store'
          by (refused m) h = cc
          by (accepted cs) h = let e : n ≡ length (get_or cs 0 no_code).captures = cc in
              let t = enough (length-take 65536 (cells store)) (length_cells store) few (cost_is cs e) l in
              let q = fresh_is cs (sizes_of live store) t in
              subst (λ (x : Answer Program). Both x (got_of 0 (closure_at 0)) state' store') (sym q)
              (refl, record { block = a.cells ∙ block_is cs e; len = a.len; objects = rw (← objects_are cs e, cost_is cs e) b })

  -- the returns of the load
  pub load_not : {o : Result ℕ Refusal} {x : Refusal} → length state ≡ 8256 → says o ≡ outermost_of (parse image) → o ≡ Err x → Loaded image state live store (got_of (number x) null) state store
  load_not s h e = at_not s (rw e at h)

  module _ {n : ℕ} {o : Result ℕ Refusal} (s : length state ≡ 8256) (h : says o ≡ outermost_of (parse image)) (e : o ≡ Ok n) where
    pub load_full : {m : ℕ} → m ≡ room store → m < 1 + n → Loaded image state live store (got_of 15 null) state store
    load_full q l = at_full s (rw e at h) (omega arith)

    pub load_fresh : {m : ℕ} {v : Cell} {state' store' : List ℕ} → m ≡ room store → 1 + n ≤ m → v ≡ closure_at 0 → Writes state (fresh_state n) state' × Writes store (fresh_store n ++ drop (1 + n) (cells store)) store'
        → Loaded image state live store (got_of 0 v) state' store'
    load_fresh k l q w = rw q (at_fresh s (rw e at h) (omega arith) w.0 w.1)
