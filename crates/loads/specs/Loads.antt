-- One law for each answer of an opcode from 0 to 7, over those for a frame that goes on, for a value that is pushed and for a refusal.
use Rattle.std.specs.Prelude.{◌≡◌, Bool, true, false, ℕ, ◌-◌, ◌<◌, ◌≤◌, drop, leb, eqb, Result, Ok, Err}
use Rattle.std.proofs.Math.Path.{refl, sym, ap}
use Rattle.std.proofs.Common.{◌∙◌, arith}
use mathlib.Core.List.{List, ◌∷◌}
use Rattle.std.proofs.Math.ListN.{length, get_or, set}
use borrow.Author.Tests.{ne_eqb, le-leb, lt-leb}
use Rattle.cells.specs.Cells.{null, cells, room}
use Rattle.cells.specs.CellsLaws.{length_cells, same_cells}
use Rattle.cells.specs.declared.Cell.{Cell}
use Rattle.image.specs.Program.{Code}
use Rattle.image.specs.Fine.{no_constant}
use Rattle.image.specs.Records.{both}
use Rattle.image.proofs.Parts.{both_false}
use Rattle.image.specs.declared.Constant.{Constant}
use Rattle.machine.specs.Values.{Program}
use Rattle.machine.specs.Machine.{Object, closure, M, here, object_at, frame_cost, frames_cost}
use Rattle.machine.specs.Opcodes.{Running, goes, Taken, takes, stacked, pushes, reaches, swapped, constant_value, load_const, load_global, opcode_action}
use Rattle.machine.specs.Calls.{Sizes, World, stops, outcome, counted, pace_of}
use Rattle.memory.specs.Layout.{Written, state_cells}
use Rattle.moves.specs.Runs.{Top, Runs, Turns, with_counts, end_of, pushed, set_top, set_local, pop_top}
use Rattle.moves.specs.Objects.{Stored}
use Rattle.moves.specs.declared.Running as registers
use Rattle.plan.specs.declared.Next.{Next}
use Rattle.plan.specs.declared.Next.TheVariants.{Goes}
use Rattle.plan.specs.Rest.{Block}
use Rattle.plan.proofs.RestLaws.{same_refl}
use Rattle.plan.specs.Inside.{Inside, left, Went, DoesWhere, Does}
use Rattle.plan.proofs.InsideLaws.{goes_fits, goes_short, runs_cost, runs_fits, handlers_few, top_none, top_some, refused_does}
use Rattle.refusals.specs.declared.Refusal.{Refusal}
use Rattle.refusals.specs.declared.Refusal.TheVariants.{FewValues, LiveFull}

-- ---- A frame that goes on, or can't
module _ {P : Program} {z : Sizes} {m : M} {r : Running} {g : registers.Running} {L S : List Cell} (i : Inside P z m r g L S) where
  -- with other locals and another stack, as the registers and the cells have them
  goes_on_lem : {t : Taken} {g' : registers.Running} {L' : List Cell} (l st : List Cell) → t ≡ takes (goes (left r r.place l st r.handlers)) → length L' ≡ length L
      → Runs r.handle r.place l st r.handlers r.below g' L' → Went (outcome P z t m) counted m r g' L'
  unfolding pace_of
  goes_on_lem l st q e o = record {
    action = goes (left r r.place l st r.handlers);
    place = r.place;
    locals = l;
    stack = st;
    handlers = r.handlers;
    is = goes_fits i r.place l st r.handlers q (handlers_few i) (omega (arith, runs_cost r.below o, runs_fits r.below o, i.room));
    paces = refl;
    runs = o;
  }

  -- one value more than there is room for
  no_place : {t : Taken} (v : Cell) → t ≡ pushes r v → length L ≤ end_of g → outcome P z t m ≡ stops 14
  unfolding frames_cost frame_cost
  no_place v q le = goes_short i r.place r.locals (v ∷ r.stack) r.handlers q (handlers_few i) (omega (arith, runs_cost r.below i.runs, i.room))

-- ---- A value is pushed, by any opcode
pub record Pushes (v : Cell) (g : registers.Running) (n : Result Next Refusal) (old new : List ℕ) : Type 0 where
  pub does : (P : Program) (op x : ℕ) → DoesWhere (λ m r. opcode_action P m r op x ≡ pushes r v) P op x g n old new

module _ {v : Cell} {g : registers.Running} {old : List ℕ} where
  pub push_goes : {g' : registers.Running} {new : List ℕ} → Turns (pushed v) g old g' new → Pushes v g (Ok (Goes g')) old new
  push_goes {new = new} t = record {
    does = λ P op x. record {
      next = λ z m r S q i. goes_on_lem i r.locals (v ∷ r.stack) q (same_cells old new t.len) (t.top _ _ i.runs);
      same = record { rest = t.rest; len = t.len };
    };
  }

  pub push_stops : {e n : ℕ} → e ≡ end_of g → n ≡ room old → n ≤ e → Pushes v g (Err LiveFull) old old
  push_stops a b le = record { does = λ P op x. record { next = λ z m r S q i. (no_place i v q (omega (arith, length_cells old)), refl); same = same_refl old } }

-- an opcode that pushes v where Q holds
pushing : {Q : M → Running → Type 0} {P : Program} {op x : ℕ} {g : registers.Running} {v : Cell} {n : Result Next Refusal} {old new : List ℕ} → Pushes v g n old new
    → ((z : Sizes) (m : M) (r : Running) (S : List Cell) → Q m r → Inside P z m r g (cells old) S → opcode_action P m r op x ≡ pushes r v) → DoesWhere Q P op x g n old new
pushing {P = P} {op} {x} d h = let d' = d.does P op x in record { next = λ z m r S q i. d'.next z m r S (h z m r S q i) i; same = d'.same }

-- ---- 0 `Pop`
module _ {g : registers.Running} where
  pub pop_stops : g.stack ≡ 0 → (P : Program) (x : ℕ) (live : List ℕ) → Does P 0 x g (Err FewValues) live live
  unfolding opcode_action
  pop_stops e P x live = refused_does (λ m r k. top_none r.stack _ (omega arith))

  pub pop_goes : {g' : registers.Running} → (g.stack ≡ 0 → ⊥) → g' ≡ with_counts g.handlers (g.stack - 1) g → (P : Program) (x : ℕ) (live : List ℕ) → Does P 0 x g (Ok (Goes g')) live live
  unfolding opcode_action
  pop_goes e q P x live = record {
    next = λ z m r S u i.
        goes_on_lem i r.locals (drop 1 r.stack) (top_some r.stack _ (λ n. e (i.runs.counts.stack ∙ n))) refl (rw q (pop_top i.runs 1 (omega arith)));
    same = same_refl live;
  }

-- ---- 1 `Copy`, 2 `Swap`
unreached : (x : ℕ) (st : List Cell) → length st < x → reaches x st ≡ false
unreached x st lt = ap (both (leb 1 x)) (lt-leb x (length st) lt) ∙ both_false (leb 1 x)

none_reached : (st : List Cell) → reaches 0 st ≡ false
unfolding both
none_reached st = refl

reached : (x : ℕ) (st : List Cell) → (x ≡ 0 → ⊥) → x ≤ length st → reaches x st ≡ true
unfolding both
reached x st e le = rw (le-leb 1 x (omega arith), le-leb x (length st) le) refl

module _ {g : registers.Running} {x : ℕ} {old : List ℕ} where
  pub copy_none : x ≡ 0 → (P : Program) → Does P 1 x g (Err FewValues) old old
  unfolding opcode_action
  copy_none e P = rw e (refused_does (λ m r k. rw (none_reached r.stack) refl))

  pub copy_past : g.stack < x → (P : Program) → Does P 1 x g (Err FewValues) old old
  unfolding opcode_action
  copy_past lt P = refused_does (λ m r k. rw (unreached x r.stack (omega arith)) refl)

  pub swap_none : x ≡ 0 → (P : Program) → Does P 2 x g (Err FewValues) old old
  unfolding opcode_action
  swap_none e P = rw e (refused_does (λ m r k. rw (none_reached r.stack) refl))

  pub swap_past : g.stack < x → (P : Program) → Does P 2 x g (Err FewValues) old old
  unfolding opcode_action
  swap_past lt P = refused_does (λ m r k. rw (unreached x r.stack (omega arith)) refl)

  module _ (e : x ≡ 0 → ⊥) (le : x ≤ g.stack) where
    pub copied : {v : Cell} {n : Result Next Refusal} {new : List ℕ} → ((w : Written) (pre : List Cell) → Top w pre g (cells old) → v ≡ get_or w.stack (x - 1) null) → Pushes v g n old new → (P : Program) → Does P 1 x g n old new
    unfolding opcode_action
    copied h d P = pushing d (λ z m r S u i. rw (reached x r.stack e (omega (arith, i.runs.counts.stack))) (ap (pushes r) (sym (h _ _ i.runs))))

    pub swaps : {a b : Cell} {mid new : List ℕ} → ((w : Written) (pre : List Cell) → Top w pre g (cells old) → a ≡ get_or w.stack 0 null)
        → ((w : Written) (pre : List Cell) → Top w pre g (cells old) → b ≡ get_or w.stack (x - 1) null) → Turns (set_top (x - 1) a) g old g mid → Turns (set_top 0 b) g mid g new → (P : Program) → Does P 2 x g (Ok (Goes g)) old new
    unfolding opcode_action
    swaps {a} {b} {mid} {new} h k s t P = record {
      next = λ z m r S u i.
          let st : List Cell = r.stack in
          let q : swapped (x - 1) st ≡ set (set st (x - 1) a) 0 b = λ j. set (set st (x - 1) (sym (h _ _ i.runs) j)) 0 (sym (k _ _ i.runs) j) in
          goes_on_lem i r.locals (set (set st (x - 1) a) 0 b) (rw (reached x st e (omega (arith, i.runs.counts.stack))) (ap (λ (l : List Cell). takes (goes (stacked r l))) q))
          (same_cells old new (t.len ∙ s.len)) (t.top _ _ (s.top _ _ i.runs));
      same = record { rest = t.rest ∙ s.rest; len = t.len ∙ s.len };
    }

-- ---- 3 `LoadLocal`, 7 `StoreLocal`
pub int_parts : (v : Cell) → v.tag ≡ 2 → ◌≡◌ {A = Cell} (record { tag = 2; number = v.number; payload = v.payload }) v
int_parts v e = λ j. record { tag = sym e j; number = v.number; payload = v.payload }

module _ {g : registers.Running} {x : ℕ} {old : List ℕ} where
  pub local_loaded : {v : Cell} {n : Result Next Refusal} {new : List ℕ} → ((w : Written) (pre : List Cell) → Top w pre g (cells old) → v ≡ get_or w.locals x null) → Pushes v g n old new → (P : Program) → Does P 3 x g n old new
  unfolding opcode_action
  local_loaded h d P = pushing d (λ z m r S u i. ap (pushes r) (sym (h _ _ i.runs)))

  pub local_parts : {v u : Cell} {g' : registers.Running} {new : List ℕ} → u ≡ v → ((w : Written) (pre : List Cell) → Top w pre g (cells old) → v ≡ get_or w.locals x null) → Turns (pushed u) g old g' new → (P : Program) → Does P 3 x g (Ok (Goes g')) old new
  local_parts e h t = local_loaded (λ w pre o. e ∙ h w pre o) (push_goes t)

  pub store_stops : g.stack ≡ 0 → (P : Program) → Does P 7 x g (Err FewValues) old old
  unfolding opcode_action
  store_stops e P = refused_does (λ m r k. top_none r.stack _ (omega arith))

  pub stored_local : {v : Cell} {g' : registers.Running} {new : List ℕ} → (g.stack ≡ 0 → ⊥) → ((w : Written) (pre : List Cell) → Top w pre g (cells old) → v ≡ get_or w.stack 0 null)
      → Turns (set_local x v) g old g new → g' ≡ with_counts g.handlers (g.stack - 1) g → (P : Program) → Does P 7 x g (Ok (Goes g')) old new
  unfolding opcode_action
  stored_local {v} {new = new} e h t q P = record {
    next = λ z m r S u i.
        let a : set r.locals x (get_or r.stack 0 null) ≡ set r.locals x v = ap (set r.locals x) (sym (h _ _ i.runs)) in
        goes_on_lem i (set r.locals x v) (drop 1 r.stack)
        (top_some r.stack _ (λ n. e (i.runs.counts.stack ∙ n)) ∙ ap (λ (l : List Cell). takes (goes (left r r.place l (drop 1 r.stack) r.handlers))) a)
        (same_cells old new t.len) (rw q (pop_top (t.top _ _ i.runs) 1 (omega arith)));
    same = record { rest = t.rest; len = t.len };
  }

  pub stored_parts : {v u : Cell} {g' : registers.Running} {new : List ℕ} → u ≡ v → (g.stack ≡ 0 → ⊥) → ((w : Written) (pre : List Cell) → Top w pre g (cells old) → v ≡ get_or w.stack 0 null)
      → Turns (set_local x u) g old g new → g' ≡ with_counts g.handlers (g.stack - 1) g → (P : Program) → Does P 7 x g (Ok (Goes g')) old new
  stored_parts e ne h t q = stored_local ne (λ w pre o. e ∙ h w pre o) t q

-- ---- 4 `LoadGlobal`
module _ {B : List Cell} {v : Cell} {name : ℕ} (h : (w : World) → length w.machine.globals ≡ 256 → B ≡ state_cells w → v ≡ get_or w.machine.globals name null) where
  global_is : (m : M) → Block m B → length m.globals ≡ 256 → v ≡ get_or m.globals name null
  global_is m k n = h k.stale (ap length k.globals ∙ n) k.is ∙ ap (λ (l : List Cell). get_or l name null) k.globals

  pub global_there : {t : Bool} → t ≡ eqb v.tag 0 → t ≡ false → (m : M) → Block m B → length m.globals ≡ 256 → v ≡ load_global m name
  unfolding load_global
  global_there q e m k n = rw (← global_is m k n, sym q ∙ e) refl

  pub global_null : {b : Cell} {t : Bool} → t ≡ eqb v.tag 0 → t ≡ true → ((w : World) → length w.machine.globals ≡ 256 → B ≡ state_cells w → b ≡ get_or w.machine.builtins name null)
      → (m : M) → Block m B → length m.globals ≡ 256 → b ≡ load_global m name
  unfolding load_global
  global_null {b} q e f m k n =
      let c : b ≡ get_or m.builtins name null = f k.stale (ap length k.globals ∙ n) k.is ∙ ap (λ (l : List Cell). get_or l name null) k.builtins in
      rw (← global_is m k n, sym q ∙ e) c

module _ {g : registers.Running} {x : ℕ} {v : Cell} {n : Result Next Refusal} {old new : List ℕ} where
  pub global_loaded : {B : List Cell} {name : ℕ} → ((m : M) → Block m B → length m.globals ≡ 256 → v ≡ load_global m name) → Pushes v g n old new
      → (P : Program) → DoesWhere (λ m r. Block m B × (name ≡ get_or r.code.globals x 0)) P 4 x g n old new
  unfolding opcode_action
  global_loaded h d P = pushing d (λ z m r S u i. ap (pushes r) (ap (load_global m) (sym u.1) ∙ sym (h m u.0 i.fits.globals.0)))

  -- ---- 5 `LoadUpvalue`
  pub upvalue_loaded : {S : List Cell} {handle : ℕ} → ((s : List Object) (code : ℕ) (us : List Cell) → Stored s S → object_at s handle ≡ here (closure code us) → x < length us → v ≡ get_or us x null) → Pushes v g n old new
      → (P : Program) → DoesWhere (λ m r. Stored m.store S × (handle ≡ r.handle) × (x < length r.upvalues)) P 5 x g n old new
  unfolding opcode_action
  upvalue_loaded h d P = pushing d (λ z m r S u i. ap (pushes r) (sym (h m.store r.number r.upvalues u.0 (ap (object_at m.store) u.1 ∙ i.closure_there) u.2)))

  -- ---- 6 `LoadConst`
  pub const_loaded : {image : List ℕ} {code : ℕ} {c : Constant} → ((cs : List Code) → v ≡ constant_value (record { image = image; codes = cs }) code x c) → Pushes v g n old new
      → (cs : List Code) → DoesWhere (λ m r. (code ≡ r.number) × (c ≡ get_or r.code.constants x no_constant) × (c.kind ≡ 22 → ⊥)) (record { image = image; codes = cs }) 6 x g n old new
  unfolding opcode_action load_const
  const_loaded {c = c} h d cs = pushing d (λ z m r S u i. rw (← u.1, ne_eqb c.kind 22 u.2, ← u.0) (ap (pushes r) (sym (h cs))))
