-- Closures of inner codes: what the running frame can capture, and one law for each answer of `captured` and `make_closure`.
use Rattle.std.specs.Prelude.{◌≡◌, refl, List, [], ◌∷◌, ◌++◌, map, ℕ, suc, ◌+◌, ◌-◌, ◌<◌, ◌≤◌, length, get_or, set, take, Ok, Err}
use Rattle.std.proofs.Common.{sym, ap, subst, ◌∙◌, arith, set-set, take-suc, take_all, length-take-le, eq-eqb, ne_eqb}
use Rattle.std.proofs.lemmas.List.{length-map}
use Rattle.std.proofs.Math.ListN.{get_or-map}
use Rattle.cells.specs.Cells.{null, room, cells, Sound, Writes}
use Rattle.cells.specs.CellsLaws.{length_cells, same_cells}
use Rattle.cells.specs.Le.{le_at}
use Rattle.cells.specs.declared.Cell.{Cell}
use Rattle.image.specs.Program.{Code}
use Rattle.image.proofs.Parts.{length_tab}
use Rattle.image.specs.Layout.{field}
use Rattle.image.specs.Fine.{Accepted, Fine, CaptureIn, no_constant, no_capture, bytes_of}
use Rattle.image.specs.declared.Capture.{Capture}
use Rattle.program.specs.Looks.{body_at}
use Rattle.scan.specs.Tables.{program_in}
use Rattle.scan.specs.Values.{code_in}
use Rattle.machine.specs.Values.{Program, code_of, cell, closure_at}
use Rattle.machine.specs.Machine.{Object, closure, M, cost, used, here, object_at}
use Rattle.machine.specs.Opcodes.{Running, makes, takes, stacked, captured, load_const, opcode_action}
use Rattle.machine.specs.Calls.{Sizes}
use Rattle.machine.proofs.FormRules.{object_at_lem}
use Rattle.memory.specs.Layout.{Written}
use Rattle.moves.specs.Runs.{Top, Runs, Turns, end_of, pushed}
use Rattle.moves.specs.Objects.{Stored, object_there, upvalue_fits, Building, building_begun, building_more, building_done}
use Rattle.moves.specs.declared.Running as registers
use Rattle.plan.specs.Rest.{Appends}
use Rattle.plan.proofs.Appended.{appends_none, appends_refl, appends_again, appends_set}
use Rattle.plan.specs.Inside.{Inside}
use Rattle.plan.proofs.InsideLaws.{runs_fits}
use Rattle.makes.specs.Made.{Named, Closable, MakesClosure, Capturable, Captured}
use Rattle.plan.proofs.RestLaws.{same_refl}
use Rattle.makes.specs.Lists.{no_live_lem, no_store_lem, made_on}
use Rattle.refusals.specs.declared.Refusal.TheVariants.{LiveFull, StoreFull}

-- ---- A capture is read
module _ {image rows : List ℕ} {g : registers.Running} {handle code i : ℕ} {live store : List ℕ} {c : Capture} where
  pub local_fits : Capturable image rows g handle code i live store → c ≡ get_or (body_at image rows code).captures i no_capture → c.from ≡ 0 → (c.index < g.locals) × (end_of g ≤ room live)
  local_fits k e z = (rw e (k.local (rw e at z)), k.fits)

  pub upvalue_within : Capturable image rows g handle code i live store → c ≡ get_or (body_at image rows code).captures i no_capture → (c.from ≡ 0 → ⊥) → handle + 1 + c.index < room store
  upvalue_within k e z = rw e (k.upvalue (rw e at z))

module _ {image rows : List ℕ} {g : registers.Running} {handle code i : ℕ} {live store : List ℕ} {c : Capture} {v : Cell} (e : c ≡ get_or (body_at image rows code).captures i no_capture) where
  pub capture_local : c.from ≡ 0 → ((w : Written) (pre : List Cell) → Top w pre g (cells live) → v ≡ get_or w.locals c.index null) × Sound v → Captured image rows g handle code i live store v
  capture_local z t = record {
    is = λ P s m r k h b. subst (λ (d : Capture). v ≡ captured r d) e (simp (eq-eqb c.from 0 z) (t.0 _ _ k.runs));
    sound = t.1;
  }

  pub capture_upvalue : (c.from ≡ 0 → ⊥)
      → ((s : List Object) (code : ℕ) (us : List Cell) → Stored s (cells store) → object_at s handle ≡ here (closure code us) → c.index < length us → v ≡ get_or us c.index null) × Sound v
      → Captured image rows g handle code i live store v
  capture_upvalue z t = record {
    is = λ P s m r k h b.
        subst (λ (d : Capture). v ≡ captured r d) e
        (simp (ne_eqb c.from 0 z) (t.0 m.store r.number r.upvalues k.store (rw h k.closure_there) (rw e (b (rw e at z)))));
    sound = t.1;
  }

-- ---- The machine in which a closure is made
pub record Making (P : Program) (g : registers.Running) (handle u x code : ℕ) (L S : List Cell) (z : Sizes) (m : M) (r : Running) : Type 0 where
  pub inside : Inside P z m r g L S
  pub accepted : Accepted P.image P.codes
  pub uses : u ≡ used m.store
  pub closure : handle ≡ r.handle
  pub named : Named P r x code

module _ {P : Program} {g : registers.Running} {handle u x code : ℕ} {L S : List Cell} {z : Sizes} {m : M} {r : Running} (k : Making P g handle u x code L S z m r) where
  -- the inner code's place among those of the running code
  abbrev j : ℕ
  j = le_at 2 (bytes_of P.image (get_or r.code.constants x no_constant)) 0

  fine : Fine P.image P.codes r.number r.code
  fine = rw k.inside.code (k.accepted.fine r.number k.inside.known)

  low : j < length r.code.codes
  low = (fine.valued x k.named.within).function k.named.function

  pub code_known : code < length P.codes
  code_known = rw k.named.number (fine.below j low)

  capture_in : (q : ℕ) → q < length (code_of P code).captures → CaptureIn r.code (get_or (code_of P code).captures q no_capture)
  capture_in = rw k.named.number (λ q l. fine.capture j q low l)

  length_locals : length r.locals ≡ r.code.locals
  length_locals =
      let f = (rw k.inside.frames at k.inside.fits.frames).0.formed.stands in
      let e : f.code ≡ r.number = cc (f.closure_there, k.inside.closure_there) in
      f.locals ∙ ap (λ (n : ℕ). (code_of P n).locals) e ∙ sym (ap (λ (c : Code). c.locals) k.inside.code)

  length_upvalues : length r.upvalues ≡ length r.code.captures
  length_upvalues = (object_at_lem P [] m.store r.handle _ k.inside.fits.store k.inside.closure_there).1 ∙ sym (ap (λ (c : Code). length c.captures) k.inside.code)

  -- the opcode takes a closure
  takes_closure : opcode_action P m r 6 x ≡ takes (makes (closure code (map (captured r) (code_of P code).captures)) (stacked r (closure_at (used m.store) ∷ r.stack)))
  unfolding opcode_action load_const
  takes_closure = rw k.named.number (simp (eq-eqb (get_or r.code.constants x no_constant).kind 22 k.named.function))

-- what the code needs of the numbers
pub record Bounds (g : registers.Running) (u code : ℕ) (live store : List ℕ) : Type 0 where
  pub low : code < 256
  pub fits : end_of g ≤ room live
  pub most : u ≤ room store

module _ {P : Program} {g : registers.Running} {handle u x code : ℕ} {live store : List ℕ} (k : Closable P g handle u x code live store) where
  there : Making P g handle u x code (cells live) (cells store) k.sizes k.machine k.frame
  there = record { inside = k.inside; accepted = k.accepted; uses = k.uses; closure = k.closure; named = k.named }

  pub closable_bounds : Bounds g u code live store
  closable_bounds = record {
    low = omega (arith, code_known there, k.accepted.few);
    fits = omega (arith, runs_fits k.frame.below k.inside.runs, length_cells live);
    most = omega (arith, k.uses, k.inside.fits.used, k.inside.room_store, length_cells store);
  }

-- the upvalues of the new closure
abbrev all : Program → Running → ℕ → List Cell
all P r code = map (captured r) (code_of P code).captures

-- the captures of a code of P, by the tables of the reader
pub record Tabled (P : Program) (image rows : List ℕ) : Type 0 where
  pub captures : (k : ℕ) → k < length P.codes → (code_of P k).captures ≡ (body_at image rows k).captures

tabled : (image rows constants inner : List ℕ) (codes : ℕ) → Tabled (program_in image rows constants inner codes) image rows
tabled image rows constants inner codes = record { captures = λ k h. ap (λ (c : Code). c.captures) (code_in image rows constants inner codes k (rw length_tab at h)) }

-- the first i of n upvalues are put behind the first cell
pub record Closing (P : Program) (image rows : List ℕ) (g : registers.Running) (handle u x code n : ℕ) (live store : List ℕ) (i : ℕ) (new : List ℕ) : Type 0 where
  pub tables : Tabled P image rows
  pub able : Closable P g handle u x code live store
  pub count : n ≡ field rows code 5
  pub fits : u + 1 + n ≤ room store
  pub most : i ≤ n
  pub building : (z : Sizes) (m : M) (r : Running) → Making P g handle u x code (cells live) (cells store) z m r → Building m.store code n (take i (all P r code)) (cells new)
  pub appends : Appends u (u + 1 + n) store new

module _ {P : Program} {image rows : List ℕ} (T : Tabled P image rows) {g : registers.Running} {handle u x code : ℕ} {L S : List Cell} {z : Sizes} {m : M} {r : Running} (k : Making P g handle u x code L S z m r) where
  captures_are : (code_of P code).captures ≡ (body_at image rows code).captures
  captures_are = T.captures code (code_known k)

  captures_count : length (code_of P code).captures ≡ field rows code 5
  captures_count = ap length captures_are ∙ length_tab _ _

  length_all : length (all P r code) ≡ field rows code 5
  length_all = length-map (code_of P code).captures (captured r) ∙ captures_count

  closure_cost : cost (closure code (all P r code)) ≡ 1 + field rows code 5
  unfolding cost
  closure_cost = omega (arith, length_all)

-- ---- There is no room
module _ {g : registers.Running} {handle u x code : ℕ} {live store : List ℕ} {e a : ℕ} (is : e ≡ end_of g) (b : a ≡ room live) where
  pub closure_no_live : {P : Program} → a ≤ e → MakesClosure P g handle u x code (Err LiveFull) live store live store
  closure_no_live le = record {
    next = λ z m r i q w h v. (no_live_lem i _ _ _ (takes_closure (record { inside = i; accepted = q; uses = w; closure = h; named = v })) i.runs (omega (arith, length_cells live)), refl, refl);
    same_live = same_refl live;
    appends = appends_refl u store;
  }

  pub closure_no_store : (image rows constants inner : List ℕ) (codes : ℕ) {n s : ℕ} → (n ≡ field rows code 5) × (n < 4294967296) → e < a → s ≡ room store → s - u < 1 + n
      → MakesClosure (program_in image rows constants inner codes) g handle u x code (Err StoreFull) live store live store
  closure_no_store image rows constants inner codes c lt d f = record {
    next = λ z m r i q w h v.
        let k : Making (program_in image rows constants inner codes) g handle u x code (cells live) (cells store) z m r = record { inside = i; accepted = q; uses = w; closure = h; named = v } in
        (no_store_lem i _ _ _ (takes_closure k) i.runs (omega (arith, length_cells live)) (omega (arith, closure_cost (tabled image rows constants inner codes) k, length_cells store, c.0)), refl, refl);
    same_live = same_refl live;
    appends = appends_refl u store;
  }

-- ---- There is: the loop
-- the machine runs as well with a closure begun behind its store
making_with : {P : Program} {g : registers.Running} {handle u x code c n : ℕ} {L S S' us : List Cell} {z : Sizes} {m : M} {r : Running} → Making P g handle u x code L S z m r → Building m.store c n us S'
    → length S' ≡ length S → Making P g handle u x code L S' z m r
making_with k b e =
    let i = k.inside in
    record {
      inside = record {
        place = i.place;
        frames = i.frames;
        running = i.running;
        closure_there = i.closure_there;
        known = i.known;
        code = i.code;
        runs = i.runs;
        store = record { free = _; is = b.is };
        fits = i.fits;
        room = i.room;
        room_store = e ∙ i.room_store;
      };
      accepted = k.accepted;
      uses = k.uses;
      closure = k.closure;
      named = k.named;
    }

-- its first cell is written
module _ {P : Program} {g : registers.Running} {handle u x code : ℕ} (n : ℕ) {store new : List ℕ} {L : List Cell} (lt : u < room store) (w : Writes store (set (cells store) u (cell 128 code n)) new) {z : Sizes} {m : M} {r : Running} where
  making_begun : Making P g handle u x code L (cells store) z m r → Making P g handle u x code L (cells new) z m r
  making_begun k =
      making_with k (subst (Building m.store code n []) (sym w.cells) (building_begun code n u k.inside.store k.uses (omega (arith, length_cells store)))) (same_cells store new w.len)

  begun : Making P g handle u x code L (cells new) z m r → Building m.store code n [] (cells new)
  begun k =
      subst (Building m.store code n []) (ap (λ (l : List Cell). set l u (cell 128 code n)) w.cells ∙ set-set (cells store) u _ _ ∙ sym w.cells)
      (building_begun code n u k.inside.store k.uses (omega (arith, length_cells new, w.len)))

pub closing_begun : (image rows constants inner : List ℕ) (codes : ℕ) {g : registers.Running} {handle u x code n s : ℕ} {live store new : List ℕ}
    → Closable (program_in image rows constants inner codes) g handle u x code live store → (n ≡ field rows code 5) × (n < 4294967296) → s ≡ room store → 1 + n ≤ s - u
    → Writes store (set (cells store) u (cell 128 code n)) new → Closing (program_in image rows constants inner codes) image rows g handle u x code n live new 0 new
closing_begun image rows constants inner codes {u = u} {n = n} {store = store} {new} q c d f w =
    let lt : u < room store = omega arith in
    let k = making_begun n lt w (there q) in
    record {
      tables = tabled image rows constants inner codes;
      able = record {
        sizes = q.sizes;
        machine = q.machine;
        frame = q.frame;
        inside = k.inside;
        accepted = q.accepted;
        named = q.named;
        closure = q.closure;
        uses = q.uses;
        few = omega (arith, q.few, w.len);
      };
      count = c.0;
      fits = omega (arith, w.len);
      most = omega arith;
      building = λ z m r. begun n lt w;
      appends = appends_none new (omega arith);
    }

module _ {P : Program} {image rows : List ℕ} {g : registers.Running} {handle u x code n i : ℕ} {live store new : List ℕ} (o : Closing P image rows g handle u x code n live store i new) where
  abbrev Here : Sizes → M → Running → Type 0
  Here = Making P g handle u x code (cells live) (cells store)

  length_new : length (cells new) ≡ length (cells store)
  length_new = same_cells store new o.appends.len

  module _ (lt : i < n) where
    abbrev c : Capture
    c = get_or (body_at image rows code).captures i no_capture

    capture_here : {z : Sizes} {m : M} {r : Running} → Here z m r → CaptureIn r.code c
    capture_here k = rw (captures_are o.tables k) at (capture_in k i (omega (arith, o.count, captures_count o.tables k)))

    -- a capture that is no local is an upvalue that the frame has
    upvalue_here : {z : Sizes} {m : M} {r : Running} → Here z m r → (c.from ≡ 0 → ⊥) → c.index < length r.upvalues
    upvalue_here k z = let h = capture_here k in let one : c.from ≡ 1 = omega (arith, h.from) in omega (arith, h.upvalue one, length_upvalues k)

    pub capturable : Capturable image rows g handle code i live new
    capturable =
        let k = there o.able in
        let b = closable_bounds o.able in
        record {
          low = omega (arith, b.low);
          within = omega (arith, o.count);
          local = λ z. omega (arith, (capture_here k).local z, length_locals k, k.inside.runs.counts.locals);
          upvalue = λ z. omega (arith, upvalue_fits (object_there k.inside.store k.inside.closure_there) _ (upvalue_here k z), k.closure, length_new, length_cells new);
          fits = b.fits;
        }

    pub closing_more : {v : Cell} {new' : List ℕ} → Captured image rows g handle code i live new v → Writes new (set (cells new) (u + 1 + i) v) new' → Closing P image rows g handle u x code n live store (i + 1) new'
    closing_more {v} {new'} d w = record {
      tables = o.tables;
      able = o.able;
      count = o.count;
      fits = o.fits;
      most = omega arith;
      building = λ z m r k.
          let l = all P r code in
          let e : get_or l i (captured r no_capture) ≡ v =
          get_or-map (captured r) (code_of P code).captures i no_capture ∙ ap (λ (y : List Capture). captured r (get_or y i no_capture)) (captures_are o.tables k)
          ∙ sym (d.is P z m r (making_with k (o.building z m r k) length_new).inside k.closure (upvalue_here k)) in
          let next : i + 1 ≡ suc i = omega arith in
          let t : take (i + 1) l ≡ take i l ++ (v ∷ []) =
          ap (λ (y : ℕ). take y l) next ∙ take-suc l i (captured r no_capture) (omega (arith, length_all o.tables k, o.count)) ∙ ap (λ (y : Cell). take i l ++ (y ∷ [])) e in
          let b : Building m.store code n (take i l ++ (v ∷ [])) (set (cells new) (u + 1 + i) v) =
          building_more v (u + 1 + i) (o.building z m r k) (omega (arith, k.uses, length-take-le i l (omega (arith, length_all o.tables k, o.count)))) (omega (arith, o.fits, length_new, length_cells store)) in
          rw (t, w.cells) b;
      appends = appends_again o.appends (appends_set (u + 1 + i) v (omega arith) (omega arith) w);
    }

  -- all are put, and the closure is pushed
  pub closure_made : {old live' : List ℕ} {f : Cell} {g' : registers.Running} → Writes old (set (cells old) u (cell 128 code n)) store → n ≤ i → f ≡ cell 7 u 0 → Turns (pushed f) g live g' live'
      → MakesClosure P g handle u x code (Ok (record { g = g'; used = u + 1 + n })) live old live' new
  closure_made {old} {live'} {g' = g'} b le c t' = let t = subst (λ (v : Cell). Turns (pushed v) g live g' live') c t' in record {
    next = λ z m r y q w h v.
        let lt : u < room old = omega (arith, o.fits, b.len) in
        let k : Here z m r = making_begun n lt b (record { inside = y; accepted = q; uses = w; closure = h; named = v }) in
        let l = all P r code in
        let a : take i l ≡ l = take_all i l (omega (arith, length_all o.tables k, o.count)) in
        let j : Stored (m.store ++ (closure code (take i l) ∷ [])) (cells new) = building_done (o.building z m r k) (omega (arith, ap length a, length_all o.tables k, o.count)) in
        let f : cost (closure code l) ≡ 1 + n = omega (arith, closure_cost o.tables k, o.count) in
        made_on y (closure code l) (closure_at (used m.store)) r.stack (takes_closure k) (same_cells live live' t.len) (omega (arith, o.fits, b.len, length_cells old))
        (subst (λ (b : ℕ). Runs r.handle r.place r.locals (cell 7 b 0 ∷ r.stack) r.handlers r.below g' (cells live')) w (t.top _ _ y.runs))
        (rw a at j) (omega arith);
    same_live = record { rest = t.rest; len = t.len };
    appends = appends_again (appends_set u (cell 128 code n) (omega arith) (omega arith) b) o.appends;
  }
