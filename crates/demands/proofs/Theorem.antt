-- Demand 3 holds of the exported functions, over any list of calls and any memory that their contracts allow one after the other.
use Rattle.std.specs.Prelude.{◌≡◌, Bool, true, false, ℕ, ◌+◌, ◌-◌, length, take, drop, eqb}
use Rattle.std.proofs.Math.Path.{refl}
use Rattle.std.proofs.Common.{sym, ap, subst, ◌∙◌, ⊎_elim, arith, length-take, eqb-true}
use mathlib.Core.List.{List, [], ◌∷◌, ◌++◌}
use Rattle.std.proofs.Math.Seq.{take-append-add}
use Rattle.cells.specs.Cells.{cells}
use Rattle.image.specs.Records.{if?, Answer, refused, accepted}
use Rattle.image.specs.Image.{parse}
use Rattle.machine.specs.Values.{Program}
use Rattle.machine.specs.Machine.{used}
use Rattle.machine.specs.Calls.{Sizes, World, world_after, Call, call_of, Lent, load, loaded, loaded_machine, calls_of}
use Rattle.machine.specs.Demand.{NoLoads}
use Rattle.machine.proofs.Theorem.{demand3}
use Rattle.machine.specs.Form.{WorldFits}
use Rattle.machine.proofs.FormLaws.{loaded_as, load_form}
use Rattle.machine.proofs.RequestRefusals.{load_refusals}
use Rattle.memory.specs.Layout.{store_cells, result_shown, flat}
use Rattle.memory.proofs.StoreLaws.{length_store}
use Rattle.memory.proofs.Exact.{exact_out}
use Rattle.form.specs.Entry.{live_of, store_of}
use Rattle.asks.specs.Asks.{loading, load_answer, Loads}
use Rattle.asks.specs.Ready.{ready}
use Rattle.asks.specs.declared.Got.{Got}
use Rattle.demands.specs.Called.{Memory, sizes, world_in, Exported, Answered, call_for, stands_for, NoLoad, lent_longer, Led, loads, calls, longer, After, Each, Demanded}
use Rattle.demands.proofs.Longer.{longer_holds, longer_fits}
use Rattle.demands.specs.CalledLaws.{Finds, world_by, Claimed}
use Rattle.demands.proofs.CalledLaws.{same_sizes, finds, called}

-- the world after one call more
module _ (P : Program) where
  calls_append : (xs ys : List Lent) (w : World) → calls_of P (xs ++ ys) w ≡ calls_of P ys (calls_of P xs w)
  unfolding calls_of
  calls_append [] ys w = refl
  calls_append (x ∷ xs) ys w = calls_append xs ys (world_after (call_of P x.sizes x.call w))

  calls_one : (z : Sizes) (x : Answer Call) (w : World) → calls_of P (stands_for z x) w ≡ world_by P z x w
  unfolding stands_for calls_of
  calls_one z (accepted q) w = refl
  calls_one z (refused k) w = refl

-- no accepted load among one call more
loads_append : (xs ys : List Lent) → NoLoads xs → NoLoads ys → NoLoads (xs ++ ys)
loads_append [] ys h k = k
loads_append (x ∷ xs) ys h k = (h.0, loads_append xs ys h.1 k)

loads_one : (z : Sizes) (x : Answer Call) → NoLoad z x → NoLoads (stands_for z x)
unfolding stands_for NoLoad
loads_one z (accepted q) l = (l, tt)
loads_one z (refused k) l = tt

-- the world that a call finds is the one that is read off memory
found_world : (image : List ℕ) (P : Program) (m : Memory) (w : World) → Finds image P m w → world_in m ≡ w
found_world image P m w f =
    let k = ready image m.state m.live m.store (record { program = P; world = w }) f in
    (exact_out P w (cells m.state) (live_of m.live) (store_of m.store) k.holds k.fits).3

-- a load that answers 0 is accepted
accepted_load : (image : List ℕ) (m : Memory) (r : Got) → r ≡ load_answer (loading image m.state m.live m.store) → r.code ≡ 0
    → (P : Program) × (loading image m.state m.live m.store ≡ accepted P) × (load image (sizes m) ≡ accepted P) × (length m.state ≡ 8256)
unfolding loading load_answer
accepted_load image m r a z = by (eqb (length m.state) 8256) (load image (sizes m)) refl refl a
  where
    by : (b : Bool) (x : Answer Program) → eqb (length m.state) 8256 ≡ b → load image (sizes m) ≡ x → r ≡ load_answer (if? b x (refused 6))
        → (P : Program) × (if? b x (refused 6) ≡ accepted P) × (x ≡ accepted P) × (length m.state ≡ 8256)
    by true (accepted P) n q a = (P, refl, refl, eqb-true (length m.state) 8256 n)
    by true (refused n) _ q a = let e : n ≡ 0 = sym (ap (λ (x : Got). x.code) a) ∙ z in ⊎_elim (λ i. absurd (omega arith)) (λ i. absurd (omega arith)) (load_refusals image (sizes m) n q)
    by false x _ q a = let e : ◌≡◌ {A = ℕ} 6 0 = sym (ap (λ (y : Got). y.code) a) ∙ z in absurd (omega arith)

-- after it memory holds the loaded world, whatever was there
loaded_finds : (image : List ℕ) (P : Program) (m₀ m : Memory) → load image (sizes m₀) ≡ accepted P → length m₀.state ≡ 8256 → sizes m ≡ sizes m₀ → Loads P m₀.state m₀.store m.state m.store → Finds image P m (loaded P)
unfolding loaded_machine result_shown flat
loaded_finds image P m₀ m q n e l =
    let k = loaded_as P (sizes m₀) image q in
    let f : WorldFits P (sizes m) (loaded P) = rw e (load_form P (sizes m₀) image q) in
    let s = (loaded_machine P).store in
    let u : 65536 ≡ length (store_cells s) + (65536 - used s) = omega (arith, length_store s, f.used, length-take 65536 (cells m.store)) in
    finds k.parsed k.image (loaded P) m (l.len ∙ n)
    (record {
      state = l.block;
      free_live = live_of m.live;
      live = refl;
      free_store = take (65536 - used s) (drop (used s) (cells m₀.store));
      store = ap (take 65536) l.objects.cells ∙ ap (λ (i : ℕ). take i (store_cells s ++ drop (used s) (cells m₀.store))) u ∙ take-append-add (store_cells s) (drop (used s) (cells m₀.store)) (65536 - used s);
    })
    f

-- what is shown of a history, call by call
record Shown {image : List ℕ} {past : List Lent} {m : Memory} (l : Led image past m) : Type 0 where
  program : Program
  parsed : parse program.image ≡ accepted program.codes
  same : program.image ≡ image
  each : Each program l
  finds : Finds image program m (calls_of program past (loaded program))
  refused : NoLoads past

-- the world that the next call finds
abbrev world_of : {image : List ℕ} {past : List Lent} {m : Memory} {l : Led image past m} → Shown l → World
world_of {past = past} k = calls_of k.program past (loaded k.program)

after : (image : List ℕ) (P : Program) (past : List Lent) (m : Memory) → Finds image P m (calls_of P past (loaded P)) → NoLoads past → After image P past m
after image P past m f h = record { holds = f; demand3 = rw (found_world image P m _ f) (demand3 P past h) }

-- a longer loan holds the same world
longer_finds : {image : List ℕ} {P : Program} → parse P.image ≡ accepted P.codes → P.image ≡ image
    → (w : World) (m : Memory) (live store : List ℕ) → Finds image P m w → Finds image P (lent_longer m live store) w
unfolding lent_longer
longer_finds {image} {P} parsed same w m live store f =
    let g = ready image m.state m.live m.store (record { program = P; world = w }) f in
    finds parsed same w (lent_longer m live store) g.size
    (longer_holds P w (cells m.state) m.live m.store live store g.holds)
    (longer_fits P w (cells m.state) m.live m.store live store g.fits)

-- an accepted load, with the premises of `loads`
loads_shown : {image : List ℕ} {m₀ m : Memory} (r : Got) (a : _) (z : _)
    → Shown {image = image} (loads {m₀ = m₀} {m = m} r a z)
unfolding calls_of
loads_shown {image} {m₀} {m} r a z =
    let x = accepted_load image m₀ r a.0.answers z in
    let P = x.0 in
    let l : Loads P m₀.state m₀.store m.state m.store = rw x.1 at a.0.leaves in
    let e : sizes m ≡ sizes m₀ = same_sizes m₀ m (l.len, ap length a.1, l.objects.len) in
    let k = loaded_as P (sizes m₀) image x.2 in
    record {
      program = P;
      parsed = k.parsed;
      same = k.image;
      each = ap (load image) e ∙ x.2;
      finds = loaded_finds image P m₀ m x.2 x.3 e l;
      refused = tt;
    }

-- one call more, with the premises of `calls`, where what is claimed of a call holds of it
calls_shown : {image : List ℕ} {past : List Lent} {m : Memory} {l : Led image past m} (k : Shown l)
    → (c : Exported) (r : Answered c) (n : Memory)
    → (NoLoad (sizes m) (call_for (world_of k) c) → Claimed image k.program (world_of k) m c r n)
    → (a : _) (h : _) → Shown (calls l c r n a h)
calls_shown {image} {past} {m} k c r n claimed a h =
    let P = k.program in
    let w = world_of k in
    let f : world_in m ≡ w = found_world image P m w k.finds in
    let l : NoLoad (sizes m) (call_for w c) = rw f at h in
    let x = claimed l a in
    let q = stands_for (sizes m) (call_for w c) in
    let s = calls_append P past q (loaded P) ∙ calls_one P (sizes m) (call_for w c) w in
    let more : World → List Lent = λ u. past ++ stands_for (sizes m) (call_for u c) in
    let y : Finds image P n (calls_of P (more w) (loaded P)) = rw s x.next in
    let z : NoLoads (more w) = loads_append past q k.refused (loads_one (sizes m) (call_for w c) l) in
    record {
      program = P;
      parsed = k.parsed;
      same = k.same;
      each = (k.each, after image P past m k.finds k.refused, x.does);
      finds = subst (λ (u : World). Finds image P n (calls_of P (more u) (loaded P))) (sym f) y;
      refused = subst (λ (u : World). NoLoads (more u)) (sym f) z;
    }

shown : {image : List ℕ} {past : List Lent} {m : Memory} (l : Led image past m) → Shown l
shown (loads r a z) = loads_shown r a z
shown (calls {m = m} l c r n a h) =
    let k = shown l in
    calls_shown k c r n (called k.parsed k.same (world_of k) m k.finds c r n) a h
shown (longer {m = m} l live store) =
    let k = shown l in
    record {
      program = k.program;
      parsed = k.parsed;
      same = k.same;
      each = k.each;
      finds = longer_finds k.parsed k.same (world_of k) m live store k.finds;
      refused = k.refused;
    }

-- Demand 3 of the exported functions, of every history.
pub demand3_exported : {image : List ℕ} {past : List Lent} {m : Memory} (l : Led image past m) → Demanded l
demand3_exported {image} {past} {m} l = let k = shown l in record { program = k.program; each = k.each; final = after image k.program past m k.finds k.refused }
