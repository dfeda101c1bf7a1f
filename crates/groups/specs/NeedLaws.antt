-- What groups require of the functions that they call.
use Rattle.std.specs.Prelude.{◌≡◌, refl, List, Bool, false, ℕ, ◌+◌, ◌-◌, ◌<◌, ◌≤◌, length, get_or}
use Rattle.std.proofs.Math.Path.{sym, subst}
use Rattle.std.proofs.Common.{ap, ◌∙◌, arith, length-append}
use Rattle.cells.specs.Cells.{null, room, cells}
use Rattle.cells.specs.CellsLaws.{length_cells}
use Rattle.cells.specs.declared.Cell.{Cell}
use Rattle.image.specs.Fine.{Accepted}
use Rattle.machine.specs.Values.{Program}
use Rattle.machine.specs.Machine.{closure, M}
use Rattle.machine.specs.Opcodes.{Running, throws}
use Rattle.machine.specs.Calls.{Sizes, handlers_left}
use Rattle.machine.proofs.Formed.{all_map}
use Rattle.machine.proofs.FormedLaws.{next_formed, taken_formed}
use Rattle.machine.proofs.FormLaws.{MachineFits}
use Rattle.machine.proofs.Store.{cost_some}
use Rattle.memory.specs.Layout.{object_cells}
use Rattle.memory.proofs.StoreLaws.{length_object}
use Rattle.moves.specs.Objects.{object_there}
use Rattle.moves.specs.Runs.{end_of, opened, top_length}
use Rattle.moves.specs.declared.Running as registers
use Rattle.plan.specs.Inside.{left}
use Rattle.plan.specs.declared.Counts.{Counts}
use Rattle.plan.specs.declared.Error.{Error}
use Rattle.steps.specs.Stepped.{ClosingNumber}
use Rattle.steps.specs.declared.Closing.{Closing}
use Rattle.steps.specs.declared.Closing.TheVariants.{Call, Return, ReturnCall}
use Rattle.slices.specs.Sliced.{At, Ended, Sliceable, Slices}
use Rattle.slices.specs.declared.End.{End}
use Rattle.slices.specs.declared.End.TheVariants.{Paused, Spent, Refused, Throws, Closes}
use Rattle.slices.specs.declared.Slice.{Slice}
use Rattle.acts.specs.Acted.{Failable, Thrown}
use Rattle.closing.specs.Closed.{closing_number, Closable, Callbackable}
use Rattle.groups.specs.Grouped.{Groupable, LuciaGroupable, Finishable}
use Rattle.groups.specs.FinishLaws.{busy_at, finish_busy}
use Rattle.groups.specs.TopLaws.{HasResult, count_is, next_top, top_fits, callback_next, lucia_next, at_open}

-- ---- A frame in registers
module _ {P : Program} {z : Sizes} {m : M} {g : registers.Running} {handle code u : ℕ} {B L S : List Cell} (x : At P z m g handle code u B L S) where
  pub at_base : g.base + 6 ≤ length L
  at_base = omega (arith, top_length x.inside.runs)

  pub at_end : end_of g ≤ length L
  at_end = omega (arith, top_length x.inside.runs)

  pub at_place : Accepted P.image P.codes → g.place < 4294967296
  at_place a =
      let i = x.inside in
      let f = rw i.frames at i.fits.frames in
      let s = f.0.formed.stands in
      omega (arith, i.runs.counts.place, x.at, s.place, (a.fine s.code s.known).opcodes)

-- an error's frame has a place of its code
pub threw_place : {P : Program} {z : Sizes} {m : M} {r : Running} {e : Error} {h : registers.Running} {L : List Cell} → Accepted P.image P.codes → MachineFits P z m → Thrown P m r e h L → h.place < 4294967296
unfolding handlers_left
threw_place {P} {z} {m} {r} a w t =
    let k = next_formed P a m m.frames (all_map (λ f x. x.formed) m.frames w.frames) in
    let y = taken_formed (throws t.error (left r t.place t.locals t.stack t.handlers)) k t.throws (omega arith) in
    let s = y.0.stands in
    omega (arith, t.runs.counts.place, s.place, (a.fine s.code s.known).opcodes)

-- ---- What follows a slice
pub record Ends (P : Program) (z : Sizes) (handle code : ℕ) (s : Slice) (B L S : List Cell) : Type 0 where
  pub machine : M
  pub at : At P z machine s.g handle code s.used B L S

ended_at : {P : Program} {z : Sizes} (t l : ℕ) (m : M) {handle code : ℕ} {s : Slice} {B L S : List Cell} (e : End) → Ended P z t l m handle code s e B L S → Ends P z handle code s B L S
ended_at t l m Paused x = record { machine = x.0.machine; at = x.0.at }
ended_at t l m Spent x = record { machine = x.machine; at = x.at }
ended_at t l m (Refused n) x = record { machine = x.0.machine; at = x.0.at }
ended_at t l m (Throws h e) x = record { machine = x.0.machine; at = x.0.at }
ended_at t l m (Closes k o) x = record { machine = x.0.machine; at = x.0.at }

module _ {P : Program} {frames : ℕ} {s : Slice} {state live store starts args : List ℕ} (f : Finishable P frames s state live store starts args) where
  abbrev there : Ends P f.sizes f.handle f.code s (cells state) (cells live) (cells store)
  there = ended_at f.ticks f.begun f.machine s.end f.ended

  pub finish_settles : (s.g.base + 6 ≤ room live) × (s.g.place < 4294967296)
  finish_settles = (omega (arith, at_base there.at, length_cells live), at_place there.at f.around.accepted)

  pub finish_ends : end_of s.g < 18446744073709551616
  finish_ends = omega (arith, at_end there.at, there.at.inside.room, f.around.small)

  pub finish_ticks : {h : registers.Running} {x : Error} → s.end ≡ Throws h x → 0 < s.ticks
  finish_ticks e = (subst (λ (n : End). Ended P f.sizes f.ticks f.begun f.machine f.handle f.code s n (cells state) (cells live) (cells store)) e f.ended).1

  pub finish_fails : {h : registers.Running} {x : Error} → s.end ≡ Throws h x → Failable P frames s.used s.g h x state live store starts
  unfolding finish_busy busy_at
  finish_fails e =
      let y = subst (λ (n : End). Ended P f.sizes f.ticks f.begun f.machine f.handle f.code s n (cells state) (cells live) (cells store)) e f.ended in
      record {
        sizes = f.sizes;
        machine = y.0.machine;
        busy = finish_busy f.around y.0;
        threw = y.2;
        place = threw_place f.around.accepted y.0.at.inside.fits y.2;
        len = f.len;
      }

  closing_is : (j : Closing) {n : ℕ} → ClosingNumber j n → n ≡ closing_number j
  unfolding closing_number
  closing_is Call h = h
  closing_is Return h = h
  closing_is ReturnCall h = h

  pub finish_closes : {k : Closing} {x : ℕ} → s.end ≡ Closes k x → Closable P (closing_number k) frames s.used s.g x state live store starts args
  unfolding finish_busy busy_at
  finish_closes {k} e =
      let y = subst (λ (n : End). Ended P f.sizes f.ticks f.begun f.machine f.handle f.code s n (cells state) (cells live) (cells store)) e f.ended in
      record {
        sizes = f.sizes;
        machine = y.0.machine;
        busy = finish_busy f.around y.0;
        opcode = record { number = closing_is k y.2.number; operand = sym y.2.operand };
        len = f.len;
        values = f.values;
      }

  pub finish_left : {k : Closing} {x : ℕ} → s.end ≡ Closes k x → 0 < s.ticks
  finish_left e = (subst (λ (n : End). Ended P f.sizes f.ticks f.begun f.machine f.handle f.code s n (cells state) (cells live) (cells store)) e f.ended).1

module _ {P : Program} {frames : ℕ} {s : Slice} {state live store starts args : List ℕ} (f : Finishable P frames s state live store starts args) where
  pub finish_throws : {h : registers.Running} {x : Error} → s.end ≡ Throws h x → (0 ≤ 64) × (0 < s.ticks)
  finish_throws e = (omega arith, finish_ticks f e)

  pub finish_charges : {k : Closing} {x : ℕ} → s.end ≡ Closes k x → (s.left ≤ 64) × (0 < s.ticks)
  finish_charges e = (f.low, finish_left f e)

-- ---- A group
module _ {P : Program} {c : Counts} {left : ℕ} {state live store starts args : List ℕ} (f : Groupable P c left state live store starts args) where
  module _ {k : Bool} {base : ℕ} (n : c.frames ≡ 0 → ⊥) (h : HasResult (cells state) k) (e : k ≡ false) (b : base ≡ get_or starts (c.frames - 1) 0) where
    pub group_base : base + 6 ≤ room live
    group_base = let x = next_top f.resting n h e b in omega (arith, top_fits f.resting x.frames b, length_cells live)

    pub group_callback : (get_or (cells live) base null).tag ≡ 66 → Callbackable P c state live store starts args
    group_callback t = record {
      sizes = f.sizes;
      machine = f.machine;
      resting = f.resting;
      callback = callback_next f.resting (next_top f.resting n h e b) t;
      len = f.len;
      values = f.values;
    }

    pub group_tops : ((get_or (cells live) base null).tag ≡ 65 → ⊥) → ((get_or (cells live) base null).tag ≡ 66 → ⊥) → LuciaGroupable P c left state live store starts args
    group_tops a d = record { group = f; top = lucia_next f.resting (next_top f.resting n h e b) a d }

-- ---- A slice of the Lucia frame on top
module _ {P : Program} {c : Counts} {left : ℕ} {state live store starts args : List ℕ} (f : LuciaGroupable P c left state live store starts args) where
  pub lucia_some : c.frames ≡ 0 → ⊥
  lucia_some e = omega (arith, e, count_is f.group.resting, ap length f.top.frames)

  module _ {base : ℕ} (b : base ≡ get_or starts (c.frames - 1) 0) where
    pub lucia_base : base + 6 ≤ room live
    lucia_base = omega (arith, top_fits f.group.resting f.top.frames b, length_cells live)

    module _ {handle : ℕ} {g : registers.Running} (o : g ≡ opened (cells live) base) (h : handle ≡ (get_or (cells live) (base + 1) null).number) where
      -- its closure lies in the store
      pub lucia_handle : handle < room store
      lucia_handle =
          let x = at_open f.group.resting f.top b o h refl in
          let t = object_there x.inside.store x.inside.closure_there in
          let n : 0 < length (object_cells (closure x.frame.number x.frame.upvalues)) = rw length_object (cost_some (closure x.frame.number x.frame.upvalues)) in
          omega (arith, x.closure, t.at, ap length t.is ∙ length-append t.pre _, length-append (object_cells (closure x.frame.number x.frame.upvalues)) t.post, length_cells store)

      module _ {code : ℕ} (k : code ≡ (get_or (cells store) handle null).number) where
        pub lucia_slices : Sliceable P g handle code c.store state live store
        lucia_slices =
            let r = f.group.resting in
            record {
              sizes = f.group.sizes;
              machine = f.group.machine;
              at = at_open r f.top b o h k;
              accepted = r.accepted;
              small = r.small;
              few = omega (arith, r.low, r.room_store, length_cells store);
              block = f.group.len;
            }

        pub lucia_finishes : {t : ℕ} {s : Slice} {state' live' store' : List ℕ} → Slices P g handle code c.store left t s state live store state' live' store' → Finishable P c.frames s state' live' store' starts args
        lucia_finishes {t} w =
            let r = f.group.resting in
            record {
              sizes = f.group.sizes;
              machine = f.group.machine;
              handle = handle;
              code = code;
              begun = left;
              ticks = t;
              ended = w.ends f.group.sizes f.group.machine (at_open r f.top b o h k) r.accepted r.small;
              around = record { count = count_is r; some = omega (arith, lucia_some); begins = r.rests.begins; accepted = r.accepted; small = r.small; low = r.low; table = r.table };
              low = omega (arith, w.lower, f.group.low);
              len = w.same_state.len ∙ f.group.len;
              values = f.group.values;
            }
