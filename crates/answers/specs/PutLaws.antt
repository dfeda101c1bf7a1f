-- The different handlers of an answered call go into its frame: one law for each need, and one for each return.
use Rattle.std.specs.Prelude.{◌≡◌, refl, List, ◌∷◌, ℕ, ◌+◌, ◌<◌, ◌≤◌, length, take, Option, Some, None, Result, Ok, Err}
use Rattle.std.proofs.Common.{sym, ap, subst, ◌∙◌, true≢false, arith, length-take}
use Rattle.std.specs.Option.{ok_or}
use Rattle.std.specs.Result.{is_ok}
use Rattle.cells.specs.Cells.{room, cells}
use Rattle.cells.specs.CellsLaws.{length_cells}
use Rattle.cells.specs.declared.Cell.{Cell}
use Rattle.machine.specs.Values.{Program}
use Rattle.machine.specs.Machine.{Frame, host, frame_cost, frames_cost}
use Rattle.machine.specs.Calls.{distinct}
use Rattle.memory.proofs.Lists.{length_flat, cost_written}
use Rattle.moves.specs.Runs.{end_of, opened, opened_top}
use Rattle.moves.specs.Frames.{live_stands}
use Rattle.moves.specs.declared.Running.{Running}
use Rattle.plan.specs.Rest.{Same}
use Rattle.answers.specs.Answered.{Distinct, HostFrame, Handleable, Rehandled, Puttable, PutsDistinct}
use Rattle.refusals.specs.declared.Refusal.{Refusal}
use Rattle.refusals.specs.declared.Refusal.TheVariants.{ManyHandlers}
use Rattle.answers.specs.LayLaws.{begins_other, live_fits_lem}

pub puts_none : {P : Program} {es kept : List Cell} (r : Option ℕ) {f : Refusal} (work : List ℕ) → Distinct P es r kept → ok_or r ManyHandlers ≡ Err f
    → (f ≡ ManyHandlers) × (16 < length (distinct P (length es) es)) × Same work work
puts_none None {f} work d e = (ap (λ (x : Result ℕ Refusal). elim x [ Ok n ↦ f | Err y ↦ y ]) (sym e), d.many, record { rest = refl; len = refl })
puts_none (Some n) work d e = absurd (true≢false (ap is_ok e))

-- where a frame ends that is opened
ends_at : {base n w : ℕ} {st hs : List Cell} {below : List Frame} {L : List Cell} → HostFrame base n w st hs below L → end_of (opened L base) ≡ frames_cost (host n w st hs ∷ below)
unfolding frames_cost
ends_at {base} {n} {w} {st} {hs} {below} o =
    let t = opened_top base (live_stands o.live) o.begins in
    omega (arith, t.base, t.counts.locals, t.counts.handlers, t.counts.stack, cost_written (host n w st hs), length_flat below)

pub put_handleable : {P : Program} {es : List Cell} {base n : ℕ} {r : Option ℕ} {work : List ℕ} (kept : List ℕ) → Puttable base work → Distinct P es r (cells kept) → r ≡ Some n → 16 ≤ room kept → Handleable base n (cells kept) work
unfolding frames_cost frame_cost
put_handleable {n = n} kept o d e le = let most = d.most in let few : n ≤ 16 = rw e at most in record {
  number = o.number;
  word = o.word;
  stack = o.stack;
  handlers = o.handlers;
  below = o.below;
  frame = o.frame;
  there = omega (arith, length_cells kept);
  fits = omega (arith, o.frame.begins, length_flat o.below, o.fits, o.room);
}

module _ {base r : ℕ} {kept : List Cell} {work work' : List ℕ} (h : Rehandled base r kept work work') where
  pub put_opens : Puttable base work → base + 6 ≤ room work'
  unfolding frames_cost frame_cost
  put_opens o = omega (arith, o.frame.begins, length_flat o.below, o.fits, o.room, h.same.len)

  module _ {g : Running} (q : (g ≡ opened (cells work') base) × (g.place < 4294967296)) where
    ends_where : {n w : ℕ} {st hs : List Cell} {below : List Frame} → HostFrame base n w st hs below (cells work) → end_of g ≡ frames_cost (host n w st (take r kept) ∷ below)
    ends_where {n} {w} {st} {hs} {below} x = ap (λ (k : Running). end_of k) q.0 ∙ ends_at (h.frame n w st hs below x)

    pub put_ends : Puttable base work → end_of g < 18446744073709551616
    put_ends o = omega (arith, ends_where o.frame, live_fits_lem work' (h.frame _ _ _ _ _ o.frame).live, o.room, h.same.len)

    pub puts : {P : Program} {es : List Cell} {e : ℕ} {o : Option ℕ} → Distinct P es o kept → o ≡ Some r → e ≡ end_of g → PutsDistinct base (distinct P (length es) es) e work work'
    puts {e = e} d q p =
        let most = d.most in
        let few : r ≤ 16 = rw q at most in
        let kept_are = d.few in
        subst (λ (new : List Cell). PutsDistinct base new e work work') (rw q at kept_are) (record {
          few = omega (arith, length-take r kept);
          laid = λ n w st hs below end starts b l.
              let x : HostFrame base n w st hs below (cells work) = record { live = l.live; begins = b } in
              record {
                live = (h.frame n w st hs below x).live;
                begins = begins_other (host n w st hs) (host n w st (take r kept)) below starts l.begins;
                ends = p ∙ ends_where x;
              };
          same = h.same;
        })
