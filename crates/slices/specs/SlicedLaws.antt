-- The loop of a slice: what is left of the run, after the steps taken, is the whole run.
use Rattle.std.specs.Prelude.{◌≡◌, List, ℕ, ◌+◌, ◌-◌, ◌<◌, ◌≤◌, get_or, drop}
use Rattle.std.proofs.Math.Path.{refl}
use Rattle.std.proofs.Common.{sym, ap, ◌∙◌, arith, ne_eqb}
use Rattle.cells.specs.declared.Cell.{Cell}
use Rattle.fuel.specs.declared.Fuel.{Fuel}
use Rattle.image.specs.Program.{no_op}
use Rattle.image.specs.Fine.{Accepted}
use Rattle.image.specs.declared.Op.{Op}
use Rattle.machine.specs.Values.{Program}
use Rattle.machine.specs.Machine.{Frame, M}
use Rattle.machine.specs.Opcodes.{Running, next_action}
use Rattle.machine.specs.Calls.{Sizes, Outcome, outcome, Pace, free, counted, goes_on, run, turn_of, is_ready}
use Rattle.moves.specs.Runs.{place_top}
use Rattle.moves.specs.declared.Running as registers
use Rattle.steps.specs.Stepped.{Given, SteppedOn}
use Rattle.steps.specs.SteppedLaws.{moved}
use Rattle.slices.specs.Follows.{Follows, follows_none, follows_on, follows_step}
use Rattle.slices.specs.Sliced.{past_of, At, Reached, Spends}
use Rattle.slices.specs.declared.End.{End}
use Rattle.slices.specs.declared.Slice.{Slice}

abbrev pub slice_of : End → registers.Running → ℕ → ℕ → ℕ → Slice
slice_of end g u left ticks = record { end = end; g = g; used = u; left = left; ticks = ticks }

-- the running frame past its opcode
abbrev pub past_frame : Running → Running
past_frame r = moved r (r.place + 1) r.locals r.stack r.handlers

module _ {P : Program} {z : Sizes} {m : M} {g : registers.Running} {handle code u : ℕ} {B L S : List Cell} (x : At P z m g handle code u B L S) where
  pub at_ready : turn_of m.result m.frames ≡ is_ready
  unfolding turn_of
  at_ready = rw (x.inside.running, x.inside.frames) refl

  pub at_given : {o : Op} → Accepted P.image P.codes → z.live ≤ 4096 → o ≡ get_or x.frame.code.opcodes x.inside.place no_op → Given P z m (past_frame x.frame) (past_of g) handle code o L S
  at_given a s e =
      let i = x.inside in
      let p : g.place ≡ x.frame.place = i.runs.counts.place in
      record {
        inside = record {
          place = i.place;
          frames = i.frames;
          running = i.running;
          closure_there = i.closure_there;
          known = i.known;
          code = i.code;
          runs = rw p (place_top i.runs (x.frame.place + 1));
          store = i.store;
          fits = i.fits;
          room = i.room;
          room_store = i.room_store;
        };
        past = ap (λ (n : ℕ). n + 1) (sym x.at);
        opcode = e;
        closure = x.closure;
        number = x.number;
        accepted = a;
        small = s;
      }

-- a step that went on has a frame at its next opcode
on_at : {P : Program} {z : Sizes} {o : Outcome} {pace : Pace} {F : List Frame} {g : registers.Running} {handle code u : ℕ} {B L S : List Cell} (d : SteppedOn P z o pace F handle code g u B L S) → At P z d.after g handle code u B L S
on_at d = record { frame = d.frame; inside = d.inside; at = d.at; closure = d.closure; number = d.number; uses = d.uses; block = d.block }

module _ {P : Program} {z : Sizes} {t left : ℕ} {m : M} {handle code : ℕ} where
  pub reached_first : {g : registers.Running} {u : ℕ} {B L S : List Cell} (end : End) → At P z m g handle code u B L S → Reached P z t left m handle code (slice_of end g u left t) B L S
  reached_first end x = record {
    machine = m;
    at = x;
    under = refl;
    less = omega arith;
    follows = λ fuel. let e : t - t ≡ 0 = omega arith in rw e (follows_none (run P z t fuel left m));
  }

  -- only the end differs
  unfoldable pub reached_end : {e : End} {g : registers.Running} {u l k : ℕ} {B L S : List Cell} (end : End) → Reached P z t left m handle code (slice_of e g u l k) B L S → Reached P z t left m handle code (slice_of end g u l k) B L S
  reached_end end x = record { machine = x.machine; at = x.at; under = x.under; less = x.less; follows = x.follows }

  -- a run goes on from where another has come
  pub reached_more : {s s' : Slice} {u : ℕ} {B L S B' L' S' : List Cell} (end : End) (x : Reached P z t left m handle code s B L S) → Reached P z s.ticks s.left x.machine handle code s' B' L' S' → s'.used ≡ u
      → Reached P z t left m handle code (slice_of end s'.g u s'.left s'.ticks) B' L' S'
  reached_more end x y e = record {
    machine = y.machine;
    at = rw e at y.at;
    under = y.under ∙ x.under;
    less = omega (arith, x.less, y.less);
    follows = λ fuel. follows_on (x.follows fuel) (y.follows fuel) (omega (arith, x.less, y.less));
  }

  module _ {e : End} {g : registers.Running} {u l k : ℕ} {B L S : List Cell} (x : Reached P z t left m handle code (slice_of e g u l k) B L S) (lt : 0 < k)
      {g' : registers.Running} {u' : ℕ} {B' L' S' : List Cell} where
    below_same : {pace : Pace} (d : SteppedOn P z (outcome P z (next_action P x.machine x.machine.frames) x.machine) pace x.at.frame.below handle code g' u' B' L' S') → drop 1 d.after.frames ≡ drop 1 m.frames
    below_same d = ap (drop 1) d.inside.frames ∙ d.below ∙ sym (ap (drop 1) x.at.inside.frames) ∙ x.under

    -- one step more, and what the pace makes of the rest
    one_more : {pace : Pace} (d : SteppedOn P z (outcome P z (next_action P x.machine x.machine.frames) x.machine) pace x.at.frame.below handle code g' u' B' L' S') (fuel : Fuel) → Follows (t - (k - 1)) (run P z t fuel left m) (goes_on (run P z (k - 1)) fuel l d.after pace)
    one_more d fuel =
        let s = follows_step P z fuel l x.machine k lt (at_ready x.at) d.is in
        rw (← d.paces) (follows_on (x.follows fuel) s (omega (arith, x.less, lt)))

    pub reached_on : (end : End) → SteppedOn P z (outcome P z (next_action P x.machine x.machine.frames) x.machine) counted x.at.frame.below handle code g' u' B' L' S' → 0 < l → Reached P z t left m handle code (slice_of end g' u' (l - 1) (k - 1)) B' L' S'
    unfolding goes_on
    reached_on end d some = record {
      machine = d.after;
      at = on_at d;
      under = below_same d;
      less = omega (arith, x.less);
      follows = λ fuel. rw (ne_eqb l 0 (λ q. omega arith)) at (one_more d fuel);
    }

    pub reached_jump : (end : End) → SteppedOn P z (outcome P z (next_action P x.machine x.machine.frames) x.machine) free x.at.frame.below handle code g' u' B' L' S' → Reached P z t left m handle code (slice_of end g' u' l (k - 1)) B' L' S'
    unfolding goes_on
    reached_jump end d = record { machine = d.after; at = on_at d; under = below_same d; less = omega (arith, x.less); follows = one_more d }

    pub reached_spent : (end : End) (n : ℕ) → SteppedOn P z (outcome P z (next_action P x.machine x.machine.frames) x.machine) counted x.at.frame.below handle code g' u' B' L' S' → l ≡ 0 → Spends P z t left m handle code (slice_of end g' u' n (k - 1)) B' L' S'
    unfolding goes_on
    reached_spent end n d z0 = record {
      machine = d.after;
      at = on_at d;
      under = below_same d;
      less = omega (arith, x.less, lt);
      follows = λ fuel. rw z0 at (one_more d fuel);
    }
