-- How an opcode ends that only takes values off its stack: no byte changes.
use Rattle.std.specs.Prelude.{◌≡◌, ℕ, ◌-◌, ◌<◌, ◌≤◌, Result, Ok, Err}
use Rattle.std.proofs.Math.Path.{refl, sym, ap}
use Rattle.std.proofs.Common.{◌∙◌, arith}
use mathlib.Core.List.{List, [], ◌∷◌}
use Rattle.std.proofs.Math.Nat.{sub-zero}
use Rattle.std.proofs.Math.ListN.{length, get_or, drop}
use Rattle.std.proofs.Math.Seq.{drop-cons}
use Rattle.cells.specs.Cells.{null, cells}
use Rattle.cells.specs.declared.Cell.{Cell}
use Rattle.machine.specs.Values as v
use Rattle.machine.specs.Values.{Program}
use Rattle.machine.specs.Machine.{Handler, M, frames_cost}
use Rattle.machine.specs.Opcodes.{Running, stacked, placed, Action, goes, jumps, throws, Taken, takes, refuses, with_top, with_two, opcode_action}
use Rattle.machine.specs.Calls.{Sizes, outcome, pace_of}
use Rattle.memory.specs.Layout.{Written}
use Rattle.moves.specs.Runs.{Runs, Top, with_counts, pop_top, place_top}
use Rattle.moves.specs.declared.Running as registers
use Rattle.plan.specs.Plans.{error_of}
use Rattle.plan.specs.Inside.{Inside, left, Nexts, Does}
use Rattle.plan.proofs.InsideLaws.{goes_fits, jumps_fits, runs_cost, runs_fits, handlers_few}
use Rattle.plan.specs.declared.Error.{Error}
use Rattle.plan.specs.declared.Next.{Next}
use Rattle.plan.specs.declared.Next.TheVariants.{Goes, Jumps, Throws}
use Rattle.refusals.specs.declared.Refusal.{Refusal}
use Rattle.refusals.specs.Refusals.{number}

-- ---- The registers with n values less; at another place as well
abbrev pub fewer : ℕ → registers.Running → registers.Running
fewer n g = with_counts g.handlers (g.stack - n) g

abbrev pub fewer_at : ℕ → ℕ → registers.Running → registers.Running
fewer_at p n g = record { base = g.base; locals = g.locals; handlers = g.handlers; stack = g.stack - n; place = p }

pub none_fewer : (g : registers.Running) → g ≡ fewer 0 g
none_fewer g = λ j. record { base = g.base; locals = g.locals; handlers = g.handlers; stack = sym (sub-zero g.stack) j; place = g.place }

-- v is the i-th value of any frame that g and the bytes have
abbrev pub Shown : registers.Running → List ℕ → ℕ → Cell → Type 0
Shown g live i v = (w : Written) (pre : List Cell) → Top w pre g (cells live) → v ≡ get_or w.stack i null

-- a frame that lies in as many cells has room
pub room_left : {P : Program} {z : Sizes} {m : M} {r : Running} {g h : registers.Running} {L L' S : List Cell} (i : Inside P z m r g L S) {p : ℕ} {l st : List Cell} {hs : List Handler}
    → Runs r.handle p l st hs r.below h L' → length L' ≡ length L → frames_cost (left r p l st hs) ≤ z.live
room_left {r = r} i o e = omega (arith, runs_cost r.below o, runs_fits r.below o, i.room)

-- what the opcode does to a frame that g and the bytes have
pub record Acts (P : Program) (op x : ℕ) (g : registers.Running) (live : List ℕ) (t : Running → Taken) : Type 0 where
  pub is : (z : Sizes) (m : M) (r : Running) (S : List Cell) → Inside P z m r g (cells live) S → opcode_action P m r op x ≡ t r

module _ {P : Program} {op x : ℕ} {g : registers.Running} {live : List ℕ} where
  unchanged : {n : Result Next Refusal} → ((z : Sizes) (m : M) (r : Running) (S : List Cell) → Inside P z m r g (cells live) S → Nexts P z op x m r n live live) → Does P op x g n live live
  unchanged f = record { next = λ z m r S q i. f z m r S i; same = record { rest = refl; len = refl } }

  pub acts_stops : {k : Refusal} → Acts P op x g live (λ (r : Running). refuses (number k)) → Does P op x g (Err k) live live
  unfolding outcome
  acts_stops a = unchanged (λ z m r S i. (ap (λ (t : Taken). outcome P z t m) (a.is z m r S i), refl))

  pub acts_goes : (n : ℕ) {h : registers.Running} → n ≤ g.stack → h ≡ fewer n g → Acts P op x g live (λ (r : Running). takes (goes (stacked r (drop n r.stack)))) → Does P op x g (Ok (Goes h)) live live
  unfolding pace_of
  acts_goes n {h} le e a = unchanged (λ z m r S i.
      let o : Runs r.handle r.place r.locals (drop n r.stack) r.handlers r.below h (cells live) = rw e (pop_top i.runs n le) in
      record {
        action = goes (stacked r (drop n r.stack));
        place = r.place;
        locals = r.locals;
        stack = drop n r.stack;
        handlers = r.handlers;
        is = goes_fits i _ _ _ _ (a.is z m r S i) (handlers_few i) (room_left i o refl);
        paces = refl;
        runs = o;
      })

  pub acts_jumps : (n : ℕ) {h : registers.Running} → n ≤ g.stack → h ≡ fewer_at x n g → Acts P op x g live (λ (r : Running). takes (jumps (placed r x (drop n r.stack)))) → Does P op x g (Ok (Jumps h)) live live
  unfolding pace_of
  acts_jumps n {h} le e a = unchanged (λ z m r S i.
      let o : Runs r.handle x r.locals (drop n r.stack) r.handlers r.below h (cells live) = rw e (place_top (pop_top i.runs n le) x) in
      record {
        action = jumps (placed r x (drop n r.stack));
        place = x;
        locals = r.locals;
        stack = drop n r.stack;
        handlers = r.handlers;
        is = jumps_fits i _ _ _ _ (a.is z m r S i) (room_left i o refl);
        paces = refl;
        runs = o;
      })

  pub acts_throws : (n : ℕ) (y : v.Error) {h : registers.Running} {e : Error} → n ≤ g.stack → h ≡ fewer n g → e ≡ error_of y → Acts P op x g live (λ (r : Running). takes (throws y (stacked r (drop n r.stack))))
      → Does P op x g (Ok (Throws h e)) live live
  acts_throws n y {h} le e q a = unchanged (λ z m r S i. (
    record {
      error = y;
      place = r.place;
      locals = r.locals;
      stack = drop n r.stack;
      handlers = r.handlers;
      is = q;
      throws = a.is z m r S i;
      runs = rw e (pop_top i.runs n le);
    },
    refl,
  ))

  -- ---- By the values on top
  module _ (f : Running → Cell → List Cell → Action) (is : (m : M) (r : Running) → opcode_action P m r op x ≡ with_top r.stack (f r)) where
    pub top_none : g.stack ≡ 0 → Acts P op x g live (λ (r : Running). refuses 12)
    unfolding with_top
    top_none e = record { is = λ z m r S i. is m r ∙ none r r.stack (sym i.runs.counts.stack ∙ e) }
      where
        none : (r : Running) (st : List Cell) → length st ≡ 0 → with_top st (f r) ≡ refuses 12
        none r [] q = refl
        none r (v ∷ st) q = absurd (omega arith)

    pub top_acts : {v : Cell} {d : Running → Action} → (g.stack ≡ 0 → ⊥) → Shown g live 0 v → ((r : Running) (st : List Cell) → r.stack ≡ v ∷ st → f r v st ≡ d r) → Acts P op x g live (λ (r : Running). takes (d r))
    unfolding with_top
    top_acts {v} ne s a = record {
      is = λ z m r S i.
          let n = i.runs.counts.stack in
          let e : r.stack ≡ v ∷ drop 1 r.stack = drop-cons r.stack 0 null (omega arith) ∙ ap (λ (c : Cell). c ∷ drop 1 r.stack) (sym (s _ _ i.runs)) in
          is m r ∙ ap (λ (l : List Cell). with_top l (f r)) e ∙ ap takes (a r (drop 1 r.stack) e);
    }

  module _ (f : Running → Cell → Cell → List Cell → Action) (is : (m : M) (r : Running) → opcode_action P m r op x ≡ with_two r.stack (f r)) where
    pub two_none : g.stack < 2 → Acts P op x g live (λ (r : Running). refuses 12)
    unfolding with_two
    two_none lt = record { is = λ z m r S i. is m r ∙ none r r.stack (omega (arith, i.runs.counts.stack)) }
      where
        none : (r : Running) (st : List Cell) → length st < 2 → with_two st (f r) ≡ refuses 12
        none r [] q = refl
        none r (v ∷ []) q = refl
        none r (v ∷ w ∷ st) q = absurd (omega arith)

    pub two_acts : {v w : Cell} {d : Running → Action} → 2 ≤ g.stack → Shown g live 0 v → Shown g live 1 w → ((r : Running) → f r v w (drop 2 r.stack) ≡ d r) → Acts P op x g live (λ (r : Running). takes (d r))
    unfolding with_two
    two_acts {v} {w} le s t a = record {
      is = λ z m r S i.
          let n = i.runs.counts.stack in
          let e : r.stack ≡ v ∷ w ∷ drop 2 r.stack =
          drop-cons r.stack 0 null (omega arith) ∙ ap (λ (l : List Cell). get_or r.stack 0 null ∷ l) (drop-cons r.stack 1 null (omega arith))
          ∙ sym (λ j. s _ _ i.runs j ∷ t _ _ i.runs j ∷ drop 2 r.stack) in
          is m r ∙ ap (λ (l : List Cell). with_two l (f r)) e ∙ ap takes (a r);
    }
