-- One law for each answer of 8 `StoreGlobal`.
use Rattle.std.specs.Prelude.{◌≡◌, refl, ℕ, ◌-◌, ◌<◌, ◌≤◌, get_or, Ok, Err}
use Rattle.std.proofs.Common.{sym, ◌∙◌}
use Rattle.std.proofs.Math.Path.{ap}
use mathlib.Core.List.{List}
use native.Mathlib.Omega.{arith}
use Rattle.std.proofs.Math.ListN.{length, set, drop}
use Rattle.cells.specs.Cells.{null, cells, Sound}
use Rattle.cells.specs.declared.Cell.{Cell}
use Rattle.machine.specs.Values.{Program}
use Rattle.machine.specs.Machine.{M, result_cost}
use Rattle.machine.specs.Opcodes.{Running, sets, doing, Taken, takes, refuses, stacked, opcode_action}
use Rattle.machine.specs.Calls.{handlers_left, outcome, pace_of}
use Rattle.memory.specs.Layout.{Written}
use Rattle.moves.specs.Runs.{Top, Runs, with_counts, pop_top}
use Rattle.moves.specs.declared.Running as registers
use Rattle.states.specs.Worlds.{GlobalSet, Changes, with_names, global_follows}
use Rattle.plan.proofs.InsideLaws.{judge_does, runs_cost, runs_fits, top_none, top_some}
use Rattle.plan.specs.declared.Next.TheVariants.{Goes}
use Rattle.makes.specs.Made.{SetsGlobal}
use Rattle.plan.proofs.RestLaws.{same_refl}
use Rattle.makes.specs.Lists.{no_result}
use Rattle.refusals.specs.declared.Refusal.TheVariants.{FewValues}

-- the opcode takes the top value, if there is one
takes_none : (P : Program) (m : M) (r : Running) (x : ℕ) → length r.stack ≡ 0 → opcode_action P m r 8 x ≡ refuses 12
unfolding opcode_action
takes_none P m r x = top_none r.stack (λ v st. sets (get_or r.code.globals x 0) v (stacked r st))

takes_top : (P : Program) (m : M) (r : Running) (x : ℕ) → 0 < length r.stack → opcode_action P m r 8 x ≡ takes (sets (get_or r.code.globals x 0) (get_or r.stack 0 null) (stacked r (drop 1 r.stack)))
unfolding opcode_action
takes_top P m r x h = top_some r.stack (λ v st. sets (get_or r.code.globals x 0) v (stacked r st)) (λ e. omega (arith, h, e))

module _ {g : registers.Running} {x name : ℕ} {live state : List ℕ} where
  pub global_none : g.stack ≡ 0 → (P : Program) → SetsGlobal P g x name (Err FewValues) live state state
  unfolding outcome
  global_none z P = record {
    next = λ s m r S i b n. (ap (λ (t : Taken). outcome P s t m) (takes_none P m r x (omega (arith, i.runs.counts.stack))), refl);
    same = same_refl state;
  }

  pub global_stored : {v : Cell} {h : registers.Running} {state' : List ℕ} → (g.stack ≡ 0 → ⊥)
      → ((w : Written) (pre : List Cell) → Top w pre g (cells live) → v ≡ get_or w.stack 0 null) × Sound v
      → Changes (GlobalSet name v) state state' → h ≡ with_counts g.handlers (g.stack - 1) g → (P : Program) → SetsGlobal P g x name (Ok (Goes h)) live state state'
  unfolding outcome doing handlers_left pace_of
  global_stored {v} {h} {state'} z top c d P = record {
    next = λ s m r S i b n.
        let some : 1 ≤ g.stack = omega arith in
        let st : List Cell = drop 1 r.stack in
        let k : Runs r.handle r.place r.locals st r.handlers r.below h (cells live) = rw d (pop_top i.runs 1 some) in
        let after : M = record { frames = stacked r st; store = m.store; globals = set m.globals name v; builtins = m.builtins; result = m.result } in
        let q : opcode_action P m r 8 x ≡ takes (sets name v (stacked r st)) =
        takes_top P m r x (omega (arith, i.runs.counts.stack)) ∙ (λ j. takes (sets (sym n j) (sym (top.0 _ _ i.runs) j) (stacked r st))) in
        let free : result_cost m.result ≡ 0 = no_result i in
        record {
          after = after;
          place = r.place;
          locals = r.locals;
          stack = st;
          handlers = r.handlers;
          action = sets name v (stacked r st);
          is = ap (λ (t : Taken). outcome P s t m) q
              ∙ judge_does s _ after (omega arith)
              (record {
                frames = omega (arith, i.fits.few, ap length i.frames);
                live = omega (arith, runs_cost r.below k, runs_fits r.below k, free, i.room);
                store = i.fits.used;
              });
          paces = refl;
          frames = refl;
          store = refl;
          result = refl;
          runs = k;
          block = record {
            stale = with_names (set b.stale.machine.globals name v) b.stale.machine.builtins b.stale;
            is = c.state b.stale _ (global_follows b.stale name v (ap length b.globals ∙ i.fits.globals.0)) b.is;
            globals = ap (λ (l : List Cell). set l name v) b.globals;
            builtins = b.builtins;
            result = b.result;
          };
        };
    same = record { rest = c.rest; len = c.len };
  }
