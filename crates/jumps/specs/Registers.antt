-- Opcode 49: one law for each answer.
use Rattle.std.specs.Prelude.{◌≡◌, refl, Bool, true, false, ℕ, ◌+◌, ◌/◌, ◌<◌, ◌≤◌, length, get_or, set, Ok, Err}
use Rattle.std.proofs.Math.Path.{sym, ap}
use Rattle.std.proofs.Common.{◌∙◌, arith, length-append, length-set}
use mathlib.Core.List.{List, [], ◌∷◌, ◌++◌}
use Rattle.std.proofs.Math.ListN.{drop}
use Rattle.cells.specs.Cells.{room, cells}
use Rattle.cells.specs.CellsLaws.{length_cells}
use Rattle.cells.specs.declared.Cell.{Cell}
use Rattle.image.specs.Records.{both}
use Rattle.machine.specs.Values.{Program, type_of, is_effect, un_operator}
use Rattle.machine.specs.Machine.{Handler, M, frame_cost, frames_cost}
use Rattle.machine.specs.Opcodes.{Running, stacked, goes, throws, takes, with_top, registered, register_handler, opcode_action}
use Rattle.machine.specs.Calls.{Sizes, pace_of}
use Rattle.memory.specs.Layout.{Written}
use Rattle.moves.specs.Runs.{Runs, Top, Turns, end_of, set_handler, add_handler, no_handler, pop_top}
use Rattle.moves.specs.Handlers.{registered_new, registered_at}
use Rattle.moves.specs.declared.Running as registers
use Rattle.plan.specs.Plans.{error_of}
use Rattle.plan.specs.Searches.{Finds}
use Rattle.plan.specs.Inside.{Inside, left, Nexts, Does}
use Rattle.plan.proofs.InsideLaws.{goes_fits, goes_short, goes_handlers, runs_cost, handlers_few}
use Rattle.plan.specs.declared.Error.{Error}
use Rattle.plan.specs.declared.Next.TheVariants.{Goes, Throws}
use Rattle.jumps.specs.Ends.{fewer, Shown, Acts, room_left, acts_stops, acts_throws, top_none, top_acts}
use Rattle.refusals.specs.declared.Refusal.TheVariants.{FewValues, LiveFull, ManyHandlers}

action_register : (P : Program) (m : M) (r : Running) (x : ℕ) → opcode_action P m r 49 x ≡ with_top r.stack (register_handler P r x)
unfolding opcode_action both
action_register P m r x = refl

-- what a search for the effect finds in any frame that h and the bytes have
abbrev pub FindsIn : Program → Cell → registers.Running → List ℕ → ℕ → Type 0
FindsIn P e h live j = (w : Written) (pre : List Cell) → Top w pre h (cells live) → Finds P e w.handlers j

-- the handlers once the effect on top is registered
abbrev handlers_after : Program → Cell → ℕ → Running → List Handler
handlers_after P e x r = registered P e x (length (drop 1 r.stack)) r.handlers

-- with fewer values it lies in the same cells
pub fewer_fits : (n : ℕ) (g : registers.Running) (live : List ℕ) {h : registers.Running} → h ≡ fewer n g → end_of g ≤ room live → end_of h ≤ room live
fewer_fits n g live e le = rw e (omega arith)

module _ (P : Program) (x : ℕ) (g : registers.Running) (live : List ℕ) where
  pub register_stops : g.stack ≡ 0 → Does P 49 x g (Err FewValues) live live
  register_stops z = acts_stops (top_none (λ r. register_handler P r x) (λ m r. action_register P m r x) z)

  module _ {e : Cell} {h : registers.Running} {t : Bool} (some : g.stack ≡ 0 → ⊥) (s : Shown g live 0 e) (o : h ≡ fewer 1 g) (k : t ≡ is_effect e) where
    pub register_throws : {u : ℕ} {q : Error} → t ≡ false → u ≡ type_of e → q ≡ error_of (un_operator 49 x u) → Does P 49 x g (Ok (Throws h q)) live live
    unfolding register_handler
    register_throws n u q =
        acts_throws 1 (un_operator 49 x (type_of e)) (omega arith) o (q ∙ ap (λ (y : ℕ). error_of (un_operator 49 x y)) u)
        (top_acts (λ r. register_handler P r x) (λ m r. action_register P m r x) some s
        (λ r st p. rw (sym k ∙ n) (ap (λ (l : List Cell). throws (un_operator 49 x (type_of e)) (stacked r (drop 1 l))) (sym p))))

    module _ (y : t ≡ true) where
      registers_acts : Acts P 49 x g live (λ (r : Running). takes (goes (left r r.place r.locals (drop 1 r.stack) (handlers_after P e x r))))
      unfolding register_handler
      registers_acts =
          top_acts (λ r. register_handler P r x) (λ m r. action_register P m r x) some s
          (λ r st p. rw (sym k ∙ y) (ap (λ (l : List Cell). goes (left r r.place r.locals (drop 1 l) (registered P e x (length (drop 1 l)) r.handlers))) (sym p)))

      module _ {j : ℕ} (f : FindsIn P e h live j) where
        -- in a machine that runs the frame
        module _ (z : Sizes) (m : M) (r : Running) (S : List Cell) (i : Inside P z m r g (cells live) S) where
          -- the effect is popped
          popped : Runs r.handle r.place r.locals (drop 1 r.stack) r.handlers r.below h (cells live)
          popped = rw o (pop_top i.runs 1 (omega arith))

          sized : length (drop 1 r.stack) ≡ h.stack
          sized = sym popped.counts.stack

          -- the first handler that has the effect is set; else one comes behind the others
          is_set : j < h.handlers → handlers_after P e x r ≡ set r.handlers j (record { effect = (get_or r.handlers j no_handler).effect; target = x; stack_size = h.stack })
          is_set lt =
              let within : j < length r.handlers = omega (arith, popped.counts.handlers) in
              let found = f _ _ popped in
              registered_at P e x _ r.handlers j (record { within = within; before = found.misses; has = found.has within })
              ∙ ap (λ (n : ℕ). set r.handlers j (record { effect = (get_or r.handlers j no_handler).effect; target = x; stack_size = n })) sized

          is_new : h.handlers ≤ j → handlers_after P e x r ≡ r.handlers ++ (record { effect = e; target = x; stack_size = h.stack } ∷ [])
          is_new le =
              let found = f _ _ popped in
              let q : j ≡ length r.handlers = omega (arith, popped.counts.handlers, found.most) in
              registered_new P e x _ r.handlers (λ n lt. found.misses n (omega arith))
              ∙ ap (λ (n : ℕ). r.handlers ++ (record { effect = e; target = x; stack_size = n } ∷ [])) sized

          -- one handler more, two cells more
          one_more : h.handlers ≤ j → length (handlers_after P e x r) ≡ h.handlers + 1
          one_more le = ap length (is_new le) ∙ length-append r.handlers (record { effect = e; target = x; stack_size = h.stack } ∷ []) ∙ omega (arith, popped.counts.handlers)

          costs : h.handlers ≤ j → frames_cost (left r r.place r.locals (drop 1 r.stack) (handlers_after P e x r)) ≡ end_of h + 2
          unfolding frames_cost frame_cost
          costs le = omega (arith, one_more le, runs_cost r.below popped, popped.counts.handlers)

          -- the frame goes on with other handlers, which there is room for
          goes_as : (hs : List Handler) (h' : registers.Running) (new : List ℕ) → handlers_after P e x r ≡ hs → length hs ≤ 16 → length new ≡ length live
              → Runs r.handle r.place r.locals (drop 1 r.stack) hs r.below h' (cells new) → Nexts P z 49 x m r (Ok (Goes h')) live new
          unfolding pace_of
          goes_as hs h' new q few n runs =
              record {
                action = goes (left r r.place r.locals (drop 1 r.stack) hs);
                place = r.place;
                locals = r.locals;
                stack = drop 1 r.stack;
                handlers = hs;
                is = goes_fits i _ _ _ _ (registers_acts.is z m r S i ∙ ap (λ (l : List Handler). takes (goes (left r r.place r.locals (drop 1 r.stack) l))) q) few
                    (room_left i runs (length_cells new ∙ ap (λ (k : ℕ). k / 16) n ∙ sym (length_cells live)));
                paces = refl;
                runs = runs;
              }

        pub register_sets : {new : List ℕ} → j < h.handlers → Turns (set_handler j x h.stack) h live h new → Does P 49 x g (Ok (Goes h)) live new
        register_sets {new} lt u = record {
          next = λ z m r S q i.
              goes_as z m r S i _ h new (is_set z m r S i lt) (rw length-set (handlers_few i)) u.len (u.top _ _ (popped z m r S i));
          same = record { rest = u.rest; len = u.len };
        }

        module _ (all : h.handlers ≤ j) where
          pub register_many : 16 ≤ h.handlers → Does P 49 x g (Err ManyHandlers) live live
          register_many le = record {
            next = λ z m r S q i.
                (goes_handlers i _ _ _ _ (registers_acts.is z m r S i) (omega (arith, one_more z m r S i all)), refl);
            same = record { rest = refl; len = refl };
          }

          module _ (few : h.handlers < 16) where
            pub register_adds : {h' : registers.Running} {new : List ℕ} → Turns (add_handler e x h.stack) h live h' new → Does P 49 x g (Ok (Goes h')) live new
            register_adds {h'} {new} u = record {
              next = λ z m r S q i.
                  goes_as z m r S i _ h' new (is_new z m r S i all) (omega (arith, ap length (is_new z m r S i all), one_more z m r S i all)) u.len (u.top _ _ (popped z m r S i));
              same = record { rest = u.rest; len = u.len };
            }

            pub register_short : {n k : ℕ} → n ≡ end_of h → k ≡ room live → k < n + 2 → Does P 49 x g (Err LiveFull) live live
            register_short en ek lt = record {
              next = λ z m r S q i. (
                goes_short i _ _ _ _ (registers_acts.is z m r S i) (omega (arith, one_more z m r S i all))
                    (omega (arith, costs z m r S i all, i.room, length_cells live)),
                refl,
              );
              same = record { rest = refl; len = refl };
            }
