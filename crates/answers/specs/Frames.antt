-- The frame of a host callback gets its word and its handlers: one law for each return, and for the room of each move.
use Rattle.std.specs.Prelude.{◌≡◌, ℕ, ◌+◌, ◌*◌, ◌<◌, ◌≤◌, length, take}
use Rattle.std.proofs.Math.Path.{refl, ap, subst}
use Rattle.std.proofs.Common.{sym, ◌∙◌, arith, add-one, get_or-append-add, take-suc}
use mathlib.Core.List.{List, [], ◌∷◌, ◌++◌, map, append_assoc, append-nil, map-append}
use Rattle.std.proofs.Math.ListN.{get_or, set}
use Rattle.cells.specs.Cells.{null, room, cells, Sound, Writes, set_payload}
use Rattle.cells.specs.CellsLaws.{length_cells}
use Rattle.cells.specs.declared.Cell.{Cell}
use Rattle.machine.specs.Values.{cell}
use Rattle.machine.specs.Machine.{Handler, host}
use Rattle.memory.specs.Layout.{Written, untargeted, written, written_cells, flat}
use Rattle.memory.proofs.Lists.{set_append_add}
use Rattle.moves.specs.Runs.{Top, Turns, Stands, Settles, end_of, opened, opened_top, top_length, with_handlers, with_counts, add_handler, clear_handlers}
use Rattle.moves.specs.Frames.{live_stands, stands_live}
use Rattle.moves.specs.declared.Running.{Running}
use Rattle.answers.specs.Answered.{Worded, Handleable, Rehandled}

-- ---- The word
module _ (n w : ℕ) (st hs : List Cell) {pre L : List Cell} (b word : ℕ) (o : Stands (written (host n w st hs)) pre L) (e : b ≡ length pre) where
  word_set : Stands (written (host n word st hs)) pre (set L (b + 1) (set_payload (get_or L (b + 1) null) word))
  unfolding written
  word_set =
      let X : List Cell = written_cells (written (host n w st hs)) ++ o.free in
      let g : get_or L (b + 1) null ≡ cell 39 n w = ap (λ (l : List Cell). get_or l (b + 1) null) o.is ∙ rw e (get_or-append-add pre X 1 null) in
      record { free = o.free; is = rw g (ap (λ (l : List Cell). set l (b + 1) (cell 39 n word)) o.is ∙ rw e (set_append_add pre X 1 (cell 39 n word))) }

pub words : {base word : ℕ} {old new : List ℕ} → Writes old (set (cells old) (base + 1) (set_payload (get_or (cells old) (base + 1) null) word)) new → Worded base word old new
words {base} {word} {old} {new} u = record {
  frame = λ n w st hs below o. record {
    live = stands_live (subst (Stands (written (host n word st hs)) (flat below)) (sym u.cells) (word_set n w st hs base word (live_stands o.live) o.begins));
    begins = o.begins;
  };
  same = record { rest = u.rest; len = u.len };
}

-- ---- The handlers
-- more handlers without a target, behind those that are there
abbrev pub handling : List Cell → Written → Written
handling es w = with_handlers (w.handlers ++ map untargeted es) w

-- the first j of `kept` were added to the frame g₀ of live₀, and there is room for n
pub record Adding (n : ℕ) (kept : List Cell) (live₀ : List ℕ) (g₀ : Running) (live : List ℕ) (g : Running) (j : ℕ) : Type 0 where
  pub within : j ≤ n
  pub there : n ≤ length kept
  pub fits : end_of g + 2 * n ≤ room live₀ + 2 * j
  pub place : g.place < 4294967296
  pub turns : Turns (handling (take j kept)) g₀ live₀ g live

handling_none : (w : Written) → handling [] w ≡ w
handling_none w = ap (λ (hs : List Handler). with_handlers hs w) (append-nil w.handlers)

handling_more : (es : List Cell) (e : Cell) (w : Written) → add_handler e 0 0 (handling es w) ≡ handling (es ++ (e ∷ [])) w
handling_more es e w =
    ap (λ (hs : List Handler). with_handlers hs w) (append_assoc w.handlers (map untargeted es) _ ∙ ap (λ (hs : List Handler). w.handlers ++ hs) (sym (map-append untargeted es (e ∷ []))))

module _ {base n : ℕ} {kept : List Cell} {old : List ℕ} (o : Handleable base n kept old) where
  pub host_fits : base + 6 ≤ room old
  host_fits = omega (arith, o.fits)

  module _ {g : Running} (q : (g ≡ opened (cells old) base) × (g.place < 4294967296)) where
    there : Top (written (host o.number o.word o.stack o.handlers)) (flat o.below) g (cells old)
    there = rw q.0 (opened_top base (live_stands o.frame.live) o.frame.begins)

    pub open_fits : end_of g ≤ room old
    open_fits = omega (arith, top_length there, length_cells old)

    pub adding_none : {r : Running} {mid : List ℕ} → (r ≡ with_counts 0 g.stack g) × Turns clear_handlers g old r mid → Adding n kept mid r mid r 0
    unfolding written
    adding_none {r} {mid} t =
        let k = there in
        record {
          within = omega arith;
          there = o.there;
          fits = omega (arith, ap (λ (h : Running). end_of h) t.0, t.1.len, o.fits, o.frame.begins, k.base, k.counts.locals, k.counts.stack);
          place = omega (arith, ap (λ (h : Running). h.place) t.0, q.1);
          turns = record { top = λ w pre x. subst (λ (v : Written). Top v pre r (cells mid)) (sym (handling_none w)) x; rest = refl; len = refl };
        }

-- the next effect is there
pub adding_there : {n j : ℕ} (kept : List ℕ) {live₀ live : List ℕ} {g₀ g : Running} → Adding n (cells kept) live₀ g₀ live g j → j < n → j < room kept
adding_there kept a lt = omega (arith, a.there, length_cells kept)

module _ {n : ℕ} {kept : List Cell} {live₀ : List ℕ} {g₀ : Running} {live : List ℕ} {g : Running} {j : ℕ} (a : Adding n kept live₀ g₀ live g j) where
  pub adding_fits : j < n → end_of g + 2 ≤ room live
  adding_fits lt = omega (arith, a.fits, a.turns.len)

  pub adding_more : {c : Cell} {r : Running} {new : List ℕ} → j < n → (c ≡ get_or kept j null) × Sound c
      → (r ≡ with_counts (g.handlers + 1) g.stack g) × Turns (add_handler c 0 0) g live r new → Adding n kept live₀ g₀ new r (j + 1)
  adding_more {c} {r} {new} lt is t =
      let k : take (j + 1) kept ≡ take j kept ++ (c ∷ []) = rw (is.0, add-one) (take-suc kept j null (omega (arith, a.there))) in
      record {
        within = omega arith;
        there = a.there;
        fits = omega (arith, ap (λ (h : Running). end_of h) t.0, a.fits);
        place = omega (arith, ap (λ (h : Running). h.place) t.0, a.place);
        turns = record {
          top = λ w pre x. subst (λ (v : Written). Top v pre r (cells new)) (handling_more (take j kept) c w ∙ ap (λ (es : List Cell). handling es w) (sym k)) (t.1.top _ _ (a.turns.top w pre x));
          rest = t.1.rest ∙ a.turns.rest;
          len = t.1.len ∙ a.turns.len;
        };
      }

  pub adding_settles : (g.base + 6 ≤ room live) × (g.place < 4294967296)
  adding_settles = (omega (arith, a.fits, a.within, a.turns.len), a.place)

  pub rehandles : {base : ℕ} {old new : List ℕ} {h : Running} → n ≤ j → (h ≡ opened (cells old) base) × (h.place < 4294967296)
      → (g₀ ≡ with_counts 0 h.stack h) × Turns clear_handlers h old g₀ live₀ → Settles g live new → Rehandled base n kept old new
  unfolding written
  rehandles {base} {old} {new} {h} le q t s =
      let m : j ≡ n = omega (arith, a.within) in
      record {
        frame = λ i w st hs below o.
            let x : Top (written (host i w st hs)) (flat below) h (cells old) = rw q.0 (opened_top base (live_stands o.live) o.begins) in
            let y = s.stands _ _ (a.turns.top _ _ (t.1.top _ _ x)) in
            record { live = stands_live (subst (λ (k : ℕ). Stands (written (host i w st (take k kept))) (flat below) (cells new)) m y); begins = o.begins };
        same = record { rest = s.rest ∙ a.turns.rest ∙ t.1.rest; len = s.len ∙ a.turns.len ∙ t.1.len };
      }
