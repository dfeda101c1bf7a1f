-- Frames of any kind at the top of the live stack: what a resume and a return do to the last, and new ones.
use Rattle.std.specs.Prelude.{◌≡◌, refl, Bool, true, false, ℕ, ◌+◌, ◌-◌, ◌<◌, ◌≤◌, set, replicate, eqb}
use Rattle.std.proofs.Math.Path.{sym, ap}
use Rattle.std.proofs.Common.{subst, ◌∙◌, take_all, ne_eqb}
use mathlib.Core.List.{List, [], ◌∷◌, ◌++◌, reverse, append_assoc, reverse-reverse}
use native.Mathlib.Omega.{arith}
use Rattle.std.proofs.Math.ListN.{length, get_or, take, drop, length-append, length-drop}
use Rattle.std.proofs.lemmas.List.{length-reverse, length-replicate, replicate-append-replicate, set_at, get_or_at}
use Rattle.std.proofs.Math.Seq.{paste, take-append-add, drop-cons, drop-length, length-take-le}
use Rattle.cells.specs.Cells.{null, cells, rest, room, Writes}
use Rattle.cells.specs.CellsLaws.{length_cells, writes_two}
use Rattle.cells.specs.Moves.{paste_is, paste_at}
use Rattle.cells.specs.declared.Cell.{Cell}
use Rattle.image.specs.Records.{if?}
use Rattle.machine.specs.Values.{cell, closure_at}
use Rattle.machine.specs.Machine.{Handler, Frame, lucia, host, effect_callback, frames_cost, give, receive}
use Rattle.memory.specs.Layout.{Written, written, handler_cells, frame_cells, flat}
use Rattle.memory.specs.Lists.{written_cost}
use Rattle.memory.proofs.Lists.{length_written, length_flat, cost_written, set_append_add}
use Rattle.moves.specs.Runs.{Top, Turns, Stands, Settles, Runs, lucia_written, with_stack, with_counts, pushed, clear_handlers, end_of, opened, opened_top, top_length, pop_top}
use Rattle.moves.specs.declared.Running.{Running}

-- the live stack holds these frames, and free cells behind them
pub record Live (fs : List Frame) (L : List Cell) : Type 0 where
  pub free : List Cell
  pub is : L ≡ flat fs ++ free

pub live_stands : {f : Frame} {below : List Frame} {L : List Cell} → Live (f ∷ below) L → Stands (written f) (flat below) L
unfolding flat
live_stands {f} {below} o = record { free = o.free; is = o.is ∙ append_assoc (flat below) (frame_cells f) o.free }

pub stands_live : {f : Frame} {below : List Frame} {L : List Cell} → Stands (written f) (flat below) L → Live (f ∷ below) L
unfolding flat
stands_live {f} {below} o = record { free = o.free; is = o.is ∙ sym (append_assoc (flat below) (frame_cells f) o.free) }

-- a Lucia frame begins to run, and is settled
pub live_runs : {h p : ℕ} {l st : List Cell} {hs : List Handler} {below : List Frame} {L : List Cell} (base : ℕ) → Live (lucia h p l st hs ∷ below) L → base ≡ length (flat below)
    → Runs h p l st hs below (opened L base) L
unfolding written
live_runs base o e = opened_top base (live_stands o) e

pub runs_live : (h p : ℕ) (l st : List Cell) (hs : List Handler) {below : List Frame} {L : List Cell} → Stands (lucia_written h p l st hs) (flat below) L → Live (lucia h p l st hs ∷ below) L
unfolding written
runs_live h p l st hs o = stands_live o

-- the top frame is dropped: no cell changes
pub live_drop : {f : Frame} {below : List Frame} {L : List Cell} → Live (f ∷ below) L → Live below L
live_drop {f} o = record { free = frame_cells f ++ (live_stands o).free; is = (live_stands o).is }

pub live_below : (F : List Frame) {L : List Cell} → Live F L → Live (drop 1 F) L
live_below [] o = o
live_below (f ∷ F) o = live_drop o

-- and those above some others
pub live_under : (above rest : List Frame) {L : List Cell} → Live (above ++ rest) L → Live rest L
live_under [] rest o = o
live_under (f ∷ above) rest o = live_under above rest (live_drop o)

-- ---- A value is given to the last frame
-- what a frame keeps of its stack then: a callback frame nothing
abbrev pub kept_stack : Written → Written
kept_stack w = with_stack (if? (eqb w.kind 64) w.stack []) w

abbrev pub kept_by : ℕ → Running → Running
kept_by kind g = with_counts g.handlers (if? (eqb kind 64) g.stack 0) g

abbrev pub kept_in : List Cell → ℕ → Running
kept_in L b = kept_by (get_or L b null).tag (opened L b)

module _ {g : Running} (L : List Cell) (b : ℕ) (e : g ≡ opened L b) where
  pub kept_lucia : (get_or L b null).tag ≡ 64 → g ≡ kept_in L b
  kept_lucia t = e ∙ rw t

  pub kept_other : {r : Running} → r ≡ with_counts g.handlers 0 g → ((get_or L b null).tag ≡ 64 → ⊥) → r ≡ kept_in L b
  kept_other q h = q ∙ ap (λ (k : Running). with_counts k.handlers 0 k) e ∙ rw (ne_eqb (get_or L b null).tag 64 h)

pub kept_top : {w : Written} {pre : List Cell} {g : Running} {L : List Cell} → Top w pre g L → Top (kept_stack w) pre (kept_by w.kind g) L
kept_top {w} {pre} {g} {L} o = by (eqb w.kind 64)
  where
    by : (b : Bool) → Top (with_stack (if? b w.stack []) w) pre (with_counts g.handlers (if? b g.stack 0) g) L
    by true = o
    by false =
        let e : drop g.stack w.stack ≡ [] = ap (λ (n : ℕ). drop n w.stack) o.counts.stack ∙ drop-length w.stack in
        let z : g.stack - g.stack ≡ 0 = omega arith in
        rw (e, z) at (pop_top o g.stack (omega arith))

-- the frame as it stands, opened, without what it does not keep
pub kept_opened : {w : Written} {pre L : List Cell} (b : ℕ) → Stands w pre L → b ≡ length pre → Top (kept_stack w) pre (kept_in L b) L
kept_opened {w} {pre} {L} b o e =
    let t : (get_or L b null).tag ≡ w.kind = ap (λ (c : Cell). c.tag) (ap (λ (l : List Cell). get_or l b null) o.is ∙ get_or_at pre _ _ null b (sym e)) in
    subst (λ (k : ℕ). Top (kept_stack w) pre (kept_by k (opened L b)) L) (sym t) (kept_top (opened_top b o e))

pub give_written : (v : Cell) (f : Frame) → pushed v (kept_stack (written f)) ≡ written (give v f)
unfolding give written
give_written v (lucia c p l s hs) = refl
give_written v (host n w s hs) = refl
give_written v (effect_callback e s hs) = refl

pub receive_written : (v : Cell) (f : Frame) → pushed v (clear_handlers (kept_stack (written f))) ≡ written (receive v f)
unfolding receive written
receive_written v (lucia c p l s hs) = refl
receive_written v (host n w s hs) = refl
receive_written v (effect_callback e s hs) = refl

-- v is on its stack, and its head is written; it ends at r
pub record Lands (v : Cell) (g : Running) (old : List ℕ) (r : ℕ) (new : List ℕ) : Type 0 where
  pub stands : (w : Written) (pre : List Cell) → Top w pre g (cells old) → Stands (pushed v w) pre (cells new)
  pub end : r ≡ end_of g + 1
  pub rest : rest new ≡ rest old
  pub len : length new ≡ length old

pub lands : {v : Cell} {g r : Running} {old mid new : List ℕ} {n : ℕ} → r ≡ with_counts g.handlers (g.stack + 1) g → Turns (pushed v) g old r mid → Settles r mid new → n ≡ end_of r → Lands v g old n new
lands q t s e = record {
  stands = λ w pre o. s.stands _ _ (t.top w pre o);
  end = e ∙ ap (λ (k : Running). end_of k) q ∙ omega arith;
  rest = s.rest ∙ t.rest;
  len = s.len ∙ t.len;
}

-- the frame at `base`, the last, becomes what the rule says, and its cells end at r
pub record Gets (rule : Frame → Frame) (base : ℕ) (old : List ℕ) (r : ℕ) (new : List ℕ) : Type 0 where
  pub live : (f : Frame) (below : List Frame) → Live (f ∷ below) (cells old) → base ≡ length (flat below) → Live (rule f ∷ below) (cells new)
  pub end : (f : Frame) (below : List Frame) → Live (f ∷ below) (cells old) → base ≡ length (flat below) → r ≡ length (flat (rule f ∷ below))
  pub rest : rest new ≡ rest old
  pub len : length new ≡ length old

-- the end of a frame in registers
pub top_end : {w : Written} {g : Running} {L : List Cell} (f : Frame) (below : List Frame) (v : Cell) → Top w (flat below) g L → pushed v w ≡ written f → end_of g + 1 ≡ length (flat (f ∷ below))
unfolding flat
top_end f below v o e =
    omega (arith, length-append (flat below) (frame_cells f), length_written (written f), ap (λ (u : Written). written_cost u) e, o.base, o.counts.locals, o.counts.handlers, o.counts.stack)

-- registers hold the frame as the rule changes it, but for the value
gets_by : {rule : Frame → Frame} {v : Cell} {old mid new : List ℕ} {g : Running} {n : ℕ} (base : ℕ) (step : Written → Written)
    → ((f : Frame) → pushed v (step (kept_stack (written f))) ≡ written (rule f))
    → Turns step (kept_in (cells old) base) old g mid → Lands v g mid n new → Gets rule base old n new
gets_by {rule} {v} {old} {mid} {new} {g} base step h t s =
    let top : (f : Frame) (below : List Frame) → Live (f ∷ below) (cells old) → base ≡ length (flat below) → Top (step (kept_stack (written f))) (flat below) g (cells mid) =
    λ f below o b. t.top _ _ (kept_opened base (live_stands o) b) in
    record {
      live = λ f below o b. stands_live (subst (λ (w : Written). Stands w (flat below) (cells new)) (h f) (s.stands _ _ (top f below o b)));
      end = λ f below o b. s.end ∙ top_end (rule f) below v (top f below o b) (h f);
      rest = s.rest ∙ t.rest;
      len = s.len ∙ t.len;
    }

pub receives : {v : Cell} {base : ℕ} {old mid new : List ℕ} {g h : Running} {n : ℕ} → g ≡ kept_in (cells old) base → Turns clear_handlers g old h mid → Lands v h mid n new → Gets (receive v) base old n new
receives {v} {base} {old} {mid} {h = h} q t s = gets_by base clear_handlers (receive_written v) (subst (λ (k : Running). Turns clear_handlers k old h mid) q t) s

-- there is room where the machine's rule says so
module _ {f : Frame} {below : List Frame} {L : List Cell} (o : Live (f ∷ below) L) (base : ℕ) (b : base ≡ length (flat below)) (v : Cell) where
  pub give_fits : frames_cost (give v f ∷ below) ≤ length L → end_of (kept_in L base) < length L
  unfolding frames_cost
  give_fits le =
      let t = kept_opened base (live_stands o) b in
      omega (arith, ap (λ (w : Written). written_cost w) (give_written v f) ∙ cost_written (give v f), length_flat below, t.counts.locals, t.counts.handlers, t.counts.stack)

  pub receive_fits : frames_cost (receive v f ∷ below) ≤ length L
      → (end_of (kept_in L base) ≤ length L) × (end_of (with_counts 0 (kept_in L base).stack (kept_in L base)) < length L)
  unfolding frames_cost
  receive_fits le =
      let t = kept_opened base (live_stands o) b in (
        omega (arith, top_length t),
        omega (arith, ap (λ (w : Written). written_cost w) (receive_written v f) ∙ cost_written (receive v f), length_flat below, t.counts.locals, t.counts.stack),
      )

-- ---- A new frame
-- no place, locals that are null, no handlers; its arguments are its stack
abbrev pub new_written : ℕ → Cell → ℕ → List Cell → Written
new_written kind subject k args = record { kind = kind; subject = subject; place = 0; locals = replicate k null; handlers = []; stack = reverse args }

pub record Starts (w : Written) (at : ℕ) (old new : List ℕ) : Type 0 where
  pub stands : (pre after : List Cell) → cells old ≡ pre ++ after → at ≡ length pre → Stands w pre (cells new)
  pub rest : rest new ≡ rest old
  pub len : length new ≡ length old

pub new_lucia : {below : List Frame} {L : List Cell} (h k : ℕ) (args : List Cell) → Stands (new_written 64 (closure_at h) k args) (flat below) L → Live (lucia h 0 (replicate k null) (reverse args) [] ∷ below) L
unfolding written
new_lucia h k args o = stands_live o

pub new_host : {below : List Frame} {L : List Cell} (n u : ℕ) (args : List Cell) → Stands (new_written 65 (cell 39 n u) 0 args) (flat below) L → Live (host n u (reverse args) [] ∷ below) L
unfolding written
new_host n u args o = stands_live o

pub new_effect : {below : List Frame} {L : List Cell} (e : Cell) (args : List Cell) → Stands (new_written 66 e 0 args) (flat below) L → Live (effect_callback e (reverse args) [] ∷ below) L
unfolding written
new_effect e args o = stands_live o

-- the cells of a new frame: arguments first, wherever they stand, then the head, then the nulls
module _ (L pre after : List Cell) (at k from n kind : ℕ) (subject : Cell) (i : L ≡ pre ++ after) (e : at ≡ length pre) (fits : at + 6 + k + n ≤ length L) (there : from + n ≤ length L) where
  args : List Cell
  args = take n (drop from L)

  behind : List Cell
  behind = drop (at + 6 + k + n) L

  front : List Cell
  front = take (6 + k) after

  length_args : length args ≡ n
  unfolding args
  length_args = length-take-le n (drop from L) (simp length-drop (omega arith))

  length_front : length front ≡ 6 + k
  unfolding front
  length_front = length-take-le (6 + k) after (omega (arith, ap length i ∙ length-append pre after))

  moved : paste L (at + 6 + k) (drop from L) n ≡ pre ++ (get_or front 0 null ∷ get_or front 1 null ∷ get_or front 2 null ∷ (drop 3 front ++ (args ++ behind)))
  unfolding args behind front
  moved =
      let a : at + 6 + k ≡ length pre + (6 + k) = omega arith in
      let t : take (at + 6 + k) L ≡ pre ++ front = ap (take (at + 6 + k)) i ∙ ap (λ (m : ℕ). take m (pre ++ after)) a ∙ take-append-add pre after (6 + k) in
      let f : front ≡ get_or front 0 null ∷ get_or front 1 null ∷ get_or front 2 null ∷ drop 3 front =
      drop-cons front 0 null (omega (arith, length_front))
      ∙ ap (λ (l : List Cell). get_or front 0 null ∷ l) (drop-cons front 1 null (omega (arith, length_front)) ∙ ap (λ (l : List Cell). get_or front 1 null ∷ l) (drop-cons front 2 null (omega (arith, length_front)))) in
      paste_is L (at + 6 + k) (drop from L) n ∙ ap (λ (l : List Cell). l ++ (args ++ behind)) t ∙ append_assoc pre front (args ++ behind) ∙ ap (λ (l : List Cell). pre ++ (l ++ (args ++ behind))) f

  -- the head over the three first cells
  headed : set (set (set (paste L (at + 6 + k) (drop from L) n) at (cell kind k 0)) (at + 1) subject) (at + 2) (cell 68 0 n)
      ≡ (pre ++ (cell kind k 0 ∷ subject ∷ cell 68 0 n ∷ [])) ++ (drop 3 front ++ (args ++ behind))
  headed =
      let Y : List Cell = drop 3 front ++ (args ++ behind) in
      let X : List Cell = get_or front 0 null ∷ get_or front 1 null ∷ get_or front 2 null ∷ Y in
      let a : set (paste L (at + 6 + k) (drop from L) n) at (cell kind k 0) ≡ pre ++ (cell kind k 0 ∷ get_or front 1 null ∷ get_or front 2 null ∷ Y) =
      ap (λ (l : List Cell). set l at (cell kind k 0)) moved ∙ set_at pre _ _ _ at (sym e) in
      let b : set (pre ++ (cell kind k 0 ∷ get_or front 1 null ∷ get_or front 2 null ∷ Y)) (at + 1) subject ≡ pre ++ (cell kind k 0 ∷ subject ∷ get_or front 2 null ∷ Y) =
      ap (λ (m : ℕ). set (pre ++ (cell kind k 0 ∷ get_or front 1 null ∷ get_or front 2 null ∷ Y)) (m + 1) subject) e ∙ set_append_add pre _ 1 subject in
      let c : set (pre ++ (cell kind k 0 ∷ subject ∷ get_or front 2 null ∷ Y)) (at + 2) (cell 68 0 n) ≡ pre ++ (cell kind k 0 ∷ subject ∷ cell 68 0 n ∷ Y) =
      ap (λ (m : ℕ). set (pre ++ (cell kind k 0 ∷ subject ∷ get_or front 2 null ∷ Y)) (m + 2) (cell 68 0 n)) e ∙ set_append_add pre _ 2 (cell 68 0 n) in
      ap (λ (l : List Cell). set (set l (at + 1) subject) (at + 2) (cell 68 0 n)) a ∙ ap (λ (l : List Cell). set l (at + 2) (cell 68 0 n)) b ∙ c ∙ sym (append_assoc pre (cell kind k 0 ∷ subject ∷ cell 68 0 n ∷ []) Y)

  nulls : take (3 + k) (replicate (3 + k) null) ≡ null ∷ null ∷ null ∷ replicate k null
  nulls = take_all (3 + k) (replicate (3 + k) null) (rw length-replicate (omega arith)) ∙ sym (replicate-append-replicate 3 k null)

  filled : paste (set (set (set (paste L (at + 6 + k) (drop from L) n) at (cell kind k 0)) (at + 1) subject) (at + 2) (cell 68 0 n)) (at + 3) (replicate (3 + k) null) (3 + k)
      ≡ pre ++ (cell kind k 0 ∷ subject ∷ cell 68 0 n ∷ null ∷ null ∷ null ∷ (replicate k null ++ (args ++ behind)))
  filled =
      let A : List Cell = pre ++ (cell kind k 0 ∷ subject ∷ cell 68 0 n ∷ []) in
      let a : length A ≡ at + 3 = length-append pre (cell kind k 0 ∷ subject ∷ cell 68 0 n ∷ []) ∙ omega arith in
      let b : length (drop 3 front) ≡ 3 + k = length-drop 3 front ∙ omega (arith, length_front) in
      ap (λ (l : List Cell). paste l (at + 3) (replicate (3 + k) null) (3 + k)) headed
      ∙ paste_at A (drop 3 front) (args ++ behind) (replicate (3 + k) null) (at + 3) (3 + k) a b
      ∙ ap (λ (l : List Cell). A ++ (l ++ (args ++ behind))) nulls
      ∙ append_assoc pre (cell kind k 0 ∷ subject ∷ cell 68 0 n ∷ []) _

  new_stands : Stands (new_written kind subject k (take n (drop from L))) pre
      (paste (set (set (set (paste L (at + 6 + k) (drop from L) n) at (cell kind k 0)) (at + 1) subject) (at + 2) (cell 68 0 n)) (at + 3) (replicate (3 + k) null) (3 + k))
  unfolding args handler_cells
  new_stands =
      let a : k ≡ length (replicate k null) = sym (length-replicate k null) in
      let b : n ≡ length (reverse args) = sym (length-reverse args ∙ length_args) in
      let c : args ≡ reverse (reverse args) = sym (reverse-reverse args) in
      let h : pre ++ (cell kind k 0 ∷ subject ∷ cell 68 0 n ∷ null ∷ null ∷ null ∷ (replicate k null ++ (args ++ behind)))
      ≡ pre ++ (cell kind (length (replicate k null)) 0 ∷ subject ∷ cell 68 0 (length (reverse args)) ∷ null ∷ null ∷ null ∷ (replicate k null ++ (reverse (reverse args) ++ behind))) =
      λ j. pre ++ (cell kind (a j) 0 ∷ subject ∷ cell 68 0 (b j) ∷ null ∷ null ∷ null ∷ (replicate k null ++ (c j ++ behind))) in
      record { free = behind; is = filled ∙ h ∙ simp append_assoc }

pub starts : {old a b c d new : List ℕ} {subject : Cell} {at kind : ℕ} (k from n : ℕ) → at + 6 + k + n ≤ room old → from + n ≤ room old
    → Writes old (paste (cells old) (at + 6 + k) (drop from (cells old)) n) a → Writes a (set (cells a) at (cell kind k 0)) b → Writes b (set (cells b) (at + 1) subject) c
    → Writes c (set (cells c) (at + 2) (cell 68 0 n)) d → Writes d (paste (cells d) (at + 3) (replicate (3 + k) null) (3 + k)) new
    → Starts (new_written kind subject k (take n (drop from (cells old)))) at old new
starts {old} {subject = subject} {at} {kind} k from n fits there u v x y z =
    let t = writes_two (λ (l : List Cell). paste l (at + 3) (replicate (3 + k) null) (3 + k)) (writes_two (λ (l : List Cell). set l (at + 2) (cell 68 0 n)) (writes_two (λ (l : List Cell). set l (at + 1) subject) (writes_two (λ (l : List Cell). set l at (cell kind k 0)) u v) x) y) z in
    record {
      stands = λ pre after i e. subst (Stands _ pre) (sym t.cells) (new_stands (cells old) pre after at k from n kind subject i e (rw length_cells fits) (rw length_cells there));
      rest = t.rest;
      len = t.len;
    }
