-- The frame at the top with its counts and its place in registers: what its head shows of them may be stale until it is settled. A push touches one cell, a pop none.
use Rattle.std.specs.Prelude.{◌≡◌, refl, ℕ, zero, suc, ◌+◌, ◌-◌, ◌*◌, ◌<◌, ◌≤◌, length, get_or, set, take, drop}
use Rattle.std.proofs.Common.{sym, ap, subst, ◌∙◌, arith, length-append, length-set, length-drop, take-append-drop, take_at, drop_at, drop-cons, get_or-append-add, length-take-le}
use mathlib.Core.List.{List, [], ◌∷◌, ◌++◌, reverse, append_assoc, reverse-cons, reverse-append, reverse-reverse}
use Rattle.std.proofs.lemmas.List.{length-reverse, nil_from_length, set_at, get_or_at, set-append_left}
use Rattle.std.proofs.Math.ListN.{get_or-append}
use Rattle.std.proofs.Math.Seq.{paste, take-append-add, append_snoc}
use Rattle.cells.specs.Cells.{null, cells, rest, room, Writes, set_number, set_payload}
use Rattle.cells.specs.CellsLaws.{length_cells, writes_two}
use Rattle.cells.specs.Moves.{paste_is}
use Rattle.cells.specs.declared.Cell.{Cell}
use Rattle.machine.specs.Values.{cell, closure_at}
use Rattle.machine.specs.Machine.{Handler, Frame}
use Rattle.memory.specs.Layout.{Written, untargeted, handler_cells, written_cells, flat}
use Rattle.memory.proofs.Lists.{length_handlers, set_append_add}
use Rattle.moves.specs.declared.Running.{Running}

-- ---- Frames with other parts
abbrev pub with_stack : List Cell → Written → Written
with_stack st w = record { kind = w.kind; subject = w.subject; place = w.place; locals = w.locals; handlers = w.handlers; stack = st }

abbrev pub with_locals : List Cell → Written → Written
with_locals l w = record { kind = w.kind; subject = w.subject; place = w.place; locals = l; handlers = w.handlers; stack = w.stack }

abbrev pub with_handlers : List Handler → Written → Written
with_handlers hs w = record { kind = w.kind; subject = w.subject; place = w.place; locals = w.locals; handlers = hs; stack = w.stack }

abbrev pub with_place : ℕ → Written → Written
with_place p w = record { kind = w.kind; subject = w.subject; place = p; locals = w.locals; handlers = w.handlers; stack = w.stack }

abbrev pub pushed : Cell → Written → Written
pushed v w = with_stack (v ∷ w.stack) w

-- values in the order of their cells: the last is the top
abbrev pub pushed_all : List Cell → Written → Written
pushed_all vs w = with_stack (reverse vs ++ w.stack) w

abbrev pub set_top : ℕ → Cell → Written → Written
set_top i v w = with_stack (set w.stack i v) w

abbrev pub set_local : ℕ → Cell → Written → Written
set_local i v w = with_locals (set w.locals i v) w

-- what is read past the last handler
abbrev pub no_handler : Handler
no_handler = untargeted null

abbrev pub add_handler : Cell → ℕ → ℕ → Written → Written
add_handler e t n w = with_handlers (w.handlers ++ (record { effect = e; target = t; stack_size = n } ∷ [])) w

abbrev pub set_handler : ℕ → ℕ → ℕ → Written → Written
set_handler i t n w = with_handlers (set w.handlers i (record { effect = (get_or w.handlers i no_handler).effect; target = t; stack_size = n })) w

abbrev pub clear_handlers : Written → Written
clear_handlers w = with_handlers [] w

-- ---- The frame at the top
abbrev pub stack_at : Running → ℕ
stack_at g = g.base + 6 + g.locals + 2 * g.handlers

abbrev pub end_of : Running → ℕ
end_of g = stack_at g + g.stack

-- with other counts of handlers and stack values
abbrev pub with_counts : ℕ → ℕ → Running → Running
with_counts hs st g = record { base = g.base; locals = g.locals; handlers = hs; stack = st; place = g.place }

-- its cells, with stale counts x and z and a stale place y, and what follows
abbrev pub loose : Written → ℕ → ℕ → ℕ → List Cell → List Cell
loose w x y z after =
    cell w.kind (length w.locals) x ∷ w.subject ∷ cell 68 y z ∷ null ∷ null ∷ null ∷ (w.locals ++ (handler_cells w.handlers ++ (reverse w.stack ++ after)))

pub record Counts (w : Written) (g : Running) : Type 0 where
  pub locals : g.locals ≡ length w.locals
  pub handlers : g.handlers ≡ length w.handlers
  pub stack : g.stack ≡ length w.stack
  pub place : g.place ≡ w.place

-- behind the cells `pre` L has the frame w, whose counts are those of g
pub record Top (w : Written) (pre : List Cell) (g : Running) (L : List Cell) : Type 0 where
  pub x : ℕ
  pub y : ℕ
  pub z : ℕ
  pub free : List Cell
  pub is : L ≡ pre ++ loose w x y z free
  pub base : g.base ≡ length pre
  pub counts : Counts w g

-- a Lucia frame runs
abbrev pub lucia_written : ℕ → ℕ → List Cell → List Cell → List Handler → Written
lucia_written h p l st hs = record { kind = 64; subject = closure_at h; place = p; locals = l; handlers = hs; stack = st }

abbrev pub Runs : ℕ → ℕ → List Cell → List Cell → List Handler → List Frame → Running → List Cell → Type 0
Runs h p l st hs below g L = Top (lucia_written h p l st hs) (flat below) g L

-- a move changes the frame at the top by f, and no byte behind the cells
pub record Turns (f : Written → Written) (g : Running) (old : List ℕ) (r : Running) (new : List ℕ) : Type 0 where
  pub top : (w : Written) (pre : List Cell) → Top w pre g (cells old) → Top (f w) pre r (cells new)
  pub rest : rest new ≡ rest old
  pub len : length new ≡ length old

-- ---- A part B of a list, and a place in it
module _ (P B C : List Cell) (at i : ℕ) (e : at ≡ length P + i) (lt : i < length B) where
  pub part_get : get_or (P ++ (B ++ C)) at null ≡ get_or B i null
  part_get = ap (λ (k : ℕ). get_or (P ++ (B ++ C)) k null) e ∙ get_or-append-add P (B ++ C) i null ∙ get_or-append B C null i lt

  part_set : (v : Cell) → set (P ++ (B ++ C)) at v ≡ P ++ (set B i v ++ C)
  part_set v = ap (λ (k : ℕ). set (P ++ (B ++ C)) k v) e ∙ set_append_add P (B ++ C) i v ∙ ap (λ (l : List Cell). P ++ l) (set-append_left B C i v lt)

-- the i-th of a list is the i-th from the end of its reverse
reverse_get : (l : List Cell) (i : ℕ) → i < length l → get_or (reverse l) (length l - 1 - i) null ≡ get_or l i null
reverse_get [] i lt = absurd (omega arith)
reverse_get (v ∷ l) zero lt =
    let n : length (v ∷ l) - 1 - 0 ≡ length l = omega arith in
    rw (n, reverse-cons v l) (get_or_at (reverse l) v [] null (length l) (length-reverse l))
reverse_get (v ∷ l) (suc i) lt =
    let n : length (v ∷ l) - 1 - suc i ≡ length l - 1 - i = omega arith in
    let k : length l - 1 - i < length (reverse l) = rw length-reverse (omega arith) in
    rw (n, reverse-cons v l) (get_or-append (reverse l) (v ∷ []) null (length l - 1 - i) k ∙ reverse_get l i (omega arith))

reverse_set : (l : List Cell) (i : ℕ) (c : Cell) → i < length l → set (reverse l) (length l - 1 - i) c ≡ reverse (set l i c)
reverse_set [] i c lt = absurd (omega arith)
reverse_set (v ∷ l) zero c lt =
    let n : length (v ∷ l) - 1 - 0 ≡ length l = omega arith in
    rw (n, reverse-cons v l, reverse-cons c l) (set_at (reverse l) v [] c (length l) (length-reverse l))
reverse_set (v ∷ l) (suc i) c lt =
    let n : length (v ∷ l) - 1 - suc i ≡ length l - 1 - i = omega arith in
    let k : length l - 1 - i < length (reverse l) = rw length-reverse (omega arith) in
    rw (n, reverse-cons v l) (set-append_left (reverse l) (v ∷ []) (length l - 1 - i) c k ∙ ap (λ (x : List Cell). x ++ (v ∷ [])) (reverse_set l i c (omega arith)) ∙ sym (reverse-cons v (set l i c)))

-- ---- Handlers in their cells
handlers_append : (hs ks : List Handler) → handler_cells (hs ++ ks) ≡ handler_cells hs ++ handler_cells ks
unfolding handler_cells
handlers_append [] ks = refl
handlers_append (h ∷ hs) ks = ap (λ (l : List Cell). h.effect ∷ cell 67 h.target h.stack_size ∷ l) (handlers_append hs ks)

handlers_more : (hs : List Handler) (e : Cell) (t n : ℕ) → handler_cells hs ++ (e ∷ cell 67 t n ∷ []) ≡ handler_cells (hs ++ (record { effect = e; target = t; stack_size = n } ∷ []))
unfolding handler_cells
handlers_more hs e t n = sym (handlers_append hs (record { effect = e; target = t; stack_size = n } ∷ []))

handlers_none : ◌≡◌ {A = List Cell} [] (handler_cells [])
unfolding handler_cells
handlers_none = refl

effect_get : (hs : List Handler) (i : ℕ) → i < length hs → get_or (handler_cells hs) (2 * i) null ≡ (get_or hs i no_handler).effect
unfolding handler_cells
effect_get [] i lt = absurd (omega arith)
effect_get (h ∷ hs) zero lt = refl
effect_get (h ∷ hs) (suc i) lt = let n : 2 * suc i ≡ suc (suc (2 * i)) = omega arith in rw n (effect_get hs i (omega arith))

target_get : (hs : List Handler) (i : ℕ) → i < length hs → get_or (handler_cells hs) (2 * i + 1) null ≡ cell 67 (get_or hs i no_handler).target (get_or hs i no_handler).stack_size
unfolding handler_cells
target_get [] i lt = absurd (omega arith)
target_get (h ∷ hs) zero lt = refl
target_get (h ∷ hs) (suc i) lt = let n : 2 * suc i + 1 ≡ suc (suc (2 * i + 1)) = omega arith in rw n (target_get hs i (omega arith))

target_set : (hs : List Handler) (i t n : ℕ) → i < length hs
    → set (handler_cells hs) (2 * i + 1) (cell 67 t n) ≡ handler_cells (set hs i (record { effect = (get_or hs i no_handler).effect; target = t; stack_size = n }))
unfolding handler_cells
target_set [] i t n lt = absurd (omega arith)
target_set (h ∷ hs) zero t n lt = refl
target_set (h ∷ hs) (suc i) t n lt =
    let k : 2 * suc i + 1 ≡ suc (suc (2 * i + 1)) = omega arith in
    rw k (ap (λ (l : List Cell). h.effect ∷ cell 67 h.target h.stack_size ∷ l) (target_set hs i t n (omega arith)))

-- ---- Laws of the frame at the top
module _ {w : Written} {pre : List Cell} {g : Running} {L : List Cell} (o : Top w pre g L) where
  abbrev head : List Cell
  head = cell w.kind (length w.locals) o.x ∷ w.subject ∷ cell 68 o.y o.z ∷ null ∷ null ∷ null ∷ []

  -- the cells before the locals, the handlers, the stack
  abbrev first : List Cell
  first = pre ++ head

  abbrev second : List Cell
  second = first ++ w.locals

  abbrev third : List Cell
  third = second ++ handler_cells w.handlers

  length_first : length first ≡ g.base + 6
  length_first = length-append pre head ∙ omega (arith, o.base)

  length_second : length second ≡ g.base + 6 + g.locals
  length_second = length-append first w.locals ∙ omega (arith, length_first, o.counts.locals)

  length_third : length third ≡ stack_at g
  length_third = length-append second (handler_cells w.handlers) ∙ omega (arith, length_second, length_handlers w.handlers, o.counts.handlers)

  in_first : L ≡ first ++ (w.locals ++ (handler_cells w.handlers ++ (reverse w.stack ++ o.free)))
  in_first = o.is ∙ sym (append_assoc pre head _)

  in_second : L ≡ second ++ (handler_cells w.handlers ++ (reverse w.stack ++ o.free))
  in_second = in_first ∙ sym (append_assoc first w.locals _)

  in_third : L ≡ third ++ (reverse w.stack ++ o.free)
  in_third = in_second ∙ sym (append_assoc second (handler_cells w.handlers) _)

  -- how many cells it takes
  pub top_length : length L ≡ end_of g + length o.free
  top_length =
      ap length in_third ∙ length-append third (reverse w.stack ++ o.free)
      ∙ omega (arith, length_third, length-append (reverse w.stack) o.free, length-reverse w.stack, o.counts.stack)

  -- another stack, other handlers, in their places
  stack_cells : (st R after : List Cell) → R ≡ reverse st → third ++ (R ++ after) ≡ pre ++ loose (with_stack st w) o.x o.y o.z after
  stack_cells st R after e = ap (λ (l : List Cell). third ++ (l ++ after)) e ∙ simp append_assoc

  handler_cells_lem : (hs : List Handler) (H after : List Cell) → H ≡ handler_cells hs → second ++ (H ++ (reverse w.stack ++ after)) ≡ pre ++ loose (with_handlers hs w) o.x o.y o.z after
  handler_cells_lem hs H after e = ap (λ (l : List Cell). second ++ (l ++ (reverse w.stack ++ after))) e ∙ simp append_assoc

  local_cells : (l : List Cell) → length l ≡ length w.locals
      → first ++ (l ++ (handler_cells w.handlers ++ (reverse w.stack ++ o.free))) ≡ pre ++ loose (with_locals l w) o.x o.y o.z o.free
  local_cells l e =
      append_assoc pre head _
      ∙ ap (λ (n : ℕ). pre ++ (cell w.kind n o.x ∷ w.subject ∷ cell 68 o.y o.z ∷ null ∷ null ∷ null ∷ (l ++ (handler_cells w.handlers ++ (reverse w.stack ++ o.free))))) (sym e)

  -- a value is pushed
  pub push_top : (v : Cell) → end_of g < length L → Top (pushed v w) pre (with_counts g.handlers (g.stack + 1) g) (set L (end_of g) v)
  push_top v lt =
      let R : List Cell = reverse w.stack in
      let some : 0 < length o.free = omega (arith, top_length) in
      let n : length (third ++ R) ≡ end_of g = length-append third R ∙ omega (arith, length_third, length-reverse w.stack, o.counts.stack) in
      let e : L ≡ (third ++ R) ++ (get_or o.free 0 null ∷ drop 1 o.free) = in_third ∙ sym (append_assoc third R o.free) ∙ ap (λ (l : List Cell). (third ++ R) ++ l) (drop-cons o.free 0 null some) in
      let f : (third ++ R) ++ (v ∷ drop 1 o.free) ≡ third ++ ((R ++ (v ∷ [])) ++ drop 1 o.free) = simp append_assoc in
      record {
        x = o.x;
        y = o.y;
        z = o.z;
        free = drop 1 o.free;
        is = ap (λ (l : List Cell). set l (end_of g) v) e ∙ set_at (third ++ R) _ _ v (end_of g) n ∙ f
            ∙ stack_cells (v ∷ w.stack) (R ++ (v ∷ [])) (drop 1 o.free) (sym (reverse-cons v w.stack));
        base = o.base;
        counts = record { locals = o.counts.locals; handlers = o.counts.handlers; stack = omega (arith, o.counts.stack); place = o.counts.place };
      }

  -- n cells go on the stack as they are
  pub block_top : (x : List Cell) (n : ℕ) → length (take n x) ≡ n → Top (pushed_all (take n x) w) pre (with_counts g.handlers (g.stack + n) g) (paste L (end_of g) x n)
  block_top x n m =
      let R : List Cell = reverse w.stack in
      let X : List Cell = take n x in
      let Z : List Cell = drop (end_of g + n) L in
      let e : length (third ++ R) ≡ end_of g = length-append third R ∙ omega (arith, length_third, length-reverse w.stack, o.counts.stack) in
      let t : take (end_of g) L ≡ third ++ R = ap (take (end_of g)) (in_third ∙ sym (append_assoc third R o.free)) ∙ take_at (third ++ R) o.free (end_of g) e in
      let f : (third ++ R) ++ (X ++ Z) ≡ third ++ ((R ++ X) ++ Z) = simp append_assoc in
      let q : R ++ X ≡ reverse (reverse X ++ w.stack) = sym (reverse-append (reverse X) w.stack ∙ ap (λ (l : List Cell). R ++ l) (reverse-reverse X)) in
      record {
        x = o.x;
        y = o.y;
        z = o.z;
        free = Z;
        is = paste_is L (end_of g) x n ∙ ap (λ (l : List Cell). l ++ (X ++ Z)) t ∙ f ∙ stack_cells (reverse X ++ w.stack) (R ++ X) Z q;
        base = o.base;
        counts = record {
          locals = o.counts.locals;
          handlers = o.counts.handlers;
          stack = omega (arith, o.counts.stack, length-append (reverse X) w.stack, length-reverse X);
          place = o.counts.place;
        };
      }

  -- n values are popped: no cell changes
  pub pop_top : (n : ℕ) → n ≤ g.stack → Top (with_stack (drop n w.stack) w) pre (with_counts g.handlers (g.stack - n) g) L
  pop_top n le =
      let D : List Cell = drop n w.stack in
      let T : List Cell = take n w.stack in
      let e : reverse w.stack ≡ reverse D ++ reverse T = ap (λ (l : List Cell). reverse l) (sym (take-append-drop n w.stack)) ∙ reverse-append T D in
      record {
        x = o.x;
        y = o.y;
        z = o.z;
        free = reverse T ++ o.free;
        is = in_third ∙ ap (λ (l : List Cell). third ++ (l ++ o.free)) e ∙ ap (λ (l : List Cell). third ++ l) (append_assoc (reverse D) (reverse T) o.free)
            ∙ stack_cells D (reverse D) (reverse T ++ o.free) refl;
        base = o.base;
        counts = record { locals = o.counts.locals; handlers = o.counts.handlers; stack = omega (arith, length-drop n w.stack, o.counts.stack); place = o.counts.place };
      }

  -- a jump: no cell changes
  pub place_top : (p : ℕ) → Top (with_place p w) pre (record { base = g.base; locals = g.locals; handlers = g.handlers; stack = g.stack; place = p }) L
  place_top p = record {
    x = o.x;
    y = o.y;
    z = o.z;
    free = o.free;
    is = o.is;
    base = o.base;
    counts = record { locals = o.counts.locals; handlers = o.counts.handlers; stack = o.counts.stack; place = refl };
  }

  -- where the i-th value from the top stands
  spot : (i : ℕ) → i < g.stack → end_of g - 1 - i ≡ length third + (length w.stack - 1 - i)
  spot i lt = omega (arith, length_third, o.counts.stack)

  within : (i : ℕ) → i < g.stack → length w.stack - 1 - i < length (reverse w.stack)
  within i lt = omega (arith, length-reverse w.stack, o.counts.stack)

  top_get : (i : ℕ) → i < g.stack → get_or L (end_of g - 1 - i) null ≡ get_or w.stack i null
  top_get i lt =
      ap (λ (l : List Cell). get_or l (end_of g - 1 - i) null) in_third
      ∙ part_get third (reverse w.stack) o.free _ _ (spot i lt) (within i lt)
      ∙ reverse_get w.stack i (omega (arith, o.counts.stack))

  pub top_set : (i : ℕ) (v : Cell) → i < g.stack → Top (set_top i v w) pre g (set L (end_of g - 1 - i) v)
  top_set i v lt = record {
    x = o.x;
    y = o.y;
    z = o.z;
    free = o.free;
    is = ap (λ (l : List Cell). set l (end_of g - 1 - i) v) in_third
        ∙ part_set third (reverse w.stack) o.free _ _ (spot i lt) (within i lt) v
        ∙ stack_cells (set w.stack i v) _ o.free (reverse_set w.stack i v (omega (arith, o.counts.stack)));
    base = o.base;
    counts = record { locals = o.counts.locals; handlers = o.counts.handlers; stack = o.counts.stack ∙ sym (length-set w.stack i v); place = o.counts.place };
  }

  local_get : (i : ℕ) → i < g.locals → get_or L (g.base + 6 + i) null ≡ get_or w.locals i null
  local_get i lt = ap (λ (l : List Cell). get_or l (g.base + 6 + i) null) in_first ∙ part_get first w.locals _ _ i (omega (arith, length_first)) (omega (arith, o.counts.locals))

  pub local_set : (i : ℕ) (v : Cell) → i < g.locals → Top (set_local i v w) pre g (set L (g.base + 6 + i) v)
  local_set i v lt = record {
    x = o.x;
    y = o.y;
    z = o.z;
    free = o.free;
    is = ap (λ (l : List Cell). set l (g.base + 6 + i) v) in_first
        ∙ part_set first w.locals _ _ i (omega (arith, length_first)) (omega (arith, o.counts.locals)) v
        ∙ local_cells (set w.locals i v) (length-set w.locals i v);
    base = o.base;
    counts = record { locals = o.counts.locals ∙ sym (length-set w.locals i v); handlers = o.counts.handlers; stack = o.counts.stack; place = o.counts.place };
  }

  handler_get : (i : ℕ) → i < g.handlers → get_or L (g.base + 6 + g.locals + 2 * i) null ≡ (get_or w.handlers i no_handler).effect
  handler_get i lt =
      ap (λ (l : List Cell). get_or l (g.base + 6 + g.locals + 2 * i) null) in_second
      ∙ part_get second (handler_cells w.handlers) _ _ (2 * i) (omega (arith, length_second)) (omega (arith, length_handlers w.handlers, o.counts.handlers))
      ∙ effect_get w.handlers i (omega (arith, o.counts.handlers))

  handler_target : (i : ℕ) → i < g.handlers → (get_or L (g.base + 6 + g.locals + 2 * i + 1) null).number ≡ (get_or w.handlers i no_handler).target
  handler_target i lt =
      ap (λ (l : List Cell). (get_or l (g.base + 6 + g.locals + 2 * i + 1) null).number) in_second
      ∙ ap (λ (c : Cell). c.number) (part_get second (handler_cells w.handlers) _ _ (2 * i + 1) (omega (arith, length_second)) (omega (arith, length_handlers w.handlers, o.counts.handlers))
      ∙ target_get w.handlers i (omega (arith, o.counts.handlers)))

  pub handler_set : (i t n : ℕ) → i < g.handlers → Top (set_handler i t n w) pre g (set L (g.base + 6 + g.locals + 2 * i + 1) (cell 67 t n))
  handler_set i t n lt = record {
    x = o.x;
    y = o.y;
    z = o.z;
    free = o.free;
    is = ap (λ (l : List Cell). set l (g.base + 6 + g.locals + 2 * i + 1) (cell 67 t n)) in_second
        ∙ part_set second (handler_cells w.handlers) _ _ (2 * i + 1) (omega (arith, length_second)) (omega (arith, length_handlers w.handlers, o.counts.handlers)) (cell 67 t n)
        ∙ handler_cells_lem _ _ o.free (target_set w.handlers i t n (omega (arith, o.counts.handlers)));
    base = o.base;
    counts = record { locals = o.counts.locals; handlers = o.counts.handlers ∙ sym (length-set w.handlers i _); stack = o.counts.stack; place = o.counts.place };
  }

  -- a handler behind the others: the stack goes up, and two cells are written
  pub handler_add : (e : Cell) (t n : ℕ) → end_of g + 2 ≤ length L
      → Top (add_handler e t n w) pre (with_counts (g.handlers + 1) g.stack g)
      (set (set (paste L (stack_at g + 2) (drop (stack_at g) L) g.stack) (stack_at g) e) (stack_at g + 1) (cell 67 t n))
  handler_add e t n le =
      let a = stack_at g in
      let R : List Cell = reverse w.stack in
      let X : List Cell = R ++ o.free in
      let H : List Cell = handler_cells w.handlers in
      let c : Cell = cell 67 t n in
      let fr : List Cell = drop (a + 2 + g.stack) L in
      let many : 2 ≤ length X = omega (arith, top_length, length-append R o.free) in
      let two : X ≡ get_or X 0 null ∷ get_or X 1 null ∷ drop 2 X = drop-cons X 0 null (omega arith) ∙ ap (λ (l : List Cell). get_or X 0 null ∷ l) (drop-cons X 1 null (omega arith)) in
      let t₁ : take (a + 2) L ≡ third ++ (get_or X 0 null ∷ get_or X 1 null ∷ []) =
      ap (take (a + 2)) in_third ∙ rw (← length_third) (take-append-add third X 2) ∙ ap (λ (l : List Cell). third ++ take 2 l) two in
      let d : take g.stack (drop a L) ≡ R =
      ap (λ (l : List Cell). take g.stack (drop a l)) in_third ∙ ap (take g.stack) (drop_at third X a length_third)
      ∙ take_at R o.free g.stack (length-reverse w.stack ∙ sym o.counts.stack) in
      let q : paste L (a + 2) (drop a L) g.stack ≡ third ++ (get_or X 0 null ∷ get_or X 1 null ∷ (R ++ fr)) = paste_is L (a + 2) (drop a L) g.stack ∙ rw (t₁, d) (simp append_assoc) in
      let m : length (third ++ (e ∷ [])) ≡ a + 1 = length-append third (e ∷ []) ∙ omega (arith, length_third) in
      let s₁ : set (paste L (a + 2) (drop a L) g.stack) a e ≡ (third ++ (e ∷ [])) ++ (get_or X 1 null ∷ (R ++ fr)) =
      ap (λ (l : List Cell). set l a e) q ∙ set_at third _ _ e a length_third ∙ sym (append_snoc third e _) in
      let f : (third ++ (e ∷ [])) ++ (c ∷ (R ++ fr)) ≡ second ++ ((H ++ (e ∷ c ∷ [])) ++ (R ++ fr)) = simp append_assoc in
      record {
        x = o.x;
        y = o.y;
        z = o.z;
        free = fr;
        is = ap (λ (l : List Cell). set l (a + 1) c) s₁ ∙ set_at (third ++ (e ∷ [])) _ _ c (a + 1) m ∙ f ∙ handler_cells_lem _ _ fr (handlers_more w.handlers e t n);
        base = o.base;
        counts = record {
          locals = o.counts.locals;
          handlers = omega (arith, o.counts.handlers, length-append w.handlers (record { effect = e; target = t; stack_size = n } ∷ []));
          stack = o.counts.stack;
          place = o.counts.place;
        };
      }

  -- no handlers: the stack goes down
  pub handlers_clear : Top (clear_handlers w) pre (with_counts 0 g.stack g)
      (paste L (g.base + 6 + g.locals) (drop (stack_at g) L) g.stack)
  handlers_clear =
      let a = g.base + 6 + g.locals in
      let R : List Cell = reverse w.stack in
      let fr : List Cell = drop (a + g.stack) L in
      let t : take a L ≡ second = ap (take a) in_second ∙ take_at second _ a length_second in
      let d : take g.stack (drop (stack_at g) L) ≡ R =
      ap (λ (l : List Cell). take g.stack (drop (stack_at g) l)) in_third ∙ ap (take g.stack) (drop_at third _ _ length_third)
      ∙ take_at R o.free g.stack (length-reverse w.stack ∙ sym o.counts.stack) in
      record {
        x = o.x;
        y = o.y;
        z = o.z;
        free = fr;
        is = paste_is L a (drop (stack_at g) L) g.stack ∙ (rw (t, d)) ∙ handler_cells_lem [] [] fr handlers_none;
        base = o.base;
        counts = record { locals = o.counts.locals; handlers = refl; stack = o.counts.stack; place = o.counts.place };
      }

  -- the n top values, as they stand in memory
  pub values_there : (n : ℕ) → n ≤ g.stack → take n (drop (end_of g - n) L) ≡ reverse (take n w.stack)
  values_there n le =
      let D : List Cell = drop n w.stack in
      let T : List Cell = take n w.stack in
      let e : reverse w.stack ≡ reverse D ++ reverse T = ap (λ (l : List Cell). reverse l) (sym (take-append-drop n w.stack)) ∙ reverse-append T D in
      let i : L ≡ (third ++ reverse D) ++ (reverse T ++ o.free) = in_third ∙ ap (λ (l : List Cell). third ++ (l ++ o.free)) e ∙ simp append_assoc in
      let a : length (third ++ reverse D) ≡ end_of g - n = length-append third (reverse D) ∙ omega (arith, length_third, length-reverse D, length-drop n w.stack, o.counts.stack) in
      let b : length (reverse T) ≡ n = length-reverse T ∙ length-take-le n w.stack (omega (arith, o.counts.stack)) in
      ap (λ (l : List Cell). take n (drop (end_of g - n) l)) i ∙ ap (take n) (drop_at (third ++ reverse D) _ _ a) ∙ take_at (reverse T) o.free n b

-- ---- A frame whose head shows its counts
pub record Stands (w : Written) (pre L : List Cell) : Type 0 where
  pub free : List Cell
  pub is : L ≡ pre ++ (written_cells w ++ free)

abbrev pub opened : List Cell → ℕ → Running
opened L b = record {
  base = b;
  locals = (get_or L b null).number;
  handlers = (get_or L b null).payload;
  stack = (get_or L (b + 2) null).payload;
  place = (get_or L (b + 2) null).number;
}

pub opened_top : {w : Written} {pre L : List Cell} (b : ℕ) → Stands w pre L → b ≡ length pre → Top w pre (opened L b) L
opened_top {w} {pre} {L} b o e =
    let X : List Cell = loose w (length w.handlers) w.place (length w.stack) o.free in
    let i : L ≡ pre ++ X = o.is ∙ simp append_assoc in
    let a : get_or L b null ≡ cell w.kind (length w.locals) (length w.handlers) = ap (λ (l : List Cell). get_or l b null) i ∙ get_or_at pre _ _ null b (sym e) in
    let c : get_or L (b + 2) null ≡ cell 68 w.place (length w.stack) = ap (λ (l : List Cell). get_or l (b + 2) null) i ∙ rw e (get_or-append-add pre X 2 null) in
    record {
      x = length w.handlers;
      y = w.place;
      z = length w.stack;
      free = o.free;
      is = i;
      base = e;
      counts = record {
        locals = ap (λ (k : Cell). k.number) a;
        handlers = ap (λ (k : Cell). k.payload) a;
        stack = ap (λ (k : Cell). k.payload) c;
        place = ap (λ (k : Cell). k.number) c;
      };
    }

-- the head shows them again
pub record Settles (g : Running) (old new : List ℕ) : Type 0 where
  pub stands : (w : Written) (pre : List Cell) → Top w pre g (cells old) → Stands w pre (cells new)
  pub rest : rest new ≡ rest old
  pub len : length new ≡ length old

module _ (w : Written) (pre L after : List Cell) (b : ℕ) (e : b ≡ length pre) where
  set_handlers : (x y z n : ℕ) → L ≡ pre ++ loose w x y z after → set L b (set_payload (get_or L b null) n) ≡ pre ++ loose w n y z after
  set_handlers x y z n i =
      let a : get_or L b null ≡ cell w.kind (length w.locals) x = ap (λ (l : List Cell). get_or l b null) i ∙ get_or_at pre _ _ null b (sym e) in
      rw a (ap (λ (l : List Cell). set l b (cell w.kind (length w.locals) n)) i ∙ set_at pre _ _ _ b (sym e))

  -- the third cell of the head
  third_get : (x y z : ℕ) → L ≡ pre ++ loose w x y z after → get_or L (b + 2) null ≡ cell 68 y z
  third_get x y z i = ap (λ (l : List Cell). get_or l (b + 2) null) i ∙ rw e (get_or-append-add pre (loose w x y z after) 2 null)

  third_set : (x y z p n : ℕ) → L ≡ pre ++ loose w x y z after → set L (b + 2) (cell 68 p n) ≡ pre ++ loose w x p n after
  third_set x y z p n i = ap (λ (l : List Cell). set l (b + 2) (cell 68 p n)) i ∙ rw e (set_append_add pre (loose w x y z after) 2 (cell 68 p n))

  set_place : (x y z p : ℕ) → L ≡ pre ++ loose w x y z after → set L (b + 2) (set_number (get_or L (b + 2) null) p) ≡ pre ++ loose w x p z after
  set_place x y z p i = rw (third_get x y z i) (third_set x y z p z i)

  set_stack : (x y z n : ℕ) → L ≡ pre ++ loose w x y z after → set L (b + 2) (set_payload (get_or L (b + 2) null) n) ≡ pre ++ loose w x y n after
  set_stack x y z n i = rw (third_get x y z i) (third_set x y z y n i)

pub settled : {g : Running} {old a b new : List ℕ} → Writes old (set (cells old) g.base (set_payload (get_or (cells old) g.base null) g.handlers)) a
    → Writes a (set (cells a) (g.base + 2) (set_number (get_or (cells a) (g.base + 2) null) g.place)) b
    → Writes b (set (cells b) (g.base + 2) (set_payload (get_or (cells b) (g.base + 2) null) g.stack)) new → Settles g old new
settled {g} {old} {a} {b} {new} u v t = record {
  stands = λ w pre o.
      let c = o.counts in
      let i : cells a ≡ pre ++ loose w g.handlers o.y o.z o.free = u.cells ∙ set_handlers w pre (cells old) o.free g.base o.base o.x o.y o.z g.handlers o.is in
      let j : cells b ≡ pre ++ loose w g.handlers g.place o.z o.free = v.cells ∙ set_place w pre (cells a) o.free g.base o.base g.handlers o.y o.z g.place i in
      let k : cells new ≡ pre ++ loose w g.handlers g.place g.stack o.free = t.cells ∙ set_stack w pre (cells b) o.free g.base o.base g.handlers g.place o.z g.stack j in
      record { free = o.free; is = k ∙ (λ j. pre ++ loose w (c.handlers j) (c.place j) (c.stack j) o.free) ∙ simp append_assoc };
  rest = t.rest ∙ v.rest ∙ u.rest;
  len = t.len ∙ v.len ∙ u.len;
}

-- a frame with no handlers is as it is without them
pub clears_none : {g : Running} (old : List ℕ) → g.handlers ≡ 0 → (g ≡ with_counts 0 g.stack g) × Turns clear_handlers g old g old
clears_none {g} old e = (
  λ j. record { base = g.base; locals = g.locals; handlers = e j; stack = g.stack; place = g.place },
  record {
    top = λ w pre o. subst (λ (hs : List Handler). Top (with_handlers hs w) pre g (cells old)) (nil_from_length w.handlers (sym o.counts.handlers ∙ e)) o;
    rest = refl;
    len = refl;
  },
)

-- ---- What the code's writes come to
turns_by : {f : Written → Written} {g r : Running} {old new : List ℕ} {l : List Cell} → Writes old l new → ((w : Written) (pre : List Cell) → Top w pre g (cells old) → Top (f w) pre r l) → Turns f g old r new
turns_by {f} {r = r} u h = record { top = λ w pre o. subst (Top (f w) pre r) (sym u.cells) (h w pre o); rest = u.rest; len = u.len }

module _ {g : Running} {old new : List ℕ} where
  pub sets_local : {v : Cell} (i : ℕ) → i < g.locals → Writes old (set (cells old) (g.base + 6 + i) v) new → Turns (set_local i v) g old g new
  sets_local {v} i lt u = turns_by u (λ w pre o. local_set o i v lt)

  pub sets_handler : (i : ℕ) {t n : ℕ} → i < g.handlers → Writes old (set (cells old) (g.base + 6 + g.locals + 2 * i + 1) (cell 67 t n)) new → Turns (set_handler i t n) g old g new
  sets_handler i {t} {n} lt u = turns_by u (λ w pre o. handler_set o i t n lt)

module _ {g : Running} {old new : List ℕ} {at : ℕ} where
  pub pushes : {v : Cell} {r : Running} → end_of g < room old → at ≡ end_of g → Writes old (set (cells old) at v) new → r ≡ with_counts g.handlers (g.stack + 1) g → Turns (pushed v) g old r new
  pushes {v} lt e u q = rw q (turns_by (rw e at u) (λ w pre o. push_top o v (rw length_cells lt)))

  pub sets_top : {v : Cell} (i : ℕ) → i < g.stack → at ≡ end_of g → Writes old (set (cells old) (at - 1 - i) v) new → Turns (set_top i v) g old g new
  sets_top {v} i lt e u = turns_by (rw e at u) (λ w pre o. top_set o i v lt)

  pub clears : {r : Running} → at ≡ stack_at g → Writes old (paste (cells old) (g.base + 6 + g.locals) (drop at (cells old)) g.stack) new → r ≡ with_counts 0 g.stack g → Turns clear_handlers g old r new
  clears e u q = rw q (turns_by (rw e at u) (λ w pre o. handlers_clear o))

  pub adds : {a b : List ℕ} {r : Running} {e : Cell} {t n : ℕ} → end_of g + 2 ≤ room old → at ≡ stack_at g → Writes old (paste (cells old) (at + 2) (drop at (cells old)) g.stack) a
      → Writes a (set (cells a) at e) b → Writes b (set (cells b) (at + 1) (cell 67 t n)) new → r ≡ with_counts (g.handlers + 1) g.stack g → Turns (add_handler e t n) g old r new
  adds {a} {b} {e = e} {t} {n} le q u v x k =
      rw k (turns_by (rw q at (writes_two (λ (l : List Cell). set l (at + 1) (cell 67 t n)) (writes_two (λ (l : List Cell). set l at e) u v) x))
      (λ w pre o. handler_add o e t n (rw length_cells le)))

-- what is read off the cells is that of the frame
pub top_shows : {g : Running} {at : ℕ} {r : Cell} (old : List ℕ) (i : ℕ) → i < g.stack → at ≡ end_of g → r ≡ get_or (cells old) (at - 1 - i) null
    → (w : Written) (pre : List Cell) → Top w pre g (cells old) → r ≡ get_or w.stack i null
top_shows old i lt e q w pre o = (rw e at q) ∙ top_get o i lt

module _ {g : Running} (old : List ℕ) (i : ℕ) where
  pub local_shows : {r : Cell} → i < g.locals → r ≡ get_or (cells old) (g.base + 6 + i) null → (w : Written) (pre : List Cell) → Top w pre g (cells old) → r ≡ get_or w.locals i null
  local_shows lt q w pre o = q ∙ local_get o i lt

  pub handler_shows : {r : Cell} → i < g.handlers → r ≡ get_or (cells old) (g.base + 6 + g.locals + 2 * i) null
      → (w : Written) (pre : List Cell) → Top w pre g (cells old) → r ≡ (get_or w.handlers i no_handler).effect
  handler_shows lt q w pre o = q ∙ handler_get o i lt

  pub target_shows : {r : ℕ} → i < g.handlers → r ≡ (get_or (cells old) (g.base + 6 + g.locals + 2 * i + 1) null).number
      → (w : Written) (pre : List Cell) → Top w pre g (cells old) → r ≡ (get_or w.handlers i no_handler).target
  target_shows lt q w pre o = q ∙ handler_target o i lt
