-- Laws of the cells that frames are written as, with no test of their form: how long they are, where their parts stand; and of `all`.
use Rattle.std.specs.Prelude.{◌≡◌, Bool, true, false, ℕ, zero, suc, ◌+◌, ◌*◌, length, set, take, drop}
use Rattle.std.proofs.Math.Path.{refl}
use Rattle.std.proofs.Common.{sym, ap, ◌∙◌, arith, zero-add, suc-add, length-append, take_at, drop_at, drop-drop}
use mathlib.Core.List.{List, [], ◌∷◌, ◌++◌, reverse, reverse_aux, map, append_assoc, append-nil, reverse-reverse}
use Rattle.std.proofs.lemmas.List.{length-reverse, length-map}
use Rattle.cells.specs.declared.Cell.{Cell}
use Rattle.image.specs.Records.{both}
use Rattle.image.specs.Program.{all}
use Rattle.image.proofs.Parts.{both_assoc, both_true}
use Rattle.machine.specs.Machine.{Handler, Frame, lucia, host, effect_callback, frame_cost, frames_cost, effects}
use Rattle.memory.specs.Layout.{Written, untargeted, written, handler_cells, written_cells, frame_cells, flat}
use Rattle.memory.specs.View.{frame_size, handlers_at, written_at, read_frame, frame_at, frames_at}
use Rattle.memory.specs.Lists.{written_cost}

-- a write behind the front of a list
pub set_append_add : {A : Type 0} (xs ys : List A) (n : ℕ) (a : A) → set (xs ++ ys) (length xs + n) a ≡ xs ++ set ys n a
set_append_add {A = A} [] ys n a = ap (λ (k : ℕ). set ys k a) (zero-add n)
set_append_add {A = A} (x ∷ xs) ys n a = ap (λ (k : ℕ). set (x ∷ (xs ++ ys)) k a) (suc-add (length xs) n) ∙ ap (λ (l : List A). x ∷ l) (set_append_add xs ys n a)

-- ---- All of a list
both_swap : (a b c : Bool) → both a (both b c) ≡ both (both b a) c
unfolding both
both_swap true true c = refl
both_swap true false c = refl
both_swap false true c = refl
both_swap false false c = refl

module _ {A : Type 0} (f : A → Bool) where
  pub tests_append : (xs ys : List A) → all f (xs ++ ys) ≡ both (all f xs) (all f ys)
  unfolding all both
  tests_append [] ys = refl
  tests_append (x ∷ xs) ys = rw (tests_append xs ys) (sym (both_assoc (f x) (all f xs) (all f ys)))

  tests_onto : (xs ys : List A) → all f (reverse_aux xs ys) ≡ both (all f xs) (all f ys)
  unfolding all both
  tests_onto [] ys = refl
  tests_onto (x ∷ xs) ys = tests_onto xs (x ∷ ys) ∙ both_swap (all f xs) (f x) (all f ys)

  pub tests_reverse : (xs : List A) → all f (reverse xs) ≡ all f xs
  unfolding all
  tests_reverse xs = tests_onto xs [] ∙ both_true (all f xs)

-- ---- How many cells
pub length_handlers : (hs : List Handler) → length (handler_cells hs) ≡ 2 * length hs
unfolding handler_cells
length_handlers [] = refl
length_handlers (h ∷ hs) = omega (arith, length_handlers hs)

pub length_written : (w : Written) → length (written_cells w) ≡ written_cost w
length_written w =
    let l = w.locals in
    let H = handler_cells w.handlers in
    let vs = reverse w.stack in
    omega (arith, length-append l (H ++ vs), length-append H vs, length_handlers w.handlers, length-reverse w.stack)

pub cost_written : (f : Frame) → written_cost (written f) ≡ frame_cost f
unfolding written frame_cost
cost_written (lucia h p l s hs) = omega arith
cost_written (host n w s hs) = omega (arith, length-map hs untargeted)
cost_written (effect_callback e s hs) = omega (arith, length-map hs untargeted)

pub length_frame : (f : Frame) → length (frame_cells f) ≡ frame_cost f
length_frame f = length_written (written f) ∙ cost_written f

pub length_flat : (fs : List Frame) → length (flat fs) ≡ frames_cost fs
unfolding flat frames_cost
length_flat [] = refl
length_flat (f ∷ fs) = length-append (flat fs) (frame_cells f) ∙ omega (arith, length_flat fs, length_frame f)

pub flat_append : (above below : List Frame) → flat (above ++ below) ≡ flat below ++ flat above
unfolding flat
flat_append [] below = sym (append-nil (flat below))
flat_append (f ∷ above) below = ap (λ (l : List Cell). l ++ frame_cells f) (flat_append above below) ∙ append_assoc (flat below) (flat above) (frame_cells f)

pub cost_append : (above below : List Frame) → frames_cost (above ++ below) ≡ frames_cost above + frames_cost below
unfolding frames_cost
cost_append [] below = omega arith
cost_append (f ∷ above) below = omega (arith, cost_append above below)

-- ---- What is read off the cells that a frame is written as
pub length_read : (n : ℕ) (y : List Cell) → length (handlers_at n y) ≡ n
unfolding handlers_at
length_read zero y = refl
length_read (suc n) y = ap suc (length_read n (drop 2 y))

pub handlers_read : (hs : List Handler) (rest : List Cell) → handlers_at (length hs) (handler_cells hs ++ rest) ≡ hs
unfolding handler_cells handlers_at
handlers_read [] rest = refl
handlers_read (h ∷ hs) rest = ap (λ (l : List Handler). h ∷ l) (handlers_read hs rest)

pub effects_untargeted : (es : List Cell) → effects (map untargeted es) ≡ es
unfolding effects
effects_untargeted [] = refl
effects_untargeted (e ∷ es) = ap (λ (l : List Cell). e ∷ l) (effects_untargeted es)

pub read_written : (f : Frame) → read_frame (written f) ≡ f
unfolding read_frame written
read_written (lucia h p l s hs) = refl
read_written (host n w s hs) = ap (host n w s) (effects_untargeted hs)
read_written (effect_callback e s hs) = ap (effect_callback e s) (effects_untargeted hs)

module _ (w : Written) (rest : List Cell) where
  -- its cells, and what follows them
  abbrev front : List Cell
  front = written_cells w ++ rest

  -- the cells behind the head, part by part
  pub behind : drop 6 front ≡ w.locals ++ (handler_cells w.handlers ++ (reverse w.stack ++ rest))
  behind =
      append_assoc w.locals (handler_cells w.handlers ++ reverse w.stack) rest
      ∙ ap (λ (l : List Cell). w.locals ++ l) (append_assoc (handler_cells w.handlers) (reverse w.stack) rest)

  pub locals_there : take (length w.locals) (drop 6 front) ≡ w.locals
  locals_there = ap (take (length w.locals)) behind ∙ take_at w.locals _ _ refl

  pub handlers_there : drop (6 + length w.locals) front ≡ handler_cells w.handlers ++ (reverse w.stack ++ rest)
  handlers_there = sym (drop-drop (length w.locals) 6 front) ∙ ap (drop (length w.locals)) behind ∙ drop_at w.locals _ _ refl

  stack_there : drop (6 + length w.locals + 2 * length w.handlers) front ≡ reverse w.stack ++ rest
  stack_there =
      sym (drop-drop (2 * length w.handlers) (6 + length w.locals) front)
      ∙ ap (drop (2 * length w.handlers)) handlers_there
      ∙ drop_at (handler_cells w.handlers) _ _ (length_handlers w.handlers)

  pub stack_taken : take (length w.stack) (drop (6 + length w.locals + 2 * length w.handlers) front) ≡ reverse w.stack
  stack_taken = ap (take (length w.stack)) stack_there ∙ take_at (reverse w.stack) rest _ (length-reverse w.stack)

  pub written_read : written_at front ≡ w
  written_read =
      let a = locals_there in
      let b : handlers_at (length w.handlers) (drop (6 + length w.locals) front) ≡ w.handlers = ap (handlers_at (length w.handlers)) handlers_there ∙ handlers_read w.handlers _ in
      let c = ap (λ (l : List Cell). reverse l) stack_taken ∙ reverse-reverse w.stack in
      λ j. record { kind = w.kind; subject = w.subject; place = w.place; locals = a j; handlers = b j; stack = c j }

-- frames read on top of others are those read on top of none, with the others below
pub frames_onto : (n : ℕ) (below : List Frame) (x : List Cell) → frames_at n below x ≡ frames_at n [] x ++ below
unfolding frames_at
frames_onto zero below x = refl
frames_onto (suc n) below x =
    let y = drop (frame_size x) x in
    frames_onto n (frame_at x ∷ below) y ∙ sym (append_assoc (frames_at n [] y) (frame_at x ∷ []) below) ∙ ap (λ (l : List Frame). l ++ below) (sym (frames_onto n (frame_at x ∷ []) y))
