-- How memory holds a world (docs/LAYOUT.md): the cells that it is written as. Frames and captured frames have the same cells, and no cell names a place of the live stack.
use Rattle.std.specs.Prelude.{◌≡◌, List, [], ◌∷◌, ◌++◌, reverse, map, Bool, true, false, ℕ, length}
use Rattle.cells.specs.Cells.{null}
use Rattle.cells.specs.declared.Cell.{Cell}
use Rattle.machine.specs.Values.{cell, closure_at, Error, call_arguments, un_operator, bin_operator, meta_un_operator, meta_bin_operator, zero_divisor, lucia_error, lucia_panic}
use Rattle.machine.specs.Machine.{Handler, Frame, lucia, host, effect_callback, Object, closure, list, continuation, Result, running, returned, failed, unhandled, frames_cost, used}
use Rattle.machine.specs.Calls.{World}

-- ---- Frames
-- a frame as it is written: kind 64, 65 or 66; closure, callback or effect as a value; a callback's handlers have no target
pub record Written : Type 0 where
  pub kind : ℕ
  pub subject : Cell
  pub place : ℕ
  pub locals : List Cell
  pub handlers : List Handler
  pub stack : List Cell

abbrev pub untargeted : Cell → Handler
untargeted e = record { effect = e; target = 0; stack_size = 0 }

unfoldable pub written : Frame → Written
written (lucia h p l s hs) = record { kind = 64; subject = closure_at h; place = p; locals = l; handlers = hs; stack = s }
written (host n w s hs) = record { kind = 65; subject = cell 39 n w; place = 0; locals = []; handlers = map untargeted hs; stack = s }
written (effect_callback e s hs) = record { kind = 66; subject = e; place = 0; locals = []; handlers = map untargeted hs; stack = s }

-- the six cells of its head, of which three are spare
abbrev pub head_cells : Written → List Cell
head_cells f = cell f.kind (length f.locals) (length f.handlers) ∷ f.subject ∷ cell 68 f.place (length f.stack) ∷ null ∷ null ∷ null ∷ []

unfoldable pub handler_cells : List Handler → List Cell
handler_cells [] = []
handler_cells (h ∷ hs) = h.effect ∷ cell 67 h.target h.stack_size ∷ handler_cells hs

-- head, locals, handlers, stack: its top comes last
abbrev pub written_cells : Written → List Cell
written_cells f = head_cells f ++ (f.locals ++ (handler_cells f.handlers ++ reverse f.stack))

abbrev pub frame_cells : Frame → List Cell
frame_cells f = written_cells (written f)

-- frames, the top first in the list, the top last in memory
unfoldable pub flat : List Frame → List Cell
flat [] = []
flat (f ∷ below) = flat below ++ frame_cells f

-- ---- Objects, as they were made
unfoldable pub object_cells : Object → List Cell
object_cells (closure c us) = cell 128 c (length us) ∷ us
object_cells (list vs) = cell 129 0 (length vs) ∷ vs
object_cells (continuation K) = cell 130 (length K) (frames_cost K) ∷ flat K

unfoldable pub store_cells : List Object → List Cell
store_cells [] = []
store_cells (o ∷ os) = object_cells o ++ store_cells os

-- ---- Results: a kind of 0 to 10, a cell, a second type and the arguments
pub record Shown : Type 0 where
  pub kind : ℕ
  pub value : Cell
  pub second : ℕ
  pub args : List Cell

abbrev pub bit : Bool → ℕ
bit true = 1
bit false = 0

abbrev pub plain : ℕ → Cell → Shown
plain k v = record { kind = k; value = v; second = 0; args = [] }

unfoldable pub error_shown : Error → Shown
error_shown (call_arguments start unbounded given) = plain 3 (cell start (bit unbounded) given)
error_shown (un_operator o x t) = plain 4 (cell o x t)
error_shown (bin_operator o x t u) = record { kind = 5; value = cell o x t; second = u; args = [] }
error_shown (meta_un_operator n t) = plain 6 (cell n 0 t)
error_shown (meta_bin_operator n t u) = record { kind = 7; value = cell n 0 t; second = u; args = [] }
error_shown zero_divisor = plain 8 null
error_shown (lucia_error v) = plain 9 v
error_shown (lucia_panic v) = plain 10 v

unfoldable pub result_shown : Result → Shown
result_shown running = plain 0 null
result_shown (returned v) = plain 1 v
result_shown (unhandled e args) = record { kind = 2; value = e; second = 0; args = args }
result_shown (failed x) = error_shown x

-- ---- The state block: four cells, the globals, the builtins
abbrev pub state_head : World → Shown → List Cell
state_head w r =
    cell 1 (length w.machine.frames) (used w.machine.store) ∷ cell w.slice (bit w.wait) r.kind ∷ r.value ∷ cell r.second 0 (length r.args) ∷ []

abbrev pub state_cells : World → List Cell
state_cells w = state_head w (result_shown w.machine.result) ++ (w.machine.globals ++ w.machine.builtins)

-- an effect result's arguments stand behind the frames
abbrev pub live_cells : World → List Cell
live_cells w = flat w.machine.frames ++ (result_shown w.machine.result).args

-- memory holds the world: these cells, and free ones behind them
pub record Holds (w : World) (st lv sto : List Cell) : Type 0 where
  pub state : st ≡ state_cells w
  pub free_live : List Cell
  pub live : lv ≡ live_cells w ++ free_live
  pub free_store : List Cell
  pub store : sto ≡ store_cells w.machine.store ++ free_store
