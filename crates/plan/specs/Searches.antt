-- What a search for a handler finds, in a frame and in the frames under the top.
use Rattle.std.specs.Prelude.{◌≡◌, List, ◌∷◌, ◌++◌, true, ℕ, ◌<◌, ◌≤◌, length, get_or, Option, Some, None}
use Rattle.cells.specs.declared.Cell.{Cell}
use Rattle.machine.specs.Values.{Program, equal_effects}
use Rattle.machine.specs.Machine as machine
use Rattle.machine.specs.Machine.{Handler, Frame, search}
use Rattle.memory.specs.Layout.{written}
use Rattle.moves.specs.Runs.{no_handler}
use Rattle.moves.specs.Handlers.{Misses, First}
use Rattle.plan.specs.Rest.{Under}
use Rattle.plan.specs.declared.Found.{Found}

-- j is the first of the handlers that has the effect, or their number
pub record Finds (P : Program) (e : Cell) (hs : List Handler) (j : ℕ) : Type 0 where
  pub most : j ≤ length hs
  pub misses : Misses P e hs j
  pub has : j < length hs → equal_effects P (get_or hs j no_handler).effect e ≡ true

-- some frames, of which those under the top lie in L
pub record Lies (n : ℕ) (L : List Cell) (starts : List ℕ) : Type 0 where
  pub frames : List Frame
  pub count : length frames ≡ n
  pub under : Under frames L starts
  pub table : n ≤ length starts

pub record SearchedIn (P : Program) (e : Cell) (F : List Frame) (i j : ℕ) : Type 0 where
  pub above : List Frame
  pub handler : Frame
  pub below : List Frame
  pub finds : search P e F ≡ machine.found above handler below
  pub frames : F ≡ above ++ (handler ∷ below)
  pub some : 0 < length above
  pub at : length below ≡ i
  pub first : First P e (written handler).handlers j

abbrev pub Searched : Program → Cell → List Frame → Option Found → Type 0
Searched P e F (Some h) = SearchedIn P e F h.frame h.handler
Searched P e F None = search P e F ≡ machine.nowhere
