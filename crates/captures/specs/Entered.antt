-- A frame that enters its handler, and a machine of which frames are captured: what the contracts say.
use Rattle.std.specs.Prelude.{◌≡◌, List, ◌∷◌, ℕ, ◌+◌, ◌<◌, ◌≤◌, length}
use Rattle.cells.specs.Cells.{room, cells}
use Rattle.cells.specs.declared.Cell.{Cell}
use Rattle.machine.specs.Values.{Program}
use Rattle.machine.specs.Machine.{Frame, Object, running, M, used, parse, enter}
use Rattle.memory.specs.Layout.{written, flat}
use Rattle.memory.specs.Lists.{written_cost}
use Rattle.moves.specs.Runs.{clear_handlers}
use Rattle.moves.specs.Frames.{Live, kept_stack}
use Rattle.moves.specs.Handlers.{First}
use Rattle.moves.specs.Objects.{Stored}
use Rattle.plan.specs.Rest.{Same, Appends, counts_of, Begins}
use Rattle.plan.specs.Plans.{taken_count, Enough, Handled, Caught}
use Rattle.plan.specs.declared.Counts.{Counts}
use Rattle.plan.specs.declared.Error.{Error}
use Rattle.plan.specs.declared.Params.{Params}

-- ---- One frame
abbrev Lucia : Frame → Type 0
Lucia f = (written f).kind ≡ 64

-- at `base` lies some frame for which Q holds, and there is room for what it keeps with continuation, n arguments parsed and effect
pub record EnterableWhere (Q : Frame → Type 0) (base : ℕ) (p : Params) (n list : ℕ) (old : List ℕ) : Type 0 where
  pub frame : Frame
  pub below : List Frame
  pub live : Live (frame ∷ below) (cells old)
  pub at : base ≡ length (flat below)
  pub is : Q frame
  pub fits : base + written_cost (clear_handlers (kept_stack (written frame))) + (taken_count p n + 2) ≤ room old
  pub enough : Enough p n
  pub handle : list < 4294967296

abbrev pub Enterable : ℕ → ℕ → Params → ℕ → ℕ → List ℕ → Type 0
Enterable base j p n list old = EnterableWhere (λ (f : Frame). j < length (written f).handlers) base p n list old

abbrev pub LuciaEnterable : ℕ → ℕ → Params → ℕ → ℕ → List ℕ → Type 0
LuciaEnterable base j p n list old = EnterableWhere (λ (f : Frame). (j < length (written f).handlers) × Lucia f) base p n list old

abbrev pub CallbackEnterable : ℕ → Params → ℕ → ℕ → List ℕ → Type 0
CallbackEnterable base p n list old = EnterableWhere (λ (f : Frame). Lucia f → ⊥) base p n list old

-- every frame that lies at `base` and for which Q holds is what `enter` makes of it, where the list of the rest stands at a handle; no byte behind the cells changes
pub record EntersWhere (Q : Program → Frame → Type 0) (base : ℕ) (e k : Cell) (p : Params) (list : ℕ) (args : List Cell) (old new : List ℕ) : Type 0 where
  pub live : (P : Program) (f : Frame) (below : List Frame) (s : List Object) → Live (f ∷ below) (cells old) → base ≡ length (flat below) → Q P f → list ≡ used s
      → Live (enter P e k (parse p.variadic p.count args s).args f ∷ below) (cells new)
  pub same : Same old new

abbrev pub Enters : ℕ → ℕ → Cell → Cell → Params → ℕ → List Cell → List ℕ → List ℕ → Type 0
Enters base j e k p list args old new = EntersWhere (λ (P : Program) (f : Frame). First P e (written f).handlers j) base e k p list args old new

abbrev pub LuciaEnters : ℕ → ℕ → Cell → Cell → Params → ℕ → List Cell → List ℕ → List ℕ → Type 0
LuciaEnters base j e k p list args old new = EntersWhere (λ (P : Program) (f : Frame). First P e (written f).handlers j × Lucia f) base e k p list args old new

abbrev pub CallbackEnters : ℕ → Cell → Cell → Params → ℕ → List Cell → List ℕ → List ℕ → Type 0
CallbackEnters base e k p list args old new = EntersWhere (λ (P : Program) (f : Frame). Lucia f → ⊥) base e k p list args old new

-- ---- A machine
-- a machine that runs lies in memory with all its frames written
pub record Lies (m : M) (c : Counts) (live store starts : List ℕ) : Type 0 where
  pub counts : c ≡ counts_of m
  pub running : m.result ≡ running
  pub frames : Live m.frames (cells live)
  pub begins : Begins m.frames starts
  pub objects : Stored m.store (cells store)

-- some machine lies there that R takes to another, and there is room for that
pub record CapturableWhere (R : Program → M → M → Type 0) (c : Counts) (live store starts : List ℕ) : Type 0 where
  pub program : Program
  pub machine : M
  pub after : M
  pub does : R program machine after
  pub lies : Lies machine c live store starts
  pub fits_live : (counts_of after).live ≤ room live
  pub fits_store : (counts_of after).store ≤ room store
  pub table : c.frames ≤ length starts
  pub small_live : room live < 4294967296
  pub small_store : room store < 4294967296

-- some effect with n arguments is handled
pub record Handling (P : Program) (i j : ℕ) (p : Params) (n : ℕ) (m m' : M) : Type 0 where
  pub effect : Cell
  pub args : List Cell
  pub count : length args ≡ n
  pub handled : Handled P i j effect p args m m'

abbrev pub Capturable : Counts → ℕ → ℕ → Params → ℕ → List ℕ → List ℕ → List ℕ → Type 0
Capturable c i j p n live store starts = CapturableWhere (λ (P : Program) (m m' : M). Handling P i j p n m m') c live store starts

abbrev pub Catchable : Counts → ℕ → ℕ → Error → List ℕ → List ℕ → List ℕ → Type 0
Catchable c i j x live store starts = CapturableWhere (λ (P : Program) (m m' : M). Caught P i j x m m') c live store starts

-- every machine that lies there and that R takes to another is that other now; no byte behind the cells changes, nor a cell behind the store's objects
pub record CapturesWhere (R : Program → M → M → Type 0) (c : Counts) (starts live store live' store' : List ℕ) : Type 0 where
  pub frames : (P : Program) (m m' : M) → R P m m' → Lies m c live store starts → Live m'.frames (cells live')
  pub objects : (P : Program) (m m' : M) → R P m m' → Lies m c live store starts → Stored m'.store (cells store')
  pub same_live : Same live live'
  pub same_store : Same store store'
  pub appends : (P : Program) (m m' : M) → R P m m' → Lies m c live store starts → Appends c.store (used m'.store) store store'

abbrev pub Captures : Counts → ℕ → ℕ → Cell → Params → List Cell → List ℕ → List ℕ → List ℕ → List ℕ → List ℕ → Type 0
Captures c i j e p args starts live store live' store' = CapturesWhere (λ (P : Program) (m m' : M). Handled P i j e p args m m') c starts live store live' store'

abbrev pub CapturesError : Counts → ℕ → ℕ → Error → List ℕ → List ℕ → List ℕ → List ℕ → List ℕ → Type 0
CapturesError c i j x starts live store live' store' = CapturesWhere (λ (P : Program) (m m' : M). Caught P i j x m m') c starts live store live' store'
