-- One group of a run, and the run: what is left of the definition's run after it.
use Rattle.std.specs.Prelude.{◌≡◌, List, ◌∷◌, ℕ, ◌-◌, ◌<◌, ◌≤◌, pos, length, eqb, Result, Ok, Err}
use Rattle.cells.specs.Cells.{cells}
use Rattle.cells.specs.declared.Cell.{Cell}
use Rattle.fuel.specs.Fuels.{consume, should_continue}
use Rattle.fuel.specs.declared.Fuel.{Fuel}
use Rattle.image.specs.Records.{if?}
use Rattle.image.specs.Fine.{Accepted}
use Rattle.machine.specs.Values.{Program}
use Rattle.machine.specs.Machine.{Frame, running, M}
use Rattle.machine.specs.Calls.{Sizes, world, nothing, Trace, ends, run}
use Rattle.memory.specs.Layout.{written}
use Rattle.plan.specs.Rest.{Appends, Begins}
use Rattle.plan.specs.declared.Counts.{Counts}
use Rattle.slices.specs.Follows.{Follows}
use Rattle.slices.specs.Sliced.{Ended}
use Rattle.slices.specs.declared.Slice.{Slice}
use Rattle.acts.specs.Acted.{Bounded, Resting}
use Rattle.acts.specs.declared.Acted.{Acted}
use Rattle.acts.specs.declared.Acted.TheVariants.{Done, Failed}
use Rattle.refusals.specs.declared.Refusal.{Refusal}
use Rattle.refusals.specs.Refusals.{number}
use Rattle.groups.specs.declared.Group.{Group}
use Rattle.groups.specs.declared.Stand.{Stand}
use Rattle.groups.specs.declared.Stand.TheVariants as stand

-- 0 while it goes on, or its answer
abbrev pub code_of : Stand → ℕ
code_of stand.GoesOn = 0
code_of stand.Done = 100
code_of stand.OutOfFuel = 101
code_of stand.Paused = 102
code_of stand.Host = 103
code_of (stand.Refused r) = number r

abbrev pub stood : Stand → Fuel → ℕ → ℕ → Counts → Group
stood s fuel ticks left c = record { stand = s; turn = record { fuel = fuel; ticks = ticks; left = left; counts = c } }

unfoldable pub charged_group : Fuel → ℕ → ℕ → Counts → Group
charged_group fuel cost ticks c =
    let f = consume (consume fuel (pos cost)) (pos 4) in
    if? (should_continue f) (stood stand.GoesOn f ticks 64 c) (stood stand.OutOfFuel f ticks 64 c)

abbrev pub acted_group : Result Acted Refusal → Fuel → ℕ → ℕ → ℕ → Counts → Group
acted_group (Err r) fuel cost ticks left c = stood (stand.Refused r) fuel ticks left c
acted_group (Ok (Done after)) fuel cost ticks left c = charged_group fuel cost (ticks - 1) after
acted_group (Ok (Failed after)) fuel cost ticks left c = charged_group fuel 0 (ticks - 1) after

-- what is left of the run: it goes on from the machine m, or ends
unfoldable pub rest_of : Program → Sizes → Group → M → Trace
rest_of P z r m = if? (eqb (code_of r.stand) 0) (run P z r.turn.ticks r.turn.fuel r.turn.left m) (ends (code_of r.stand) nothing r.turn.fuel (world m (eqb (code_of r.stand) 103) r.turn.left))

-- the run of t ticks from m has come to where r says, and memory holds its machine at rest
pub record Grouped (P : Program) (z : Sizes) (t : ℕ) (fuel : Fuel) (left : ℕ) (m : M) (r : Group) (B L S : List Cell) (starts : List ℕ) : Type 0 where
  pub machine : M
  pub resting : Resting P z machine r.turn.counts B L S starts
  pub less : r.turn.ticks ≤ t
  pub falls : code_of r.stand ≡ 0 → r.turn.ticks < t
  pub low : r.turn.left ≤ 64
  pub follows : Follows (t - r.turn.ticks) (run P z t fuel left m) (rest_of P z r machine)

-- the same after any number of groups, none too
pub record Came (P : Program) (z : Sizes) (t : ℕ) (fuel : Fuel) (left : ℕ) (m : M) (r : Group) (B L S : List Cell) (starts : List ℕ) : Type 0 where
  pub machine : M
  pub resting : Resting P z machine r.turn.counts B L S starts
  pub less : r.turn.ticks ≤ t
  pub low : r.turn.left ≤ 64
  pub follows : Follows (t - r.turn.ticks) (run P z t fuel left m) (rest_of P z r machine)

-- some machine rests
pub record Groupable (P : Program) (c : Counts) (left : ℕ) (state live store starts args : List ℕ) : Type 0 where
  pub sizes : Sizes
  pub machine : M
  pub resting : Resting P sizes machine c (cells state) (cells live) (cells store) starts
  pub low : left ≤ 64
  pub len : length state ≡ 8256
  pub values : 65536 ≤ length args

-- what a slice leaves as it is: the frames under the running one, their starts, and the sizes
pub record Around (P : Program) (z : Sizes) (frames : ℕ) (L S : List Cell) (starts : List ℕ) (m : M) : Type 0 where
  pub count : frames ≡ length m.frames
  pub some : 0 < frames
  pub begins : Begins m.frames starts
  pub accepted : Accepted P.image P.codes
  pub small : z.live ≤ 4096
  pub low : z.store < 4294967296
  pub table : length starts ≡ 256

-- one that runs a Lucia frame
pub record LuciaTop (m : M) : Type 0 where
  pub top : Frame
  pub below : List Frame
  pub frames : m.frames ≡ top ∷ below
  pub kind : (written top).kind ≡ 64
  pub runs : m.result ≡ running

pub record LuciaGroupable (P : Program) (c : Counts) (left : ℕ) (state live store starts args : List ℕ) : Type 0 where
  pub group : Groupable P c left state live store starts args
  pub top : LuciaTop group.machine

pub record Groups (P : Program) (c : Counts) (fuel : Fuel) (t left : ℕ) (r : Group) (state live store starts state' live' store' starts' : List ℕ) : Type 0 where
  pub acts : (z : Sizes) (m : M) → Resting P z m c (cells state) (cells live) (cells store) starts → left ≤ 64 → Grouped P z t fuel left m r (cells state') (cells live') (cells store') starts'
  pub bounded : Bounded state live store starts state' live' store' starts'
  pub appends : Appends c.store r.turn.counts.store store store'

-- the same of one that runs a Lucia frame
pub record LuciaGroups (P : Program) (c : Counts) (fuel : Fuel) (t left : ℕ) (r : Group) (state live store starts state' live' store' starts' : List ℕ) : Type 0 where
  pub acts : (z : Sizes) (m : M) → Resting P z m c (cells state) (cells live) (cells store) starts → LuciaTop m → left ≤ 64 → Grouped P z t fuel left m r (cells state') (cells live') (cells store') starts'
  pub bounded : Bounded state live store starts state' live' store' starts'
  pub appends : Appends c.store r.turn.counts.store store store'

-- ---- What follows a slice of t ticks that began at m
-- some slice has ended so
pub record Finishable (P : Program) (frames : ℕ) (s : Slice) (state live store starts args : List ℕ) : Type 0 where
  pub sizes : Sizes
  pub machine : M
  pub handle : ℕ
  pub code : ℕ
  pub begun : ℕ
  pub ticks : ℕ
  pub ended : Ended P sizes ticks begun machine handle code s s.end (cells state) (cells live) (cells store)
  pub around : Around P sizes frames (cells live) (cells store) starts machine
  pub low : s.left ≤ 64
  pub len : length state ≡ 8256
  pub values : 65536 ≤ length args

pub record Finishes (P : Program) (frames : ℕ) (s : Slice) (fuel : Fuel) (r : Group) (state live store starts state' live' store' starts' : List ℕ) : Type 0 where
  pub acts : (z : Sizes) (t left : ℕ) (m : M) (handle code : ℕ) → Ended P z t left m handle code s s.end (cells state) (cells live) (cells store) → Around P z frames (cells live) (cells store) starts m → s.left ≤ 64
      → Grouped P z t fuel left m r (cells state') (cells live') (cells store') starts'
  pub bounded : Bounded state live store starts state' live' store' starts'
  pub appends : Appends s.used r.turn.counts.store store store'

-- ---- A run: its answer, steps, fuel and world are the definition's
pub record Ran (P : Program) (z : Sizes) (t : ℕ) (fuel : Fuel) (left : ℕ) (m : M) (r : Group) (B L S : List Cell) (starts : List ℕ) : Type 0 where
  pub machine : M
  pub resting : Resting P z machine r.turn.counts B L S starts
  pub less : r.turn.ticks ≤ t
  pub over : code_of r.stand ≡ 0 → ⊥
  pub follows : Follows (t - r.turn.ticks) (run P z t fuel left m) (ends (code_of r.stand) nothing r.turn.fuel (world machine (eqb (code_of r.stand) 103) r.turn.left))

pub record Runs (P : Program) (c : Counts) (fuel : Fuel) (t left : ℕ) (r : Group) (state live store starts state' live' store' starts' : List ℕ) : Type 0 where
  pub acts : (z : Sizes) (m : M) → Resting P z m c (cells state) (cells live) (cells store) starts → left ≤ 64 → Ran P z t fuel left m r (cells state') (cells live') (cells store') starts'
  pub bounded : Bounded state live store starts state' live' store' starts'
  pub appends : Appends c.store r.turn.counts.store store store'
