-- What a plan would leave, in numbers.
use Rattle.std.specs.Prelude.{◌≡◌, List, ℕ, ◌+◌, ◌-◌, ◌<◌, ◌≤◌, length, get_or, ltb}
use Rattle.cells.specs.Cells.{null}
use Rattle.cells.specs.declared.Cell.{Cell}
use Rattle.image.specs.Records.{if?}
use Rattle.machine.specs.Values.{Program}
use Rattle.machine.specs.Machine.{M}
use Rattle.machine.specs.Calls.{Sizes}
use Rattle.moves.specs.Runs.{end_of}
use Rattle.moves.specs.Frames.{Live, kept_in}
use Rattle.moves.specs.Objects.{last_of}
use Rattle.plan.specs.Rest.{Held}
use Rattle.plan.specs.Plans.{taken_count, listed_cells, Carries}
use Rattle.plan.specs.declared.Counts.{Counts}
use Rattle.plan.specs.declared.Params.{Params}
use Rattle.plan.specs.declared.Plan.{Plan}
use Rattle.plan.specs.declared.Plan.TheVariants.{Starts, Resumes, Handles, Catches, Unhandled, Fails, Receives, Returns, Stays}

-- "then 13, 14, 15": 0 if there is room
unfoldable pub refusal_by : Sizes → Counts → ℕ
refusal_by z c = if? (ltb 256 c.frames) 13 (if? (ltb z.live c.live) 14 (if? (ltb z.store c.store) 15 0))

-- the value of a return goes to the top frame, which must be written
abbrev pub Ready : Plan → M → List Cell → Type 0
Ready (Starts f p) m L = Unit {0}
Ready (Resumes h v) m L = Unit {0}
Ready (Handles i j e p) m L = Unit {0}
Ready (Catches i j x) m L = Unit {0}
Ready (Unhandled e) m L = Unit {0}
Ready (Fails x) m L = Unit {0}
Ready (Receives v) m L = Live m.frames L
Ready (Returns v) m L = Unit {0}
Ready Stays m L = Unit {0}

-- some machine is held that the plan is for
pub record Countable (plan : Plan) (n : ℕ) (c : Counts) (L S : List Cell) (starts : List ℕ) : Type 0 where
  pub program : Program
  pub machine : M
  pub after : M
  pub args : List Cell
  pub given : length args ≡ n
  pub carries : Carries program plan args machine after
  pub held : Held program machine c L S starts
  pub ready : Ready plan machine L
  pub table : c.frames ≤ length starts
  pub few : (c.live < 4294967296) × (length S < 4294967296) × (length L < 4294967296) × (n < 4294967296)
  pub used : c.store ≤ length S

-- ---- The numbers of each plan
abbrev pub started_counts : Counts → ℕ → Params → ℕ → Counts
started_counts c locals p n = record { frames = c.frames + 1; live = c.live + 6 + locals + taken_count p n; store = c.store + listed_cells p n }

abbrev pub resumed_counts : Counts → ℕ → List Cell → Counts
resumed_counts c h S = record { frames = c.frames + (get_or S h null).number; live = c.live + (end_of (kept_in S (last_of h S)) - (h + 1)) + 1; store = c.store }

abbrev pub handled_counts : Counts → ℕ → Params → ℕ → List Cell → List ℕ → Counts
handled_counts c i p n L starts =
    let g = kept_in L (get_or starts i 0) in
    record { frames = i + 1; live = get_or starts i 0 + 6 + g.locals + g.stack + 2 + taken_count p n; store = c.store + 1 + (c.live - get_or starts (i + 1) 0) + listed_cells p n }

abbrev pub received_counts : Counts → List Cell → List ℕ → Counts
received_counts c L starts =
    let g = kept_in L (get_or starts (c.frames - 1) 0) in
    record { frames = c.frames; live = get_or starts (c.frames - 1) 0 + 6 + g.locals + g.stack + 1; store = c.store }

-- ---- What the reads need
pub record Resumable (c : Counts) (h : ℕ) (S : List Cell) : Type 0 where
  pub there : h < length S
  pub some : 0 < (get_or S h null).number
  pub inside : end_of (kept_in S (last_of h S)) ≤ length S
  pub behind : h + 1 ≤ end_of (kept_in S (last_of h S))
  pub opens : last_of h S + 6 ≤ length S
  pub few : (c.frames < 4294967296) × (c.live < 4294967296) × (length S < 4294967296)

pub record Handleable (c : Counts) (i n : ℕ) (L : List Cell) (starts : List ℕ) : Type 0 where
  pub within : i + 1 < length starts
  pub opens : end_of (kept_in L (get_or starts i 0)) ≤ length L
  pub above : get_or starts (i + 1) 0 ≤ c.live
  pub few : (c.live < 4294967296) × (c.store < 4294967296) × (length L < 4294967296) × (n < 4294967296)

pub record Receivable (c : Counts) (L : List Cell) (starts : List ℕ) : Type 0 where
  pub some : 0 < c.frames
  pub within : c.frames ≤ length starts
  pub opens : end_of (kept_in L (get_or starts (c.frames - 1) 0)) ≤ length L
  pub few : length L < 4294967296
