-- A plan judged and carried out, in memory: refused, the machine is at rest as it was; done, the machine that the step leads to is.
use Rattle.std.specs.Prelude.{◌≡◌, List, ◌∷◌, ℕ, ◌+◌, ◌-◌, ◌<◌, ◌≤◌, length, get_or, Option, None, Some, Result, Ok, Err}
use Rattle.cells.specs.Cells.{room, cells}
use Rattle.cells.specs.declared.Cell.{Cell}
use Rattle.image.specs.Program.{no_op}
use Rattle.image.specs.Fine.{Accepted}
use Rattle.machine.specs.Values as v
use Rattle.machine.specs.Values.{Program}
use Rattle.machine.specs.Machine.{Frame, M, with_frames, used}
use Rattle.machine.specs.Opcodes.{Running, Action, throws, takes, next_action}
use Rattle.machine.specs.Calls.{Sizes, does, stops, outcome, Pace, failing, pace_of}
use Rattle.machine.proofs.FormLaws.{MachineFits}
use Rattle.memory.specs.Layout.{written, flat}
use Rattle.moves.specs.Runs.{Top, Settles, end_of, opened}
use Rattle.moves.specs.declared.Running as registers
use Rattle.plan.specs.Rest.{Same, Appends, counts_of, Begins, Held, Block, Rests}
use Rattle.plan.specs.Plans.{Carries}
use Rattle.plan.specs.Inside.{Inside, Threw}
use Rattle.plan.specs.declared.Counts.{Counts}
use Rattle.plan.specs.declared.Error.{Error}
use Rattle.plan.specs.declared.Plan.{Plan}
use Rattle.counts.specs.Counted.{refusal_by, Ready}
use Rattle.refusals.specs.declared.Refusal.{Refusal}
use Rattle.refusals.specs.Refusals.{number}
use Rattle.acts.specs.declared.Acted.{Acted}
use Rattle.acts.specs.declared.Acted.TheVariants.{Done, Failed}

abbrev pub rooms_of : List ℕ → List ℕ → Sizes
rooms_of live store = record { live = room live; store = room store }

-- ---- A plan for m, which leads to m', is judged by what m' has
abbrev pub JudgedAs : Sizes → M → Result Counts Refusal → Type 0
JudgedAs z m' (Err r) = (number r ≡ refusal_by z (counts_of m')) × (0 < number r)
JudgedAs z m' (Ok c) = (refusal_by z (counts_of m') ≡ 0) × (c ≡ counts_of m')

-- the numbers that every plan comes with
pub record Small (c : Counts) (n : ℕ) (live store starts : List ℕ) : Type 0 where
  pub table : c.frames ≤ length starts
  pub whole : length starts ≡ 256
  pub few : (c.live < 4294967296) × (room store < 4294967296) × (room live < 4294967296) × (n < 4294967296)
  pub used : c.store ≤ room store

pub record Judgeable (plan : Plan) (n : ℕ) (c : Counts) (live store starts : List ℕ) : Type 0 where
  pub program : Program
  pub machine : M
  pub after : M
  pub args : List Cell
  pub given : length args ≡ n
  pub carries : Carries program plan args machine after
  pub held : Held program machine c (cells live) (cells store) starts
  pub ready : Ready plan machine (cells live)
  pub small : Small c n live store starts

pub record Judges (plan : Plan) (n : ℕ) (c : Counts) (live store starts : List ℕ) (r : Result Counts Refusal) : Type 0 where
  pub judged : (P : Program) (m m' : M) (args : List Cell) → length args ≡ n → Carries P plan args m m' → Held P m c (cells live) (cells store) starts → Ready plan m (cells live) → JudgedAs (rooms_of live store) m' r

-- ---- A plan that needs no judging: the frames of a continuation, where there is room however much its last frame keeps
-- it puts `more` frames on top, and nothing else
pub record Eased (plan : Plan) (n : ℕ) (c : Counts) (live store starts : List ℕ) (more : ℕ) : Type 0 where
  pub after : Counts
  pub judges : Judges plan n c live store starts (Ok after)
  pub frames : after.frames ≡ c.frames + more
  pub uses : after.store ≡ c.store
  pub runs : (P : Program) (args : List Cell) (m m' : M) → Carries P plan args m m' → m'.result ≡ m.result

-- None: this is not known, or there is no frame
abbrev pub Eases : Plan → ℕ → Counts → List ℕ → List ℕ → List ℕ → Option ℕ → Type 0
Eases plan n c live store starts None = Unit {0}
Eases plan n c live store starts (Some more) = (0 < more) × Eased plan n c live store starts more

-- so many frames stand in L, the top one where the table says
pub record Standing (L : List Cell) (starts : List ℕ) (frames : ℕ) : Type 0 where
  pub some : 0 < frames
  pub table : frames ≤ length starts
  pub inside : end_of (opened L (get_or starts (frames - 1) 0)) ≤ length L
  pub small : length L < 4294967296

abbrev pub standing_counts : List Cell → List ℕ → ℕ → ℕ → Counts
standing_counts L starts frames u = record { frames = frames; live = end_of (opened L (get_or starts (frames - 1) 0)); store = u }

-- ---- A plan for what is left of m once its top frame, in g, is changed or gone
-- the top frame as it was, and as it is left
pub record Changed (m m_f : M) (g left : registers.Running) (L : List Cell) : Type 0 where
  pub top : Frame
  pub left_top : Frame
  pub below : List Frame
  pub frames : m.frames ≡ top ∷ below
  pub runs : Top (written top) (flat below) g L
  pub leaves : m_f ≡ with_frames (left_top ∷ below) m
  pub runs_left : Top (written left_top) (flat below) left L

pub record Gone (m m_f : M) (g : registers.Running) (L : List Cell) : Type 0 where
  pub top : Frame
  pub below : List Frame
  pub frames : m.frames ≡ top ∷ below
  pub runs : Top (written top) (flat below) g L
  pub leaves : m_f ≡ with_frames below m

abbrev pub ActedOn : Sizes → M → M → Result Counts Refusal → List Cell → List Cell → List Cell → List ℕ → Type 0
ActedOn z m m' (Err r) B L S starts = (number r ≡ refusal_by z (counts_of m')) × (0 < number r) × Rests m (counts_of m) B L S starts
ActedOn z m m' (Ok c) B L S starts = (refusal_by z (counts_of m') ≡ 0) × (c ≡ counts_of m') × Rests m' c B L S starts

-- no byte behind the cells changes, and the table keeps its length
pub record Bounded (state live store starts state' live' store' starts' : List ℕ) : Type 0 where
  pub same_state : Same state state'
  pub same_live : Same live live'
  pub same_store : Same store store'
  pub table : length starts' ≡ length starts

-- how many cells of the store are used then
abbrev pub used_by : ℕ → Result Counts Refusal → ℕ
used_by u (Err r) = u
used_by u (Ok c) = c.store

pub record Overable (plan : Plan) (args : List Cell) (c : Counts) (g left : registers.Running) (state live store starts : List ℕ) : Type 0 where
  pub program : Program
  pub machine : M
  pub leaves : M
  pub after : M
  pub changed : Changed machine leaves g left (cells live)
  pub held : Held program leaves c (cells live) (cells store) starts
  pub ready : Ready plan leaves (cells live)
  pub carries : Carries program plan args leaves after
  pub block : Block machine (cells state)
  pub small : Small c (length args) live store starts
  pub places : (g.place < 4294967296) × (left.place < 4294967296)
  pub len : length state ≡ 8256

pub record ActsOver (plan : Plan) (args : List Cell) (c : Counts) (g left : registers.Running) (r : Result Counts Refusal) (state live store starts state' live' store' starts' : List ℕ) : Type 0 where
  pub acts : (P : Program) (m m_f m' : M) → Changed m m_f g left (cells live) → Held P m_f c (cells live) (cells store) starts → Ready plan m_f (cells live) → Carries P plan args m_f m' → Block m (cells state)
      → ActedOn (rooms_of live store) m m' r (cells state') (cells live') (cells store') starts'
  pub bounded : Bounded state live store starts state' live' store' starts'
  pub appends : Appends c.store (used_by c.store r) store store'

pub record Belowable (plan : Plan) (args : List Cell) (c : Counts) (g : registers.Running) (state live store starts : List ℕ) : Type 0 where
  pub program : Program
  pub machine : M
  pub leaves : M
  pub after : M
  pub gone : Gone machine leaves g (cells live)
  pub held : Held program leaves c (cells live) (cells store) starts
  pub begins : Begins machine.frames starts
  pub ready : Ready plan leaves (cells live)
  pub carries : Carries program plan args leaves after
  pub block : Block machine (cells state)
  pub small : Small c (length args) live store starts
  pub places : g.place < 4294967296
  pub len : length state ≡ 8256

pub record ActsBelow (plan : Plan) (args : List Cell) (c : Counts) (g : registers.Running) (r : Result Counts Refusal) (state live store starts state' live' store' starts' : List ℕ) : Type 0 where
  pub acts : (P : Program) (m m_f m' : M) → Gone m m_f g (cells live) → Held P m_f c (cells live) (cells store) starts → Begins m.frames starts → Ready plan m_f (cells live) → Carries P plan args m_f m' → Block m (cells state)
      → ActedOn (rooms_of live store) m m' r (cells state') (cells live') (cells store') starts'
  pub bounded : Bounded state live store starts state' live' store' starts'
  pub appends : Appends c.store (used_by c.store r) store store'

-- ---- A plan for what is left of the running frame, if anything is
abbrev pub Leavable : Option registers.Running → List ℕ → Type 0
Leavable None live = Unit {0}
Leavable (Some g) live = (g.base + 6 ≤ room live) × (g.place < 4294967296)

abbrev pub settled_left : Option registers.Running → List ℕ → List ℕ → Type 0
settled_left None live live' = live' ≡ live
settled_left (Some g) live live' = Settles g live live'

pub record SettlesLeft (left : Option registers.Running) (live live' : List ℕ) : Type 0 where
  pub settles : settled_left left live live'

abbrev pub actable : Plan → List Cell → Counts → registers.Running → Option registers.Running → List ℕ → List ℕ → List ℕ → List ℕ → Type 0
actable plan args c g None = Belowable plan args c g
actable plan args c g (Some left) = Overable plan args c g left

pub record Actable (plan : Plan) (args : List Cell) (c : Counts) (g : registers.Running) (left : Option registers.Running) (state live store starts : List ℕ) : Type 0 where
  pub able : actable plan args c g left state live store starts

abbrev pub acts_on : Plan → List Cell → Counts → registers.Running → Option registers.Running → Result Counts Refusal → List ℕ → List ℕ → List ℕ → List ℕ → List ℕ → List ℕ → List ℕ → List ℕ → Type 0
acts_on plan args c g None r = ActsBelow plan args c g r
acts_on plan args c g (Some left) r = ActsOver plan args c g left r

pub record ActsOn (plan : Plan) (args : List Cell) (c : Counts) (g : registers.Running) (left : Option registers.Running) (r : Result Counts Refusal) (state live store starts state' live' store' starts' : List ℕ) : Type 0 where
  pub on : acts_on plan args c g left r state live store starts state' live' store' starts'

-- ---- A step that closes its slice
-- the step is accepted at a pace, and memory has what it leads to
pub record ActsAs (P : Program) (z : Sizes) (m : M) (pace : Pace) (c : Counts) (B L S : List Cell) (starts : List ℕ) : Type 0 where
  pub action : Action
  pub after : M
  pub is : outcome P z (next_action P m m.frames) m ≡ does action after
  pub paces : pace_of action ≡ pace
  pub rests : Rests after c B L S starts

-- refused, done at a pace, or its own error thrown
abbrev pub Acts : Program → Sizes → M → Pace → Result Acted Refusal → List Cell → List Cell → List Cell → List ℕ → Type 0
Acts P z m pace (Err r) B L S starts = (outcome P z (next_action P m m.frames) m ≡ stops (number r)) × Rests m (counts_of m) B L S starts
Acts P z m pace (Ok (Done c)) B L S starts = ActsAs P z m pace c B L S starts
Acts P z m pace (Ok (Failed c)) B L S starts = ActsAs P z m failing c B L S starts

-- a plan that is carried out is a step that is done, or the throw of its own error
abbrev pub as_done : Result Counts Refusal → Result Acted Refusal
as_done (Err r) = Err r
as_done (Ok c) = Ok (Done c)

abbrev pub as_failed : Result Counts Refusal → Result Acted Refusal
as_failed (Err r) = Err r
as_failed (Ok c) = Ok (Failed c)

-- how many cells of the store are used then
abbrev pub used_then : ℕ → Result Acted Refusal → ℕ
used_then u (Err r) = u
used_then u (Ok (Done c)) = c.store
used_then u (Ok (Failed c)) = c.store

-- the machine m runs the frame in g, with these counts
pub record Busy (P : Program) (z : Sizes) (m : M) (g : registers.Running) (u frames : ℕ) (B L S : List Cell) (starts : List ℕ) : Type 0 where
  pub frame : Running
  pub inside : Inside P z m frame g L S
  pub at : inside.place ≡ frame.place
  pub uses : u ≡ used m.store
  pub block : Block m B
  pub begins : Begins m.frames starts
  pub count : frames ≡ length m.frames
  pub accepted : Accepted P.image P.codes
  pub small : z.live ≤ 4096
  pub low : z.store < 4294967296
  pub table : length starts ≡ 256

abbrev pub left_of : registers.Running → ℕ → registers.Running
left_of g n = record { base = g.base; locals = g.locals; handlers = g.handlers; stack = g.stack - n; place = g.place + 1 }

-- an error is thrown
abbrev pub Thrown : Program → M → Running → Error → registers.Running → List Cell → Type 0
Thrown P m r x left L = Threw (λ (y : v.Error) (F : List Frame). next_action P m m.frames ≡ takes (throws y F)) r x left L

pub record Failable (P : Program) (frames u : ℕ) (g left : registers.Running) (x : Error) (state live store starts : List ℕ) : Type 0 where
  pub sizes : Sizes
  pub machine : M
  pub busy : Busy P sizes machine g u frames (cells state) (cells live) (cells store) starts
  pub threw : Thrown P machine busy.frame x left (cells live)
  pub place : left.place < 4294967296
  pub len : length state ≡ 8256

pub record Fails (P : Program) (frames u : ℕ) (g left : registers.Running) (x : Error) (r : Result Counts Refusal) (state live store starts state' live' store' starts' : List ℕ) : Type 0 where
  pub acts : (z : Sizes) (m : M) (b : Busy P z m g u frames (cells state) (cells live) (cells store) starts) → Thrown P m b.frame x left (cells live)
      → Acts P z m failing (as_failed r) (cells state') (cells live') (cells store') starts'
  pub bounded : Bounded state live store starts state' live' store' starts'
  pub appends : Appends u (used_by u r) store store'

-- the next opcode of the running frame
pub record Opcode (r : Running) (p op x : ℕ) : Type 0 where
  pub number : (get_or r.code.opcodes p no_op).number ≡ op
  pub operand : (get_or r.code.opcodes p no_op).operand ≡ x

-- a machine in form at rest
pub record Resting (P : Program) (z : Sizes) (m : M) (c : Counts) (B L S : List Cell) (starts : List ℕ) : Type 0 where
  pub rests : Rests m c B L S starts
  pub fits : MachineFits P z m
  pub room : length L ≡ z.live
  pub room_store : length S ≡ z.store
  pub accepted : Accepted P.image P.codes
  pub small : z.live ≤ 4096
  pub low : z.store < 4294967296
  pub table : length starts ≡ 256
