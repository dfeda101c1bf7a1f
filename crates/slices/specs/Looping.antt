-- The loop of a slice: its invariant, what the calls in it require, and one law for each way out.
use Rattle.std.specs.Prelude.{◌≡◌, refl, List, ℕ, ◌+◌, ◌-◌, ◌*◌, ◌<◌, ◌≤◌, length, get_or, Result, Ok, Err}
use Rattle.std.proofs.Common.{sym, subst, ◌∙◌, arith}
use Rattle.std.proofs.Math.Path.{ap}
use Rattle.cells.specs.Cells.{cells}
use Rattle.cells.specs.declared.Cell.{Cell}
use Rattle.image.specs.Program.{Code, no_op}
use Rattle.image.proofs.Parts.{length_tab}
use Rattle.image.specs.Layout.{field, opcode_at, code_at}
use Rattle.image.specs.Fine.{Accepted}
use Rattle.image.specs.declared.Op.{Op}
use Rattle.image.specs.declared.Row.{Row}
use Rattle.program.specs.Looks.{RowOf, body_at, look_opcode}
use Rattle.scan.specs.Tables.{program_in}
use Rattle.scan.specs.Values.{code_in}
use Rattle.machine.specs.Values.{Program, code_of}
use Rattle.machine.specs.Machine.{M}
use Rattle.machine.specs.Calls.{Sizes}
use Rattle.machine.proofs.Store.{same_code}
use Rattle.moves.specs.declared.Running as registers
use Rattle.plan.specs.Rest.{Same, Appends}
use Rattle.plan.proofs.RestLaws.{same_refl, same_join}
use Rattle.plan.proofs.Appended.{appends_refl, appends_two}
use Rattle.plan.specs.declared.Error.{Error}
use Rattle.steps.specs.declared.After.{After}
use Rattle.steps.specs.declared.After.TheVariants as after
use Rattle.steps.specs.declared.Closing.{Closing}
use Rattle.steps.specs.declared.Quick.{Quick}
use Rattle.steps.specs.declared.Quick.TheVariants.{Goes, Jumps, Other}
use Rattle.steps.specs.Quickly.{Quickly, goes_steps, jumps_steps, other_same}
use Rattle.steps.specs.Stepped.{Given, ReadyWith, Stepped, used_after, Steps}
use Rattle.slices.specs.Sliced.{past_of, At, Sliceable, Reached, Ended, Slices, Quickens}
use Rattle.slices.specs.SlicedLaws.{slice_of, past_frame, at_given, reached_first, reached_end, reached_more, reached_on, reached_jump, reached_spent}
use Rattle.slices.specs.declared.End.TheVariants.{Paused, Spent, Refused, Throws, Closes}
use Rattle.slices.specs.declared.Slice.{Slice}
use Rattle.refusals.specs.declared.Refusal.{Refusal}

-- ---- The next opcode, by the tables
module _ (image rows constants inner : List ℕ) (codes : ℕ) {z : Sizes} {m : M} {g : registers.Running} {handle code u : ℕ} {B L S : List Cell} (x : At (program_in image rows constants inner codes) z m g handle code u B L S) where
  at_code : x.frame.code ≡ code_at image rows constants inner code
  at_code =
      let k : x.frame.number < codes = omega (arith, x.inside.known, length_tab codes (code_at image rows constants inner)) in
      x.inside.code ∙ code_in image rows constants inner codes x.frame.number k ∙ ap (code_at image rows constants inner) (sym x.number)

  at_place : g.place ≡ x.inside.place
  at_place = x.inside.runs.counts.place ∙ sym x.at

  -- the frame stands inside its code
  at_within : x.inside.place < length (code_of (program_in image rows constants inner codes) x.frame.number).opcodes
  at_within =
      let i = x.inside in
      let s = (rw i.frames at i.fits.frames).0.formed.stands in
      let e : s.code ≡ x.frame.number = same_code s.closure_there i.closure_there in
      rw e at s.place

  at_field : g.place < field rows code 1
  at_field =
      let e : length (code_of (program_in image rows constants inner codes) x.frame.number).opcodes ≡ field rows code 1 =
      ap (λ (c : Code). length c.opcodes) (sym x.inside.code ∙ at_code) ∙ length_tab _ _ in
      omega (arith, at_within, at_place)

  at_opcode : {o : Op} → o ≡ get_or (body_at image rows code).opcodes g.place no_op → o ≡ get_or x.frame.code.opcodes x.inside.place no_op
  at_opcode e = e ∙ sym (ap (λ (c : Code). get_or c.opcodes g.place no_op) at_code) ∙ ap (λ (p : ℕ). get_or x.frame.code.opcodes p no_op) at_place

pub code_low : {P : Program} {g : registers.Running} {handle code u : ℕ} {state live store : List ℕ} → Sliceable P g handle code u state live store → code < 4294967296
code_low b = omega (arith, b.at.number, b.at.inside.known, b.accepted.few)

-- of every machine that memory may hold at the beginning
abbrev pub Whenever : Program → registers.Running → ℕ → ℕ → ℕ → List ℕ → List ℕ → List ℕ → (Sizes → M → Type 0) → Type 0
Whenever P first handle code taken state live store Q =
    (z : Sizes) (m : M) → At P z m first handle code taken (cells state) (cells live) (cells store) → Accepted P.image P.codes → z.live ≤ 4096 → Q z m

-- ---- What holds at each turn: what is left of the run, after the opcodes taken, is the whole run
pub record Looping (image rows constants inner : List ℕ) (codes : ℕ) (first : registers.Running) (handle code taken begun given : ℕ) (state live store : List ℕ) (g : registers.Running) (u left ticks : ℕ) (state' live' store' : List ℕ) : Type 0 where
  pub began : Sliceable (program_in image rows constants inner codes) first handle code taken state live store
  pub reached : Whenever (program_in image rows constants inner codes) first handle code taken state live store
      (λ (z : Sizes) (m : M). Reached (program_in image rows constants inner codes) z given begun m handle code (slice_of Paused g u left ticks) (cells state') (cells live') (cells store'))
  pub lower : left ≤ begun
  pub same_state : Same state state'
  pub same_live : Same live live'
  pub appends : Appends taken u store store'

pub looping_first : (image rows constants inner : List ℕ) (codes : ℕ) {first : registers.Running} {handle code taken : ℕ} {state live store : List ℕ} (begun given : ℕ) → Sliceable (program_in image rows constants inner codes) first handle code taken state live store
    → Looping image rows constants inner codes first handle code taken begun given state live store first taken begun given state live store
looping_first image rows constants inner codes {taken = taken} {state} {live} {store} begun given b = record {
  began = b;
  reached = λ z m x a s. reached_first Paused x;
  lower = omega arith;
  same_state = same_refl state;
  same_live = same_refl live;
  appends = appends_refl taken store;
}

module _ {image rows constants inner : List ℕ} {codes : ℕ} {first : registers.Running} {handle code taken begun given : ℕ} {state live store : List ℕ} {g : registers.Running} {u left ticks : ℕ} {state' live' store' : List ℕ}
    (i : Looping image rows constants inner codes first handle code taken begun given state live store g u left ticks state' live' store') where
  -- some machine has come to where memory holds it now
  some_reached : Reached (program_in image rows constants inner codes) i.began.sizes given begun i.began.machine handle code (slice_of Paused g u left ticks) (cells state') (cells live') (cells store')
  some_reached = i.reached i.began.sizes i.began.machine i.began.at i.began.accepted i.began.small

  -- ---- what the calls require
  pub some_sliceable : Sliceable (program_in image rows constants inner codes) g handle code u state' live' store'
  some_sliceable =
      let b = i.began in
      record { sizes = b.sizes; machine = some_reached.machine; at = some_reached.at; accepted = b.accepted; small = b.small; few = rw i.appends.len b.few; block = i.same_state.len ∙ b.block }

  pub opcode_there : (code < 4294967296) × (g.place < field rows code 1)
  opcode_there = (code_low some_sliceable, at_field image rows constants inner codes some_reached.at)

  -- the next opcode, by the place where the opcodes of the code begin
  pub opcode_from : {r : Row} {o : Op} → RowOf rows code r → o ≡ opcode_at image (r.place + 14) g.place → o ≡ get_or (body_at image rows code).opcodes g.place no_op
  opcode_from r = look_opcode image rows code r g.place opcode_there.1

  pub place_low : g.place < 4294967296
  place_low =
      let x = some_reached.at in
      let f = i.began.accepted.fine x.frame.number x.inside.known in
      omega (arith, f.opcodes, at_within image rows constants inner codes x, at_place image rows constants inner codes x)

  module _ {h : registers.Running} {o : Op} (p : h ≡ past_of g) (e : o ≡ get_or (body_at image rows code).opcodes g.place no_op) where
    given_at : {z : Sizes} {m : M} (x : At (program_in image rows constants inner codes) z m g handle code u (cells state') (cells live') (cells store')) → Accepted image (program_in image rows constants inner codes).codes → z.live ≤ 4096
        → Given (program_in image rows constants inner codes) z m (past_frame x.frame) h handle code o (cells live') (cells store')
    given_at x a s = rw p (at_given x a s (at_opcode image rows constants inner codes x e))

    pub step_ready : ReadyWith (program_in image rows constants inner codes) h handle code u o live' store' × (length state' ≡ 8256)
    step_ready =
        let b = some_sliceable in (
          record {
            ready = record { sizes = b.sizes; machine = b.machine; frame = past_frame b.at.frame; given = given_at b.at b.accepted b.small };
            uses = b.at.uses;
            few = b.few;
          },
          b.block,
        )

    -- ---- what a step leaves
    module _ (some : 0 < ticks) {n : Result After Refusal} {state'' live'' store'' : List ℕ} (s : Steps (program_in image rows constants inner codes) h handle code u o n state' live' store' state'' live'' store'') where
      -- of the machine that the run has come to
      left_by_lem : {z : Sizes} {m : M} (x : Reached (program_in image rows constants inner codes) z given begun m handle code (slice_of Paused g u left ticks) (cells state') (cells live') (cells store'))
          → Accepted image (program_in image rows constants inner codes).codes → z.live ≤ 4096
          → Stepped (program_in image rows constants inner codes) z x.machine (past_frame x.at.frame) handle code u o n state' live' store' state'' live'' store''
      left_by_lem {z} x a l = s.next z x.machine (past_frame x.at.frame) (given_at x.at a l) x.at.block x.at.uses

      appends_by : {u' : ℕ} → used_after u n ≡ u' → Appends taken u' store store''
      appends_by q = appends_two i.appends (subst (λ (w : ℕ). Appends u w store' store'') q s.appends)

      -- the loop goes on, or ends, with that
      loops : {g' : registers.Running} {u' left' ticks' : ℕ} → left' ≤ begun → used_after u n ≡ u'
          → Whenever (program_in image rows constants inner codes) first handle code taken state live store
          (λ (z : Sizes) (m : M). Reached (program_in image rows constants inner codes) z given begun m handle code (slice_of Paused g' u' left' ticks') (cells state'') (cells live'') (cells store''))
          → Looping image rows constants inner codes first handle code taken begun given state live store g' u' left' ticks' state'' live'' store''
      loops l q f = record {
        began = i.began;
        reached = f;
        lower = l;
        same_state = same_join i.same_state s.same_state;
        same_live = same_join i.same_live s.same_live;
        appends = appends_by q;
      }

      ends : {r : Slice} (r' : Slice) → r ≡ r' → r'.left ≤ begun → used_after u n ≡ r'.used
          → Whenever (program_in image rows constants inner codes) first handle code taken state live store
          (λ (z : Sizes) (m : M). Ended (program_in image rows constants inner codes) z given begun m handle code r' r'.end (cells state'') (cells live'') (cells store''))
          → Slices (program_in image rows constants inner codes) first handle code taken begun given r state live store state'' live'' store''
      ends r' w l q f = rw w (record {
        ends = f;
        lower = l;
        same_state = same_join i.same_state s.same_state;
        same_live = same_join i.same_live s.same_live;
        appends = appends_by q;
      })

      module _ {g' : registers.Running} {u' : ℕ} (q : n ≡ Ok (after.On g' u')) where
        pub loops_on : (left ≡ 0 → ⊥) → Looping image rows constants inner codes first handle code taken begun given state live store g' u' (left - 1) (ticks - 1) state'' live'' store''
        loops_on ne = loops (omega (arith, i.lower)) (ap (used_after u) q) (λ z m x a l. let y = i.reached z m x a l in reached_on y some Paused (rw q at (left_by_lem y a l)) (omega arith))

        pub ends_spent : {r : Slice} → left ≡ 0 → r ≡ slice_of Spent g' u' left (ticks - 1) → Slices (program_in image rows constants inner codes) first handle code taken begun given r state live store state'' live'' store''
        ends_spent none w = ends (slice_of Spent g' u' left (ticks - 1)) w i.lower (ap (used_after u) q) (λ z m x a l. let y = i.reached z m x a l in reached_spent y some Spent left (rw q at (left_by_lem y a l)) none)

      pub loops_jumped : {g' : registers.Running} → n ≡ Ok (after.Jumped g') → Looping image rows constants inner codes first handle code taken begun given state live store g' u left (ticks - 1) state'' live'' store''
      loops_jumped q = loops i.lower (ap (used_after u) q) (λ z m x a l. let y = i.reached z m x a l in reached_jump y some Paused (rw q at (left_by_lem y a l)))

      pub ends_throws : {g' : registers.Running} {x : Error} {r : Slice} → n ≡ Ok (after.Throws g' x) → r ≡ slice_of (Throws g' x) g u left ticks → Slices (program_in image rows constants inner codes) first handle code taken begun given r state live store state'' live'' store''
      unfolding reached_end
      ends_throws {g'} {x} q w =
          ends (slice_of (Throws g' x) g u left ticks) w i.lower (ap (used_after u) q)
          (λ z m k a l.
          let y = i.reached z m k a l in
          let d = rw q at (left_by_lem y a l) in
          let t = d.0 in
          rw (d.1.state_is, d.1.live_is, d.1.store_is)
          (reached_end (Throws g' x) y, some, record { error = t.error; place = t.place; locals = t.locals; stack = t.stack; handlers = t.handlers; is = t.is; throws = t.throws; runs = t.runs }))

      pub ends_refused : {k : Refusal} {r : Slice} → n ≡ Err k → r ≡ slice_of (Refused k) g u left ticks → Slices (program_in image rows constants inner codes) first handle code taken begun given r state live store state'' live'' store''
      unfolding reached_end
      ends_refused {k} q w =
          ends (slice_of (Refused k) g u left ticks) w i.lower (ap (used_after u) q)
          (λ z m x a l.
          let y = i.reached z m x a l in
          let d = rw q at (left_by_lem y a l) in
          rw (d.1.state_is, d.1.live_is, d.1.store_is) (reached_end (Refused k) y, some, d.0))

      pub ends_closes : {k : Closing} {r : Slice} → n ≡ Ok (after.Closing k) → r ≡ slice_of (Closes k o.operand) g u left ticks → Slices (program_in image rows constants inner codes) first handle code taken begun given r state live store state'' live'' store''
      unfolding reached_end
      ends_closes {k} q w =
          ends (slice_of (Closes k o.operand) g u left ticks) w i.lower (ap (used_after u) q)
          (λ z m x a l.
          let y = i.reached z m x a l in
          let d = rw q at (left_by_lem y a l) in
          let c = at_opcode image rows constants inner codes y.at e in
          rw (d.1.state_is, d.1.live_is, d.1.store_is)
          (reached_end (Closes k o.operand) y, some, record { number = rw c at d.0; operand = ap (λ (b : Op). b.operand) c }))

    -- ---- what an opcode done at once leaves
    module _ (some : 0 < ticks) {a : Quick} {live'' : List ℕ} (k : Quickly (program_in image rows constants inner codes) h handle code o a live' store' live'') {g' : registers.Running} where
      pub loops_goes : a ≡ Goes g' → (left ≡ 0 → ⊥) → Looping image rows constants inner codes first handle code taken begun given state live store g' u (left - 1) (ticks - 1) state' live'' store'
      loops_goes q ne = loops_on some (goes_steps k u state' q) refl ne

      pub loops_jumps : a ≡ Jumps g' → Looping image rows constants inner codes first handle code taken begun given state live store g' u left (ticks - 1) state' live'' store'
      loops_jumps q = loops_jumped some (jumps_steps k u state' q) refl

  -- ---- what opcodes done at once leave
  module _ {q : Slice} {live'' : List ℕ} (k : Quickens (program_in image rows constants inner codes) g handle code u left ticks q state' live' store' live'') where
    pub quick_less : q.ticks ≤ ticks
    quick_less = let b = some_sliceable in (k.reached b.sizes b.machine b.at b.accepted b.small).less

    pub loops_quick : Looping image rows constants inner codes first handle code taken begun given state live store q.g u q.left q.ticks state' live'' store'
    loops_quick = record {
      began = i.began;
      reached = λ z m x a l. let y = i.reached z m x a l in reached_more Paused y (k.reached z y.machine y.at a l) k.uses;
      lower = omega (arith, i.lower, k.lower);
      same_state = i.same_state;
      same_live = same_join i.same_live k.same_live;
      appends = i.appends;
    }

  pub ends_paused : {r : Slice} → ticks ≤ 0 → r ≡ slice_of Paused g u left ticks → Slices (program_in image rows constants inner codes) first handle code taken begun given r state live store state' live' store'
  ends_paused none w = rw w (record {
    ends = λ z m x a l. (i.reached z m x a l, omega arith);
    lower = i.lower;
    same_state = i.same_state;
    same_live = i.same_live;
    appends = i.appends;
  })

-- ---- The loop of opcodes done at once, where it ends
module _ {image rows constants inner : List ℕ} {codes : ℕ} {first : registers.Running} {handle code u begun given : ℕ} {state live store : List ℕ} {g : registers.Running} {left ticks : ℕ} {live' : List ℕ}
    (i : Looping image rows constants inner codes first handle code u begun given state live store g u left ticks state live' store) {r : Slice} (w : r ≡ slice_of Paused g u left ticks) where
  pub quickens : Quickens (program_in image rows constants inner codes) first handle code u begun given r state live store live'
  quickens = rw w (record { reached = i.reached; uses = refl; lower = i.lower; same_live = i.same_live })

  pub quickens_other : {h : registers.Running} {o : Op} {a : Quick} {live'' : List ℕ} → Quickly (program_in image rows constants inner codes) h handle code o a live' store live'' → a ≡ Other → Quickens (program_in image rows constants inner codes) first handle code u begun given r state live store live''
  quickens_other k q = rw (other_same k q) quickens
