-- Calls and returns: the operands are read off the running frame, and what is planned over what is left of it is what the machine does.
use Rattle.std.specs.Prelude.{◌≡◌, Bool, not, ℕ, ◌+◌, ◌-◌, ◌*◌, ◌<◌, ◌≤◌, length, get_or, take, Result, Ok, Err}
use Rattle.std.proofs.Math.Path.{refl, ap, subst}
use Rattle.std.proofs.Common.{sym, ◌∙◌, arith, length-take-le, lt-ltb, le-ltb}
use mathlib.Core.List.{List, reverse}
use Rattle.std.proofs.Math.Bool.{true, false}
use Rattle.std.proofs.Math.ListN.{drop}
use Rattle.std.proofs.lemmas.List.{length-reverse}
use Rattle.std.proofs.Math.Seq.{paste}
use Rattle.std.proofs.lemmas.Bool.{not-true, not-false}
use Rattle.cells.specs.Cells.{null, room, cells, Sound, Writes}
use Rattle.cells.specs.declared.Cell.{Cell}
use Rattle.image.specs.Records.{both}
use Rattle.machine.specs.Values.{Program, type_of, meta_un_operator}
use Rattle.machine.specs.Machine.{Frame, Object, M, with_frames, function_of, call_function}
use Rattle.machine.specs.Opcodes.{Running, calls, throws, doing, stacked, Taken, takes, refuses, Operands, operands, too_few, operands_of, callable, call_taken, opcode_action, next_action}
use Rattle.machine.specs.Calls.{Sizes, handlers_left, outcome, closing, failing, pace_of, is_value}
use Rattle.memory.specs.Layout.{Written}
use Rattle.moves.specs.Runs.{Top, Runs, end_of, Settles, top_length}
use Rattle.moves.specs.declared.Running as registers
use Rattle.plan.specs.Rest.{Held}
use Rattle.plan.proofs.Appended.{appends_refl}
use Rattle.plan.specs.Plans.{error_of, Carries}
use Rattle.plan.specs.declared.Counts.{Counts}
use Rattle.plan.specs.declared.Error.{Error}
use Rattle.plan.specs.declared.Plan.{Plan}
use Rattle.counts.specs.Counted.{Ready}
use Rattle.calls.specs.Called.{Callable, CallsFunction}
use Rattle.slices.specs.SlicedLaws.{past_frame}
use Rattle.acts.specs.Acted.{ActedOn, as_done, as_failed, Overable, ActsOver, Belowable, ActsBelow, Acts, Busy, left_of, Thrown, Failable, Fails, Opcode}
use Rattle.closing.specs.Closed.{Closable, Closes}
use Rattle.acts.specs.Operands.{args_are}
use Rattle.closing.specs.Results.{used_done, used_failed}
use Rattle.acts.specs.Left.{top_live, top_room}
use Rattle.acts.specs.Apart.{call_apart, ready_over}
use Rattle.acts.specs.ActedLaws.{bounded_settled}
use Rattle.acts.specs.BusyLaws.{acted_acts, ready_under, busy_place, busy_next, busy_stack, busy_value, busy_left, busy_changed, busy_held, busy_gone, busy_held_under, busy_handlers, busy_handlers_under, busy_sizes, busy_small, busy_room, busy_settles, busy_rests}
use Rattle.refusals.specs.declared.Refusal.{Refusal}
use Rattle.refusals.specs.declared.Refusal.TheVariants.{FewValues}

-- ---- The two calls: 36 keeps its frame, 38 does not
abbrev pub number_of : Bool → ℕ
number_of true = 36
number_of false = 38

abbrev left_by : Bool → Running → List Cell → List Frame
left_by true r st = stacked r st
left_by false r st = r.below

call_is : (keeps : Bool) (P : Program) (m : M) (r : Running) (x : ℕ) → opcode_action P m r (number_of keeps) x ≡ call_taken m.store (operands_of x r.stack) (stacked r) (left_by keeps r)
unfolding opcode_action both
call_is true P m r x = refl
call_is false P m r x = refl

-- the function and its arguments, the last value first
operands_are : (n : ℕ) (st : List Cell) → n < length st → operands_of n st ≡ operands (get_or st n null) (reverse (take n st)) (drop (n + 1) st)
unfolding operands_of
operands_are n st lt = rw (lt-ltb n (length st) lt) refl

operands_few : (n : ℕ) (st : List Cell) → length st ≤ n → operands_of n st ≡ too_few
unfolding operands_of
operands_few n st le = rw (le-ltb n (length st) le) refl

taken_few : (s : List Object) (kept left : List Cell → List Frame) (o : Operands) → o ≡ too_few → call_taken s o kept left ≡ refuses 12
unfolding call_taken
taken_few s kept left o e = rw e refl

taken_calls : (s : List Object) (kept left : List Cell → List Frame) (f : Cell) (args rest : List Cell) (o : Operands) → o ≡ operands f args rest → callable (function_of s f) ≡ true → call_taken s o kept left ≡ takes (calls f args (left rest))
unfolding call_taken
taken_calls s kept left f args rest o e h = rw (e, h) refl

taken_throws : (s : List Object) (kept left : List Cell → List Frame) (f : Cell) (args rest : List Cell) (o : Operands) → o ≡ operands f args rest → callable (function_of s f) ≡ false → call_taken s o kept left ≡ takes (throws (meta_un_operator 0 (type_of f)) (kept rest))
unfolding call_taken
taken_throws s kept left f args rest o e h = rw (e, h) refl

-- ---- A call of the running frame: what is next
module _ {P : Program} {z : Sizes} {m : M} {g : registers.Running} {u frames : ℕ} {B L S : List Cell} {starts : List ℕ} (b : Busy P z m g u frames B L S starts) (keeps : Bool) {x : ℕ} (o : Opcode b.frame b.inside.place (number_of keeps) x) where
  abbrev past : Running
  past = past_frame b.frame

  next_taken : next_action P m m.frames ≡ call_taken m.store (operands_of x b.frame.stack) (stacked past) (left_by keeps past)
  next_taken = busy_next b o ∙ call_is keeps P m past x

  pub next_few : g.stack ≤ x → next_action P m m.frames ≡ refuses 12
  unfolding next_taken
  next_few le = next_taken ∙ taken_few m.store _ _ _ (operands_few x b.frame.stack (omega (arith, le, busy_stack b)))

  module _ (lt : x < g.stack) {f : Cell} (is : f ≡ get_or b.frame.stack x null) {yes : Bool} (c : (P : Program) (s : List Object) → is_value P s f ≡ true → yes ≡ callable (function_of s f)) where
    value : is_value P m.store f ≡ true
    value = ap (is_value P m.store) is ∙ busy_value b x

    found : operands_of x b.frame.stack ≡ operands f (reverse (take x b.frame.stack)) (drop (x + 1) b.frame.stack)
    found = operands_are x b.frame.stack (omega (arith, lt, busy_stack b)) ∙ ap (λ (k : Cell). operands k (reverse (take x b.frame.stack)) (drop (x + 1) b.frame.stack)) (sym is)

    next_calls : {args : List Cell} → yes ≡ true → args ≡ reverse (take x b.frame.stack) → next_action P m m.frames ≡ takes (calls f args (left_by keeps past (drop (x + 1) b.frame.stack)))
    unfolding next_taken value found
    next_calls y e = next_taken ∙ taken_calls m.store _ _ f _ _ _ (found ∙ ap (λ (l : List Cell). operands f l (drop (x + 1) b.frame.stack)) (sym e)) (sym (c P m.store value) ∙ y)

    next_throws : yes ≡ false → next_action P m m.frames ≡ takes (throws (meta_un_operator 0 (type_of f)) (stacked past (drop (x + 1) b.frame.stack)))
    unfolding next_taken value found
    next_throws y = next_taken ∙ taken_throws m.store _ _ f _ _ _ found (sym (c P m.store value) ∙ y)

    -- no function: its error
    call_thrown : {h : registers.Running} {t : ℕ} {err : Error} → yes ≡ false → h ≡ left_of g (x + 1) → t ≡ type_of f → err ≡ error_of (meta_un_operator 0 t) → Thrown P m b.frame err h L
    unfolding next_throws
    call_thrown y q i e = rw q (record {
      error = meta_un_operator 0 (type_of f);
      place = b.frame.place + 1;
      locals = b.frame.locals;
      stack = drop (x + 1) b.frame.stack;
      handlers = b.frame.handlers;
      is = e ∙ ap (λ (k : ℕ). error_of (meta_un_operator 0 k)) i;
      throws = next_throws y;
      runs = busy_left b (x + 1) (omega (arith, lt));
    })

    -- 36: over the frame without its operands
    abbrev call_over : M
    call_over = with_frames (stacked past (drop (x + 1) b.frame.stack)) m

    module _ {h : registers.Running} (q : h ≡ left_of g (x + 1)) where
      call_runs : Runs b.frame.handle (b.frame.place + 1) b.frame.locals (drop (x + 1) b.frame.stack) b.frame.handlers b.frame.below h L
      call_runs =
          let r = b.frame in
          subst (λ (k : registers.Running). Runs r.handle (r.place + 1) r.locals (drop (x + 1) r.stack) r.handlers r.below k L) (sym q) (busy_left b (x + 1) (omega (arith, lt)))

      module _ {e : ℕ} (i : e ≡ end_of h) where
        call_held : Held P call_over (record { frames = frames; live = e; store = u }) L S starts
        unfolding call_runs
        call_held = busy_held b call_runs i

        call_carries : {args : List Cell} {plan : Plan} → CallsFunction P frames f args L S starts plan → Carries P plan args call_over (call_function P (function_of m.store f) f args call_over)
        unfolding value call_held
        call_carries w = w.carries call_over (record { frames = frames; live = e; store = u }) refl call_held value

        call_ready : {args : List Cell} {plan : Plan} → CallsFunction P frames f args L S starts plan → Ready plan call_over L
        call_ready {args} {plan} w =
            let r = b.frame in
            ready_over m r.handle (r.place + 1) r.locals (drop (x + 1) r.stack) r.handlers r.below b.inside.running (call_apart P (function_of m.store f) f args call_over) P args L plan (call_carries w)

    -- 38: over the frames below
    tail_carries : {args : List Cell} {plan : Plan} → CallsFunction P (frames - 1) f args L S starts plan → Carries P plan args (with_frames b.frame.below m) (call_function P (function_of m.store f) f args (with_frames b.frame.below m))
    unfolding value
    tail_carries w = w.carries (with_frames b.frame.below m) (record { frames = frames - 1; live = g.base; store = u }) refl (busy_held_under b) value

-- ---- What the code has in hand
module _ (keeps : Bool) {P : Program} {frames u : ℕ} {g : registers.Running} {x : ℕ} {state live store starts : List ℕ} where
  pub call_few : {live₁ : List ℕ} → g.stack ≤ x → Settles g live live₁ → Closes P (number_of keeps) frames u g x (Err FewValues) state live store starts state live₁ store starts
  unfolding outcome
  call_few le s = record {
    acts = λ z m b o. (ap (λ (t : Taken). outcome P z t m) (next_few b keeps o le), busy_rests live store b s);
    bounded = bounded_settled state store starts s;
    appends = appends_refl u store;
  }

  module _ {args : List ℕ} (k : Closable P (number_of keeps) frames u g x state live store starts args) where
    pub call_settles : (g.base + 6 ≤ room live) × (g.place < 4294967296)
    call_settles = busy_settles live store k.busy

    pub call_ends : end_of g < 18446744073709551616
    call_ends = omega (arith, (top_room live k.busy.inside.runs).0, busy_room live store k.busy)

    module _ (lt : x < g.stack) where
      pub call_tops : (x < g.stack) × (end_of g ≤ room live)
      call_tops = (lt, (top_room live k.busy.inside.runs).0)

      pub call_copies : {e : ℕ} → e ≡ end_of g → (0 + x ≤ room args) × (e - x + x ≤ room live)
      call_copies e = (omega (arith, lt, e, call_tops.1, busy_room live store k.busy, k.values), omega (arith, lt, e, call_tops.1))

      pub call_fits : 16 * x < 18446744073709551616
      call_fits = omega (arith, lt, call_tops.1, busy_room live store k.busy)

      module _ {args₁ : List ℕ} {l : List Cell} (w : Writes args l args₁) where
        pub call_lent : 16 * x ≤ length args₁
        call_lent = omega (arith, lt, call_tops.1, busy_room live store k.busy, k.values, w.len)

        pub call_lends : 16 * x ≡ length (take (16 * x) args₁)
        call_lends = sym (length-take-le (16 * x) args₁ call_lent)

        pub call_given : x ≡ room (take (16 * x) args₁)
        call_given = omega (arith, call_lends)

  -- the function f was read, and asked whether it is one
  module _ (lt : x < g.stack) {f : Cell} (top : ((w : Written) (pre : List Cell) → Top w pre g (cells live) → f ≡ get_or w.stack x null) × Sound f)
      {yes : Bool} (c : (P : Program) (s : List Object) → is_value P s f ≡ true → yes ≡ callable (function_of s f)) where
    module _ {h : registers.Running} {t : ℕ} {err : Error} (no : not yes ≡ true) (q : h ≡ left_of g (x + 1)) (i : t ≡ type_of f) (j : err ≡ error_of (meta_un_operator 0 t)) where
      pub call_fails : {args : List ℕ} → Closable P (number_of keeps) frames u g x state live store starts args → Failable P frames u g h err state live store starts
      call_fails k = record {
        sizes = k.sizes;
        machine = k.machine;
        busy = k.busy;
        threw = call_thrown k.busy keeps k.opcode lt (top.0 _ _ k.busy.inside.runs) c (not-true yes no) q i j;
        place = omega (arith, ap (λ (r : registers.Running). r.place) q, busy_place k.busy);
        len = k.len;
      }

      pub call_failed : {r : Result Counts Refusal} {state' live' store' starts' : List ℕ} → Fails P frames u g h err r state live store starts state' live' store' starts' → Closes P (number_of keeps) frames u g x (as_failed r) state live store starts state' live' store' starts'
      call_failed {r} {state'} {live'} {store'} {starts'} a = record {
        acts = λ z m b o. by z m r (a.acts z m b (call_thrown b keeps o lt (top.0 _ _ b.inside.runs) c (not-true yes no) q i j));
        bounded = a.bounded;
        appends = used_failed r a.appends;
      }
        where
          by : (z : Sizes) (m : M) (r : Result Counts Refusal) → Acts P z m failing (as_failed r) (cells state') (cells live') (cells store') starts' → Acts P z m closing (as_failed r) (cells state') (cells live') (cells store') starts'
          by z m (Err n) y = y
          by z m (Ok d) y = y

-- at most the cells of memory
args_few : {P : Program} {z : Sizes} {m : M} {g : registers.Running} {u frames x : ℕ} {B L S l : List Cell} {starts : List ℕ} (b : Busy P z m g u frames B L S starts) → x < g.stack → l ≡ reverse (take x b.frame.stack) → length l < 4294967296
args_few {x = x} b lt e =
    let n = length-reverse (take x b.frame.stack) ∙ length-take-le x b.frame.stack (omega (arith, lt, busy_stack b)) in
    omega (arith, ap length e, n, lt, top_length b.inside.runs, b.inside.room, b.small)

-- ---- 36: the call is planned, judged and carried out over the frame left
module _ {P : Program} {frames u : ℕ} {g : registers.Running} {x : ℕ} {state live store starts : List ℕ} (lt : x < g.stack) {f : Cell} (top : ((w : Written) (pre : List Cell) → Top w pre g (cells live) → f ≡ get_or w.stack x null) × Sound f)
    {yes : Bool} (c : (P : Program) (s : List Object) → is_value P s f ≡ true → yes ≡ callable (function_of s f)) where
  module _ {h : registers.Running} (q : h ≡ left_of g (x + 1)) where
    pub call_calls : {args : List ℕ} → Closable P 36 frames u g x state live store starts args → Callable P f frames (cells live) (cells store) starts
    unfolding value
    call_calls k =
        let b = k.busy in
        let is = top.0 _ _ b.inside.runs in
        record {
          machine = with_frames (stacked (past_frame b.frame) (drop (x + 1) b.frame.stack)) k.machine;
          counts = record { frames = frames; live = end_of h; store = u };
          count = refl;
          held = call_held b true k.opcode lt is c q refl;
          value = value b true k.opcode lt is c;
          table = omega (arith, b.table, b.count, b.inside.fits.few);
        }

    module _ {args args₁ : List ℕ} {end e : ℕ} {plan : Plan} (yep : not yes ≡ false) (en : end ≡ end_of g) (wr : Writes args (paste (cells args) 0 (drop (end - x) (cells live)) x) args₁) (i : e ≡ end_of h)
        (w : CallsFunction P frames f (cells (take (16 * x) args₁)) (cells live) (cells store) starts plan) where
      pub call_over_lem : Closable P 36 frames u g x state live store starts args → Overable plan (cells (take (16 * x) args₁)) (record { frames = frames; live = e; store = u }) g h state live store starts
      call_over_lem k =
          let b = k.busy in
          let o = k.opcode in
          let is = top.0 _ _ b.inside.runs in
          let t = call_runs b true o lt is c q in
          let are = args_are live x b.inside.runs (omega (arith, lt)) en wr in
          record {
            program = P;
            machine = k.machine;
            leaves = with_frames (stacked (past_frame b.frame) (drop (x + 1) b.frame.stack)) k.machine;
            after = _;
            changed = busy_changed b t;
            held = busy_held b t i;
            ready = call_ready b true o lt is c q i w;
            carries = call_carries b true o lt is c q i w;
            block = b.block;
            small = busy_small live store b (omega arith) (omega (arith, i, (top_room live t).0)) (args_few b lt are);
            places = (omega (arith, busy_place b), omega (arith, ap (λ (r : registers.Running). r.place) q, busy_place b));
            len = k.len;
          }

      pub call_closes : {r : Result Counts Refusal} {state' live' store' starts' : List ℕ} → ActsOver plan (cells (take (16 * x) args₁)) (record { frames = frames; live = e; store = u }) g h r state live store starts state' live' store' starts'
          → Closes P 36 frames u g x (as_done r) state live store starts state' live' store' starts'
      unfolding doing pace_of handlers_left
      call_closes {r} {state'} {live'} {store'} {starts'} a = record {
        acts = λ z m b o.
            let is = top.0 _ _ b.inside.runs in
            let t = call_runs b true o lt is c q in
            let F = stacked (past_frame b.frame) (drop (x + 1) b.frame.stack) in
            let l = cells (take (16 * x) args₁) in
            let m' = call_function P (function_of m.store f) f l (with_frames F m) in
            let y = a.acts P m (with_frames F m) m' (busy_changed b t) (busy_held b t i) (call_ready b true o lt is c q i w) (call_carries b true o lt is c q i w) b.block in
            let v = subst (λ (s : Sizes). ActedOn s m m' r (cells state') (cells live') (cells store') starts') (sym (busy_sizes live store b)) y in
            acted_acts P z m (cells state') (cells live') (cells store') starts' r (next_calls b true o lt is c (not-false yes yep) (args_are live x b.inside.runs (omega (arith, lt)) en wr)) refl
            (busy_handlers b b.frame.handle (b.frame.place + 1) b.frame.locals (drop (x + 1) b.frame.stack)) v;
        bounded = a.bounded;
        appends = used_done r a.appends;
      }

  -- ---- 38: over the frames below
  pub tail_calls_lem : {args : List ℕ} → Closable P 38 frames u g x state live store starts args → Callable P f (frames - 1) (cells live) (cells store) starts
  unfolding value
  tail_calls_lem k =
      let b = k.busy in
      record {
        machine = with_frames b.frame.below k.machine;
        counts = record { frames = frames - 1; live = g.base; store = u };
        count = refl;
        held = busy_held_under b;
        value = value b false k.opcode lt (top.0 _ _ b.inside.runs) c;
        table = omega (arith, b.table, b.count, b.inside.fits.few);
      }

  module _ {args args₁ : List ℕ} {end : ℕ} {plan : Plan} (yep : not yes ≡ false) (en : end ≡ end_of g) (wr : Writes args (paste (cells args) 0 (drop (end - x) (cells live)) x) args₁)
      (w : CallsFunction P (frames - 1) f (cells (take (16 * x) args₁)) (cells live) (cells store) starts plan) where
    pub tail_below : Closable P 38 frames u g x state live store starts args → Belowable plan (cells (take (16 * x) args₁)) (record { frames = frames - 1; live = g.base; store = u }) g state live store starts
    tail_below k =
        let b = k.busy in
        let is = top.0 _ _ b.inside.runs in
        let are = args_are live x b.inside.runs (omega (arith, lt)) en wr in
        record {
          program = P;
          machine = k.machine;
          leaves = with_frames b.frame.below k.machine;
          after = _;
          gone = busy_gone b;
          held = busy_held_under b;
          begins = b.begins;
          ready = ready_under (with_frames b.frame.below k.machine) (cells live) plan (top_live b.inside.runs);
          carries = tail_carries b false k.opcode lt is c w;
          block = b.block;
          small = busy_small live store b (omega arith) (omega (arith, (top_room live b.inside.runs).1)) (args_few b lt are);
          places = omega (arith, busy_place b);
          len = k.len;
        }

    pub tail_closes : {r : Result Counts Refusal} {state' live' store' starts' : List ℕ} → ActsBelow plan (cells (take (16 * x) args₁)) (record { frames = frames - 1; live = g.base; store = u }) g r state live store starts state' live' store' starts'
        → Closes P 38 frames u g x (as_done r) state live store starts state' live' store' starts'
    unfolding doing pace_of handlers_left
    tail_closes {r} {state'} {live'} {store'} {starts'} a = record {
      acts = λ z m b o.
          let is = top.0 _ _ b.inside.runs in
          let F = b.frame.below in
          let l = cells (take (16 * x) args₁) in
          let m' = call_function P (function_of m.store f) f l (with_frames F m) in
          let y = a.acts P m (with_frames F m) m' (busy_gone b) (busy_held_under b) b.begins (ready_under (with_frames F m) (cells live) plan (top_live b.inside.runs)) (tail_carries b false o lt is c w) b.block in
          let v = subst (λ (s : Sizes). ActedOn s m m' r (cells state') (cells live') (cells store') starts') (sym (busy_sizes live store b)) y in
          acted_acts P z m (cells state') (cells live') (cells store') starts' r (next_calls b false o lt is c (not-false yes yep) (args_are live x b.inside.runs (omega (arith, lt)) en wr)) refl (busy_handlers_under b) v;
      bounded = a.bounded;
      appends = used_done r a.appends;
    }
