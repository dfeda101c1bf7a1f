-- Demand 3: the rules by which frames, store, globals and result change, and the claim about every list of calls. It
-- takes from the machine its data, where an object stands (`object_at`, `used`), what a call gave (`call_of`) and, in one
-- clause, when a run's next step is refused (`outcome`).
use Rattle.std.specs.Prelude.{◌≡◌, List, [], ◌∷◌, ◌++◌, reverse, ◌⊎◌, Bool, true, false, ℕ, ◌+◌, ◌%◌, ◌≤◌, ◌<◌, length, get_or, take, drop, set, replicate, eqb}
use Rattle.cells.specs.Cells.{null}
use Rattle.cells.specs.Le.{le_at}
use Rattle.cells.specs.declared.Cell.{Cell}
use Rattle.fuel.specs.Fuels.{should_continue}
use Rattle.image.specs.Records.{if?, accepted}
use Rattle.image.specs.Program.{Code, no_code, no_op}
use Rattle.image.specs.Fine.{no_constant, bytes_of}
use Rattle.machine.specs.Values.{Program, Error, lucia_error, lucia_panic}
use Rattle.machine.specs.Machine.{Handler, Frame, lucia, host, effect_callback, Object, closure, list, continuation}
use Rattle.machine.specs.Machine.{Result, running, returned, failed, unhandled, M, used, here, object_at}
use Rattle.machine.specs.Opcodes.{Running, next_action}
use Rattle.machine.specs.Calls.{CallbackReturn, call_with, perform, tail_call, tail_perform, return_it, error_with, panic_with}
use Rattle.machine.specs.Calls.{Request, start, answer, clear, text, bytes, set_global, get_global, set_builtin, get_builtin}
use Rattle.machine.specs.Calls.{World, Sizes, Call, Lent, runs, asks, loads, load, loaded, stops, outcome}
use Rattle.machine.specs.Calls.{Step, Trace, steps_of, answer_of, given_of, fuel_after, world_after, call_of}

-- Q holds of all of a list; of one of it.
abbrev pub All : {A : Type 0} → (A → Type 0) → List A → Type 0
All Q [] = Unit {0}
All Q (x ∷ xs) = Q x × All Q xs

abbrev pub Any : {A : Type 0} → (A → Type 0) → List A → Type 0
Any Q [] = ⊥
Any Q (x ∷ xs) = Q x ⊎ Any Q xs

-- ---- What is remembered of a step: the continuation k of the frames K that it captured, the global that it set
pub data Deed : Type 0 where
  captures : (k : ℕ) (K : List Frame) → Deed
  sets : (g : ℕ) (v : Cell) → Deed
  other : Deed

-- The continuation k of the frames K comes from a perform of these steps, of which the last is first, and stays as it
-- was captured. (Ticket 8: a collection keeps what is reached, and renames: then this clause says what a step makes of
-- the continuations before it.)
abbrev pub From : List Deed → ℕ → List Frame → Type 0
From [] k K = ⊥
From (d ∷ past) k K = (d ≡ captures k K) ⊎ From past k K

-- "what script or host last set since the load, else null"
abbrev pub last_set : ℕ → List Deed → Cell
last_set g [] = null
last_set g (captures k K ∷ past) = last_set g past
last_set g (sets h v ∷ past) = if? (eqb g h) v (last_set g past)
last_set g (other ∷ past) = last_set g past

-- ---- Values, frames, counts, objects
-- The value of this tag and number: 8 a builtin effect (1 Error, 2 Panic), 6 a list, 23 a continuation, by its handle.
abbrev pub value : (tag number : ℕ) → Cell
value t n = record { tag = t; number = n; payload = 0 }

-- "the value .. goes on the last frame's stack, or alone there in a callback frame"
abbrev pub gets : Cell → Frame → Frame
gets v (lucia c p l s hs) = lucia c p l (v ∷ s) hs
gets v (host n w s hs) = host n w (v ∷ []) hs
gets v (effect_callback e s hs) = effect_callback e (v ∷ []) hs

abbrev pub bare : Frame → Frame
bare (lucia c p l s hs) = lucia c p l s []
bare (host n w s hs) = host n w s []
bare (effect_callback e s hs) = effect_callback e s []

-- A new frame of the closure h with n locals.
abbrev pub new : (h n : ℕ) → (given : List Cell) → Frame
new h n given = lucia h 0 (replicate n null) (reverse given) []

-- "a fitting argument count", of n parameters of which the last may be variadic (mark 1)
abbrev pub Fits : (n mark : ℕ) → List Cell → Type 0
Fits n mark args = ((mark ≡ 1) × (n ≤ length args)) ⊎ ((mark ≡ 1 → ⊥) × (n ≡ length args))

-- The arguments as they are passed, from the store s to s': a variadic's past its count are one new list.
abbrev pub Passed : (n mark : ℕ) (args given : List Cell) (s s' : List Object) → Type 0
Passed n mark args given s s' = ((mark ≡ 1 → ⊥) × (given ≡ args) × (s' ≡ s))
    ⊎ ((mark ≡ 1) × (given ≡ take n args ++ (value 6 (used s) ∷ [])) × (s' ≡ s ++ (list (drop n args) ∷ [])))

-- Object k of the store is the continuation of the frames K.
abbrev pub Stored : List Object → ℕ → List Frame → Type 0
Stored s k K = object_at s k ≡ here (continuation K)

-- An effect: a builtin, or one of the image.
abbrev pub Effect : Cell → Type 0
Effect v = v.tag % 16 ≡ 8

-- A function: an effect, a callback, a closure or a continuation of the store.
abbrev pub Callable : List Object → Cell → Type 0
Callable s f = Effect f ⊎ (f.tag ≡ 39) ⊎ ((f.tag ≡ 23) × (K : List Frame) × Stored s f.number K)
    ⊎ ((f.tag ≡ 7) × (c : ℕ) × (us : List Cell) × (object_at s f.number ≡ here (closure c us)))

-- An opcode that is no StoreGlobal, Call, Return, ReturnCall or RegisterHandler changes its own frame alone, whose
-- handlers stay. Which value it gives, and where it goes, is demand 2.
abbrev pub Plain : ℕ → Type 0
Plain op = (op ≡ 8 → ⊥) × (op ≡ 36 → ⊥) × (op ≡ 37 → ⊥) × (op ≡ 38 → ⊥) × (op ≡ 49 → ⊥)

-- The other opcodes that throw, and how many operands are gone then: "`JumpIfTrueOrPop` on a non-bool throws without
-- popping, `PopJumpIfTrue` after".
abbrev pub Takes : (op n : ℕ) → Type 0
Takes op n = (((op ≡ 47) ⊎ (op ≡ 48)) × (n ≡ 0))
    ⊎ ((((17 ≤ op) × (op ≤ 18)) ⊎ (op ≡ 45) ⊎ (op ≡ 46)) × (n ≡ 1))
    ⊎ ((((19 ≤ op) × (op ≤ 29)) ⊎ (op ≡ 50)) × (n ≡ 2))

-- A run is over; it awaits the host.
abbrev pub Over : M → Type 0
Over m = (m.result ≡ running → ⊥) ⊎ (m.frames ≡ [])

abbrev pub Awaits : M → Type 0
Awaits m = (m.result ≡ running) × (n w : ℕ) × (st hs : List Cell) × (below : List Frame)
    × (m.frames ≡ host n w st hs ∷ below)

-- The machine with other frames and store; with another result; once it returns v to the frames F, where the top one
-- loses its handlers; with another global.
abbrev pub put : List Frame → List Object → M → M
put F s m = record { frames = F; store = s; globals = m.globals; builtins = m.builtins; result = m.result }

abbrev pub ending : Result → List Frame → M → M
ending r F m = record { frames = F; store = m.store; globals = m.globals; builtins = m.builtins; result = r }

abbrev pub returning : Cell → List Frame → M → M
returning v [] m = ending (returned v) [] m
returning v (f ∷ F) m = put (bare (gets v f) ∷ F) m.store m

abbrev pub setting : ℕ → Cell → List Frame → M → M
setting g v F m =
    record { frames = F; store = m.store; globals = set m.globals g v; builtins = m.builtins; result = m.result }

abbrev pub setting_builtin : ℕ → Cell → M → M
setting_builtin g v m =
    let new = set m.builtins g v in
    record { frames = m.frames; store = m.store; globals = m.globals; builtins = new; result = m.result }

module _ (P : Program) where
  -- A code of the image; the bytes of the constant that an effect of the image is.
  abbrev pub code_at : ℕ → Code
  code_at c = get_or P.codes c no_code

  abbrev pub bytes_at : Cell → List ℕ
  bytes_at v = bytes_of P.image (get_or (code_at v.number).constants v.payload no_constant)

  -- ---- "Effects are equal if the same builtin, or of equal name, parameter count and variadic mark": tag 8 is a
  -- builtin, tag 24 one of the image, whose bytes are kind, count, mark and name
  abbrev pub Same : Cell → Cell → Type 0
  Same a b = let A = bytes_at a in let B = bytes_at b in ((a.tag ≡ 8) × (b.tag ≡ 8) × (a.number ≡ b.number))
      ⊎ ((a.tag ≡ 8 → ⊥) × (b.tag ≡ 24) × (le_at 2 A 0 ≡ le_at 2 B 0)
      × ((le_at 2 A 0 ≤ 2) ⊎ ((le_at 2 A 2 ≡ le_at 2 B 2) × (le_at 2 A 4 ≡ le_at 2 B 4) × (drop 6 A ≡ drop 6 B))))

  -- Its parameter count and variadic mark; a builtin has one parameter.
  abbrev pub count_of : Cell → ℕ
  count_of e = if? (eqb e.tag 8) 1 (le_at 2 (bytes_at e) 2)

  abbrev pub mark_of : Cell → ℕ
  mark_of e = if? (eqb e.tag 8) 0 (le_at 2 (bytes_at e) 4)

  -- The frame handles the effect: one of its handlers is for an equal one.
  abbrev pub Handles : Cell → Frame → Type 0
  Handles e (lucia c p l s hs) = Any (λ h. Same h.effect e) hs
  Handles e (host n w s hs) = Any (λ x. Same x e) hs
  Handles e (effect_callback x s hs) = Any (λ y. Same y e) hs

  -- ---- "exactly the frames above the highest frame under the top that handles the effect": K, of the frames F as the
  -- search begins
  pub record Captured (e : Cell) (F K : List Frame) (handler : Frame) (below : List Frame) : Type 0 where
    pub top : Frame
    pub between : List Frame
    pub frames : F ≡ top ∷ between ++ handler ∷ below
    pub captured : K ≡ top ∷ between
    pub handles : Handles e handler
    pub highest : All (λ f. Handles e f → ⊥) between

  -- "A Lucia frame loses its handlers, gets continuation, arguments and effect on its stack, and goes to the target. A
  -- callback frame loses its own too, and gets effect, continuation, arguments on an emptied stack."
  abbrev pub Entered : (e k : Cell) (args : List Cell) → Frame → Frame → Type 0
  Entered e k args (lucia c p l s hs) g =
      (t : ℕ) × Any (λ h. Same h.effect e × (t ≡ h.target)) hs × (g ≡ lucia c t l (e ∷ reverse args ++ k ∷ s) [])
  Entered e k args (host n w s hs) g = g ≡ host n w (reverse (e ∷ k ∷ args)) []
  Entered e k args (effect_callback x s hs) g = g ≡ effect_callback x (reverse (e ∷ k ∷ args)) []

  -- The handlers `new` are `hs` with one for e at target t: a new one behind them, or what is stored with an equal one
  -- is replaced.
  abbrev pub Registered : (e : Cell) (t : ℕ) (hs new : List Handler) → Type 0
  Registered e t [] new = (n : ℕ) × (new ≡ record { effect = e; target = t; stack_size = n } ∷ [])
  Registered e t (h ∷ hs) new =
      (Same h.effect e × (n : ℕ) × (new ≡ record { effect = h.effect; target = t; stack_size = n } ∷ hs))
      ⊎ ((Same h.effect e → ⊥) × (rest : List Handler) × Registered e t hs rest × (new ≡ h ∷ rest))

  -- The handlers `hs` are the effects of an answer, in order, but for those that are equal to one before (`seen`).
  abbrev pub PutIn : (seen new hs : List Cell) → Type 0
  PutIn seen [] hs = hs ≡ []
  PutIn seen (e ∷ es) hs = (Any (λ x. Same x e) seen × PutIn seen es hs)
      ⊎ ((Any (λ x. Same x e) seen → ⊥) × (rest : List Cell) × (hs ≡ e ∷ rest) × PutIn (e ∷ seen) es rest)

  module _ (m : M) where
    -- A perform of e with arguments that fit, over the frames F: "None found: the effect is the result", "no frame
    -- changes".
    pub data Operates (e : Cell) (args : List Cell) (r : Result) (F : List Frame) : Deed → M → Type 0 where
      handled : (K below : List Frame) (handler new : Frame) (given : List Cell) (s : List Object)
          → Captured e F K handler below
          → Passed (count_of e) (mark_of e) args given (m.store ++ (continuation K ∷ [])) s
          → Entered e (value 23 (used m.store)) given handler new
          → Operates e args r F (captures (used m.store) K) (put (new ∷ below) s m)
      nobody : All (λ f. Handles e f → ⊥) (drop 1 F) → Operates e args r F other (ending r F m)

    -- "A throw performs its builtin": Error, 1, with some message.
    abbrev pub Throws : List Frame → Deed → M → Type 0
    Throws F d m' = (x : Error) × (v : Cell) × Operates (value 8 1) (v ∷ []) (failed x) F d m'

    -- "a wrong count throws"
    abbrev pub Performs : Cell → List Cell → List Frame → Deed → M → Type 0
    Performs e args F d m' = (Fits (count_of e) (mark_of e) args × Operates e args (unhandled e args) F d m')
        ⊎ ((Fits (count_of e) (mark_of e) args → ⊥) × Throws F d m')

    -- The Lucia frame r runs, at opcode op with operand x, and its place is past it; the frames "once its operands are
    -- taken".
    abbrev pub At : Running → (op x : ℕ) → Type 0
    At r op x = (p : ℕ) × (r.place ≡ p + 1)
        × (m.frames ≡ lucia r.handle p r.locals r.stack r.handlers ∷ r.below)
        × (object_at m.store r.handle ≡ here (closure r.number r.upvalues))
        × (r.code ≡ code_at r.number) × (get_or r.code.opcodes p no_op ≡ record { number = op; operand = x })

    abbrev pub taken : Running → List Cell → List Frame
    taken r st = lucia r.handle r.place r.locals st r.handlers ∷ r.below

  module _ (past : List Deed) (m : M) where
    -- ---- A call of f that leaves the frames F, or `kept` if f is no function: "`ReturnCall` of a non-function throws
    -- with its frame in place; a wrong argument count throws after the frame is gone". A resume adds "the frames that
    -- its continuation's perform captured".
    pub data Calls (f : Cell) (args : List Cell) (kept F : List Frame) : Deed → M → Type 0 where
      begins : (c : ℕ) (us given : List Cell) (s : List Object) → f.tag ≡ 7
          → object_at m.store f.number ≡ here (closure c us)
          → Fits (code_at c).params (code_at c).variadic args
          → Passed (code_at c).params (code_at c).variadic args given m.store s
          → Calls f args kept F other (put (new f.number (code_at c).locals given ∷ F) s m)
      asks_host : f.tag ≡ 39
          → Calls f args kept F other (put (host f.number f.payload (reverse args) [] ∷ F) m.store m)
      as_effect : Effect f
          → Calls f args kept F other (put (effect_callback f (reverse args) [] ∷ F) m.store m)
      resumes : (v : Cell) (top : Frame) (rest : List Frame) → f.tag ≡ 23 → args ≡ v ∷ []
          → From past f.number (top ∷ rest)
          → Calls f args kept F other (put (gets v top ∷ rest ++ F) m.store m)
      unfit : {d : Deed} {m' : M} (c : ℕ) (us : List Cell) → f.tag ≡ 7
          → object_at m.store f.number ≡ here (closure c us)
          → (Fits (code_at c).params (code_at c).variadic args → ⊥) → Throws m F d m' → Calls f args kept F d m'
      unfit_values : {d : Deed} {m' : M} (K : List Frame) → f.tag ≡ 23 → Stored m.store f.number K
          → (1 ≡ length args → ⊥) → Throws m F d m' → Calls f args kept F d m'
      no_function : {d : Deed} {m' : M} → (Callable m.store f → ⊥) → Throws m kept d m' → Calls f args kept F d m'

    -- The x arguments of an opcode's call lie on the stack, the last on top, and the function under them.
    abbrev pub Calling : Running → ℕ → List Frame → Deed → M → Type 0
    Calling r x F d m' =
        let st = r.stack in Calls (get_or st x null) (reverse (take x st)) (taken m r (drop (x + 1) st)) F d m'

    -- ---- A tick: "the opcodes and effect callbacks that a run carries out"
    pub data Ticks : Deed → M → Type 0 where
      stays : (r : Running) (op x p : ℕ) (l st : List Cell) → At m r op x → Plain op
          → Ticks other (put (lucia r.handle p l st r.handlers ∷ r.below) m.store m)
      makes : (r : Running) (op x p : ℕ) (l st : List Cell) (o : Object) → At m r op x → Plain op
          → ((K : List Frame) → o ≡ continuation K → ⊥)
          → Ticks other (put (lucia r.handle p l st r.handlers ∷ r.below) (m.store ++ (o ∷ [])) m)
      registers : (r : Running) (t : ℕ) (e : Cell) (st : List Cell) (hs : List Handler) → At m r 49 t
          → r.stack ≡ e ∷ st → Effect e → Registered e t r.handlers hs
          → Ticks other (put (lucia r.handle r.place r.locals st hs ∷ r.below) m.store m)
      no_effect : {d : Deed} {m' : M} (r : Running) (t : ℕ) (v : Cell) (st : List Cell) → At m r 49 t
          → r.stack ≡ v ∷ st → (Effect v → ⊥) → Throws m (taken m r st) d m' → Ticks d m'
      sets_global : (r : Running) (x g : ℕ) (v : Cell) (st : List Cell) → At m r 8 x → r.stack ≡ v ∷ st
          → g ≡ get_or r.code.globals x 0 → Ticks (sets g v) (setting g v (taken m r st) m)
      returns : (r : Running) (x : ℕ) (v : Cell) (st : List Cell) → At m r 37 x → r.stack ≡ v ∷ st
          → Ticks other (returning v r.below m)
      throws : {d : Deed} {m' : M} (r : Running) (op x n : ℕ) → At m r op x → Takes op n
          → Throws m (taken m r (drop n r.stack)) d m' → Ticks d m'
      calls : {d : Deed} {m' : M} (r : Running) (x : ℕ) → At m r 36 x
          → Calling r x (taken m r (drop (x + 1) r.stack)) d m' → Ticks d m'
      tail_calls : {d : Deed} {m' : M} (r : Running) (x : ℕ) → At m r 38 x → Calling r x r.below d m' → Ticks d m'
      performs : {d : Deed} {m' : M} (e : Cell) (st hs : List Cell) (below : List Frame)
          → m.frames ≡ effect_callback e st hs ∷ below → Performs m e (reverse st) below d m' → Ticks d m'

    -- ---- An answer for a callback, whose frame `self hs` has the word and handlers that "are put in"; "a tail call's
    -- own frame is gone"
    abbrev pub Replies : (self : List Cell → Frame) (hs : List Cell) (below : List Frame) → CallbackReturn → Deed → M
        → Type 0
    Replies self hs below (call_with f args new) d m' =
        (ks : List Cell) × PutIn [] new ks × Calls f args (self ks ∷ below) (self ks ∷ below) d m'
    Replies self hs below (perform e args) d m' = Performs m e args (self hs ∷ below) d m'
    Replies self hs below (tail_call f args) d m' = Calls f args below below d m'
    Replies self hs below (tail_perform e args) d m' = Performs m e args below d m'
    Replies self hs below (return_it v) d m' = (d ≡ other) × (m' ≡ returning v below m)
    Replies self hs below (error_with v) d m' =
        Operates m (value 8 1) (v ∷ []) (failed (lucia_error v)) (self hs ∷ below) d m'
    Replies self hs below (panic_with v) d m' =
        Operates m (value 8 2) (v ∷ []) (failed (lucia_panic v)) (self hs ∷ below) d m'

    -- An accepted request, from this machine and wait to another machine and wait; `got` is the value that it gives.
    abbrev pub Asks : (wait : Bool) → Request → Deed → M → Bool → (got : Cell) → Type 0
    Asks b (start f args) d m' b' got =
        (m.frames ≡ []) × (m.result ≡ running) × Calls f args [] [] d m' × (b' ≡ false)
    Asks b (answer word fuel r) d m' b' got = (n w : ℕ) × (st hs : List Cell) × (below : List Frame) × (b ≡ true)
        × (m.frames ≡ host n w st hs ∷ below)
        × Replies (λ (new : List Cell). host n word st new) hs below r d m' × (b' ≡ false)
    Asks b clear d m' b' got = (d ≡ other) × (m' ≡ ending running [] m) × (b' ≡ false)
    Asks b (text page v) d m' b' got = (d ≡ other) × (m' ≡ m) × (b' ≡ b)
    Asks b (bytes v) d m' b' got = (d ≡ other) × (m' ≡ m) × (b' ≡ b)
    Asks b (set_global g v) d m' b' got = (d ≡ sets g v) × (m' ≡ setting g v m.frames m) × (b' ≡ b)
    Asks b (get_global g) d m' b' got = (d ≡ other) × (m' ≡ m) × (b' ≡ b) × (got ≡ get_or m.globals g null)
    Asks b (set_builtin g v) d m' b' got = (d ≡ other) × (b' ≡ b)
        × (m' ≡ setting_builtin g v m)
    Asks b (get_builtin g) d m' b' got = (d ≡ other) × (m' ≡ m) × (b' ≡ b) × (got ≡ get_or m.builtins g null)

  -- ---- The calls in turn. The steps of a run are ticks, one after the other, none after a result: "The frames after
  -- each step follow by the rules". (Ticket 13: a turn is one more way through ticks, so one more clause of `Turn`.)
  abbrev pub Run : List Step → (past : List Deed) → M → (now : List Deed) → M → Type 0
  Run [] past m now m' = (now ≡ past) × (m ≡ m')
  Run (s ∷ ss) past m now m' = (d : Deed) × (s.before ≡ m) × (m.result ≡ running) × Ticks past m d s.after
      × Run ss (d ∷ past) s.after now m'

  -- How a run ends: ""Paused" is given exactly if all ticks are taken and no charge, end or host wait is due"; "Fuel is
  -- tested after a step, never before"; or its next step is refused, by a number from 1 to 99.
  pub data Ends (z : Sizes) (ticks : ℕ) (t : Trace) (m : M) : Type 0 where
    done : answer_of t ≡ 100 → Over m → Ends z ticks t m
    spent : answer_of t ≡ 101 → 0 < length (steps_of t) → should_continue (fuel_after t) ≡ false → Ends z ticks t m
    paused : answer_of t ≡ 102 → length (steps_of t) ≡ ticks → (Over m → ⊥) → (Awaits m → ⊥) → Ends z ticks t m
    awaits : answer_of t ≡ 103 → Awaits m → Ends z ticks t m
    refused : 0 < answer_of t → answer_of t < 100 → length (steps_of t) < ticks → (Over m → ⊥) → (Awaits m → ⊥)
        → outcome P z (next_action P m m.frames) m ≡ stops (answer_of t) → Ends z ticks t m

  -- An accepted request answers 0 or, an answer, "out of fuel" or "go on".
  abbrev pub Accepts : Request → ℕ → Type 0
  Accepts (answer word fuel r) n = (n ≡ 101) ⊎ (n ≡ 104)
  Accepts (start f args) n = n ≡ 0
  Accepts clear n = n ≡ 0
  Accepts (text page v) n = n ≡ 0
  Accepts (bytes v) n = n ≡ 0
  Accepts (set_global g v) n = n ≡ 0
  Accepts (get_global g) n = n ≡ 0
  Accepts (set_builtin g v) n = n ≡ 0
  Accepts (get_builtin g) n = n ≡ 0

  -- A refused call has no step and leaves all as it was.
  abbrev pub Nothing : (past : List Deed) → World → (now : List Deed) → Trace → Type 0
  Nothing past w now t = (steps_of t ≡ []) × (now ≡ past) × (w ≡ world_after t)

  -- One call, lent the sizes z, that goes as the trace t: "Its steps are the accepted calls but runs, and the opcodes
  -- and effect callbacks that a run carries out". A run while the host is awaited is out of turn, 11. Another call is
  -- refused by a number from 1 to 99.
  abbrev pub Turn : Sizes → Call → (past : List Deed) → World → (now : List Deed) → Trace → Type 0
  Turn z (runs ticks fuel) past w now t = ((w.wait ≡ true) × (answer_of t ≡ 11) × Nothing past w now t)
      ⊎ ((w.wait ≡ false) × (length (steps_of t) ≤ ticks)
      × Run (steps_of t) past w.machine now (world_after t).machine
      × Ends z ticks t (world_after t).machine × ((world_after t).wait ≡ eqb (answer_of t) 103))
  Turn z (asks q) past w now t = ((0 < answer_of t) × (answer_of t < 100) × Nothing past w now t)
      ⊎ (Accepts q (answer_of t) × (length (steps_of t) ≡ 1)
      × (d : Deed) × (now ≡ d ∷ past)
      × Asks past w.machine w.wait q d (world_after t).machine (world_after t).wait (given_of t).value)
  Turn z (loads image) past w now t = Nothing past w now t

  -- "each lent the loaded image and the memory as the last call left it"
  abbrev pub InTurn : List Lent → (past : List Deed) → World → (now : List Deed) → M → Type 0
  InTurn [] past w now final = (now ≡ past) × (w.machine ≡ final)
  InTurn (c ∷ cs) past w now final = let t = call_of P c.sizes c.call w in
      (then : List Deed) × Turn c.sizes c.call past w then t × InTurn cs then (world_after t) now final

-- What a load leaves: the outermost closure, whose n upvalues "start null", and all else empty or null.
abbrev pub fresh : ℕ → M
fresh n =
    let none = replicate 256 null in
    record { frames = []; store = closure 0 (replicate n null) ∷ []; globals = none; builtins = none; result = running }

-- The call is no accepted load; none of the list is.
abbrev pub RefusedLoad : Sizes → Call → Type 0
RefusedLoad z (runs t fuel) = Unit {0}
RefusedLoad z (asks q) = Unit {0}
RefusedLoad z (loads image) = (P : Program) → load image z ≡ accepted P → ⊥

abbrev pub NoLoads : List Lent → Type 0
NoLoads cs = All (λ c. RefusedLoad c.sizes c.call) cs

-- Demand 3 of a list of calls, which lead from the loaded machine to `final`: "every continuation in the store holds
-- exactly the frames that its perform captured. Globals are not rolled back".
pub record Demand3 (P : Program) (cs : List Lent) (final : M) : Type 0 where
  pub deeds : List Deed
  pub starts : ((loaded P).machine ≡ fresh (length (code_at P 0).captures)) × ((loaded P).wait ≡ false)
  pub turns : InTurn P cs [] (loaded P) deeds final
  pub continuations : (k : ℕ) (K : List Frame) → Stored final.store k K → From deeds k K
  pub captures : (k : ℕ) (K : List Frame) → From deeds k K → Stored final.store k K
  pub globals : (g : ℕ) → g < 256 → get_or final.globals g null ≡ last_set g deeds
