-- What calls, performs, throws and returns are asked with, and their plans.
use Rattle.std.specs.Prelude.{◌≡◌, List, [], ◌∷◌, Bool, true, false, ◌⊎◌, ℕ, ◌≤◌, length, get_or, eqb, leb, Option, Some, None}
use Rattle.cells.specs.Cells.{null}
use Rattle.cells.specs.declared.Cell.{Cell}
use Rattle.image.specs.Records.{if?}
use Rattle.machine.specs.Values as v
use Rattle.machine.specs.Values.{Program, code_of, code_params, thrown, shown}
use Rattle.machine.specs.Machine.{M, Result, failed, unhandled, perform_by, throw_error, function_of, call_function, return_value}
use Rattle.machine.specs.Calls.{is_value}
use Rattle.plan.specs.Rest.{Under, Held}
use Rattle.plan.specs.Plans.{params_of, error_of, Carries}
use Rattle.plan.specs.declared.Counts.{Counts}
use Rattle.plan.specs.declared.Params.{Params}
use Rattle.plan.specs.declared.Error.{Error}
use Rattle.plan.specs.declared.Plan.{Plan}
use Rattle.plan.specs.declared.Plan.TheVariants.{Starts, Handles, Catches, Unhandled, Fails}
use Rattle.calls.specs.declared.Beginning.{Beginning}
use Rattle.plan.specs.declared.FrameKind.{FrameKind}

-- whether n arguments fit
unfoldable pub checks : Params → ℕ → Bool
checks p n = if? p.variadic (leb p.count n) (eqb p.count n)

-- an error, what is performed with which arguments, and what is left where nothing handles it
pub record Errs (x : Error) (e : Cell) (args : List Cell) (left : Result) : Type 0 where
  pub error : v.Error
  pub is : x ≡ error_of error
  pub effect : e ≡ thrown error
  pub arguments : args ≡ shown error ∷ []
  pub fails : left ≡ failed error

-- the error that was thrown, if any, of a perform whose plan is carried out with the arguments `given`: those performed with, or any, where a throw has its own
abbrev pub Caused : Option Error → Cell → List Cell → List Cell → Result → Type 0
Caused None e args given left = (given ≡ args) × (left ≡ unhandled e args)
Caused (Some x) e args given left = Errs x e args left

abbrev pub Handling : ℕ → ℕ → Cell → Params → Option Error → Plan → Type 0
Handling i j e p None r = r ≡ Handles i j e p
Handling i j e p (Some x) r = r ≡ Catches i j x

abbrev pub Lacking : Cell → Option Error → Plan → Type 0
Lacking e None r = r ≡ Unhandled e
Lacking e (Some x) r = r ≡ Fails x

abbrev pub callback_frame : FrameKind → Cell → Option Beginning
callback_frame kind f = Some (record { start = record { kind = kind; subject = f; locals = 0 }; params = record { count = 0; variadic = false } })

-- the code that a closure's first cell names
abbrev pub code_named : List Cell → Cell → ℕ
code_named S f = (get_or S f.number null).number

-- some machine is held in which f exists
pub record Callable (P : Program) (f : Cell) (n : ℕ) (L S : List Cell) (starts : List ℕ) : Type 0 where
  pub machine : M
  pub counts : Counts
  pub count : counts.frames ≡ n
  pub held : Held P machine counts L S starts
  pub value : is_value P machine.store f ≡ true
  pub table : n ≤ length starts

-- ---- What the plans are: for every machine that is held, they do what the machine's definition does
pub record Performs (P : Program) (frames throws : ℕ) (e : Cell) (n : ℕ) (thrown : Option Error) (L : List Cell) (starts : List ℕ) (r : Plan) : Type 0 where
  pub carries : (m : M) (args given : List Cell) (left : Result) → length m.frames ≡ frames → Under m.frames L starts → length args ≡ n → Caused thrown e args given left → Carries P r given m (perform_by (throw_error throws P) P e args left m)

pub record ThrowsError (P : Program) (frames throws : ℕ) (x : Error) (L : List Cell) (starts : List ℕ) (r : Plan) : Type 0 where
  pub carries : (m : M) (args : List Cell) (y : v.Error) → length m.frames ≡ frames → Under m.frames L starts → x ≡ error_of y → Carries P r args m (throw_error throws P y m)

pub record CallsFunction (P : Program) (frames : ℕ) (f : Cell) (args L S : List Cell) (starts : List ℕ) (r : Plan) : Type 0 where
  pub carries : (m : M) (c : Counts) → c.frames ≡ frames → Held P m c L S starts → is_value P m.store f ≡ true → Carries P r args m (call_function P (function_of m.store f) f args m)

-- a call with n arguments that begins no frame: neither effect nor callback, and no closure that takes so many
pub record BeginsNone (P : Program) (f : Cell) (n : ℕ) (S : List Cell) : Type 0 where
  pub no_effect_lem : (f.tag ≡ 8) ⊎ (f.tag ≡ 24) → ⊥
  pub no_callback : f.tag ≡ 39 → ⊥
  pub wrong : f.tag ≡ 7 → checks (params_of (code_params (code_of P (code_named S f)))) n ≡ false

abbrev pub BeginsCall : Program → ℕ → Cell → ℕ → List Cell → List Cell → List ℕ → Option Beginning → Type 0
BeginsCall P frames f n L S starts (Some b) = (args : List Cell) → length args ≡ n → CallsFunction P frames f args L S starts (Starts b.start b.params)
BeginsCall P frames f n L S starts None = BeginsNone P f n S

pub record ReturnsValue (frames : ℕ) (v : Cell) (r : Plan) : Type 0 where
  pub carries : (P : Program) (m : M) (args : List Cell) → length m.frames ≡ frames → Carries P r args m (return_value v m.frames m)
