-- The rules keep form: calls, returns, performs, throws and resumes make of frames, objects and values in form others in form.
use mathlib.Core.List.{List, [], ◌∷◌, ◌++◌}
use Prim.Native.Nat.{◌≤◌}
use Rattle.std.proofs.Math.ListN.{length}
use Rattle.machine.specs.Values.{Program}
use Rattle.machine.specs.Machine.{Frame, lucia, host, effect_callback, Object, M, effects}
use Rattle.machine.specs.Opcodes.{Action, goes, jumps, makes, sets, sets_builtin, calls, performs, throws, returns, clears}
use Rattle.machine.specs.Demand.{All}
use Rattle.machine.specs.Form.{FrameFits, ObjectFits, StoreFits, ErrorFits, ResultFits}
use Rattle.machine.specs.ValueLaws.{Value, Effect}

-- ---- Frames
-- The values of a frame exist, and its effects are effects.
abbrev pub Carried : Program → List Object → Frame → Type 0
Carried P s (lucia h p l st hs) = All (Value P s) l × All (Value P s) st × All (Effect P s) (effects hs)
Carried P s (host n w st hs) = All (Value P s) st × All (Effect P s) hs
Carried P s (effect_callback e st hs) = Effect P s e × All (Value P s) st × All (Effect P s) hs

pub record Carries (P : Program) (s : List Object) (f : Frame) : Type 0 where
  pub carried : Carried P s f

-- ---- Machines
-- Frames, objects, result, globals and builtins are in form: all but the counts that a step is judged on, and the turn.
pub record Held (P : Program) (m : M) : Type 0 where
  pub frames : All (FrameFits P m.store) m.frames
  pub store : StoreFits P [] m.store
  pub result : ResultFits P m.store m.result
  pub globals : All (Value P m.store) m.globals
  pub builtins : All (Value P m.store) m.builtins

-- ---- Actions
-- What an action leaves, makes and names: values that exist, effects, counts within their limits. What it makes exists in the store with it.
abbrev pub LeftCarries : Program → List Object → Action → Type 0
LeftCarries P s (goes F) = All (Carries P s) F
LeftCarries P s (jumps F) = All (Carries P s) F
LeftCarries P s (makes o F) = ObjectFits P s o × All (Carries P (s ++ (o ∷ []))) F
LeftCarries P s (sets g v F) = Value P s v × All (Carries P s) F
LeftCarries P s (sets_builtin g v F) = Value P s v × All (Carries P s) F
LeftCarries P s (calls f args F) = Value P s f × All (Value P s) args × (length args ≤ 4096) × (length F ≤ 256) × All (Carries P s) F
LeftCarries P s (performs e args F) = Effect P s e × All (Value P s) args × (length args ≤ 4096) × (length F ≤ 256) × All (Carries P s) F
LeftCarries P s (throws x F) = ErrorFits P s x × (length F ≤ 256) × All (Carries P s) F
LeftCarries P s (returns v F) = Value P s v × All (Carries P s) F
LeftCarries P s clears = Unit {0}
