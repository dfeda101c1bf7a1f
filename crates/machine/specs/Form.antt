-- The form of a world, which refusal 7 tests: "unknown tag, count over its limit or not its code's, handle not at an earlier object, place outside its code, a wait or unfinished slice that
-- the top frame does not fit". Relations that this list does not name are not tested.
use Rattle.std.specs.Prelude.{◌≡◌, List, [], ◌∷◌, ◌++◌, Bool, true, false, ℕ, ◌+◌, ◌<◌, ◌≤◌, length}
use Rattle.cells.specs.declared.Cell.{Cell}
use Rattle.machine.specs.Values.{Program, code_of, Error, call_arguments, un_operator, bin_operator, meta_un_operator, meta_bin_operator, zero_divisor, lucia_error, lucia_panic}
use Rattle.machine.specs.Machine.{Frame, lucia, host, effect_callback, Object, closure, list, continuation, Result, running, returned, failed, unhandled, frames_cost, used, result_cost, effects}
use Rattle.machine.specs.Calls.{Sizes, World, is_value, are_values, are_effects}
use Rattle.machine.specs.Demand.{All}
use Rattle.machine.specs.Formed.{FrameFormed}

-- the values that a frame holds: locals and stack
unfoldable pub values_of : Frame → List Cell
values_of (lucia h p l s hs) = l ++ s
values_of (host n w s hs) = s
values_of (effect_callback e s hs) = s

-- the effects that it names: those of its handlers, and the one that an effect callback performs
unfoldable pub effects_of : Frame → List Cell
effects_of (lucia h p l s hs) = effects hs
effects_of (host n w s hs) = hs
effects_of (effect_callback e s hs) = e ∷ hs

-- place, locals, targets and handlers are its code's; its values exist in the store s, its effects are effects
pub record FrameFits (P : Program) (s : List Object) (f : Frame) : Type 0 where
  pub formed : FrameFormed P s f
  pub values : are_values P s (values_of f) ≡ true
  pub named : are_values P s (effects_of f) ≡ true
  pub effects : are_effects (effects_of f) ≡ true

-- an object whose values exist in the store s
abbrev pub ObjectFits : Program → List Object → Object → Type 0
ObjectFits P s (closure c us) = (c < length P.codes) × (length us ≡ length (code_of P c).captures) × (are_values P s us ≡ true)
ObjectFits P s (list vs) = (length vs ≤ 4096) × (are_values P s vs ≡ true)
ObjectFits P s (continuation K) = (1 ≤ length K) × (length K ≤ 256) × All (FrameFits P s) K

-- each object's values exist among the objects before it
abbrev pub StoreFits : Program → List Object → List Object → Type 0
StoreFits P before [] = Unit {0}
StoreFits P before (o ∷ os) = ObjectFits P before o × StoreFits P (before ++ (o ∷ [])) os

-- 52 opcodes, 10 types, 24 names of metamethods, 32 parameters, 4,096 values in a call
abbrev pub ErrorFits : Program → List Object → Error → Type 0
ErrorFits P s (call_arguments start unbounded given) = (start ≤ 32) × (given ≤ 4096)
ErrorFits P s (un_operator o x t) = (o < 52) × (t < 10)
ErrorFits P s (bin_operator o x t u) = (o < 52) × (t < 10) × (u < 10)
ErrorFits P s (meta_un_operator n t) = (n < 24) × (t < 10)
ErrorFits P s (meta_bin_operator n t u) = (n < 24) × (t < 10) × (u < 10)
ErrorFits P s zero_divisor = Unit {0}
ErrorFits P s (lucia_error v) = is_value P s v ≡ true
ErrorFits P s (lucia_panic v) = is_value P s v ≡ true

abbrev pub ResultFits : Program → List Object → Result → Type 0
ResultFits P s running = Unit {0}
ResultFits P s (returned v) = is_value P s v ≡ true
ResultFits P s (failed x) = ErrorFits P s x
ResultFits P s (unhandled e args) = (are_values P s (e ∷ args) ≡ true) × (are_effects (e ∷ []) ≡ true)

-- the frame that runs next, if there is one and no result
pub data Top : Type 0 where
  of_lucia : Top
  of_host : Top
  of_effect : Top
  of_none : Top

unfoldable pub top_of : Result → List Frame → Top
top_of running [] = of_none
top_of running (lucia h p l s hs ∷ fs) = of_lucia
top_of running (host n w s hs ∷ fs) = of_host
top_of running (effect_callback e s hs ∷ fs) = of_effect
top_of (returned v) fs = of_none
top_of (failed x) fs = of_none
top_of (unhandled e args) fs = of_none

-- a wait is for a host callback; a slice under way, of which fewer than 64 are left, is a Lucia frame's
abbrev pub TurnFits : Top → Bool → ℕ → Type 0
TurnFits of_lucia b left = (b ≡ false) × (left ≤ 64)
TurnFits of_host b left = left ≡ 64
TurnFits of_effect b left = (b ≡ false) × (left ≡ 64)
TurnFits of_none b left = (b ≡ false) × (left ≡ 64)

pub record WorldFits (P : Program) (z : Sizes) (w : World) : Type 0 where
  pub few : length w.machine.frames ≤ 256
  pub frames : All (FrameFits P w.machine.store) w.machine.frames
  pub store : StoreFits P [] w.machine.store
  pub result : ResultFits P w.machine.store w.machine.result
  pub live : frames_cost w.machine.frames + result_cost w.machine.result ≤ z.live
  pub used : used w.machine.store ≤ z.store
  pub globals : (length w.machine.globals ≡ 256) × (are_values P w.machine.store w.machine.globals ≡ true)
  pub builtins : (length w.machine.builtins ≡ 256) × (are_values P w.machine.store w.machine.builtins ≡ true)
  pub turn : TurnFits (top_of w.machine.result w.machine.frames) w.wait w.slice
