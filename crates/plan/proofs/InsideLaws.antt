-- Room of an opcode that stays in its frame: judged by where the frame would end.
use Rattle.std.specs.Prelude.{◌≡◌, refl, List, [], ◌∷◌, ℕ, ◌+◌, ◌<◌, ◌≤◌, length, get_or, drop, Err}
use Rattle.std.proofs.Common.{◌∙◌, arith, le-ltb, lt-ltb}
use Rattle.std.proofs.Math.Path.{ap}
use Rattle.cells.specs.Cells.{null}
use Rattle.cells.specs.declared.Cell.{Cell}
use Rattle.machine.specs.Values.{Program}
use Rattle.machine.specs.Machine.{Handler, Frame, lucia, Result, M, with_frames, frame_cost, frames_cost, result_cost, used, handlers_of}
use Rattle.machine.specs.Opcodes.{Running, Action, goes, jumps, doing, Taken, takes, refuses, with_top, opcode_action}
use Rattle.machine.specs.Calls.{Sizes, handlers_left, top_handlers, does, stops, judge, outcome}
use Rattle.machine.specs.StepLaws.{Fits}
use Rattle.machine.proofs.Refusals.{effects_length}
use Rattle.memory.proofs.Lists.{length_flat}
use Rattle.moves.specs.Runs.{Runs, end_of, top_length}
use Rattle.moves.specs.declared.Running as registers
use Rattle.plan.specs.Inside.{Inside, left, Does}
use Rattle.plan.proofs.RestLaws.{same_refl}
use Rattle.refusals.specs.declared.Refusal.TheVariants.{FewValues}

-- ---- `judge`, by what there is room for
pub judge_does : (z : Sizes) (d : Action) (m : M) → handlers_left d ≤ 16 → Fits z m → judge z d m ≡ does d m
unfolding judge
judge_does z d m h f = rw (le-ltb 16 (handlers_left d) h, le-ltb 256 (length m.frames) f.frames, le-ltb z.live (frames_cost m.frames + result_cost m.result) f.live, le-ltb z.store (used m.store) f.store) refl

pub judge_handlers : (z : Sizes) (d : Action) (m : M) → 16 < handlers_left d → judge z d m ≡ stops 16
unfolding judge
judge_handlers z d m h = rw (lt-ltb 16 (handlers_left d) h) refl

pub judge_live : (z : Sizes) (d : Action) (m : M) → handlers_left d ≤ 16 → length m.frames ≤ 256 → z.live < frames_cost m.frames + result_cost m.result → judge z d m ≡ stops 14
unfolding judge
judge_live z d m h f l = rw (le-ltb 16 (handlers_left d) h, le-ltb 256 (length m.frames) f, lt-ltb z.live (frames_cost m.frames + result_cost m.result) l) refl

pub judge_store : (z : Sizes) (d : Action) (m : M) → handlers_left d ≤ 16 → length m.frames ≤ 256 → frames_cost m.frames + result_cost m.result ≤ z.live → z.store < used m.store → judge z d m ≡ stops 15
unfolding judge
judge_store z d m h f l s =
    rw (le-ltb 16 (handlers_left d) h, le-ltb 256 (length m.frames) f, le-ltb z.live (frames_cost m.frames + result_cost m.result) l, lt-ltb z.store (used m.store) s) refl

-- ---- A frame in registers
pub runs_cost : {h p : ℕ} {l st : List Cell} {hs : List Handler} (below : List Frame) {g : registers.Running} {L : List Cell} → Runs h p l st hs below g L → frames_cost (lucia h p l st hs ∷ below) ≡ end_of g
unfolding frames_cost frame_cost
runs_cost below o = omega (arith, o.base, length_flat below, o.counts.locals, o.counts.handlers, o.counts.stack)

pub runs_fits : {h p : ℕ} {l st : List Cell} {hs : List Handler} (below : List Frame) {g : registers.Running} {L : List Cell} → Runs h p l st hs below g L → end_of g ≤ length L
runs_fits below o = omega (arith, top_length o)

module _ {P : Program} {z : Sizes} {m : M} {r : Running} {g : registers.Running} {L S : List Cell} (i : Inside P z m r g L S) (p : ℕ) (l st : List Cell) (hs : List Handler) where
  abbrev F : List Frame
  F = left r p l st hs

  no_result : result_cost m.result ≡ 0
  unfolding result_cost
  no_result = ap (λ (x : Result). result_cost x) i.running

  -- as many frames as before
  few_left : length F ≤ 256
  few_left = omega (arith, i.fits.few, ap length i.frames)

  left_fits : frames_cost F ≤ z.live → Fits z (with_frames F m)
  left_fits le = record { frames = few_left; live = omega (arith, no_result); store = i.fits.used }

  top_handlers_lem : top_handlers F ≡ length hs
  unfolding top_handlers handlers_of
  top_handlers_lem = effects_length hs

  -- there is room: the frame goes on, or jumps
  pub goes_fits : {t : Taken} → t ≡ takes (goes F) → length hs ≤ 16 → frames_cost F ≤ z.live → outcome P z t m ≡ does (goes F) (with_frames F m)
  unfolding outcome doing handlers_left
  goes_fits q h le = ap (λ (x : Taken). outcome P z x m) q ∙ judge_does z (goes F) (with_frames F m) (omega (arith, top_handlers_lem)) (left_fits le)

  pub jumps_fits : {t : Taken} → t ≡ takes (jumps F) → frames_cost F ≤ z.live → outcome P z t m ≡ does (jumps F) (with_frames F m)
  unfolding outcome doing handlers_left
  jumps_fits q le = ap (λ (x : Taken). outcome P z x m) q ∙ judge_does z (jumps F) (with_frames F m) (omega arith) (left_fits le)

  -- there is none
  pub goes_short : {t : Taken} → t ≡ takes (goes F) → length hs ≤ 16 → z.live < frames_cost F → outcome P z t m ≡ stops 14
  unfolding outcome doing handlers_left
  goes_short q h lt = ap (λ (x : Taken). outcome P z x m) q ∙ judge_live z (goes F) (with_frames F m) (omega (arith, top_handlers_lem)) few_left (omega arith)

  -- a handler too many
  pub goes_handlers : {t : Taken} → t ≡ takes (goes F) → 16 < length hs → outcome P z t m ≡ stops 16
  unfolding outcome doing handlers_left
  goes_handlers q h = ap (λ (x : Taken). outcome P z x m) q ∙ judge_handlers z (goes F) (with_frames F m) (omega (arith, top_handlers_lem))

-- the running frame has at most 16 handlers
pub handlers_few : {P : Program} {z : Sizes} {m : M} {r : Running} {g : registers.Running} {L S : List Cell} → Inside P z m r g L S → length r.handlers ≤ 16
unfolding handlers_of
handlers_few {r = r} i = let f = rw i.frames at i.fits.frames in omega (arith, f.0.formed.handlers, effects_length r.handlers)

-- ---- The top value of a stack, if there is one
pub top_none : (st : List Cell) (f : Cell → List Cell → Action) → length st ≡ 0 → with_top st f ≡ refuses 12
unfolding with_top
top_none [] f e = refl
top_none (v ∷ st) f e = absurd (omega (arith, e))

pub top_some : (st : List Cell) (f : Cell → List Cell → Action) → (length st ≡ 0 → ⊥) → with_top st f ≡ takes (f (get_or st 0 null) (drop 1 st))
unfolding with_top
top_some [] f e = absurd (e refl)
top_some (v ∷ st) f e = refl

-- an opcode that is refused for what its stack has
pub refused_does : {P : Program} {op x : ℕ} {g : registers.Running} {live : List ℕ} → ((m : M) (r : Running) → g.stack ≡ length r.stack → opcode_action P m r op x ≡ refuses 12) → Does P op x g (Err FewValues) live live
unfolding outcome
refused_does {P} {live = live} h = record { next = λ z m r S q i. (ap (λ (t : Taken). outcome P z t m) (h m r i.runs.counts.stack), refl); same = same_refl live }
