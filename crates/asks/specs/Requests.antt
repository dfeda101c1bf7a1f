-- Requests in a world that fits: refusals 12 to 16 never come, so that one that brings what is asked for is accepted, and another is refused with 5.
use Rattle.std.specs.Prelude.{◌≡◌, List, [], ◌∷◌, Bool, ℕ, ◌+◌, ◌≤◌, length, ltb, eqb}
use Rattle.std.proofs.Math.Path.{refl, ap}
use Rattle.std.proofs.Common.{◌∙◌, arith, le-ltb}
use Rattle.std.proofs.Math.Bool.{true, false}
use Rattle.image.specs.Records.{if?, both}
use Rattle.cells.specs.declared.Cell.{Cell}
use Rattle.machine.specs.Values.{Program}
use Rattle.machine.specs.Machine.{Frame, M, frames_cost, result_cost, used}
use Rattle.machine.specs.Opcodes.{Action, goes, sets, sets_builtin, clears, doing, Taken}
use Rattle.machine.specs.Calls.{Sizes, top_handlers, handlers_left, does, judge, outcome, World, nothing, no_fuel, Trace, steps, ends, answer_of, given_of, world_after, is_value, Request, clear, text, bytes, set_global, get_global, set_builtin, get_builtin, fit, request_action, request_world, given_by, end_of, fuel_of, asked, asks, call_of}
use Rattle.machine.specs.Demand.{All}
use Rattle.machine.specs.Form.{FrameFits, WorldFits}

-- the action is judged on a machine that is within all limits
pub judged : (z : Sizes) (d : Action) (m : M) → handlers_left d ≤ 16 → length m.frames ≤ 256 → frames_cost m.frames + result_cost m.result ≤ z.live → used m.store ≤ z.store → judge z d m ≡ does d m
unfolding judge
judged z d m a b c e =
    rw (le-ltb 16 (handlers_left d) a, le-ltb 256 (length m.frames) b, le-ltb z.live (frames_cost m.frames + result_cost m.result) c, le-ltb z.store (used m.store) e)

-- a request that is refused with 5 or does d
pub record Plain (P : Program) (z : Sizes) (q : Request) (w : World) (b : Bool) (d : Action) : Type 0 where
  pub action : request_action P q w ≡ fit b d
  pub judged : judge z d (doing P d w.machine) ≡ does d (doing P d w.machine)
  pub ending : end_of P q w (doing P d w.machine) ≡ ends 0 (given_by P q (doing P d w.machine)) no_fuel (request_world q w (doing P d w.machine))

module _ {P : Program} {z : Sizes} {q : Request} {w : World} {b : Bool} {d : Action} (p : Plain P z q w b d) where
  abbrev told : Bool → Trace
  told c =
      if? c (steps (record { before = w.machine; action = d; after = doing P d w.machine }) (ends 0 (given_by P q (doing P d w.machine)) no_fuel (request_world q w (doing P d w.machine))))
      (ends 5 nothing (fuel_of q) w)

  traced : call_of P z (asks q) w ≡ told b
  unfolding call_of asked outcome fit
  traced = ap (λ (t : Taken). asked P q w (outcome P z t w.machine)) p.action ∙ by b
    where
      by : (c : Bool) → asked P q w (outcome P z (fit c d) w.machine) ≡ told c
      by true = rw (p.judged, p.ending)
      by false = refl

  pub answers : answer_of (call_of P z (asks q) w) ≡ if? b 0 5
  unfolding answer_of
  answers = ap answer_of traced ∙ by b
    where
      by : (c : Bool) → answer_of (told c) ≡ if? c 0 5
      by true = refl
      by false = refl

  pub gives : given_of (call_of P z (asks q) w) ≡ if? b (given_by P q (doing P d w.machine)) nothing
  unfolding given_of
  gives = ap given_of traced ∙ by b
    where
      by : (c : Bool) → given_of (told c) ≡ if? c (given_by P q (doing P d w.machine)) nothing
      by true = refl
      by false = refl

  pub leaves : world_after (call_of P z (asks q) w) ≡ if? b (request_world q w (doing P d w.machine)) w
  unfolding world_after
  leaves = ap world_after traced ∙ by b
    where
      by : (c : Bool) → world_after (told c) ≡ if? c (request_world q w (doing P d w.machine)) w
      by true = refl
      by false = refl

top_few : (P : Program) (s : List _) (F : List Frame) → All (FrameFits P s) F → top_handlers F ≤ 16
unfolding top_handlers
top_few P s [] h = omega arith
top_few P s (f ∷ F) h = h.0.formed.handlers

-- ---- The eight requests
module _ (P : Program) (z : Sizes) (w : World) (f : WorldFits P z w) where
  abbrev here : M
  here = w.machine

  quiet : judge z (goes here.frames) (doing P (goes here.frames) here) ≡ does (goes here.frames) (doing P (goes here.frames) here)
  unfolding doing handlers_left
  quiet = judged z (goes here.frames) here (top_few P here.store here.frames f.frames) f.few f.live f.used

  pub get_global_lem : (g : ℕ) → Plain P z (get_global g) w (ltb g 256) (goes here.frames)
  unfolding request_action end_of given_by
  get_global_lem g = record { action = refl; judged = quiet; ending = refl }

  pub get_builtin_lem : (g : ℕ) → Plain P z (get_builtin g) w (ltb g 256) (goes here.frames)
  unfolding request_action end_of given_by
  get_builtin_lem g = record { action = refl; judged = quiet; ending = refl }

  pub text_plain : (page : List ℕ) (v : Cell) → Plain P z (text page v) w (both (is_value P here.store v) (if? (eqb v.tag 4) true (eqb v.tag 20))) (goes here.frames)
  unfolding request_action end_of
  text_plain page v = record { action = refl; judged = quiet; ending = refl }

  pub bytes_plain : (v : Cell) → Plain P z (bytes v) w (both (is_value P here.store v) (eqb v.tag 5)) (goes here.frames)
  unfolding request_action end_of
  bytes_plain v = record { action = refl; judged = quiet; ending = refl }

  pub set_global_lem : (g : ℕ) (v : Cell) → Plain P z (set_global g v) w (both (ltb g 256) (is_value P here.store v)) (sets g v here.frames)
  unfolding request_action end_of given_by doing handlers_left
  set_global_lem g v = record { action = refl; judged = judged z (sets g v here.frames) (doing P (sets g v here.frames) here) (omega arith) f.few f.live f.used; ending = refl }

  pub set_builtin_lem : (g : ℕ) (v : Cell) → Plain P z (set_builtin g v) w (both (ltb g 256) (is_value P here.store v)) (sets_builtin g v here.frames)
  unfolding request_action end_of given_by doing handlers_left
  set_builtin_lem g v = record { action = refl; judged = judged z (sets_builtin g v here.frames) (doing P (sets_builtin g v here.frames) here) (omega arith) f.few f.live f.used; ending = refl }

  pub clear_plain : Plain P z clear w true clears
  unfolding request_action end_of given_by doing handlers_left fit frames_cost result_cost
  clear_plain = record { action = refl; judged = judged z clears (doing P clears here) (omega arith) (omega arith) (omega arith) f.used; ending = refl }
