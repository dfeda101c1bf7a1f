-- Row P9 by the rules of Demand: C, called by A, performs e, which A handles; its continuation is resumed with 5 and 7.
use Rattle.std.specs.Prelude.{◌≡◌, refl, List, [], ◌∷◌, map, true, false, ℕ, zero, suc, ◌++◌, replicate}
use Rattle.std.proofs.Common.{inl, inr, arith}
use Rattle.cells.specs.declared.Cell.{Cell}
use Rattle.image.specs.Records.{accepted, Answer, refused}
use Rattle.machine.specs.Values.{code_of, cell, bool, int, closure_at, continuation_at, Program}
use Rattle.machine.specs.Machine.{Handler, Frame, lucia, Object, closure, continuation, Result, returned, running, M}
use Rattle.machine.specs.Opcodes.{Running}
use Rattle.machine.specs.Calls.{Call, asks, clear, world, Step, steps_of, load, loaded, call_of, Sizes, Lent, lent}
use Rattle.machine.specs.Seen.{handler, every_rule, sizes}
use Rattle.machine.proofs.Rows.{effect_of, starts, resumes as resume, runs_for, p9, p9frame, p9store}
use Rattle.machine.specs.Demand.{Deed, other, From, Fits, Passed, Same, Captured, Ticks, Run, Turn, stays, makes, registers, returns, calls, performs, begins, as_effect, resumes, handled, done, InTurn, NoLoads, captures}
use Rattle.cells.specs.Cells.{null}

-- ---- The program, the calls, the deeds (the last is first) and the machine at the end
abbrev z : Sizes
z = sizes 4096 65536

abbrev program_of : Answer Program → Program
program_of (refused n) = record { image = []; codes = [] }
program_of (accepted P) = P

abbrev pub P9 : Program
P9 = program_of (load p9.image z)

pub p9_loads : load p9.image z ≡ accepted P9
unfolding every_rule
p9_loads = refl

abbrev pub p9calls : List Lent
p9calls = map (lent z) p9.calls

-- The eleventh step is the perform, which captures C's frame: the deeds until n steps after it.
abbrev until : ℕ → List Deed
until n = replicate n other ++ captures 2 (p9frame [] ∷ []) ∷ replicate 10 other

abbrev pub p9deeds : List Deed
p9deeds = until 7

abbrev at : List Frame → List Object → Result → M
at F s r = record { frames = F; store = s; globals = replicate 256 null; builtins = replicate 256 null; result = r }

abbrev pub p9final : M
p9final = at [] p9store (returned (int 7))

-- ---- The effect e as C names it; the handlers of A, for e, and C, for f; true; the continuation; the frame under C's
abbrev e : Cell
e = cell 24 1 2

abbrev h_a : List Handler
h_a = handler (effect_of 0) 5 0 ∷ []

abbrev h_c : List Handler
h_c = handler (effect_of 1) 0 0 ∷ []

abbrev t : Cell
t = bool true

abbrev k : Cell
k = continuation_at 2

abbrev under : List Frame
under = lucia 0 4 [] [] h_a ∷ []

-- A (0) or C (1) runs: the place past its opcode, its stack and handlers, the frames below.
abbrev runs : ℕ → ℕ → List Cell → List Handler → List Frame → Running
runs c p st hs F = record {
  handle = c;
  number = c;
  code = code_of P9 c;
  upvalues = [];
  place = p;
  locals = [];
  stack = st;
  handlers = hs;
  below = F;
}

-- ---- Premises: no arguments fit and are passed; e is one effect in A and in C; C's frame is captured, as n steps ago
fits : Fits 0 0 []
fits = inr ((λ q. omega arith), refl)

passed : (s : List Object) → Passed 0 0 [] [] s s
passed s = inl ((λ q. omega arith), refl, refl)

same : Same P9 (effect_of 0) e
unfolding every_rule
same = inr ((λ q. omega arith), refl, refl, inr (refl, refl, refl))

above : Captured P9 e (p9frame [] ∷ under) (p9frame [] ∷ []) (lucia 0 4 [] [] h_a) []
above = record { top = p9frame []; between = []; frames = refl; captured = refl; handles = inl same; highest = tt }

made : (K : List Frame) → closure 1 [] ≡ continuation K → ⊥
made K q = let x : ◌≡◌ {A = ℕ} 0 1 = cc in omega arith

from : (n : ℕ) → From (until n) 2 (p9frame [] ∷ [])
from zero = inl refl
from (suc n) = inr (from n)

-- ---- Ticks one after the other; they are a run whose steps lead from machine to machine as they do
data Path (now : List Deed) (end : M) : List Deed → M → Type 0 where
  there : Path now end now end
  tick : {past : List Deed} {m n : M} {d : Deed} → m.result ≡ running → Ticks P9 past m d n → Path now end (d ∷ past) n
      → Path now end past m

led : {now : List Deed} {end : M} {past : List Deed} {m : M} → Path now end past m → List (List M)
led there = []
led (tick {m = m} {n = n} r t p) = (m ∷ n ∷ []) ∷ led p

abbrev leads : List Step → List (List M)
leads ss = map (λ (s : Step). s.before ∷ s.after ∷ []) ss

walk : {now : List Deed} {end : M} {past : List Deed} {m : M} (p : Path now end past m) (ss : List Step) → leads ss ≡ led p
    → Run P9 ss past m now end
unfolding led
walk there [] q = (refl, refl)
walk there (s ∷ ss) q = let x : ◌≡◌ {A = ℕ} 0 1 = cc in absurd (omega arith)
walk (tick r t p) [] q = let x : ◌≡◌ {A = ℕ} 0 1 = cc in absurd (omega arith)
walk (tick {n = n} {d = d} r t p) (s ∷ ss) q =
    let b : s.after ≡ n = cc in let rest : leads ss ≡ led p = cc in (d, cc, r, rw b t, rw b (walk p ss rest))

-- ---- The first run. The first number of `At` is the opcode's place.
abbrev begun : M
begun = at (lucia 0 0 [] [] [] ∷ []) (closure 0 [] ∷ []) running

ticks : Path (until 2) (at [] p9store (returned k)) (other ∷ []) begun
unfolding every_rule
ticks =
    tick refl (stays (runs 0 1 [] [] []) 6 0 1 [] (effect_of 0 ∷ []) (0, refl, refl, refl, refl, refl) (omega arith))
    (tick refl (registers (runs 0 2 (effect_of 0 ∷ []) [] []) 5 _ [] h_a
    (1, refl, refl, refl, refl, refl) refl refl (0, refl))
    (tick refl (makes (runs 0 3 [] h_a []) 6 1 3 [] (closure_at 1 ∷ []) _
    (2, refl, refl, refl, refl, refl) (omega arith) made)
    (tick refl (calls (runs 0 4 (closure_at 1 ∷ []) h_a []) 0 (3, refl, refl, refl, refl, refl)
    (begins 1 [] [] _ refl refl fits (passed _)))
    (tick refl (stays (runs 1 1 [] [] under) 6 0 1 [] (effect_of 1 ∷ []) (0, refl, refl, refl, refl, refl) (omega arith))
    (tick refl (registers (runs 1 2 (effect_of 1 ∷ []) [] under) 0 _ [] h_c
    (1, refl, refl, refl, refl, refl) refl refl (0, refl))
    (tick refl (stays (runs 1 3 [] h_c under) 6 1 3 [] (t ∷ []) (2, refl, refl, refl, refl, refl) (omega arith))
    (tick refl (stays (runs 1 4 (t ∷ []) h_c under) 6 2 4 [] (e ∷ t ∷ [])
    (3, refl, refl, refl, refl, refl) (omega arith))
    (tick refl (calls (runs 1 5 (e ∷ t ∷ []) h_c under) 0 (4, refl, refl, refl, refl, refl) (as_effect refl))
    (tick refl (performs e [] [] (p9frame [] ∷ under) refl
    (inl (fits, handled _ [] _ (lucia 0 5 [] (e ∷ k ∷ []) []) [] _ above (passed _) (5, inl (same, refl), refl))))
    (tick refl (stays (runs 0 6 (e ∷ k ∷ []) [] []) 0 0 6 [] (k ∷ []) (5, refl, refl, refl, refl, refl) (omega arith))
    (tick refl (returns (runs 0 7 (k ∷ []) [] []) 0 k [] (6, refl, refl, refl, refl, refl) refl)
    there)))))))))))

-- ---- The calls
abbrev Turns : Call → List Deed → M → List Deed → Type 0
Turns c past m now = let w = world m false 64 in Turn P9 z c past w now (call_of P9 z c w)

starting : Turns starts [] (at [] (closure 0 [] ∷ []) running) (other ∷ [])
unfolding every_rule
starting = inr (refl, refl, other, refl, (refl, refl, begins 0 [] [] _ refl refl fits (passed _), refl))

running_first : Turns (runs_for 100 1000) (other ∷ []) begun (until 2)
unfolding every_rule ticks led
running_first =
    let steps = steps_of (call_of P9 z (runs_for 100 1000) (world begun false 64)) in
    inr (refl, omega arith, walk ticks steps refl, done refl (inr refl), refl)

clearing : (n : ℕ) (F : List Frame) (r : Result) → Turns (asks clear) (until n) (at F p9store r) (until (suc n))
unfolding every_rule
clearing n F r = inr (refl, refl, other, refl, (refl, refl, refl))

resuming : (v n : ℕ) → Turns (resume 2 (int v ∷ [])) (until n) (at [] p9store running) (until (suc n))
unfolding every_rule
resuming v n = inr (refl, refl, other, refl, (refl, refl, resumes (int v) (p9frame []) [] refl refl (from n), refl))

running_last : Turns (runs_for 100 1000) (until 6) (at (p9frame (int 7 ∷ []) ∷ []) p9store running) (until 7)
unfolding every_rule
running_last =
    let last = returns (runs 1 6 (int 7 ∷ t ∷ []) h_c []) 0 _ _ (5, refl, refl, refl, refl, refl) refl in
    inr (refl, omega arith, (other, refl, refl, last, (refl, refl)), done refl (inr refl), refl)

turn : {T R : List Deed → Type 0} (ds : List Deed) → T ds → R ds → (ds : List Deed) × T ds × R ds
turn ds t r = (ds, t, r)

pub p9_history : InTurn P9 p9calls [] (loaded P9) p9deeds p9final
unfolding every_rule
p9_history =
    turn (other ∷ []) starting
    (turn (until 2) running_first
    (turn (until 3) (clearing 2 [] (returned k))
    (turn (until 4) (resuming 5 3)
    (turn (until 5) (clearing 4 (p9frame (int 5 ∷ []) ∷ []) running)
    (turn (until 6) (resuming 7 5)
    (turn (until 7) running_last
    (refl, refl)))))))

-- None of these calls is an accepted load, so that the theorem speaks of them.
pub p9_no_loads : NoLoads p9calls
p9_no_loads = (tt, (tt, (tt, (tt, (tt, (tt, (tt, tt)))))))
