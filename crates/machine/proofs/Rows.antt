-- The rows P1 to P12 of document 01, from the bytes of an image by the calls of the host. P13 is in crate fuel, P14 in crate image.
use Rattle.std.specs.Prelude.{◌≡◌, refl, List, [], ◌∷◌, ◌++◌, map, false, ℕ, zero, suc, ◌+◌, ◌-◌, pos, true}
use Rattle.cells.specs.Cells.{null}
use Rattle.fuel.specs.Fuels.{with, empty}
use Rattle.image.specs.Build.{number, record_of, opcode, code_with, code}
use Rattle.image.specs.Records.{Answer, accepted}
use Rattle.machine.specs.Values.{int, list_at, closure_at, continuation_at, call_arguments, cell, bool}
use Rattle.machine.specs.Machine.{lucia, Object, closure, list, continuation, running, returned, failed, unhandled, Frame, Result}
use Rattle.machine.specs.Calls.{asks, start, clear, set_builtin, nothing, gives, Call, runs}
use Rattle.machine.specs.Seen.{Named, Left, named, handler, sizes, leaves, sees, every_rule}
use Rattle.cells.specs.declared.Cell.{Cell}

-- ---- Opcodes and constants
abbrev Pop : List ℕ
Pop = opcode 0 0

abbrev LoadConst : ℕ → List ℕ
LoadConst = opcode 6

abbrev LoadGlobal : ℕ → List ℕ
LoadGlobal = opcode 4

abbrev StoreGlobal : ℕ → List ℕ
StoreGlobal = opcode 8

abbrev Div : List ℕ
Div = opcode 22 0

abbrev Rem : List ℕ
Rem = opcode 23 0

abbrev Call0 : List ℕ
Call0 = opcode 36 0

abbrev Return : List ℕ
Return = opcode 37 0

abbrev ReturnCall0 : List ℕ
ReturnCall0 = opcode 38 0

abbrev Jump : ℕ → List ℕ
Jump = opcode 40

abbrev RegisterHandler : ℕ → List ℕ
RegisterHandler = opcode 49

-- n times `MarkAddStackSize 0`
abbrev marks : ℕ → List ℕ
marks zero = []
marks (suc n) = opcode 51 0 ++ marks n

-- constants: null, true, an Int of this pattern, the function of code 0, and the effects e and f without parameters
abbrev null_const : List ℕ
null_const = record_of 16 []

abbrev true_const : List ℕ
true_const = record_of 17 (1 ∷ [])

abbrev int_const : ℕ → List ℕ
int_const n = record_of 18 (number 8 n)

abbrev function0 : List ℕ
function0 = record_of 22 (number 2 0)

abbrev effect : ℕ → List ℕ
effect name = record_of 23 (number 2 3 ++ number 4 0 ++ (name ∷ []))

abbrev e : List ℕ
e = effect 101

abbrev f : List ℕ
f = effect 102

-- ---- Rows: an image, the calls after its load, and what each of them leaves
pub record Row : Type 0 where
  pub image : List ℕ
  pub calls : List Call
  pub left : List Left

abbrev row : List ℕ → List Call → List Left → Row
row image calls left = record { image = image; calls = calls; left = left }

-- the outermost closure is started, or a continuation; a run of so many ticks with so much fuel
abbrev pub starts : Call
starts = asks (start (closure_at 0) [])

abbrev pub resumes : ℕ → List Cell → Call
resumes k args = asks (start (continuation_at k) args)

abbrev pub runs_for : ℕ → ℕ → Call
runs_for ticks fuel = runs ticks (with (pos fuel))

-- what an accepted start or clear leaves, and what a run leaves
abbrev asked : List Frame → Result → List Object → Left
asked frames result store = leaves 0 1 empty nothing frames result store [] [] false 64

abbrev ran : (code ticks fuel : ℕ) (frames : List Frame) (result : Result) (store : List Object) (globals : List Named) → Left
ran code ticks fuel frames result store globals = leaves code ticks (with (pos fuel)) nothing frames result store globals [] false 64

-- a frame with an empty stack and no handlers; the closures of the first codes, none with upvalues
abbrev bare : ℕ → ℕ → Frame
bare c place = lucia c place [] [] []

abbrev A : Object
A = closure 0 []

abbrev B : Object
B = closure 1 []

abbrev C : Object
C = closure 2 []

abbrev loaded : Left
loaded = leaves 0 0 empty (gives (closure_at 0)) [] running (A ∷ []) [] [] false 64

abbrev started : Left
started = asked (bare 0 0 ∷ []) running (A ∷ [])

-- the effect that is constant 0 of this code
abbrev pub effect_of : ℕ → Cell
effect_of c = cell 24 c 0

-- P1 null constant, `Return`, fuel 68: 1 left, done
--     code main() { LoadConst null  Return }
abbrev returns_null : List ℕ
returns_null = code (LoadConst 0 ++ Return) null_const []

abbrev p1 : Row
p1 = row returns_null (starts ∷ runs_for 100 68 ∷ []) (started ∷ ran 100 2 1 [] (returned null) (A ∷ []) [] ∷ [])

-- P1 with a taken jump in front, which costs nothing
--     code main() { Jump 1  LoadConst null  Return }
abbrev p1jump : Row
p1jump = row (code (Jump 1 ++ LoadConst 0 ++ Return) null_const []) (starts ∷ runs_for 100 68 ∷ []) (started ∷ ran 100 3 1 [] (returned null) (A ∷ []) [] ∷ [])

-- P2 fuel 67: 0 left, out of fuel; next run done
abbrev p2 : Row
p2 = row returns_null (starts ∷ runs_for 100 67 ∷ runs_for 100 0 ∷ [])
    (started ∷ ran 101 2 0 [] (returned null) (A ∷ []) [] ∷ ran 100 0 0 [] (returned null) (A ∷ []) [] ∷ [])

-- P3 `Call` as 64th: charge 5. P4 as 65th: 4
--     code main() {
--         code f() { LoadConst null  Return }
--         LoadConst fn f  n * MarkAddStackSize 0  Call 0  Return
--     }
abbrev late_call : (n left : ℕ) → Row
late_call n left = row (code (LoadConst 0 ++ marks n ++ Call0 ++ Return) function0 returns_null) (starts ∷ runs_for (n + 2) 1000 ∷ [])
    (started ∷ ran 102 (n + 2) left (bare 1 0 ∷ bare 0 (n + 2) ∷ []) running (A ∷ B ∷ []) [] ∷ [])

abbrev p3 : Row
p3 = late_call 62 995

abbrev p4 : Row
p4 = late_call 63 996

-- A performer of e, a caller of its inner code, and one that handles e
--     code C() { LoadConst effect e()  Call 0  Return }
abbrev performs : List ℕ
performs = code (LoadConst 0 ++ Call0 ++ Return) e []

--     code B() { code C() { .. }  LoadConst fn C  Call 0  Return }
abbrev calls : List ℕ → List ℕ
calls inner = code (LoadConst 0 ++ Call0 ++ Return) function0 inner

--     code A() { code B() { .. }  LoadConst effect e()  RegisterHandler handled  LoadConst fn B  Call 0  Return  handled: Return }
abbrev handles : List ℕ → List ℕ
handles inner = code (LoadConst 0 ++ RegisterHandler 5 ++ LoadConst 1 ++ Call0 ++ Return ++ Return) (e ++ function0) inner

-- P5 A handles E, C over B over A performs: captures B, C
abbrev p5 : Row
p5 = row (handles (calls performs)) (starts ∷ runs_for 9 1000 ∷ [])
    (started ∷ ran 102 9 789 (lucia 0 5 [] (effect_of 2 ∷ continuation_at 3 ∷ []) [] ∷ []) running (A ∷ B ∷ C ∷ continuation (bare 2 2 ∷ bare 1 2 ∷ []) ∷ []) [] ∷ [])

-- P6 A and B handle: captures C
abbrev p6 : Row
p6 = row (handles (handles performs)) (starts ∷ runs_for 11 1000 ∷ [])
    (started
    ∷ ran 102 11 791 (lucia 1 5 [] (effect_of 2 ∷ continuation_at 3 ∷ []) [] ∷ lucia 0 4 [] [] (handler (effect_of 0) 5 0 ∷ []) ∷ []) running
    (A ∷ B ∷ C ∷ continuation (bare 2 2 ∷ []) ∷ []) [] ∷ [])

-- P7 only C handles: result E, frames kept
--     code C() { LoadConst effect e()  RegisterHandler handled  LoadConst effect e()  Call 0  Return  handled: Return }
abbrev p7 : Row
p7 = row (calls (calls (code (LoadConst 0 ++ RegisterHandler 5 ++ LoadConst 0 ++ Call0 ++ Return ++ Return) e []))) (starts ∷ runs_for 100 1000 ∷ [])
    (started ∷ ran 100 9 789 (lucia 2 4 [] [] (handler (effect_of 2) 5 0 ∷ []) ∷ bare 1 2 ∷ bare 0 2 ∷ []) (unhandled (effect_of 2) []) (A ∷ B ∷ C ∷ []) [] ∷ [])

-- P8 lone frame tail-performs: no frames, result E
--     code main() { LoadConst effect e()  ReturnCall 0  Return }
abbrev p8 : Row
p8 = row (code (LoadConst 0 ++ ReturnCall0 ++ Return) e []) (starts ∷ runs_for 100 1000 ∷ []) (started ∷ ran 100 3 921 [] (unhandled (effect_of 0) []) (A ∷ []) [] ∷ [])

--     code A() { code C() { .. }  LoadConst effect e()  RegisterHandler handled  LoadConst fn C  Call 0  Return  handled: Pop  Return }
abbrev returns_continuation : List ℕ → List ℕ
returns_continuation inner = code (LoadConst 0 ++ RegisterHandler 5 ++ LoadConst 1 ++ Call0 ++ Return ++ Pop ++ Return) (e ++ function0) inner

-- P9 resume with 5, then 7: two equal stacks but for that value; C keeps its handler
--     code C() { LoadConst effect f()  RegisterHandler 0  LoadConst true  LoadConst effect e()  Call 0  Return }
abbrev pub p9frame : List Cell → Frame
p9frame values = lucia 1 5 [] (values ++ (bool true ∷ [])) (handler (effect_of 1) 0 0 ∷ [])

abbrev pub p9store : List Object
p9store = A ∷ B ∷ continuation (p9frame [] ∷ []) ∷ []

abbrev pub p9 : Row
p9 = row (returns_continuation (code (LoadConst 0 ++ RegisterHandler 0 ++ LoadConst 1 ++ LoadConst 2 ++ Call0 ++ Return) (f ++ true_const ++ e) []))
    (starts ∷ runs_for 100 1000 ∷ asks clear ∷ resumes 2 (int 5 ∷ []) ∷ asks clear ∷ resumes 2 (int 7 ∷ []) ∷ runs_for 100 1000 ∷ [])
    (started
    ∷ ran 100 12 792 [] (returned (continuation_at 2)) p9store []
    ∷ asked [] running p9store
    ∷ asked (p9frame (int 5 ∷ []) ∷ []) running p9store
    ∷ asked [] running p9store
    ∷ asked (p9frame (int 7 ∷ []) ∷ []) running p9store
    ∷ ran 100 1 932 [] (returned (int 7)) p9store [] ∷ [])

-- P10 continuation with no argument: required 1, given 0
abbrev p10store : List Object
p10store = A ∷ B ∷ continuation (bare 1 2 ∷ []) ∷ []

abbrev p10 : Row
p10 = row (returns_continuation performs) (starts ∷ runs_for 100 1000 ∷ asks clear ∷ resumes 2 [] ∷ [])
    (started
    ∷ ran 100 9 789 [] (returned (continuation_at 2)) p10store []
    ∷ asked [] running p10store
    ∷ asked [] (failed (call_arguments 1 false 0)) p10store ∷ [])

-- the pattern of -n
abbrev minus : ℕ → ℕ
minus n = 18446744073709551616 - n

-- P11 -7 `Div` 2 is -3, `Rem` -1
--     code main() { LoadConst -7  LoadConst 2  Div  StoreGlobal g0  LoadConst -7  LoadConst 2  Rem  Return }
abbrev p11 : Row
p11 = row (code_with 0 0 (LoadConst 0 ++ LoadConst 1 ++ Div ++ StoreGlobal 0 ++ LoadConst 0 ++ LoadConst 1 ++ Rem ++ Return) (number 2 0) (int_const (minus 7) ++ int_const 2) [])
    (starts ∷ runs_for 100 1000 ∷ []) (started ∷ ran 100 8 939 [] (returned (int (minus 1))) (A ∷ []) (named 0 (int (minus 3)) ∷ []) ∷ [])

-- P12 two parameters, variadic, two given: third is an empty list
--     code main(2, ...) { Return }
abbrev p12 : Row
p12 = row (code_with 2 1 Return [] [] []) (asks (start (closure_at 0) (int 10 ∷ int 20 ∷ [])) ∷ [])
    (asked (lucia 0 0 [] (list_at 1 ∷ int 20 ∷ int 10 ∷ []) [] ∷ []) running (A ∷ list [] ∷ []) ∷ [])

-- a global that was set comes before the builtin of its name, here 7
--     code main() { LoadConst 5  StoreGlobal g0  LoadGlobal g0  Return }
abbrev sevens : List Named
sevens = named 0 (int 7) ∷ []

abbrev global_first : Row
global_first = row (code_with 0 0 (LoadConst 0 ++ StoreGlobal 0 ++ LoadGlobal 0 ++ Return) (number 2 0) (int_const 5) [])
    (asks (set_builtin 0 (int 7)) ∷ starts ∷ runs_for 100 1000 ∷ [])
    (leaves 0 1 empty nothing [] running (A ∷ []) [] sevens false 64
    ∷ leaves 0 1 empty nothing (bare 0 0 ∷ []) running (A ∷ []) [] sevens false 64
    ∷ leaves 100 4 (with (pos 935)) nothing [] (returned (int 5)) (A ∷ []) (named 0 (int 5) ∷ []) sevens false 64 ∷ [])

abbrev table : List Row
table = p1 ∷ p1jump ∷ p2 ∷ p3 ∷ p4 ∷ p5 ∷ p6 ∷ p7 ∷ p8 ∷ p9 ∷ p10 ∷ p11 ∷ p12 ∷ global_first ∷ []

-- what the row's calls lead to, from its bytes
abbrev seen_of : Row → Answer (List Left)
seen_of r = sees r.image (sizes 4096 65536) r.calls

pub rows : map seen_of table ≡ map (λ (r : Row). accepted (loaded ∷ r.left)) table
unfolding every_rule
rows = refl
