-- A number and the name that it gives.
use Rattle.std.specs.Prelude.{◌≡◌, refl, ℕ, List, ◌<◌, Result, Ok, Err, cond, eqb, leb, get_or, replicate}
use Rattle.std.proofs.Math.Path.{ap, subst}
use Rattle.std.proofs.Common.{sym, ◌∙◌, leb-false}
use Rattle.std.proofs.Math.Bool.{Bool, true, false}
use Rattle.std.proofs.lemmas.Bool.{false≢true, eqb-true}
use Rattle.std.proofs.lemmas.List.{get_or-replicate}
use Rattle.image.specs.Program.{tab, operand_kind}
use Rattle.image.proofs.Parts.{tab_at}
use borrow.Author.Rules.{rules}
use Rattle.image.specs.declared.OperandKind.{OperandKind}
use Rattle.image.specs.declared.OperandKind.TheVariants.{Unused, Count, ValueType, Local, Global, Upvalue, Const, Target, LeftOut}
use Rattle.image.specs.declared.kinds.Unknown.{Unknown}
use Rattle.image.specs.declared.kinds.Opcode.{Opcode}
use Rattle.image.specs.declared.kinds.Opcode.TheVariants as op
use Rattle.image.specs.declared.kinds.ConstantKind.{ConstantKind}
use Rattle.image.specs.declared.kinds.EffectKind.{EffectKind}
use Rattle.image.specs.declared.kinds.CaptureFrom.{CaptureFrom}
use Rattle.image.specs.Kinds.{opcode_number, opcode_of, constant_number, constant_kind_of, effect_number, effect_kind_of, capture_from_number, capture_from_of}

same_ok : {A E : Type 0} {a x : A} → ◌≡◌ {A = Result A E} (Ok a) (Ok x) → a ≡ x
same_ok {A} {E} {a} {x} q = search rules

-- one step of a search by numbers: the name that was found is this one, or a later one
picks : {A E : Type 0} (f : A → ℕ) (n : ℕ) (x a : A) (r : Result A E) → (r ≡ Ok x → n ≡ f x) → cond (eqb n (f a)) (Ok a) r ≡ Ok x → n ≡ f x
picks {A} {E} f n x a r later e = by (eqb n (f a)) refl e
  where
    by : (t : Bool) → eqb n (f a) ≡ t → cond t (Ok a) r ≡ Ok x → n ≡ f x
    by true h q = eqb-true n (f a) h ∙ ap f (same_ok q)
    by false h q = later q

pub opcode_named : (n : ℕ) (o : Opcode) → opcode_of n ≡ Ok o → n ≡ opcode_number o
unfolding opcode_of
opcode_named n o =
    p op.Pop (p op.Copy (p op.Swap (p op.LoadLocal (p op.LoadGlobal (p op.LoadUpvalue (p op.LoadConst (
    p op.StoreLocal (p op.StoreGlobal (p op.BuildList (p op.Neg (p op.Not (p op.Add (p op.Sub (p op.Mul (
    p op.Div (p op.Rem (p op.Eq (p op.Ne (p op.Gt (p op.Ge (p op.Lt (p op.Le (p op.TypeCheck (p op.Call (
    p op.Return (p op.ReturnCall (p op.Jump (p op.JumpBackEdge (p op.Break (p op.Continue (
    p op.JumpPopIfNull (p op.PopJumpIfTrue (p op.PopJumpIfFalse (p op.JumpIfTrueOrPop (p op.JumpIfFalseOrPop (
    p op.RegisterHandler (p op.CheckEffect (p op.MarkAddStackSize (λ e. clash e)))))))))))))))))))))))))))))))))))))))
  where
    clash : {u : Unknown} → Err u ≡ Ok o → n ≡ opcode_number o
    clash {u} e = search rules

    p : (a : Opcode) {r : Result Opcode Unknown} → (r ≡ Ok o → n ≡ opcode_number o) → cond (eqb n (opcode_number a)) (Ok a) r ≡ Ok o → n ≡ opcode_number o
    p a {r} later e = picks opcode_number n o a r later e

opcode_numbered : (o : Opcode) → opcode_of (opcode_number o) ≡ Ok o
unfolding opcode_of
opcode_numbered op.Pop = refl
opcode_numbered op.Copy = refl
opcode_numbered op.Swap = refl
opcode_numbered op.LoadLocal = refl
opcode_numbered op.LoadGlobal = refl
opcode_numbered op.LoadUpvalue = refl
opcode_numbered op.LoadConst = refl
opcode_numbered op.StoreLocal = refl
opcode_numbered op.StoreGlobal = refl
opcode_numbered op.BuildList = refl
opcode_numbered op.Neg = refl
opcode_numbered op.Not = refl
opcode_numbered op.Add = refl
opcode_numbered op.Sub = refl
opcode_numbered op.Mul = refl
opcode_numbered op.Div = refl
opcode_numbered op.Rem = refl
opcode_numbered op.Eq = refl
opcode_numbered op.Ne = refl
opcode_numbered op.Gt = refl
opcode_numbered op.Ge = refl
opcode_numbered op.Lt = refl
opcode_numbered op.Le = refl
opcode_numbered op.TypeCheck = refl
opcode_numbered op.Call = refl
opcode_numbered op.Return = refl
opcode_numbered op.ReturnCall = refl
opcode_numbered op.Jump = refl
opcode_numbered op.JumpBackEdge = refl
opcode_numbered op.Break = refl
opcode_numbered op.Continue = refl
opcode_numbered op.JumpPopIfNull = refl
opcode_numbered op.PopJumpIfTrue = refl
opcode_numbered op.PopJumpIfFalse = refl
opcode_numbered op.JumpIfTrueOrPop = refl
opcode_numbered op.JumpIfFalseOrPop = refl
opcode_numbered op.RegisterHandler = refl
opcode_numbered op.CheckEffect = refl
opcode_numbered op.MarkAddStackSize = refl

-- a number that names no opcode is none's
pub opcode_unnamed : (n : ℕ) (u : Unknown) → opcode_of n ≡ Err u → (o : Opcode) → n ≡ opcode_number o → ⊥
opcode_unnamed n u e o q = clash (sym e ∙ ap opcode_of q ∙ opcode_numbered o)
  where
    clash : ◌≡◌ {A = Result Opcode Unknown} (Err u) (Ok o) → ⊥
    clash e = search rules

pub constant_named : (n : ℕ) (k : ConstantKind) → constant_kind_of n ≡ Ok k → n ≡ constant_number k
unfolding constant_kind_of
constant_named n k e = search rules

pub effect_named : (n : ℕ) (k : EffectKind) → effect_kind_of n ≡ Ok k → n ≡ effect_number k
unfolding effect_kind_of
effect_named n k e = search rules

pub capture_named : (n : ℕ) (k : CaptureFrom) → capture_from_of n ≡ Ok k → n ≡ capture_from_number k
unfolding capture_from_of
capture_named n k e = search rules

-- the kind of an operand by the opcode's name
abbrev pub kind_by_name : Opcode → OperandKind
kind_by_name op.Pop = Unused
kind_by_name op.Copy = Count
kind_by_name op.Swap = Count
kind_by_name op.LoadLocal = Local
kind_by_name op.LoadGlobal = Global
kind_by_name op.LoadUpvalue = Upvalue
kind_by_name op.LoadConst = Const
kind_by_name op.StoreLocal = Local
kind_by_name op.StoreGlobal = Global
kind_by_name op.BuildList = Count
kind_by_name op.Neg = Unused
kind_by_name op.Not = Unused
kind_by_name op.Add = Unused
kind_by_name op.Sub = Unused
kind_by_name op.Mul = Unused
kind_by_name op.Div = Unused
kind_by_name op.Rem = Unused
kind_by_name op.Eq = Unused
kind_by_name op.Ne = Unused
kind_by_name op.Gt = Unused
kind_by_name op.Ge = Unused
kind_by_name op.Lt = Unused
kind_by_name op.Le = Unused
kind_by_name op.TypeCheck = ValueType
kind_by_name op.Call = Count
kind_by_name op.Return = Unused
kind_by_name op.ReturnCall = Count
kind_by_name op.Jump = Target
kind_by_name op.JumpBackEdge = Target
kind_by_name op.Break = Target
kind_by_name op.Continue = Target
kind_by_name op.JumpPopIfNull = Target
kind_by_name op.PopJumpIfTrue = Target
kind_by_name op.PopJumpIfFalse = Target
kind_by_name op.JumpIfTrueOrPop = Target
kind_by_name op.JumpIfFalseOrPop = Target
kind_by_name op.RegisterHandler = Target
kind_by_name op.CheckEffect = Count
kind_by_name op.MarkAddStackSize = Count

kind_numbered : (o : Opcode) → operand_kind (opcode_number o) ≡ kind_by_name o
unfolding operand_kind
kind_numbered op.Pop = refl
kind_numbered op.Copy = refl
kind_numbered op.Swap = refl
kind_numbered op.LoadLocal = refl
kind_numbered op.LoadGlobal = refl
kind_numbered op.LoadUpvalue = refl
kind_numbered op.LoadConst = refl
kind_numbered op.StoreLocal = refl
kind_numbered op.StoreGlobal = refl
kind_numbered op.BuildList = refl
kind_numbered op.Neg = refl
kind_numbered op.Not = refl
kind_numbered op.Add = refl
kind_numbered op.Sub = refl
kind_numbered op.Mul = refl
kind_numbered op.Div = refl
kind_numbered op.Rem = refl
kind_numbered op.Eq = refl
kind_numbered op.Ne = refl
kind_numbered op.Gt = refl
kind_numbered op.Ge = refl
kind_numbered op.Lt = refl
kind_numbered op.Le = refl
kind_numbered op.TypeCheck = refl
kind_numbered op.Call = refl
kind_numbered op.Return = refl
kind_numbered op.ReturnCall = refl
kind_numbered op.Jump = refl
kind_numbered op.JumpBackEdge = refl
kind_numbered op.Break = refl
kind_numbered op.Continue = refl
kind_numbered op.JumpPopIfNull = refl
kind_numbered op.PopJumpIfTrue = refl
kind_numbered op.PopJumpIfFalse = refl
kind_numbered op.JumpIfTrueOrPop = refl
kind_numbered op.JumpIfFalseOrPop = refl
kind_numbered op.RegisterHandler = refl
kind_numbered op.CheckEffect = refl
kind_numbered op.MarkAddStackSize = refl

pub kind_named : (n : ℕ) (o : Opcode) → opcode_of n ≡ Ok o → operand_kind n ≡ kind_by_name o
kind_named n o e = ap operand_kind (opcode_named n o e) ∙ kind_numbered o

-- a number that names no opcode is left out: for the numbers below 52 by their table, for the others by the first test
abbrev is_left_out : OperandKind → Bool
is_left_out LeftOut = true
is_left_out Unused = false
is_left_out Count = false
is_left_out ValueType = false
is_left_out Local = false
is_left_out Global = false
is_left_out Upvalue = false
is_left_out Const = false
is_left_out Target = false

left_out : (k : OperandKind) → is_left_out k ≡ true → k ≡ LeftOut
left_out LeftOut e = refl
left_out Unused e = absurd (false≢true e)
left_out Count e = absurd (false≢true e)
left_out ValueType e = absurd (false≢true e)
left_out Local e = absurd (false≢true e)
left_out Global e = absurd (false≢true e)
left_out Upvalue e = absurd (false≢true e)
left_out Const e = absurd (false≢true e)
left_out Target e = absurd (false≢true e)

abbrev agrees : Result Opcode Unknown → OperandKind → Bool
agrees (Ok o) k = true
agrees (Err u) k = is_left_out k

all_agree : tab 52 (λ n. agrees (opcode_of n) (operand_kind n)) ≡ replicate 52 true
unfolding tab opcode_of operand_kind
all_agree = refl

past : (n : ℕ) → leb 52 n ≡ true → operand_kind n ≡ LeftOut
unfolding operand_kind
past n h = rw h refl

pub kind_unnamed : (n : ℕ) (u : Unknown) → opcode_of n ≡ Err u → operand_kind n ≡ LeftOut
kind_unnamed n u e = by (leb 52 n) refl
  where
    at : n < 52 → agrees (opcode_of n) (operand_kind n) ≡ true
    at l = sym (tab_at 52 (λ n. agrees (opcode_of n) (operand_kind n)) n true l) ∙ ap (λ (t : List Bool). get_or t n true) all_agree ∙ get_or-replicate 52 n true true l

    by : (t : Bool) → leb 52 n ≡ t → operand_kind n ≡ LeftOut
    by true h = past n h
    by false h = left_out (operand_kind n) (subst (λ (r : Result Opcode Unknown). agrees r (operand_kind n) ≡ true) e (at (leb-false 52 n h)))
