-- What the families require, from what is given: the operand lies in its table, and what is looked up there is the running frame's.
use Rattle.std.specs.Prelude.{◌≡◌, List, [], ℕ, ◌+◌, ◌<◌, ◌≤◌, length, get_or}
use Rattle.std.proofs.Common.{sym, ap, subst, ◌∙◌, arith}
use Rattle.cells.specs.Le.{le_at}
use Rattle.cells.specs.declared.Cell.{Cell}
use Rattle.image.specs.Program.{Code, operand_kind}
use Rattle.image.proofs.Parts.{length_tab}
use Rattle.image.specs.Layout.{field, code_at}
use Rattle.image.specs.Fine.{OperandIn, Fine, Sized, no_constant, bytes_of}
use Rattle.image.specs.declared.Op.{Op}
use Rattle.image.specs.declared.Constant.{Constant}
use Rattle.image.specs.declared.OperandKind.{OperandKind}
use Rattle.image.specs.declared.OperandKind.TheVariants.{Local, Global, Upvalue, Const}
use Rattle.program.specs.Looks.{body_at}
use Rattle.scan.specs.Tables.{program_in}
use Rattle.scan.specs.Values.{code_in}
use Rattle.machine.specs.Values.{Program, code_of}
use Rattle.machine.specs.Machine.{M}
use Rattle.machine.specs.Opcodes.{Running}
use Rattle.machine.specs.Calls.{Sizes}
use Rattle.machine.proofs.FormRules.{object_at_lem}
use Rattle.machine.proofs.Store.{same_code}
use Rattle.moves.specs.Runs.{end_of}
use Rattle.moves.specs.Objects.{object_there, upvalue_fits}
use Rattle.moves.specs.declared.Running as registers
use Rattle.plan.proofs.InsideLaws.{runs_fits}
use Rattle.makes.specs.Made.{Named}
use Rattle.steps.specs.Stepped.{Given}
use Rattle.steps.specs.SteppedLaws.{operand_in}

-- ---- Of a machine that is given
module _ {P : Program} {z : Sizes} {m : M} {r : Running} {g : registers.Running} {handle code : ℕ} {o : Op} {L S : List Cell} (y : Given P z m r g handle code o L S) where
  fine : Fine P.image P.codes r.number r.code
  fine = rw y.inside.code (y.accepted.fine r.number y.inside.known)

  pub code_low : code < 256
  code_low = omega (arith, y.number, y.inside.known, y.accepted.few)

  pub fits_in : end_of g ≤ length L
  fits_in = runs_fits r.below y.inside.runs

  operand_of : {k : OperandKind} → operand_kind o.number ≡ k → OperandIn r.code k o.operand
  operand_of e = subst (λ (k : OperandKind). OperandIn r.code k o.operand) e (operand_in y)

  length_locals : length r.locals ≡ r.code.locals
  length_locals =
      let i = y.inside in
      let f = (rw i.frames at i.fits.frames).0.formed.stands in
      f.locals ∙ ap (λ (n : ℕ). (code_of P n).locals) (same_code f.closure_there i.closure_there) ∙ sym (ap (λ (c : Code). c.locals) i.code)

  pub local_in : operand_kind o.number ≡ Local → o.operand < g.locals
  local_in e = let x : o.operand < r.code.locals = operand_of e in omega (arith, length_locals, y.inside.runs.counts.locals)

  length_upvalues : length r.upvalues ≡ length r.code.captures
  length_upvalues =
      let i = y.inside in
      (object_at_lem P [] m.store r.handle _ i.fits.store i.closure_there).1 ∙ sym (ap (λ (c : Code). length c.captures) i.code)

  pub upvalue_in : operand_kind o.number ≡ Upvalue → o.operand < length r.upvalues
  upvalue_in e = let x : o.operand < length r.code.captures = operand_of e in omega (arith, length_upvalues)

  pub upvalue_there : operand_kind o.number ≡ Upvalue → handle + 1 + o.operand < length S
  upvalue_there e = omega (arith, upvalue_fits (object_there y.inside.store y.inside.closure_there) o.operand (upvalue_in e), y.closure)

  global_in : operand_kind o.number ≡ Global → o.operand < length r.code.globals
  global_in e = operand_of e

  constant_in : operand_kind o.number ≡ Const → o.operand < length r.code.constants
  constant_in e = operand_of e

-- ---- The same by the tables
module _ (image rows constants inner : List ℕ) (codes : ℕ) where
  abbrev here : ℕ → Code
  here = code_at image rows constants inner

  module _ {z : Sizes} {m : M} {r : Running} {g : registers.Running} {handle code : ℕ} {o : Op} {L S : List Cell} (y : Given (program_in image rows constants inner codes) z m r g handle code o L S) where
    code_is : r.code ≡ here code
    code_is =
        let k : r.number < codes = omega (arith, y.inside.known, length_tab codes here) in
        y.inside.code ∙ code_in image rows constants inner codes r.number k ∙ ap here (sym y.number)

    pub global_within : operand_kind o.number ≡ Global → o.operand < field rows code 3
    global_within e = omega (arith, global_in y e, ap (λ (c : Code). length c.globals) code_is ∙ length_tab _ _)

    pub name_is : {name : ℕ} → name ≡ get_or (body_at image rows code).globals o.operand 0 → name ≡ get_or r.code.globals o.operand 0
    name_is e = e ∙ sym (ap (λ (c : Code). get_or c.globals o.operand 0) code_is)

    pub name_low : {name : ℕ} → operand_kind o.number ≡ Global → name ≡ get_or (body_at image rows code).globals o.operand 0 → name < 256
    name_low k e = omega (arith, (fine y).name o.operand (global_in y k), name_is e)

    pub constant_within : operand_kind o.number ≡ Const → o.operand < field rows code 7
    constant_within e = omega (arith, constant_in y e, ap (λ (c : Code). length c.constants) code_is ∙ length_tab _ _)

    pub constant_is : {c : Constant} → c ≡ get_or (code_at image rows constants [] code).constants o.operand no_constant → c ≡ get_or r.code.constants o.operand no_constant
    constant_is e = e ∙ sym (ap (λ (c : Code). get_or c.constants o.operand no_constant) code_is)

    module _ (k : operand_kind o.number ≡ Const) {c : Constant} (e : c ≡ get_or (code_at image rows constants [] code).constants o.operand no_constant) where
      pub constant_sized : Sized image c
      constant_sized = rw (constant_is e) ((fine y).sized o.operand (constant_in y k))

      -- a Function: which of the codes in this one
      module _ {b : List ℕ} {j : ℕ} (f : c.kind ≡ 22) (q : b ≡ bytes_of image c) (w : j ≡ le_at 2 b 0) where
        code_place : j ≡ le_at 2 (bytes_of image (get_or r.code.constants o.operand no_constant)) 0
        code_place = w ∙ ap (λ (s : List ℕ). le_at 2 s 0) (q ∙ ap (λ (d : Constant). bytes_of image d) (constant_is e))

        function_is : (get_or r.code.constants o.operand no_constant).kind ≡ 22
        function_is = ap (λ (d : Constant). d.kind) (sym (constant_is e)) ∙ f

        pub inner_within : j < field rows code 9
        inner_within =
            let l = ((fine y).valued o.operand (constant_in y k)).function function_is in
            omega (arith, l, code_place, ap (λ (c : Code). length c.codes) code_is ∙ length_tab _ _)

        pub named_by : {n : ℕ} → n ≡ get_or (code_at [] rows [] inner code).codes j 0 → Named (program_in image rows constants inner codes) r o.operand n
        named_by u = record {
          function = function_is;
          number = u ∙ sym (ap (λ (d : Code). get_or d.codes j 0) code_is) ∙ ap (λ (i : ℕ). get_or r.code.codes i 0) code_place;
          within = constant_in y k;
        }
