-- One law for each return of `constant_of`, `equal_effects`, `effect_params` and `match_effect_handler`.
use Rattle.std.specs.Prelude.{◌≡◌, List, [], Bool, not, ℕ, ◌<◌, ◌≤◌, get_or}
use Rattle.std.proofs.Math.Path.{refl}
use Rattle.std.proofs.Common.{sym, ap, ◌∙◌, arith}
use Rattle.std.proofs.Math.Bool.{true, false, beq}
use Rattle.std.proofs.Math.ListN.{get_or-eq_default}
use Rattle.cells.specs.declared.Cell.{Cell}
use Rattle.image.specs.Records.{if?}
use Rattle.image.specs.Program.{Code, no_code}
use Rattle.image.specs.Fine.{no_constant}
use Rattle.image.specs.Layout.{field, code_at}
use Rattle.image.proofs.Parts.{length_tab}
use Rattle.image.specs.declared.Constant.{Constant}
use Rattle.program.specs.Parts.{tab_past}
use Rattle.machine.specs.Values.{code_of, constant_of}
use Rattle.scan.specs.Tables.{program_in}
use Rattle.scan.specs.Values.{code_in}

-- ---- The constant that a value names
module _ (image rows constants inner : List ℕ) (codes : ℕ) (v : Cell) where
  constant_by : {c : Code} → code_of (program_in image rows constants inner codes) v.number ≡ c → get_or c.constants v.payload no_constant ≡ constant_of (program_in image rows constants inner codes) v
  constant_by e = ap (λ (c : Code). get_or c.constants v.payload no_constant) (sym e)

  -- no such code
  pub constant_of_past : codes ≤ v.number → no_constant ≡ constant_of (program_in image rows constants inner codes) v
  constant_of_past h = constant_by (tab_past codes _ _ no_code h)

  module _ (h : v.number < codes) {x : ℕ} (w : (x ≡ field rows v.number 7) × (x < 4294967296)) where
    -- no such constant in it
    pub constant_of_over : x ≤ v.payload → no_constant ≡ constant_of (program_in image rows constants inner codes) v
    constant_of_over l =
        sym (get_or-eq_default (code_at image rows constants inner v.number).constants no_constant (simp length_tab (omega (arith, w.0))))
        ∙ constant_by (code_in image rows constants inner codes v.number h)

    pub constant_of_here : {c : Constant} → v.payload < x → c ≡ get_or (code_at image rows constants [] v.number).constants v.payload no_constant
        → c ≡ constant_of (program_in image rows constants inner codes) v
    constant_of_here l e = e ∙ constant_by (code_in image rows constants inner codes v.number h)

-- ---- Does a handler's code fit an effect?
pub marks_alike : (a b : Bool) → beq a b ≡ if? a b (not b)
marks_alike true true = refl
marks_alike true false = refl
marks_alike false true = refl
marks_alike false false = refl
