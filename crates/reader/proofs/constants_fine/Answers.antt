-- `reader::constants_fine` meets its contract. Assumes nothing.
use Rattle.std.proofs.Common.{rules, tests, sym, ap, ◌∙◌}
use Prim.Native.Nat.{ℕ}
use Rattle.image.specs.Program.{constant_fine}
use Rattle.image.proofs.Parts.{length_tab}
use Rattle.reader.proofs.Ranges.{every_range}
use Rattle.reader.specs.Every.{all_by_number}
use Rattle.program.specs.Looks.{no_constant}
use Rattle.reader.proofs.constants_fine.Goals as goal

pub returns : goal.returns
returns c = all_by_number _ (constant_fine c.args.program.now.image.now c.code_count-codes.result) _ _ no_constant c.constant_count.ensures.0 (λ x. ap (λ (n : ℕ). constant_fine c.args.program.now.image.now n x) (c.code_count-codes.ensures.0 ∙ sym (length_tab _ _))) (every_range _ _ (cc) c.all.ensures.ran (λ x b q k. search (rules, tests)))
