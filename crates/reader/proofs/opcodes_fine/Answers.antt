-- `reader::opcodes_fine` meets its contract. Assumes nothing.
use Rattle.std.proofs.Common.{rules, tests}
use Rattle.reader.proofs.Ranges.{every_range}
use Rattle.image.specs.Program.{no_op}
use Rattle.reader.specs.Every.{all_by_number}
use Rattle.reader.specs.CodeLaws.{opcode_counted}
use Rattle.reader.proofs.opcodes_fine.Goals as goal

pub returns : goal.returns
returns c = all_by_number _ _ _ _ no_op c.opcode_count.ensures.0 (opcode_counted c.requires.1 c.args.program.now.constants.now c.args.program.now.inner.now) (every_range _ _ (cc) c.all.ensures.ran (λ x b q k. search (rules, tests)))
