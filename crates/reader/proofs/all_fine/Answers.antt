-- `reader::all_fine` meets its contract. Assumes nothing.
use Rattle.std.proofs.Common.{rules, tests}
use Rattle.reader.proofs.Ranges.{every_range}
use Rattle.reader.specs.CodeLaws.{program_is}
use Rattle.reader.proofs.all_fine.Goals as goal

pub returns : goal.returns
returns c = program_is _ _ _ (every_range _ _ (cc) c.all.ensures.ran (λ x b q k. search (rules, tests)))
