-- `reader::all_inner_fine` meets its contract. Assumes nothing.
use Rattle.std.proofs.Common.{rules, tests}
use Rattle.reader.proofs.Ranges.{every_range}
use Rattle.reader.specs.Every.{all_by_number}
use Rattle.reader.specs.CodeLaws.{captures_counted}
use Rattle.reader.proofs.all_inner_fine.Goals as goal

pub returns : goal.returns
returns c = all_by_number _ _ _ _ 0 c.code_count.ensures.0 (λ x. captures_counted c.requires.2 _ _ _) (every_range _ _ (cc) c.all.ensures.ran (λ x b q k. search (rules, tests)))
