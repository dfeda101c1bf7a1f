-- `reader::captures_fine` meets its contract. Assumes nothing.
use Rattle.std.proofs.Common.{rules, tests, refl}
use Rattle.reader.proofs.Ranges.{every_range}
use Rattle.reader.specs.Every.{all_by_number}
use Rattle.program.specs.Looks.{no_capture}
use Rattle.reader.proofs.captures_fine.Goals as goal

pub returns : goal.returns
returns c = all_by_number _ _ _ _ no_capture c.capture_count.ensures.0 (λ x. refl) (every_range _ _ (cc) c.all.ensures.ran (λ x b q k. search (rules, tests)))
