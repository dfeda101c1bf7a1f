-- `reader::counts_fine` meets its contract. Assumes nothing.
use Rattle.std.proofs.lemmas.Grind.{common_steps}
use native.Mathlib.Omega.{arith}
use Rattle.image.specs.Records.{both}
use Rattle.reader.specs.CountsLaws.{counts_are}
use Rattle.reader.proofs.counts_fine.Goals as goal

pub returns-else-n-le256-3 : goal.returns-else-n-le256-3
unfolding both
returns-else-n-le256-3 c = rw counts_are (grind (arith, common_steps))

pub returns-then-n-le256-3 : goal.returns-then-n-le256-3
unfolding both
returns-then-n-le256-3 c = rw counts_are (grind (arith, common_steps))
