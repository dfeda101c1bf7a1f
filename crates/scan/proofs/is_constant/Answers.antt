-- `scan::is_constant` meets its contract. Assumes nothing.
use Rattle.scan.specs.Values.{constant_over}
use Rattle.scan.proofs.is_constant.Goals as goal

pub returns-then-v-constant_count : goal.returns-then-v-constant_count
returns-then-v-constant_count c = search constant_over
