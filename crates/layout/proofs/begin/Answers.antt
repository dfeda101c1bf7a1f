-- `layout::begin` meets its contract. Assumes nothing.
use Rattle.layout.specs.Tables.{begin_not}
use Rattle.layout.proofs.begin.Goals as goal

pub returns-then-not-is_front : goal.returns-then-not-is_front
returns-then-not-is_front c = search begin_not
