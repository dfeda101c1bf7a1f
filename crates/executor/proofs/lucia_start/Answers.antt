-- `executor::lucia_start` meets its contract. Assumes nothing.
use Rattle.executor.specs.Subjects.{start_of}
use Rattle.executor.proofs.lucia_start.Goals as goal

pub returns : goal.returns
returns c = search start_of
