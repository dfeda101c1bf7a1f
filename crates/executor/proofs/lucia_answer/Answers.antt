-- `executor::lucia_answer` meets its contract. Assumes nothing.
use Rattle.executor.specs.Subjects.{answer_of_lem}
use Rattle.executor.proofs.lucia_answer.Goals as goal

pub returns : goal.returns
returns c = search answer_of_lem
