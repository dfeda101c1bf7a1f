-- `readings::get_builtin` meets its contract. Assumes nothing.
use Rattle.readings.specs.Answers.{got_builtin}
use Rattle.readings.proofs.get_builtin.Goals as goal

pub returns : goal.returns
returns c = search got_builtin
