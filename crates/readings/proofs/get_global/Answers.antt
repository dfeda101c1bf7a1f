-- `readings::get_global` meets its contract. Assumes nothing.
use Rattle.readings.specs.Answers.{got_global}
use Rattle.readings.proofs.get_global.Goals as goal

pub returns : goal.returns
returns c = search got_global
