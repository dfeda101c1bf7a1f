-- `settings::set_builtin` meets its contract. Assumes nothing.
use Rattle.settings.specs.Answers.{asked_builtin}
use Rattle.settings.proofs.set_builtin.Goals as goal

pub returns : goal.returns
returns c = search asked_builtin
