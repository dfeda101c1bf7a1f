-- `settings::set_global` meets its contract. Assumes nothing.
use Rattle.settings.specs.Answers.{asked_global}
use Rattle.settings.proofs.set_global.Goals as goal

pub returns : goal.returns
returns c = search asked_global
