-- `readings::text` meets its contract. Assumes nothing.
use Rattle.readings.specs.Answers.{text_given_lem}
use Rattle.readings.proofs.text.Goals as goal

pub returns : goal.returns
returns c = search text_given_lem
