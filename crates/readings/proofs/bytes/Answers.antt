-- `readings::bytes` meets its contract. Assumes nothing.
use Rattle.readings.specs.Answers.{bytes_given}
use Rattle.readings.proofs.bytes.Goals as goal

pub returns : goal.returns
returns c = search bytes_given
