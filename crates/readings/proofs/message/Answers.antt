-- `readings::message` meets its contract. Assumes nothing.
use Rattle.readings.specs.Lines.{message_at}
use Rattle.readings.proofs.message.Goals as goal

pub returns : goal.returns
returns c = rw (c.unwrap_or.ensures, c.line_of.ensures) (message_at c.args.page.now _)
