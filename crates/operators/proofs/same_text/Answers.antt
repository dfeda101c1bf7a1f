-- `operators::same_text` meets its contract. Assumes nothing.
use Rattle.operators.specs.Computing.{texts_same}
use Rattle.operators.proofs.same_text.Goals as goal

pub returns : goal.returns
returns c = search texts_same
