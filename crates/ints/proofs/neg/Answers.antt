-- `ints::neg` meets its contract. Assumes nothing.
use Rattle.ints.specs.Ints.{half}
use Rattle.ints.proofs.Laws.{neg_is}
use Rattle.ints.proofs.neg.Goals as goal

pub returns : goal.returns
returns c = search (neg_is half)
