-- `arguments::push_from` meets its contract. Assumes nothing.
use Rattle.arguments.specs.Laws.{pushes_from}
use Rattle.arguments.proofs.push_from.Goals as goal

pub returns : goal.returns
returns c = search pushes_from
