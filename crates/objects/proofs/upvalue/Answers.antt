-- `objects::upvalue` meets its contract. Assumes nothing.
use Rattle.moves.specs.Objects.{upvalue_shows}
use borrow.Author.Rules.{rules}
use Rattle.objects.proofs.upvalue.Goals as goal

pub returns : goal.returns
returns c = (search upvalue_shows, search rules)
