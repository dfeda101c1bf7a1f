-- `loads::global_or_builtin` meets its contract. Assumes nothing.
use Rattle.loads.specs.Loads.{global_null, global_there}
use borrow.Author.Rules.{rules}
use Rattle.loads.proofs.global_or_builtin.Goals as goal

pub returns-then-is : goal.returns-then-is
returns-then-is c = (search global_null, search rules)

pub returns : goal.returns
returns c = (search global_there, search rules)
