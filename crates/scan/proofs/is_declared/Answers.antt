-- `scan::is_declared` meets its contract. Assumes nothing.
use borrow.Author.Rules.{rules}
use Rattle.scan.specs.Values.{both_not, constant_fits, declared_is}
use Rattle.scan.proofs.is_declared.Goals as goal

pub returns-then-not-is_constant : goal.returns-then-not-is_constant
returns-then-not-is_constant c = search both_not

pub constant-c-requires : goal.constant-c-requires
constant-c-requires c = (search rules, search constant_fits)

pub returns : goal.returns
returns c = search declared_is
