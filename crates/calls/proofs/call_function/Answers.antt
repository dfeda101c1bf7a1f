-- `calls::call_function` meets its contract. Assumes nothing.
use borrow.Author.Rules.{rules}
use Rattle.calls.specs.Calling.{call_begins, call_other}
use Rattle.calls.proofs.call_function.Goals as goal

pub no_frame-requires : goal.no_frame-requires
no_frame-requires c = (search call_other, search rules)

pub returns-in-Some : goal.returns-in-Some
returns-in-Some c = search call_begins
