-- `makes::build_list` meets its contract. Assumes nothing.
use mathlib.Core.Path.{ap}
use native.Mathlib.Omega.{arith}
use Rattle.moves.specs.Runs.{end_of}
use Rattle.moves.specs.declared.Running.{Running}
use Rattle.makes.specs.Lists.{list_few, list_no_live, list_no_store, list_made}
use borrow.Author.Rules.{rules}
use Rattle.makes.proofs.build_list.Goals as goal

pub returns-then-n-g : goal.returns-then-n-g
returns-then-n-g c = search list_few

pub end-requires : goal.end-requires
end-requires c = omega (arith, ap (λ (g : Running). end_of g) c.dropped-h.ensures, c.requires)

pub returns-then-end-room : goal.returns-then-end-room
returns-then-end-room c = search list_no_live

pub overflow_sub-room : goal.overflow_sub-room
overflow_sub-room c = omega arith

pub overflow_add-n : goal.overflow_add-n
overflow_add-n c = omega arith

pub returns-then-room-used : goal.returns-then-room-used
returns-then-room-used c = search list_no_store

pub end-requires-2 : goal.end-requires-2
end-requires-2 c = omega arith

pub new_object-requires : goal.new_object-requires
new_object-requires c = (search rules, omega (arith, c.end-2.ensures, ap (λ (g : Running). end_of g) c.dropped-h.ensures, c.if-n-g.false, c.requires))

pub overflow_cast-used : goal.overflow_cast-used
overflow_cast-used c = omega arith

pub push-g-requires : goal.push-g-requires
push-g-requires c = omega arith

pub overflow_add-result : goal.overflow_add-result
overflow_add-result c = omega arith

pub overflow_add-result-2 : goal.overflow_add-result-2
overflow_add-result-2 c = omega arith

pub returns : goal.returns
returns c = search list_made
