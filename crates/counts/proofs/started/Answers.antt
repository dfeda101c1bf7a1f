-- `counts::started` meets its contract. Assumes nothing.
use native.Mathlib.Omega.{arith}
use Rattle.counts.specs.ReadLaws.{taken_few, listed_few, started_by}
use Rattle.counts.proofs.started.Goals as goal

pub overflow_add-result : goal.overflow_add-result
overflow_add-result c = omega arith

pub overflow_add-result-2 : goal.overflow_add-result-2
overflow_add-result-2 c = omega arith

pub overflow_add-result-3 : goal.overflow_add-result-3
overflow_add-result-3 c = omega arith

pub overflow_add-result-4 : goal.overflow_add-result-4
overflow_add-result-4 c = let e = c.requires in omega (arith, c.parsed.ensures, taken_few _ _ e.5)

pub overflow_add-result-5 : goal.overflow_add-result-5
overflow_add-result-5 c = omega (arith, c.listed.ensures, listed_few c.args.p c.args.n)

pub returns : goal.returns
returns c = search started_by
