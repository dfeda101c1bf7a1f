-- `counts::listed` meets its contract. Assumes nothing.
use native.Mathlib.Omega.{arith}
use Rattle.counts.specs.ReadLaws.{listed_some, listed_none}
use borrow.Author.Rules.{rules}
use Rattle.counts.proofs.listed.Goals as goal

pub overflow_cast-result : goal.overflow_cast-result
overflow_cast-result c = omega arith

pub overflow_sub-result : goal.overflow_sub-result
overflow_sub-result c = c.requires.1 (search rules)

pub overflow_add-result : goal.overflow_add-result
overflow_add-result c = omega arith

pub returns-then-p : goal.returns-then-p
returns-then-p c = search listed_some

pub returns : goal.returns
returns c = search listed_none
