-- `actions::resume` meets its contract. Assumes nothing.
use native.Mathlib.Omega.{arith}
use Rattle.actions.specs.Moved.{back_kept, handle_fits, begin_fits, last_there, resumes}
use Rattle.actions.proofs.resume.Goals as goal

pub number-count-requires : goal.number-count-requires
number-count-requires c = handle_fits c.requires

pub overflow_cast-count : goal.overflow_cast-count
overflow_cast-count c = omega arith

pub overflow_add-handle : goal.overflow_add-handle
overflow_add-handle c = omega (arith, handle_fits c.requires)

pub begin-last-requires : goal.begin-last-requires
begin-last-requires c = begin_fits c.requires c.number-count.ensures

pub put_back-requires : goal.put_back-requires
put_back-requires c = let p = c.requires in
    (back_kept p, last_there p c.number-count.ensures c.begin-last.ensures)

pub returns : goal.returns
returns c = resumes c.requires c.number-count.ensures c.begin-last.ensures c.put_back.ensures
