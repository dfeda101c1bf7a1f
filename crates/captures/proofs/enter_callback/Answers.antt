-- `captures::enter_callback` meets its contract: five moves of one frame. Assumes nothing.
use native.Mathlib.Omega.{arith}
use Rattle.cells.specs.CellsLaws.{length_cells}
use Rattle.captures.specs.EnteredLaws.{kept_fits, cleared_fits, one_fits, two_fits, all_fits, callback_enters}
use Rattle.captures.proofs.enter_callback.Goals as goal

pub clear_handlers-a-requires : goal.clear_handlers-a-requires
clear_handlers-a-requires c = kept_fits c.requires c.kept-g.ensures.0

pub push-b-requires : goal.push-b-requires
push-b-requires c = omega (arith, cleared_fits c.requires c.kept-g.ensures.0 c.clear_handlers-a.ensures.0 c.clear_handlers-a.ensures.1)

pub push-c-requires : goal.push-c-requires
push-c-requires c = omega (arith, one_fits c.requires c.kept-g.ensures.0 c.clear_handlers-a.ensures.0 c.clear_handlers-a.ensures.1 c.push-b.ensures.0 c.push-b.ensures.1)

pub push_args-d-requires : goal.push_args-d-requires
push_args-d-requires c = (two_fits c.requires c.kept-g.ensures.0 c.clear_handlers-a.ensures.0 c.clear_handlers-a.ensures.1 c.push-b.ensures.0 c.push-b.ensures.1 c.push-c.ensures.0 c.push-c.ensures.1, c.requires.enough, c.requires.handle)

pub settle-requires : goal.settle-requires
settle-requires c = all_fits c.requires c.kept-g.ensures.0 c.clear_handlers-a.ensures.0 c.clear_handlers-a.ensures.1 c.push-b.ensures.0 c.push-b.ensures.1 c.push-c.ensures.0 c.push-c.ensures.1 (length_cells _) c.push_args-d.ensures c.kept-g.ensures.1

pub returns : goal.returns
returns c = callback_enters c.kept-g.ensures.0 c.clear_handlers-a.ensures.1 c.push-b.ensures.1 c.push-c.ensures.1 c.push_args-d.ensures c.settle.ensures
