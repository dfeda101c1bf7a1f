-- `captures::enter_lucia` meets its contract: five moves of one frame. Assumes nothing.
use native.Mathlib.Omega.{arith}
use Rattle.cells.specs.CellsLaws.{length_cells}
use Rattle.captures.specs.EnteredLaws.{lucia_kept, handler_fits_lem, kept_fits, cleared_fits, one_fits, parsed_fits, settle_fits, lucia_enters}
use Rattle.captures.proofs.enter_lucia.Goals as goal

pub handler_target-target-requires : goal.handler_target-target-requires
handler_target-target-requires c = let o = c.requires in
    let q = c.open-g.ensures.0 in
    (omega (arith, handler_fits_lem o q), kept_fits o (lucia_kept o q))

pub clear_handlers-a-requires : goal.clear_handlers-a-requires
clear_handlers-a-requires c = let o = c.requires in
    let q = c.open-g.ensures.0 in
    kept_fits o (lucia_kept o q)

pub push-b-requires : goal.push-b-requires
push-b-requires c = omega (arith, cleared_fits c.requires (lucia_kept c.requires c.open-g.ensures.0) c.clear_handlers-a.ensures.0 c.clear_handlers-a.ensures.1)

pub push_args-c-requires : goal.push_args-c-requires
push_args-c-requires c = (omega (arith, one_fits c.requires (lucia_kept c.requires c.open-g.ensures.0) c.clear_handlers-a.ensures.0 c.clear_handlers-a.ensures.1 c.push-b.ensures.0 c.push-b.ensures.1), c.requires.enough, c.requires.handle)

pub push-d-requires : goal.push-d-requires
push-d-requires c = omega (arith, parsed_fits c.requires (lucia_kept c.requires c.open-g.ensures.0) c.clear_handlers-a.ensures.0 c.clear_handlers-a.ensures.1 c.push-b.ensures.0 c.push-b.ensures.1 (length_cells _) c.push_args-c.ensures)

pub settle-requires : goal.settle-requires
settle-requires c = (settle_fits c.requires (lucia_kept c.requires c.open-g.ensures.0) c.clear_handlers-a.ensures.0 c.clear_handlers-a.ensures.1 c.push-b.ensures.0 c.push-b.ensures.1 (length_cells _) c.push_args-c.ensures c.push-d.ensures.0 c.push-d.ensures.1, omega (arith, c.handler_target-target.type_inv))

pub returns : goal.returns
returns c = lucia_enters c.open-g.ensures.0 c.handler_target-target.ensures c.clear_handlers-a.ensures.1 c.push-b.ensures.1 c.push_args-c.ensures c.push-d.ensures.1 c.settle.ensures
