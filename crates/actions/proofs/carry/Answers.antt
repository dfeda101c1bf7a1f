-- `actions::carry` meets its contract: for each plan a law gives what its move needs, and one that the machine is what the plan makes of it. Assumes nothing.
use mathlib.Core.Path.{refl, sym, ◌∙◌}
use native.Mathlib.Omega.{arith}
use Rattle.cells.specs.CellsLaws.{length_cells}
use Rattle.actions.specs.Carried.{starts_needs, resumes_needs, handles_needs, catches_needs, unhandled_needs, receives_numbers, receives_small, receives_needs, starts_leaves, resumes_leaves, handles_leaves, catches_leaves, unhandled_leaves, fails_leaves, receives_leaves, returns_leaves, stays_leaves}
use Rattle.actions.proofs.carry.Goals as goal

pub start_frame-requires : goal.start_frame-requires
start_frame-requires c = starts_needs c.requires c.in-Starts.is (length_cells _)

pub resume-requires : goal.resume-requires
resume-requires c = resumes_needs c.requires c.in-Resumes.is

pub capture-requires : goal.capture-requires
capture-requires c = handles_needs c.requires c.in-Handles.is (length_cells _)

pub catch-requires : goal.catch-requires
catch-requires c = catches_needs c.requires c.in-Catches.is

pub copy-requires : goal.copy-requires
copy-requires c = (unhandled_needs c.requires c.in-Unhandled.is (c.room-n.ensures ∙ sym (length_cells _)), omega (arith, c.room-n.ensures))

pub overflow_cast-number : goal.overflow_cast-number
overflow_cast-number c = omega arith

pub overflow_sub-top : goal.overflow_sub-top
overflow_sub-top c = (receives_numbers c.requires c.in-Receives.is).0

pub offset_bounds-starts-top : goal.offset_bounds-starts-top
offset_bounds-starts-top c = omega arith

pub bounds-starts-top : goal.bounds-starts-top
bounds-starts-top c = (receives_numbers c.requires c.in-Receives.is).1

pub overflow_cast-starts : goal.overflow_cast-starts
overflow_cast-starts c = omega (arith, receives_small c.requires c.in-Receives.is)

pub receive-requires : goal.receive-requires
receive-requires c = receives_needs c.requires c.in-Receives.is refl

pub returns-in-Starts : goal.returns-in-Starts
returns-in-Starts c = starts_leaves _ c.in-Starts.is c.start_frame.ensures

pub returns-in-Resumes : goal.returns-in-Resumes
returns-in-Resumes c = resumes_leaves _ c.in-Resumes.is c.resume.ensures

pub returns-in-Handles : goal.returns-in-Handles
returns-in-Handles c = handles_leaves _ c.in-Handles.is c.capture.ensures

pub returns-in-Catches : goal.returns-in-Catches
returns-in-Catches c = catches_leaves _ c.in-Catches.is c.catch.ensures

pub returns-in-Unhandled : goal.returns-in-Unhandled
returns-in-Unhandled c = unhandled_leaves _ _ _ c.in-Unhandled.is c.room-n.ensures c.copy.ensures c.set_result.ensures

pub returns-in-Fails : goal.returns-in-Fails
returns-in-Fails c = fails_leaves _ _ _ _ _ c.in-Fails.is (rw c.number.ensures at c.set_result-in-Fails.ensures)

pub returns-in-Receives : goal.returns-in-Receives
returns-in-Receives c = receives_leaves _ _ c.in-Receives.is refl c.receive.ensures

pub returns-in-Returns : goal.returns-in-Returns
returns-in-Returns c = returns_leaves _ _ _ _ _ c.in-Returns.is c.set_result-in-Returns.ensures

pub returns-in-Stays : goal.returns-in-Stays
returns-in-Stays c = stays_leaves _ _ _ _ _ _ c.in-Stays.is
