-- `captures::catch` meets its contract. Assumes nothing.
use native.Mathlib.Omega.{arith}
use Rattle.captures.specs.CaptureLaws.{catchable, captures_error}
use Rattle.captures.proofs.catch.Goals as goal

pub capture-requires : goal.capture-requires
capture-requires c = catchable (omega (arith, c.put.ensures.len)) c.requires

pub returns : goal.returns
returns c = captures_error (omega arith) c.shown.ensures c.put.ensures c.thrown.ensures c.capture.ensures
