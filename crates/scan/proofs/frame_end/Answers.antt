-- `scan::frame_end` meets its contract. Assumes nothing.
use native.Mathlib.Omega.{arith}
use Rattle.std.proofs.Common.{◌∙◌, refl}
use Rattle.scan.specs.Heads.{end_past, end_at}
use Rattle.scan.proofs.frame_end.Goals as goal

pub returns-in_err-end : goal.returns-in_err-end
returns-in_err-end c =
    let past = rw c.in_err-end.was at c.checked_add.ensures in
    c.from_residual.ensures ∙ end_past c.args.x.now refl c.number-locals.ensures c.payload-handlers.ensures c.payload-stack.ensures (omega (arith, past))

pub returns : goal.returns
returns c =
    let sum = rw c.in_ok-end.was at c.checked_add.ensures in
    c.then_some.ensures ∙ end_at c.args.x.now c.room.ensures c.number-locals.ensures c.payload-handlers.ensures c.payload-stack.ensures sum.1
