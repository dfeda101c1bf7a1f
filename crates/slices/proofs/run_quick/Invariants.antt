-- `slices::run_quick` meets its contract: the invariant is that of `run_slice`, with state block and store as they were; the measure is the ticks left. Assumes nothing.
use Rattle.slices.specs.Looping.{Looping}
use Rattle.image.specs.Layout.{flat}
use Rattle.slices.proofs.run_quick.Given as goal

abbrev pub invariant-loop-ticks : goal.invariant-loop-ticks
invariant-loop-ticks l = Looping l.program.image.now (flat l.program.rows.now) l.program.constants.now l.program.inner.now l.program.codes l.initial.g l.closure.handle l.closure.code l.used l.begun l.given l.state l.initial.live l.store l.g l.used l.left l.ticks l.state l.live l.store

abbrev pub decreases-loop-ticks : goal.decreases-loop-ticks
decreases-loop-ticks l = l.ticks
