-- `slices::run_slice` meets its contract: the invariant says that what is left of the run, after the opcodes taken, is the whole run; the measure is the ticks left. Assumes nothing.
use Rattle.slices.specs.Looping.{Looping}
use Rattle.image.specs.Layout.{flat}
use Rattle.slices.proofs.run_slice.Given as goal

abbrev pub invariant-loop-ticks : goal.invariant-loop-ticks
invariant-loop-ticks l = Looping l.program.image.now (flat l.program.rows.now) l.program.constants.now l.program.inner.now l.program.codes l.initial.g l.closure.handle l.closure.code l.taken l.begun l.given l.initial.state l.initial.live l.initial.store l.g l.used l.left l.ticks l.state l.live l.store

abbrev pub decreases-loop-ticks : goal.decreases-loop-ticks
decreases-loop-ticks l = l.ticks
