-- `groups::run` meets its contract: the loop by RunLaws. Assumes nothing.
use Rattle.scan.specs.Tables.{program_of}
use Rattle.groups.specs.RunLaws.{Looping, to_do}
use Rattle.groups.proofs.run.Given as goal

abbrev pub invariant-loop-r : goal.invariant-loop-r
invariant-loop-r l = Looping (program_of l.program) l.initial.r l.initial.state l.initial.live l.initial.store l.initial.starts l.initial.args l.r l.state l.live l.store l.starts l.args

abbrev pub decreases-loop-r : goal.decreases-loop-r
decreases-loop-r l = to_do l.r
