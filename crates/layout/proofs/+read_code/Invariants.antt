-- The measure is the depth left. The loop over the codes in a code carries `Reading`: what is left of them is the whole, from where the loop began.
use Rattle.std.proofs.Common.{length, ◌-◌}
use Rattle.image.specs.Layout.{flat}
use Rattle.layout.specs.Reads.{Reading}
use Rattle.layout.proofs.+read_code.Given as goal

abbrev pub decreases-read_code : goal.decreases-read_code
decreases-read_code l = l.depth

abbrev pub invariant-loop-at : goal.invariant-loop-at
invariant-loop-at l =
    Reading l.depth l.base l.part (flat l.initial.rows) l.initial.constants l.initial.inner l.initial.now l.initial.at l.numbers l.count l.now l.at (flat l.rows) l.constants l.inner

abbrev pub decreases-loop-at : goal.decreases-loop-at
decreases-loop-at l = length l.part - l.at
