-- `acts::fail` meets its contract: laws of ThrowLaws, one for each need and the return. Assumes nothing.
use Rattle.acts.specs.ThrowLaws.{fail_ends, fail_over, fail_throws}
use Rattle.acts.proofs.fail.Goals as goal

pub end-requires : goal.end-requires
end-requires c = search fail_ends

pub over-requires : goal.over-requires
over-requires c = search fail_over

pub returns : goal.returns
returns c = search fail_throws
