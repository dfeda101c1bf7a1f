-- `groups::run` meets its contract: the loop by RunLaws. Assumes nothing.
use Rattle.groups.specs.RunLaws.{looping_first, looping_more, looping_less, looping_ran}
use Rattle.groups.proofs.run.Goals as goal

pub loop-r-init : goal.loop-r-init
loop-r-init c = looping_first c.requires c.stands-r.ensures

pub loop-r-smaller : goal.loop-r-smaller
loop-r-smaller c = looping_less c.loop-r.invariant c.in-GoesOn.is c.run_group-r.ensures

pub loop-r-preserved : goal.loop-r-preserved
loop-r-preserved c = looping_more c.loop-r.invariant c.in-GoesOn.is c.run_group-r.ensures c.run_group-r.auto.args

pub returns : goal.returns
returns c = looping_ran c.stands-r.ensures c.loop-r.invariant c.in_default.not-GoesOn
