-- `groups::charged` meets its contract. Assumes nothing.
use Rattle.groups.specs.RunLaws.{charged_on, charged_out}
use Rattle.groups.proofs.charged.Goals as goal

pub returns-then-should_continue : goal.returns-then-should_continue
returns-then-should_continue c = charged_on c.args.turn.fuel c.args.cost c.requires c.consume.ensures c.consume-fuel.ensures c.args.turn.ticks c.should_continue.ensures c.if-should_continue.true c.stands.ensures

pub returns : goal.returns
returns c = charged_out c.args.turn.fuel c.args.cost c.requires c.consume.ensures c.consume-fuel.ensures c.args.turn.ticks c.should_continue.ensures c.if-should_continue.false c.stands-2.ensures
