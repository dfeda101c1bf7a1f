-- `captures::enter` meets its contract: the tag of the frame tells which of the two it is. Assumes nothing.
use Rattle.captures.specs.EnteredLaws.{enter_lucia, enter_callback, enters_lucia, enters_callback}
use Rattle.captures.proofs.enter.Goals as goal

pub enter_lucia-requires : goal.enter_lucia-requires
enter_lucia-requires c = enter_lucia c.tag.ensures c.if-tag.true c.requires

pub enter_callback-requires : goal.enter_callback-requires
enter_callback-requires c = enter_callback c.tag.ensures c.if-tag.false c.requires

pub returns-then-tag : goal.returns-then-tag
returns-then-tag c = enters_lucia c.tag.ensures c.if-tag.true c.enter_lucia.ensures

pub returns-else-tag : goal.returns-else-tag
returns-else-tag c = enters_callback c.tag.ensures c.if-tag.false c.enter_callback.ensures
