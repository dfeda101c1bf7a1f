-- `layout::is_front` meets its contract. Assumes nothing.
use Rattle.layout.specs.Tables.{front_globals, front_captures, front_ends}
use Rattle.std.proofs.Common.{ap, not}
use Rattle.layout.proofs.is_front.Goals as goal

pub returns-then-not-is_listed-2 : goal.returns-then-not-is_listed-2
returns-then-not-is_listed-2 c = search front_globals

pub returns-then-is_listed : goal.returns-then-is_listed
returns-then-is_listed c = front_ends _ c.if-part-lt8.false c.is_listed.ensures (ap not c.if-not-is_listed.false) c.after-globals.ensures c.is_listed-2.ensures (ap not c.if-not-is_listed-2.false) c.after-captures.ensures c.is_listed-3.ensures (ap not c.if-is_listed.true) c.after.ensures c.is_whole.ensures

pub returns-else-is_listed : goal.returns-else-is_listed
returns-else-is_listed c = rw c.if-is_listed.false (front_captures _ c.if-part-lt8.false c.is_listed.ensures (ap not c.if-not-is_listed.false) c.after-globals.ensures c.is_listed-2.ensures (ap not c.if-not-is_listed-2.false) c.after-captures.ensures c.is_listed-3.ensures (ap not c.if-is_listed.false))
