-- `readings::get_value` meets its contract. Assumes nothing.
use Rattle.readings.specs.ReadingLaws.{room_for, reading_over, reading_in}
use Rattle.readings.proofs.get_value.Goals as goal

pub returns-then-number-ge-NAMES : goal.returns-then-number-ge-NAMES
returns-then-number-ge-NAMES c = reading_over _ _ _ _ c.entered.ensures c.in_ok-entered.was c.if-number-ge-NAMES.true

pub get-requires : goal.get-requires
get-requires c = room_for _ _ _ _ c.entered.ensures c.in_ok-entered.was c.requires c.if-number-ge-NAMES.false

pub returns : goal.returns
returns c = reading_in _ _ _ _ c.entered.ensures c.in_ok-entered.was c.if-number-ge-NAMES.false c.get.ensures.0
