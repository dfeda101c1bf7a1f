-- `settings::set_value` meets its contract. Assumes nothing.
use Rattle.settings.specs.SettingLaws.{room_known, set_over, set_in}
use Rattle.settings.proofs.set_value.Goals as goal

pub returns-then-number-ge-NAMES : goal.returns-then-number-ge-NAMES
returns-then-number-ge-NAMES c = set_over _ _ _ _ c.entered_with.ensures _ _ c.in_ok-entered_with.was c.if-number-ge-NAMES.true

pub put-requires : goal.put-requires
put-requires c = room_known _ _ _ _ _ c.entered_with.ensures c.in_ok-entered_with.was c.requires c.if-number-ge-NAMES.false

pub returns : goal.returns
returns c = set_in _ _ _ _ c.entered_with.ensures _ _ c.in_ok-entered_with.was c.if-number-ge-NAMES.false c.put.ensures
