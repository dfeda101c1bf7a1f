-- `readings::text_spot` meets its contract. Assumes nothing.
use Rattle.readings.specs.ReadingLaws.{text_image, text_page, text_other, message_low}
use Rattle.readings.proofs.text_spot.Goals as goal

pub returns-then-is : goal.returns-then-is
returns-then-is c = text_image _ _ _ _ c.entered_with.ensures _ c.in_ok-named.was c.is.ensures c.if-is.true c.of_image.ensures

pub message-requires : goal.message-requires
message-requires c = message_low _ _ _ _ c.entered_with.ensures c.in_ok-named.was c.is-2.ensures c.if-is-2.true

pub returns-then-is-2 : goal.returns-then-is-2
returns-then-is-2 c = text_page _ _ _ _ c.entered_with.ensures _ c.in_ok-named.was c.is-2.ensures c.if-is-2.true c.message.ensures

pub returns : goal.returns
returns c = text_other _ _ _ _ c.entered_with.ensures _ c.in_ok-named.was c.is.ensures c.if-is.false c.is-2.ensures c.if-is-2.false
