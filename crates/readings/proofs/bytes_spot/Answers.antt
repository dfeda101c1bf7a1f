-- `readings::bytes_spot` meets its contract. Assumes nothing.
use Rattle.readings.specs.ReadingLaws.{bytes_in, bytes_other}
use Rattle.readings.proofs.bytes_spot.Goals as goal

pub returns-then-is : goal.returns-then-is
returns-then-is c = bytes_in _ _ _ _ c.entered_with.ensures c.in_ok-named.was c.is.ensures c.if-is.true c.of_image.ensures

pub returns : goal.returns
returns c = bytes_other _ _ _ _ c.entered_with.ensures c.in_ok-named.was c.is.ensures c.if-is.false
