-- `layout::read_constants` meets its contract. Assumes nothing.
use Rattle.layout.specs.Tables.{listing_ends, listing_broken}
use Rattle.layout.proofs.read_constants.Goals as goal

pub returns-then-not-is_constant : goal.returns-then-not-is_constant
returns-then-not-is_constant c = search listing_broken

pub returns : goal.returns
returns c = search listing_ends
