-- `loading::outermost_of` meets its contract. Assumes nothing.
use Rattle.loading.specs.Loading.{outermost_is}
use Rattle.loading.proofs.outermost_of.Goals as goal

pub returns : goal.returns
returns c = outermost_is c.read.ensures c.program.result c.in_ok-sizes.was c.program.ensures c.capture_count.ensures.0
