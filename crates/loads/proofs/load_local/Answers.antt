-- `loads::load_local` meets its contract. Assumes nothing.
use Rattle.loads.specs.Loads.{local_loaded, local_parts}
use Rattle.loads.proofs.load_local.Goals as goal

pub returns-then-end-room : goal.returns-then-end-room
returns-then-end-room c = search local_parts

pub returns : goal.returns
returns c = search local_loaded
