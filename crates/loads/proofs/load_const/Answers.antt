-- `loads::load_const` meets its contract. Assumes nothing.
use Rattle.loads.specs.Loads.{const_loaded}
use Rattle.loads.proofs.load_const.Goals as goal

pub returns : goal.returns
returns c = const_loaded c.constant_value.ensures c.push_value.ensures
