-- `loads::load_global` meets its contract. Assumes nothing.
use Rattle.loads.specs.Loads.{global_loaded}
use Rattle.loads.proofs.load_global.Goals as goal

pub returns : goal.returns
returns c = global_loaded c.global_or_builtin.ensures.0 c.push_value.ensures
