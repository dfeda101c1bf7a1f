-- `loads::load_upvalue` meets its contract. Assumes nothing.
use Rattle.loads.specs.Loads.{upvalue_loaded}
use Rattle.loads.proofs.load_upvalue.Goals as goal

pub returns : goal.returns
returns c = upvalue_loaded c.upvalue-v.ensures.0 c.push_value.ensures
