-- `loading::clear_entered` meets its contract. Assumes nothing.
use Rattle.asks.specs.Formed.{formed_size}
use Rattle.loading.specs.Clearing.{clear_in}
use Rattle.loading.proofs.clear_entered.Goals as goal

pub cleared-requires : goal.cleared-requires
cleared-requires c = formed_size _ _ _ _ c.entered.ensures c.in_ok-entered.was

pub returns : goal.returns
returns c = clear_in _ _ _ _ c.entered.ensures c.in_ok-entered.was c.cleared.ensures
