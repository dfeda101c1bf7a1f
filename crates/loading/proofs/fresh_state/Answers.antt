-- `loading::fresh_state` meets its contract. Assumes nothing.
use Rattle.loading.specs.FreshLaws.{fresh_state_lem}
use Rattle.loading.proofs.fresh_state.Goals as goal

pub returns : goal.returns
returns c = search fresh_state_lem
