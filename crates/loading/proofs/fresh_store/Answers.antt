-- `loading::fresh_store` meets its contract. Assumes nothing.
use Rattle.loading.specs.FreshLaws.{fresh_store_lem}
use Rattle.loading.proofs.fresh_store.Goals as goal

pub returns : goal.returns
returns c = search fresh_store_lem
