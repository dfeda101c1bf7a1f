-- `loading::cleared` meets its contract. Assumes nothing.
use Rattle.loading.specs.FreshLaws.{clears_all}
use Rattle.loading.proofs.cleared.Goals as goal

pub returns : goal.returns
returns c = search clears_all
