-- `loading::headed` meets its contract. Assumes nothing.
use Rattle.loading.specs.FreshLaws.{head_writes}
use Rattle.loading.proofs.headed.Goals as goal

pub returns : goal.returns
returns c = search head_writes
