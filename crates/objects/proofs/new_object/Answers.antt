-- `objects::new_object` meets its contract. Assumes nothing.
use Rattle.moves.specs.Objects.{makes}
use Rattle.objects.proofs.new_object.Goals as goal

pub returns : goal.returns
returns c = search makes
