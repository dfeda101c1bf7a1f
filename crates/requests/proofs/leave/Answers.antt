-- `requests::leave` meets its contract. Assumes nothing.
use Rattle.requests.specs.AskedLaws.{leaves_world}
use Rattle.requests.proofs.leave.Goals as goal

pub returns : goal.returns
returns c = search leaves_world
