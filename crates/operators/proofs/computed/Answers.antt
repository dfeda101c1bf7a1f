-- `operators::computed` meets its contract. Assumes nothing.
use native.Mathlib.Omega.{arith}
use mathlib.Core.Path.{ap}
use Rattle.moves.specs.Runs.{end_of}
use Rattle.moves.specs.declared.Running.{Running}
use Rattle.operators.specs.Operating.{computed_goes, computed_throws}
use Rattle.operators.proofs.computed.Goals as goal

pub push-requires : goal.push-requires
push-requires c = omega (arith, ap (λ (h : Running). end_of h) c.dropped-h.ensures, c.requires)

pub returns-in-Ok : goal.returns-in-Ok
returns-in-Ok c = search computed_goes

pub returns-in-Err : goal.returns-in-Err
returns-in-Err c = search computed_throws
