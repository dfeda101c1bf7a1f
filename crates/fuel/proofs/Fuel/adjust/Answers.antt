-- `fuel::Fuel::adjust` meets its contract: std's number at the ends of i32 is the definition's. Assumes nothing.
use Rattle.std.proofs.Common.{rules}
use Rattle.fuel.specs.FuelLaws.{saturate_is}
use Rattle.fuel.proofs.Fuel.adjust.Goals as goal

pub returns : goal.returns
returns c = search (rules, saturate_is)
