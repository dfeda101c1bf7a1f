-- `fuel::Fuel::refill` meets its contract: std's number at the ends of i32, and its lesser number, are the definitions'. Assumes nothing.
use Rattle.std.proofs.Common.{rules}
use Rattle.fuel.specs.FuelLaws.{saturate_is, min_is}
use Rattle.fuel.proofs.Fuel.refill.Goals as goal

pub returns : goal.returns
returns c = search (rules, saturate_is, min_is)
