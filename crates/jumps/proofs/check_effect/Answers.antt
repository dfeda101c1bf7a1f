-- `jumps::check_effect` meets its contract. Assumes nothing.
use Rattle.jumps.specs.Effects.{check_stops, check_goes, check_throws}
use Rattle.jumps.proofs.check_effect.Goals as goal

pub returns-then-g-lt2 : goal.returns-then-g-lt2
returns-then-g-lt2 c = search check_stops

pub returns-then-effect_matches : goal.returns-then-effect_matches
returns-then-effect_matches c = search check_goes

pub returns : goal.returns
returns c = search check_throws
