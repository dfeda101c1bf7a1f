-- `calls::return_value` meets its contract. Assumes nothing.
use Rattle.calls.specs.Calling.{return_last, return_more}
use Rattle.calls.proofs.return_value.Goals as goal

pub returns-then-frames-eq0 : goal.returns-then-frames-eq0
returns-then-frames-eq0 c = search return_last

pub returns : goal.returns
returns c = search return_more
