-- `readings::line_of` meets its contract: the loop keeps `Seeking`. Assumes nothing.
use Rattle.readings.specs.Lines.{Seeking}
use Rattle.readings.proofs.line_of.Given as goal

abbrev pub invariant-loop : goal.invariant-loop
invariant-loop l = Seeking l.page l.k l.start l.counter
