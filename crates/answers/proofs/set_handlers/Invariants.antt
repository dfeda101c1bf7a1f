-- `answers::set_handlers` meets its contract: the first j of the kept effects are its handlers. Assumes nothing.
use Rattle.cells.specs.Cells.{cells}
use Rattle.answers.specs.Frames.{Adding}
use Rattle.answers.proofs.set_handlers.Given as goal

abbrev pub invariant-loop-j : goal.invariant-loop-j
invariant-loop-j l = Adding l.n (cells l.kept) l.initial.live l.initial.g l.live l.g l.j
