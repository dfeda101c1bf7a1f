-- `scan::frames_fit` meets its contract. Assumes nothing.
use Rattle.scan.specs.Tables.{program_of, cells_of}
use Rattle.scan.specs.Frames.{Frames}
use Rattle.scan.proofs.frames_fit.Given as goal

abbrev pub invariant-loop : goal.invariant-loop
invariant-loop l = Frames (program_of l.program) (cells_of l.objects) l.objects.below l.x l.n l.at l.counter
