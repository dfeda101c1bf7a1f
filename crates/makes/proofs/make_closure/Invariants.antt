-- `makes::make_closure` meets its contract: `Closing` says which upvalues are put. Assumes nothing.
use Rattle.scan.specs.Tables.{program_of}
use Rattle.makes.specs.Closures.{Closing}
use Rattle.image.specs.Layout.{flat}
use Rattle.makes.proofs.make_closure.Given as goal

abbrev pub invariant-loop-i : goal.invariant-loop-i
invariant-loop-i l = Closing (program_of l.program) l.program.image.now (flat l.program.rows.now) l.g l.handle l.used l.x l.code l.n l.live l.initial.store l.i l.store
