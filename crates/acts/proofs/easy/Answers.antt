-- `acts::easy` meets its contract: a law for what is found, and for what is read. Assumes nothing.
use native.Mathlib.Omega.{arith}
use Rattle.cells.specs.CellsLaws.{length_cells}
use Rattle.acts.specs.Eased.{easy_reads, easy_size, eases}
use Rattle.acts.proofs.easy.Goals as goal

pub number-count-requires : goal.number-count-requires
number-count-requires c = omega (arith, (easy_reads c.in-Resumes.is c.requires).there, length_cells c.args.store.now)

pub payload-size-requires : goal.payload-size-requires
payload-size-requires c = omega (arith, (easy_reads c.in-Resumes.is c.requires).there, length_cells c.args.store.now)

pub overflow_add-c-in-Resumes : goal.overflow_add-c-in-Resumes
overflow_add-c-in-Resumes c = let p = c.requires in
    omega (arith, easy_size c.in-Resumes.is p, c.payload-size.ensures, p.small.few)

pub overflow_add-c-in-Resumes-2 : goal.overflow_add-c-in-Resumes-2
overflow_add-c-in-Resumes-2 c = let p = c.requires in
    omega (arith, easy_size c.in-Resumes.is p, c.payload-size.ensures, p.small.few)

pub returns-in-Resumes : goal.returns-in-Resumes
returns-in-Resumes c = let p = c.requires in
    eases c.in-Resumes.is p c.if-count-eq0.false c.number-count.ensures c.payload-size.ensures c.room.ensures (search) (search)
