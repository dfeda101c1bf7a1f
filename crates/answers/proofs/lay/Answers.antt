-- `answers::lay` meets its contract. Assumes nothing.
use native.Mathlib.Omega.{arith}
use Rattle.answers.specs.LayLaws.{lay_starts, lay_copies, lay_head, lay_word, lays}
use Rattle.answers.proofs.lay.Goals as goal

pub starts-end-requires : goal.starts-end-requires
starts-end-requires c = search lay_starts

pub copy-requires : goal.copy-requires
copy-requires c = lay_copies c.requires c.starts-end.ensures

pub overflow_cast-starts : goal.overflow_cast-starts
overflow_cast-starts c = omega (arith, lay_head c.requires c.starts-end.ensures)

pub set_word-requires : goal.set_word-requires
set_word-requires c = search lay_word

pub returns : goal.returns
returns c = search lays
