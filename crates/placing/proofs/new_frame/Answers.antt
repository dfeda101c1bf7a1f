-- `placing::new_frame` meets its contract. Assumes nothing.
use Rattle.moves.specs.Frames.{starts}
use borrow.Author.Rules.{rules}
use Rattle.placing.proofs.new_frame.Goals as goal

pub returns : goal.returns
returns c = let x = c.args in
    starts x.locals x.from x.n (search rules) (search rules) c.copy_within.ensures c.put.ensures c.put-2.ensures (rw c.new.ensures at c.put-3.ensures) c.fill.ensures
