-- `moves::add_handler` meets its contract. Assumes nothing.
use Rattle.moves.specs.Runs.{adds}
use borrow.Author.Rules.{rules}
use Rattle.moves.proofs.add_handler.Goals as goal

pub returns : goal.returns
returns c = (search rules, adds (search rules) c.stack_at-at.ensures c.copy_within.ensures c.put.ensures (rw c.new.ensures at c.put-2.ensures) c.with_counts.ensures)
