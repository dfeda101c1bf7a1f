-- Laws of the cells that frames are written as, with no test of their form: how long they are, where their parts stand; and of `all`.
use Rattle.std.specs.Prelude.{ℕ, ◌+◌, ◌*◌, length}
use Rattle.memory.specs.Layout.{Written}

-- what a frame as it is written costs
abbrev pub written_cost : Written → ℕ
written_cost w = 6 + length w.locals + 2 * length w.handlers + length w.stack
