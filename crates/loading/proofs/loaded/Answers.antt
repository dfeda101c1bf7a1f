-- `loading::loaded` meets its contract. Assumes nothing.
use native.Mathlib.Omega.{arith}
use Rattle.std.proofs.lemmas.Result.{err_from_is_err_and}
use Rattle.loading.specs.Loading.{at_length, load_not, load_few, load_full, load_fresh}
use Rattle.loading.proofs.loaded.Goals as goal

pub returns-then-state-ne8256 : goal.returns-then-state-ne8256
returns-then-state-ne8256 c = at_length _ _ _ _ c.if-state-ne8256.true

pub returns-in_err-captures : goal.returns-in_err-captures
returns-in_err-captures c =
    let p = err_from_is_err_and c.from_residual.result c.from_residual.ensures.1 in
    rw (p.1, p.2) (load_not _ _ _ _ c.if-state-ne8256.false c.outermost_of.ensures c.in_err-captures.was)

pub overflow_add-captures : goal.overflow_add-captures
overflow_add-captures c = omega (arith, load_few _ c.outermost_of.ensures c.in_ok-captures.was)

pub returns-then-captures-room : goal.returns-then-captures-room
returns-then-captures-room c = load_full _ _ _ _ c.if-state-ne8256.false c.outermost_of.ensures c.in_ok-captures.was c.room.ensures (omega arith)

pub fresh-requires : goal.fresh-requires
fresh-requires c = (c.if-state-ne8256.false, omega arith, omega (arith, load_few _ c.outermost_of.ensures c.in_ok-captures.was))

pub returns : goal.returns
returns c = load_fresh _ _ _ _ c.if-state-ne8256.false c.outermost_of.ensures c.in_ok-captures.was c.room.ensures (omega arith) c.new.ensures c.fresh.ensures
