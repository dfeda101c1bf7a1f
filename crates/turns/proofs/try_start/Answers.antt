-- `turns::try_start` meets its contract: the call is entered, and the start made. Assumes nothing.
use Rattle.std.proofs.lemmas.Result.{err_from_is_err_and}
use Rattle.loans.specs.EntryLaws.{call_enters}
use Rattle.turns.specs.TurnLaws.{start_unentered, start_sent}
use Rattle.turns.proofs.try_start.Goals as goal

pub returns-in_err-sizes : goal.returns-in_err-sizes
returns-in_err-sizes c =
    let p = err_from_is_err_and c.from_residual.result c.from_residual.ensures.1 in
    rw (p.1, p.2) (start_unentered _ _ _ _ _ _ c.enter.ensures c.in_err-sizes.was)

pub start_entered-requires : goal.start_entered-requires
start_entered-requires c = call_enters _ _ _ _ c.enter.ensures c.in_ok-sizes.was c.program-program.ensures

pub returns : goal.returns
returns c = start_sent _ _ _ _ _ _ c.enter.ensures c.in_ok-sizes.was c.program-program.ensures c.start_entered.ensures
