-- `runs::try_run` meets its contract: fuel is read, the call entered, the run made, and the fuel written. Assumes nothing.
use Rattle.std.proofs.lemmas.Result.{err_from_is_err_and}
use Rattle.loans.specs.EntryLaws.{call_enters}
use Rattle.runs.specs.CallLaws.{call_unentered, call_most, call_runs}
use Rattle.runs.proofs.try_run.Goals as goal

pub returns-in_err-sizes : goal.returns-in_err-sizes
returns-in_err-sizes c =
    let p = err_from_is_err_and c.from_residual-in_err-sizes.result c.from_residual-in_err-sizes.ensures.1 in
    rw (p.1, p.2) (call_unentered _ _ _ _ _ _ c.read.ensures c.in_ok-lent.was c.enter.ensures c.in_err-sizes.was)

pub run_entered-r-requires : goal.run_entered-r-requires
run_entered-r-requires c = call_enters _ _ _ _ c.enter.ensures c.in_ok-sizes.was c.program-program.ensures

pub overflow_sub-result : goal.overflow_sub-result
overflow_sub-result c = call_most _ _ _ _ c.enter.ensures c.in_ok-sizes.was c.program-program.ensures c.run_entered-r.ensures

pub returns : goal.returns
returns c =
    call_runs _ _ _ _ _ _ c.read.ensures c.in_ok-lent.was c.enter.ensures c.in_ok-sizes.was c.program-program.ensures c.run_entered-r.ensures c.write.ensures c.code.ensures
