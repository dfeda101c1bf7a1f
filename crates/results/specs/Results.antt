-- The kinds of results by name and number.
use Rattle.std.specs.Prelude.{ℕ, Result, Ok, Err, cond, eqb}
use Rattle.results.specs.declared.ErrorKind.{ErrorKind}
use Rattle.results.specs.declared.ErrorKind.TheVariants as kinds
use Rattle.results.specs.declared.ResultKind.{ResultKind}
use Rattle.results.specs.declared.ResultKind.TheVariants as results
use Rattle.results.specs.declared.UnknownResult.{UnknownResult}

abbrev pub kind_number : ErrorKind → ℕ
kind_number kinds.CallArguments = 3
kind_number kinds.UnOperator = 4
kind_number kinds.BinOperator = 5
kind_number kinds.MetaUnOperator = 6
kind_number kinds.MetaBinOperator = 7
kind_number kinds.ZeroDivisor = 8
kind_number kinds.Error = 9
kind_number kinds.Panic = 10

-- the kind of results with this number
unfoldable pub result_kind_of : ℕ → Result ResultKind UnknownResult
result_kind_of n =
    cond (eqb n 0) (Ok results.None)
    (cond (eqb n 1) (Ok results.Value)
    (cond (eqb n 2) (Ok results.Effect)
    (cond (eqb n 3) (Ok (results.Error kinds.CallArguments))
    (cond (eqb n 4) (Ok (results.Error kinds.UnOperator))
    (cond (eqb n 5) (Ok (results.Error kinds.BinOperator))
    (cond (eqb n 6) (Ok (results.Error kinds.MetaUnOperator))
    (cond (eqb n 7) (Ok (results.Error kinds.MetaBinOperator))
    (cond (eqb n 8) (Ok (results.Error kinds.ZeroDivisor))
    (cond (eqb n 9) (Ok (results.Error kinds.Error))
    (cond (eqb n 10) (Ok (results.Error kinds.Panic))
    (Err (record { number = n }))))))))))))
