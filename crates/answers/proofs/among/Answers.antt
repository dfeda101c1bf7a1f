-- `answers::among` meets its contract. Assumes nothing.
use Rattle.std.proofs.Common.{rules, tests, true, false}
use Rattle.std.proofs.lemmas.Iterator.{YieldsList-from_range, cases_from_any}
use Prim.Native.Nat.{ℕ}
use native.Mathlib.Omega.{arith}
use Rattle.cells.specs.Cells.{cells}
use Rattle.scan.specs.Tables.{program_of}
use Rattle.answers.specs.Different.{Equal, among_any}
use Rattle.answers.proofs.among.Goals as goal

pub returns : goal.returns
returns c =
    let P = program_of c.args.program.now in
    let kept = cells c.args.kept.now in
    among_any P kept c.args.n c.args.e _
    (cases_from_any {v = λ (x : ℕ). x} _ _ _ (Equal P kept c.args.n c.args.e true) (Equal P kept c.args.n c.args.e false) c.any.ensures.ran
    (YieldsList-from_range 0 c.args.n c.args.n (cc) (omega arith)) (λ x q k. search (rules, tests)) (λ x q k. search (rules, tests)))
