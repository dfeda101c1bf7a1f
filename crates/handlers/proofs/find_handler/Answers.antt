-- `handlers::find_handler` meets its contract. Assumes nothing.
use Rattle.std.proofs.Common.{rules, tests, ◌≡◌, true, false, get_or, sym}
use Rattle.std.proofs.lemmas.Iterator.{first_from_Range}
use Rattle.cells.specs.Cells.{cells}
use Rattle.machine.specs.Values.{equal_effects}
use Rattle.moves.specs.Runs.{no_handler}
use Rattle.scan.specs.Tables.{program_of}
use Rattle.handlers.specs.Frames.{Has, finds_first}
use Rattle.handlers.proofs.find_handler.Goals as goal

pub returns-clause-finds : goal.returns-clause-finds
returns-clause-finds c w pre o =
    let P = program_of c.args.program.now in
    finds_first o _ (first_from_Range _ _ _ _
    (λ j. equal_effects P (get_or w.handlers j no_handler).effect c.args.e ≡ true)
    (λ j. equal_effects P (get_or w.handlers j no_handler).effect c.args.e ≡ false)
    c.find.ensures.ran
    (λ x q k. let h : Has P c.args.e c.args.g (cells c.args.live.now) x true = search (rules, tests) in sym (h.is w pre o))
    (λ x q k. let h : Has P c.args.e c.args.g (cells c.args.live.now) x false = search (rules, tests) in (search (rules, tests), sym (h.is w pre o))))
