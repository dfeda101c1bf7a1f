-- `handlers::handles` meets its contract. Assumes nothing.
use Rattle.std.proofs.Common.{ap, ◌∙◌}
use Rattle.cells.specs.declared.Cell.{Cell}
use Rattle.machine.specs.Values.{equal_effects}
use Rattle.scan.specs.Tables.{program_of}
use Rattle.handlers.proofs.handles.Goals as goal

pub returns : goal.returns
returns c = record {
  is = λ w pre o. c.equal_effects.ensures ∙ ap (λ (x : Cell). equal_effects (program_of c.args.program.now) x c.args.e) (c.handler.ensures.0 w pre o);
}
