-- `form::enter` meets its contract. Assumes nothing.
use native.Mathlib.Omega.{arith}
use mathlib.Core.Path.{◌∙◌, ap}
use Rattle.std.proofs.lemmas.Result.{err_from_is_err_and}
use Rattle.image.proofs.RowLaws.{rows_long}
use Rattle.form.specs.Entry.{held_answer}
use Rattle.form.specs.EntryLaws.{filled_is, reads_low, enters_block, enters_refused, enters_not, enters_accepted}
use Rattle.form.proofs.enter.Goals as goal

pub returns-then-state-ne8256 : goal.returns-then-state-ne8256
returns-then-state-ne8256 c = enters_block _ _ _ _ _ _ _ c.if-state-ne8256.true

pub filled-program-requires : goal.filled-program-requires
filled-program-requires c =
    let l = reads_low c.read_image.ensures c.in_ok-sizes.was in
    record {
      codes = l.codes;
      rows = rows_long c.read_image.new.rows (omega (arith, c.requires, c.read_image.auto.rows));
      constants = omega (arith, c.requires, l.used);
      inner = omega (arith, c.requires, l.codes, l.kept);
    }

pub returns-in_err-sizes : goal.returns-in_err-sizes
returns-in_err-sizes c =
    let p = err_from_is_err_and c.from_residual.result c.from_residual.ensures.1 in
    rw (p.1, p.2) (enters_refused _ _ _ c.read_image.ensures c.if-state-ne8256.false c.in_err-sizes.was)

pub returns-in_err-held : goal.returns-in_err-held
returns-in_err-held c =
    let h = c.held.ensures ∙ ap (λ P. held_answer P c.args.state.now c.args.live.now c.args.store.now) (filled_is c.filled-program.ensures.0 c.filled-program.ensures.2) in
    let p = err_from_is_err_and c.from_residual-in_err-held.result c.from_residual-in_err-held.ensures.1 in
    rw (p.1, p.2) (enters_not _ _ _ c.read_image.ensures c.if-state-ne8256.false c.in_ok-sizes.was (rw c.in_err-held.was at h))

pub returns : goal.returns
returns c =
    let h = c.held.ensures ∙ ap (λ P. held_answer P c.args.state.now c.args.live.now c.args.store.now) (filled_is c.filled-program.ensures.0 c.filled-program.ensures.2) in
    enters_accepted _ _ _ c.read_image.ensures c.if-state-ne8256.false c.in_ok-sizes.was (rw c.in_ok-held.was at h)
