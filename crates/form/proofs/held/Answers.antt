-- `form::held` meets its contract. Assumes nothing.
use Rattle.form.specs.EntryLaws.{held_other, held_fits, held_not}
use Rattle.form.proofs.held.Goals as goal

pub returns-then-tag-ne-LOADED : goal.returns-then-tag-ne-LOADED
returns-then-tag-ne-LOADED c = held_other _ _ _ _ c.tag.ensures c.if-tag-ne-LOADED.true

pub returns-then-in_form : goal.returns-then-in_form
returns-then-in_form c = let a = c.args in held_fits _ a.state.now a.live.now a.store.now c.tag.ensures c.if-tag-ne-LOADED.false c.lent.ensures c.lent-2.ensures c.in_form.ensures c.if-in_form.true

pub returns : goal.returns
returns c = let a = c.args in held_not _ a.state.now a.live.now a.store.now c.tag.ensures c.if-tag-ne-LOADED.false c.lent.ensures c.lent-2.ensures c.in_form.ensures c.if-in_form.false
