-- `asks::named_in` meets its contract. Assumes nothing.
use borrow.Author.Rules.{rules}
use Rattle.asks.specs.Named.{used_lent, named_unknown, named_none, named_there, named_constant}
use Rattle.std.proofs.Common.{ap, not}
use Rattle.image.specs.Layout.{flat}
use Rattle.asks.proofs.named_in.Goals as goal

pub payload-below-requires : goal.payload-below-requires
payload-below-requires c = search (rules, c.requires.0)

pub invariant_of-objects : goal.invariant_of-objects
invariant_of-objects c = let a = c.args in record { inside = used_lent a.state.now a.store.now c.lent.ensures c.payload-below.ensures c.requires.1 }

pub returns-then-not-value_fits : goal.returns-then-not-value_fits
returns-then-not-value_fits c = let a = c.args in let p = a.program.now in
    named_unknown p.image.now (flat p.rows.now) p.constants.now p.inner.now p.codes a.state.now a.store.now a.v c.lent.ensures c.payload-below.ensures c.value_fits.ensures (ap not c.if-not-value_fits.true)

pub returns-then-not-names_constant : goal.returns-then-not-names_constant
returns-then-not-names_constant c = let a = c.args in let p = a.program.now in
    named_none p.image.now (flat p.rows.now) p.constants.now p.inner.now p.codes a.state.now a.store.now a.v c.lent.ensures c.payload-below.ensures c.value_fits.ensures (ap not c.if-not-value_fits.false) c.names_constant.ensures (ap not c.if-not-names_constant.true)

pub constant-c-requires : goal.constant-c-requires
constant-c-requires c = let a = c.args in let p = a.program.now in
    (search rules, named_there p.image.now (flat p.rows.now) p.constants.now p.inner.now p.codes a.state.now a.store.now a.v c.lent.ensures c.payload-below.ensures c.value_fits.ensures (ap not c.if-not-value_fits.false) c.names_constant.ensures (ap not c.if-not-names_constant.false))

pub returns : goal.returns
returns c = let a = c.args in let p = a.program.now in
    named_constant p.image.now (flat p.rows.now) p.constants.now p.inner.now p.codes a.state.now a.store.now a.v c.lent.ensures c.payload-below.ensures c.value_fits.ensures (ap not c.if-not-value_fits.false) c.names_constant.ensures (ap not c.if-not-names_constant.false) c.constant-c.ensures
