-- `steps::load_const` meets its contract. Assumes nothing.
use mathlib.Core.Path.{refl}
use Rattle.steps.specs.Families.{const_looks, const_loads, inner_looks, closable, closure_steps, const_steps}
use Rattle.image.specs.Layout.{flat}
use Rattle.steps.proofs.load_const.Goals as goal

pub constant-c-requires : goal.constant-c-requires
constant-c-requires c = const_looks c.args.program.now.image.now (flat c.args.program.now.rows.now) c.args.program.now.constants.now c.args.program.now.inner.now c.args.program.now.codes c.requires

pub inner_code-k-requires : goal.inner_code-k-requires
inner_code-k-requires c = inner_looks c.args.program.now.image.now (flat c.args.program.now.rows.now) c.args.program.now.constants.now c.args.program.now.inner.now c.args.program.now.codes c.requires c.constant-c.ensures c.if-c.true c.content.ensures c.le16-j.ensures

pub make_closure-requires : goal.make_closure-requires
make_closure-requires c = closable c.args.program.now.image.now (flat c.args.program.now.rows.now) c.args.program.now.constants.now c.args.program.now.inner.now c.args.program.now.codes c.requires c.constant-c.ensures c.if-c.true c.content.ensures c.le16-j.ensures c.inner_code-k.ensures

pub returns-then-c : goal.returns-then-c
returns-then-c c = closure_steps c.args.program.now.image.now (flat c.args.program.now.rows.now) c.args.program.now.constants.now c.args.program.now.inner.now c.args.program.now.codes c.constant-c.ensures c.if-c.true c.content.ensures c.le16-j.ensures c.inner_code-k.ensures c.make_closure.ensures c.from_made.ensures

pub load_const-requires : goal.load_const-requires
load_const-requires c = const_loads c.args.program.now.image.now (flat c.args.program.now.rows.now) c.args.program.now.constants.now c.args.program.now.inner.now c.args.program.now.codes c.requires c.constant-c.ensures

pub returns : goal.returns
returns c = const_steps c.args.program.now.image.now (flat c.args.program.now.rows.now) c.args.program.now.constants.now c.args.program.now.inner.now c.args.program.now.codes c.constant-c.ensures c.if-c.false refl c.load_const.ensures c.from_next.ensures
