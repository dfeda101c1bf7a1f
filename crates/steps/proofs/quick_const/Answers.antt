-- `steps::quick_const` meets its contract. Assumes nothing.
use mathlib.Core.Path.{refl}
use native.Mathlib.Omega.{arith}
use Rattle.steps.specs.Families.{const_looks, const_loads}
use Rattle.steps.specs.Quickly.{quick_int, quick_other}
use Rattle.image.specs.Layout.{flat}
use Rattle.steps.proofs.quick_const.Goals as goal

pub constant-c-requires : goal.constant-c-requires
constant-c-requires c = const_looks c.args.program.now.image.now (flat c.args.program.now.rows.now) c.args.program.now.constants.now c.args.program.now.inner.now c.args.program.now.codes c.requires

pub load_const-requires : goal.load_const-requires
load_const-requires c = const_loads c.args.program.now.image.now (flat c.args.program.now.rows.now) c.args.program.now.constants.now c.args.program.now.inner.now c.args.program.now.codes c.requires c.constant-c.ensures

pub returns-then-c : goal.returns-then-c
returns-then-c c = quick_int c.args.program.now.image.now (flat c.args.program.now.rows.now) c.args.program.now.constants.now c.args.program.now.inner.now c.args.program.now.codes c.requires c.constant-c.ensures (λ e. omega (arith, c.if-c.true, e)) refl c.load_const.ensures c.quick_next.ensures

pub returns : goal.returns
returns c = quick_other
