-- `form::top_kind` meets its contract. Assumes nothing.
use native.Mathlib.Omega.{arith}
use Rattle.cells.specs.Cells.{cells}
use Rattle.form.specs.Frames.{top_above, top_none, top_result, top_is}
use Rattle.form.proofs.top_kind.Goals as goal

pub returns-then-count-eq0 : goal.returns-then-count-eq0
returns-then-count-eq0 c = top_none _ _ _ c.if-count-eq0.true

pub returns-then-res-ne0 : goal.returns-then-res-ne0
returns-then-res-ne0 c = top_result _ _ _ c.if-res-ne0.true

pub last_frame-top-requires : goal.last_frame-top-requires
last_frame-top-requires c = let a = c.args in (omega arith, omega (arith, top_above a.count (cells a.live.now) c.if-count-eq0.false))

pub tag-requires : goal.tag-requires
tag-requires c = let a = c.args in omega (arith, c.last_frame-top.ensures, top_above a.count (cells a.live.now) c.if-count-eq0.false)

pub returns : goal.returns
returns c = top_is _ _ _ c.if-count-eq0.false c.if-res-ne0.false (omega (arith, c.last_frame-top.ensures)) c.tag.ensures
