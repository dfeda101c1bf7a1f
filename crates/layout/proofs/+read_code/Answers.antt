-- What is left of the codes in a code is the whole, from where the loop began; `entered` joins that to the entry.
use Rattle.std.proofs.Common.{refl, arith}
use Rattle.std.proofs.lemmas.Result.{err_from_is_err_and}
use Rattle.image.proofs.RowLaws.{same_length}
use Rattle.layout.specs.ImageLaws.{passed}
use Rattle.layout.specs.Reads.{entered, reads_broken, reading_first, reading_refused, reading_open, reading_lost, reading_next, reading_finishable, reading_ends}
use Rattle.layout.proofs.+read_code.Goals as goal

pub loop-at-init : goal.loop-at-init
loop-at-init t c = reading_first _ _ _ _ _ _ _ _ c.parts_of-at.ensures (omega arith) refl

pub returns-in_err-enterable : goal.returns-in_err-enterable
returns-in_err-enterable t c =
    let n = entered c.begin.ensures c.in-Some.is _ c.requires c.parts_of-at.ensures (same_length _ _ c.begin.auto.rows) c.begin.auto.constants in
    let p = err_from_is_err_and c.from_residual.result c.from_residual.ensures.1 in
    rw (p.1, p.2) (reading_refused n c.loop-at.invariant c.loop-at-test.true c.enterable.ensures c.in_err-enterable.was)

pub after-end-requires : goal.after-end-requires
after-end-requires t c = (passed _ _ _ _ c.enterable.ensures c.in_ok-enterable.was).fits

pub overflow_cast-numbers : goal.overflow_cast-numbers
overflow_cast-numbers t c = omega (arith, (passed _ _ _ _ c.enterable.ensures c.in_ok-enterable.was).few)

pub overflow_sub-depth : goal.overflow_sub-depth
overflow_sub-depth t c = (passed _ _ _ _ c.enterable.ensures c.in_ok-enterable.was).deep

pub read_code-requires : goal.read_code-requires
read_code-requires t c =
    let n = entered c.begin.ensures c.in-Some.is _ c.requires c.parts_of-at.ensures (same_length _ _ c.begin.auto.rows) c.begin.auto.constants in (
      omega (arith, (passed _ _ _ _ c.enterable.ensures c.in_ok-enterable.was).deep),
      reading_open n c.loop-at.invariant c.loop-at-test.true c.enterable.ensures c.in_ok-enterable.was c.after-end.ensures,
    )

pub returns-in_err-now : goal.returns-in_err-now
returns-in_err-now t c =
    let n = entered c.begin.ensures c.in-Some.is _ c.requires c.parts_of-at.ensures (same_length _ _ c.begin.auto.rows) c.begin.auto.constants in
    let p = err_from_is_err_and c.from_residual-in_err-now.result c.from_residual-in_err-now.ensures.1 in
    rw (p.1, p.2) (reading_lost n c.loop-at.invariant c.loop-at-test.true c.enterable.ensures c.in_ok-enterable.was c.after-end.ensures c.read_code.ensures c.in_err-now.was)

pub loop-at-preserved : goal.loop-at-preserved
loop-at-preserved t c =
    let n = entered c.begin.ensures c.in-Some.is _ c.requires c.parts_of-at.ensures (same_length _ _ c.begin.auto.rows) c.begin.auto.constants in
    reading_next n c.loop-at.invariant c.loop-at-test.true c.enterable.ensures c.in_ok-enterable.was c.after-end.ensures c.read_code.ensures c.in_ok-now.was (same_length _ _ c.read_code.auto.rows) c.read_code.auto.constants c.read_code.auto.inner

pub returns-in_default : goal.returns-in_default
returns-in_default t c = reads_broken c.begin.ensures _ _ c.in_default.is

pub returns : goal.returns
returns t c =
    let n = entered c.begin.ensures c.in-Some.is _ c.requires c.parts_of-at.ensures (same_length _ _ c.begin.auto.rows) c.begin.auto.constants in
    reading_ends n c.loop-at.invariant c.loop-at-test.false c.finish.ensures

pub finish-requires : goal.finish-requires
finish-requires t c =
    let n = entered c.begin.ensures c.in-Some.is _ c.requires c.parts_of-at.ensures (same_length _ _ c.begin.auto.rows) c.begin.auto.constants in
    reading_finishable n c.loop-at.invariant
