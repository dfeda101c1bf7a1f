-- `layout::finish` meets its contract. Assumes nothing.
use Rattle.std.proofs.Common.{◌≡◌, length, rules, arith}
use Rattle.image.proofs.RowLaws.{row_within}
use Rattle.layout.specs.Reads.{copying_ends}
use Rattle.layout.proofs.finish.Goals as goal

pub offset_bounds-rows-k : goal.offset_bounds-rows-k
offset_bounds-rows-k c = let l = row_within _ _ c.requires.row in search rules

pub slice_copy_out-row : goal.slice_copy_out-row
slice_copy_out-row c = row_within _ _ c.requires.row

pub offset_bounds-rows-k-2 : goal.offset_bounds-rows-k-2
offset_bounds-rows-k-2 c = let l = row_within _ _ c.requires.row in search rules

pub bounds-rows-k : goal.bounds-rows-k
bounds-rows-k c = row_within _ _ c.requires.row

pub returns : goal.returns
returns c =
    let e : c.loop-i.i ≡ length c.args.numbers.now = omega (arith, c.loop-i.auto.i-end, c.loop-i-test.false) in
    copying_ends (rw e at c.loop-i.invariant) _ _ c.requires
