-- `reader::filled` meets its contract. Assumes nothing.
use Rattle.std.proofs.Common.{◌≡◌, ◌*◌, take, arith, sym, ap, ◌∙◌, length-take-le}
use Rattle.image.proofs.RowLaws.{long_rows, flat_take}
use Rattle.image.specs.Program.{tab}
use Rattle.image.specs.Layout.{flat, code_at}
use Rattle.reader.proofs.filled.Goals as goal

pub slice_bounds-made-end : goal.slice_bounds-made-end
slice_bounds-made-end c = sym (length-take-le c.args.sizes.codes c.args.rows.now (omega (arith, c.requires.codes, long_rows _ c.requires.rows)))

pub returns : goal.returns
returns c =
    let m = c.made.ensures in
    let e : flat c.made.result.rows.now ≡ take (10 * c.args.sizes.codes) (flat c.args.rows.now) = ap flat m.1 ∙ flat_take c.args.sizes.codes c.args.rows.now in
    (m.0, m.4, λ i. tab (m.4 i) (code_at (m.0 i) (e i) (m.2 i) (m.3 i)))
