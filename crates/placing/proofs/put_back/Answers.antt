-- `placing::put_back` meets its contract: `Fits` has the numbers, `resumed` the frames. Assumes nothing.
use mathlib.Core.Path.{refl}
use native.Mathlib.Omega.{arith}
use Rattle.moves.specs.Objects.{open_fits, back_fits, resumed}
use Rattle.placing.proofs.put_back.Goals as goal

pub kept-g-requires : goal.kept-g-requires
kept-g-requires c = let p = c.requires in open_fits p.0 refl p.1

pub end-requires : goal.end-requires
end-requires c = let p = c.requires in omega (arith, back_fits p.0 refl p.1 c.kept-g.ensures.0)

pub copy-requires : goal.copy-requires
copy-requires c = let p = c.requires in
    let f = back_fits p.0 refl p.1 c.kept-g.ensures.0 in
    (omega (arith, c.end.ensures, f), omega (arith, c.end.ensures, f))

pub overflow_add-at : goal.overflow_add-at
overflow_add-at c = let p = c.requires in
    omega (arith, back_fits p.0 refl p.1 c.kept-g.ensures.0)

pub land-requires : goal.land-requires
land-requires c = let p = c.requires in
    (omega (arith, back_fits p.0 refl p.1 c.kept-g.ensures.0, c.copy.auto.to), c.kept-g.ensures.1)

pub returns : goal.returns
returns c = resumed refl c.requires.1 c.kept-g.ensures.0 c.end.ensures c.copy.ensures c.land.ensures
