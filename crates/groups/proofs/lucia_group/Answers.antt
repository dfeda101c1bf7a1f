-- `groups::lucia_group` meets its contract: laws of NeedLaws and GroupLaws, with the facts in hand given by their paths. Assumes nothing.
use native.Mathlib.Omega.{arith}
use mathlib.Core.Path.{refl}
use Rattle.groups.specs.NeedLaws.{lucia_some, lucia_base, lucia_handle, lucia_slices, lucia_finishes}
use Rattle.groups.specs.GroupLaws.{lucia_groups}
use Rattle.groups.proofs.lucia_group.Goals as goal

pub open-g-requires : goal.open-g-requires
open-g-requires c = lucia_base c.requires.0 refl

pub number-handle-requires : goal.number-handle-requires
number-handle-requires c = omega (arith, lucia_base c.requires.0 refl)

pub number-code-requires : goal.number-code-requires
number-code-requires c = lucia_handle c.requires.0 refl c.open-g.ensures.0 c.number-handle.ensures

pub run_slice-s-requires : goal.run_slice-s-requires
run_slice-s-requires c = lucia_slices c.requires.0 refl c.open-g.ensures.0 c.number-handle.ensures c.number-code.ensures

pub finish-requires : goal.finish-requires
finish-requires c = lucia_finishes c.requires.0 refl c.open-g.ensures.0 c.number-handle.ensures c.number-code.ensures c.run_slice-s.ensures

pub returns : goal.returns
returns c = lucia_groups (lucia_some c.requires.0) refl c.open-g.ensures.0 c.number-handle.ensures c.number-code.ensures c.run_slice-s.ensures c.finish.ensures
