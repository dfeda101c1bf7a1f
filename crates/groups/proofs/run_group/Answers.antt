-- `groups::run_group` meets its contract: laws of NeedLaws and GroupLaws, with the facts in hand given by their paths. Assumes nothing.
use native.Mathlib.Omega.{arith}
use mathlib.Core.Path.{refl, sym, ◌∙◌}
use Rattle.groups.specs.NeedLaws.{group_base, group_callback, group_tops}
use Rattle.groups.specs.GroupLaws.{group_empty, group_result, group_waits, group_pauses, group_performs, group_lucia}
use Rattle.groups.proofs.run_group.Goals as goal
use Rattle.groups.proofs.run_group.Goals.{then-turn-eq0-via-then-turn-eq0, then-turn-eq0-via-else-turn-eq0+then-has_result}

pub returns-then-turn-eq0 : goal.returns-then-turn-eq0
returns-then-turn-eq0 c = elim c.then-turn-eq0.branch [
  | then-turn-eq0-via-then-turn-eq0 w ↦ group_empty w.if-turn-eq0.true c.stands.ensures
  | then-turn-eq0-via-else-turn-eq0+then-has_result w ↦ group_result w.has_result.ensures w.if-has_result.true c.stands.ensures
]

pub tag-kind-requires : goal.tag-kind-requires
tag-kind-requires c = omega (arith, group_base c.requires c.if-turn-eq0.false c.has_result.ensures c.if-has_result.false refl)

pub returns-then-kind : goal.returns-then-kind
returns-then-kind c = group_waits c.if-turn-eq0.false c.has_result.ensures c.if-has_result.false refl c.tag-kind.ensures c.if-kind.true c.consume-fuel.ensures c.stands-then-kind.ensures

pub returns-then-turn-eq0-2 : goal.returns-then-turn-eq0-2
returns-then-turn-eq0-2 c = group_pauses c.if-turn-eq0.false c.has_result.ensures c.if-has_result.false refl c.tag-kind.ensures c.if-kind.false c.if-turn-eq0-2.true c.stands-then-turn-eq0-2.ensures

pub effect_callback-a-requires : goal.effect_callback-a-requires
effect_callback-a-requires c = group_callback c.requires c.if-turn-eq0.false c.has_result.ensures c.if-has_result.false refl (sym c.tag-kind.ensures ∙ c.if-kind-2.true)

pub returns-then-kind-2 : goal.returns-then-kind-2
returns-then-kind-2 c = group_performs c.if-turn-eq0.false c.has_result.ensures c.if-has_result.false refl c.tag-kind.ensures c.if-kind.false (omega (arith, c.if-turn-eq0-2.false)) c.if-kind-2.true c.effect_callback-a.ensures c.acted.ensures

pub lucia_group-requires : goal.lucia_group-requires
lucia_group-requires c = (group_tops c.requires c.if-turn-eq0.false c.has_result.ensures c.if-has_result.false refl (λ e. c.if-kind.false (c.tag-kind.ensures ∙ e)) (λ e. c.if-kind-2.false (c.tag-kind.ensures ∙ e)), omega (arith, c.if-turn-eq0-2.false))

pub returns : goal.returns
returns c = group_lucia c.if-turn-eq0.false c.has_result.ensures c.if-has_result.false refl c.tag-kind.ensures c.if-kind.false c.if-kind-2.false c.lucia_group.ensures
