-- Where a run stands, by its code.
use Rattle.std.specs.Prelude.{◌≡◌, refl}
use Rattle.std.proofs.Common.{arith}
use Rattle.refusals.proofs.NumberLaws.{number_above, number_most}
use Rattle.groups.specs.declared.Stand.{Stand}
use Rattle.groups.specs.declared.Stand.TheVariants as stand
use Rattle.groups.specs.Grouped.{code_of}

-- only what goes on has the code 0
pub goes_on : (s : Stand) → code_of s ≡ 0 → s ≡ stand.GoesOn
goes_on stand.GoesOn e = refl
goes_on stand.Done e = absurd (omega (arith, e))
goes_on stand.OutOfFuel e = absurd (omega (arith, e))
goes_on stand.Paused e = absurd (omega (arith, e))
goes_on stand.Host e = absurd (omega (arith, e))
goes_on (stand.Refused o) e = absurd (omega (arith, number_above o, e))

-- and only the host's turn the code 103
pub waits_host : (s : Stand) → code_of s ≡ 103 → s ≡ stand.Host
waits_host stand.GoesOn e = absurd (omega (arith, e))
waits_host stand.Done e = absurd (omega (arith, e))
waits_host stand.OutOfFuel e = absurd (omega (arith, e))
waits_host stand.Paused e = absurd (omega (arith, e))
waits_host stand.Host e = refl
waits_host (stand.Refused o) e = absurd (omega (arith, number_most o, e))
