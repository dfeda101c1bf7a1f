-- What keeps its length, and its bytes past whole cells, does so over two moves, and over none.
use Rattle.std.specs.Prelude.{refl, List, ℕ}
use Rattle.std.proofs.Common.{◌∙◌}
use Rattle.plan.specs.Rest.{Same}

pub same_refl : (s : List ℕ) → Same s s
same_refl s = record { rest = refl; len = refl }

pub same_join : {a b c : List ℕ} → Same a b → Same b c → Same a c
same_join s t = record { rest = t.rest ∙ s.rest; len = t.len ∙ s.len }
