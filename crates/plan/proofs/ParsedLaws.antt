-- How many arguments a frame gets once they are parsed, and what their list takes of the store.
use Rattle.std.specs.Prelude.{◌≡◌, refl, Bool, true, false, ◌+◌, ◌-◌, ◌≤◌, take, drop}
use Rattle.std.proofs.Common.{◌∙◌, length-drop, length-take-le}
use mathlib.Core.List.{List, [], ◌∷◌}
use native.Mathlib.Omega.{arith}
use Rattle.std.proofs.Math.ListN.{length, length-append}
use Rattle.cells.specs.declared.Cell.{Cell}
use Rattle.image.specs.Records.{if?}
use Rattle.machine.specs.Machine.{Object, list, used, cost, parse}
use Rattle.machine.proofs.Store.{used_append}
use Rattle.plan.specs.Plans.{taken_count, listed_cells, Enough}
use Rattle.plan.specs.declared.Params.{Params}

pub parsed_count : (p : Params) (args : List Cell) (s : List Object) → Enough p (length args) → length (parse p.variadic p.count args s).args ≡ taken_count p (length args)
unfolding parse taken_count
parsed_count p args s h = by p.variadic h
  where
    by : (b : Bool) → (b ≡ true → p.count ≤ length args) → length (parse b p.count args s).args ≡ if? b (p.count + 1) (length args)
    by true h = length-append (take p.count args) _ ∙ omega (arith, length-take-le p.count args (h refl))
    by false h = refl

pub parsed_used : (p : Params) (args : List Cell) (s : List Object) → used (parse p.variadic p.count args s).store ≡ used s + listed_cells p (length args)
unfolding parse listed_cells used cost
parsed_used p args s = by p.variadic
  where
    by : (b : Bool) → used (parse b p.count args s).store ≡ used s + if? b (1 + (length args - p.count)) 0
    by true = used_append s (list (drop p.count args) ∷ []) ∙ omega (arith, length-drop p.count args)
    by false = omega arith
