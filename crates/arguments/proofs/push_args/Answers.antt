-- `arguments::push_args` meets its contract: the list of the rest is pushed behind the first ones. Assumes nothing.
use Rattle.arguments.specs.Laws.{first_fits, last_fits, all_fits, pushes_variadic, pushes_all}
use Rattle.arguments.proofs.push_args.Goals as goal

pub push_from-h-requires : goal.push_from-h-requires
push_from-h-requires c = let e = c.requires in
    first_fits _ c.if-p.true e.0 e.1

pub push-requires : goal.push-requires
push-requires c = search last_fits

pub returns-then-p : goal.returns-then-p
returns-then-p c = pushes_variadic c.if-p.true c.push_from-h.ensures c.push.ensures.0 (rw c.new.ensures at c.push.ensures.1)

pub push_from-requires : goal.push_from-requires
push_from-requires c = let e = c.requires in
    all_fits _ _ c.if-p.false e.0 c.room.ensures

pub returns : goal.returns
returns c = search pushes_all
