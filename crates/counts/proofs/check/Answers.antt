-- `counts::check` meets its contract: the tests one after the other. Assumes nothing.
use Rattle.counts.specs.Judged.{refuses_frames, refuses_live, refuses_store, refuses_none}
use Rattle.counts.proofs.check.Goals as goal

pub returns-then-c-gt256 : goal.returns-then-c-gt256
returns-then-c-gt256 c = search refuses_frames

pub returns-then-c-live : goal.returns-then-c-live
returns-then-c-live c = search refuses_live

pub returns-then-c-store : goal.returns-then-c-store
returns-then-c-store c = search refuses_store

pub returns : goal.returns
returns c = search refuses_none
