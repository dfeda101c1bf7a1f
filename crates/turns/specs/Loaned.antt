-- What is sent, over whole loans: bytes behind what is used do not change.
use Rattle.std.specs.Prelude.{◌≡◌, List, ℕ, drop}
use Rattle.machine.specs.Values.{Program}
use Rattle.requests.specs.Sent.{Sent}
use Rattle.requests.specs.Asked.{SentWorld}
use Rattle.loans.specs.Loans.{front_live, front_store}

pub record SentLoans (P : Program) (s : Sent) (r : ℕ) (state live store state' live' store' : List ℕ) : Type 0 where
  pub sent : SentWorld P s r state (front_live live) (front_store store) state' (front_live live') (front_store store')
  pub behind_live : drop 65536 live' ≡ drop 65536 live
  pub behind_store : drop 1048576 store' ≡ drop 1048576 store
