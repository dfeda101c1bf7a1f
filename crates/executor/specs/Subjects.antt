-- A value that comes as two numbers, in a start and in an answer.
use Rattle.std.specs.Prelude.{◌≡◌, List, ℕ}
use Rattle.std.proofs.Common.{subst}
use Rattle.cells.specs.declared.Cell.{Cell}
use Rattle.asks.specs.Asks.{cell_of}
use Rattle.turns.specs.Turned.{StartCalled, AnswerCalled}

module _ (low high : ℕ) {v : Cell} (e : v ≡ cell_of low high) {image args : List ℕ} {r : ℕ} {state live store state' live' store' : List ℕ} where
  pub start_of : StartCalled image v args r state live store state' live' store' → StartCalled image (cell_of low high) args r state live store state' live' store'
  start_of s = subst (λ (f : Cell). StartCalled image f args r state live store state' live' store') e s

  pub answer_of_lem : {kind word : ℕ} {handlers fuel fuel' : List ℕ} → AnswerCalled image kind word v args handlers r state live store fuel state' live' store' fuel'
      → AnswerCalled image kind word (cell_of low high) args handlers r state live store fuel state' live' store' fuel'
  answer_of_lem {kind} {word} {handlers} {fuel} {fuel'} s = subst (λ (f : Cell). AnswerCalled image kind word f args handlers r state live store fuel state' live' store' fuel') e s
