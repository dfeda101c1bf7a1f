-- A start and an answer as calls.
pub mod Turned
pub mod Loaned
pub mod TurnLaws
