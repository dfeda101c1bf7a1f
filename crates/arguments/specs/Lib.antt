-- Parsed arguments in memory: one law for each answer.
pub mod Laws
