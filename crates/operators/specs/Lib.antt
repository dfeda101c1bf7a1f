-- What an operator computes and leaves: one law for each answer.
pub mod Numbers
pub mod Operated
pub mod Computing
pub mod Operating
