-- One law for each answer.
pub mod Errors
pub mod Constants
