-- Captures: what the contracts say, and one law for each answer.
pub mod Entered
pub mod EnteredLaws
pub mod CaptureLaws
