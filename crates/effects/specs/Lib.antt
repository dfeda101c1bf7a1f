-- Effects: one law for each answer.
pub mod Effects
