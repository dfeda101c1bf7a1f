-- Demand 3 of the exported functions holds (Theorem); laws of their calls, and of memory that is lent longer.
pub mod CalledLaws
pub mod Longer
pub mod Theorem
