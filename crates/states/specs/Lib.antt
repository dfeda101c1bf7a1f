-- The moves of the state block: what they read of a world, and which world they leave.
pub mod Worlds
