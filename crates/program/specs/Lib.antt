pub mod Parts
pub mod Looks
pub mod Effects
pub mod Samples
