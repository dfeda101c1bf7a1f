-- One opcode.
pub mod Stepped
pub mod SteppedLaws
pub mod Numbers
pub mod Needed
pub mod Families
pub mod Quickly
