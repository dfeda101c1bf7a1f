-- Values and frames in form, as code.
pub mod Tables
pub mod Answers
pub mod Values
pub mod Passed
pub mod Heads
pub mod Frames
