-- How memory holds a world: what it is written as, what is read off it, and the test of its form.
pub mod Layout
pub mod View
pub mod Tests
pub mod Reads
pub mod Lists
pub mod FrameTests
pub mod FrameLaws
pub mod StoreLaws
pub mod StateLaws
