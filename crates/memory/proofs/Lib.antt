-- Laws: the test reads no more than the view, and accepts exactly what a machine in form is written as (Exact).
pub mod Lists
pub mod FrameTests
pub mod FrameLaws
pub mod StoreLaws
pub mod StateLaws
pub mod Exact
-- The test on a sample.
pub mod Rows
