-- What an answer does to its callback's frame, and the laws of it.
pub mod Answered
pub mod Different
pub mod Frames
pub mod LayLaws
pub mod PutLaws
