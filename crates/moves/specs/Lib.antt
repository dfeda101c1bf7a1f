-- The moves of the live stack and the store: the frame at the top, its handlers, frames of any kind, objects, where frames begin.
pub mod Runs
pub mod Handlers
pub mod Frames
pub mod Objects
pub mod Starts
