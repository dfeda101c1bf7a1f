-- Handlers of an effect: in a frame, and in the frames under the top.
pub mod Frames
pub mod Stacks
