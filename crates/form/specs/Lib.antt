-- The form of memory as the code tests it, and the entry of a call.
pub mod Entry
pub mod Objects
pub mod Frames
pub mod States
pub mod EntryLaws
