-- A slice, tied to the run of the definition.
pub mod Follows
pub mod Sliced
pub mod SlicedLaws
pub mod Looping
