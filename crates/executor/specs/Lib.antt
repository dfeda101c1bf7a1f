pub mod Exports
pub mod Subjects
