-- What is made, and one law for each answer.
pub mod Made
pub mod Lists
pub mod Globals
pub mod Closures
