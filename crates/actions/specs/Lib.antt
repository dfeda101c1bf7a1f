-- What is carried out, and one law for each answer.
pub mod Acted
pub mod Tables
pub mod Moved
pub mod Carried
