-- How memory holds a machine while a call runs, what a plan does to it, and a frame that runs: what the contracts above say.
pub mod Rest
pub mod Plans
pub mod Searches
pub mod Parsed
pub mod Inside
pub mod Kinds
