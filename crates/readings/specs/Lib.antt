-- What the functions that read do to cells (Readings), and that it is what the machine's definitions say (Answers).
pub mod Readings
pub mod ReadingLaws
pub mod Lines
pub mod Answers
