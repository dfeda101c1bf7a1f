-- What the opcodes 0 to 7 do to their frame.
pub mod Loads
