-- Laws of opcodes 40 to 51.
pub mod Ends
pub mod Jumps
pub mod Effects
pub mod Registers
