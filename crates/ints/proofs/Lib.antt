-- What the proofs of several functions cite; laws of the definitions, and rows of the test board.
pub mod Laws
pub mod Modulo
pub mod IntLaws
pub mod Rows
