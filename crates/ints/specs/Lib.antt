-- What the contracts of `ints` cite, and a word of its laws.
pub mod Ints
pub mod Modulo
