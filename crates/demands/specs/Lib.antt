-- Demand 3 of the exported functions: what they are as calls of a host and what is claimed of them (Called), and the words of its laws.
pub mod Called
pub mod CalledLaws
