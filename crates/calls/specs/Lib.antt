-- What calls, performs, throws and returns are asked with, and the laws of their returns.
pub mod Called
pub mod Performing
pub mod Calling
