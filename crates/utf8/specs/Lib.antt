pub mod Utf8
pub mod First
pub mod Ascii
pub mod Laws
