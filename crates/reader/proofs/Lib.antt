-- Laws: what `all` answers over a range.
pub mod Ranges
