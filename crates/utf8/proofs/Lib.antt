-- Laws: of a first octet, and of a text; samples.
pub mod FirstLaws
pub mod Laws
pub mod Samples
