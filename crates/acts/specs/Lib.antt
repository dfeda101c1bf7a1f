-- A plan judged and carried out.
pub mod Acted
pub mod Left
pub mod Apart
pub mod ActedLaws
pub mod Started
pub mod Eased
pub mod Alike
pub mod BusyLaws
pub mod ThrowLaws
pub mod Operands
pub mod Received
