-- Laws: of operands and of parts; `layout` agrees with `parse` (Agrees); what holds of an accepted image (Accepted); samples.
pub mod Operands
pub mod KindLaws
pub mod Parts
pub mod RowLaws
pub mod Agrees
pub mod Accepted
pub mod Samples
