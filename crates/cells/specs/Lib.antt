pub mod Tags
pub mod Le
pub mod Cells
pub mod CellsLaws
pub mod Moves
pub mod Parts
pub mod Rows
