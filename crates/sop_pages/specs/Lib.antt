pub mod Cells
pub mod Pages
pub mod Slots
pub mod Moves
