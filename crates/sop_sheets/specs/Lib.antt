pub mod Primitives
pub mod Sheets
pub mod Remade
pub mod Together
pub mod Loaded
