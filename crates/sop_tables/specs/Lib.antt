pub mod Transposed
pub mod Tables
pub mod Fresh
pub mod Changes
pub mod Loaded
