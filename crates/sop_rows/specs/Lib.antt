pub mod Marking
pub mod Both
pub mod Parts
pub mod Laws
