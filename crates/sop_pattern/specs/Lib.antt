pub mod Words
pub mod Wildcard
pub mod Selection
pub mod Marks
pub mod Spelling
