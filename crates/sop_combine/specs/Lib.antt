pub mod Blast
pub mod GroupCreate
pub mod CopyToPoints
pub mod Combine
pub mod Marked
pub mod Steps
pub mod Cook
