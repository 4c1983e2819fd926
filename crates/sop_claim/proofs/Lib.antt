pub mod Rests
pub mod Sums
pub mod Keeps
pub mod Runs
pub mod Steps
