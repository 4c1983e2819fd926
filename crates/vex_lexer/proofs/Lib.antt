pub mod Longest
pub mod Steps
pub mod Runs
pub mod Closings
pub mod Numbers
pub mod Rows
pub mod Ascii
pub mod TokenKinds
pub mod Unescaping
pub mod Scanned
mod Examples
