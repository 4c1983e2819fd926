pub mod Limits
pub mod Request
pub mod Loads
pub mod Answer
pub mod Promise
pub mod Endings
