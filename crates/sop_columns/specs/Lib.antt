pub mod Names
pub mod Lists
pub mod Fitted
pub mod Values
pub mod Bits
