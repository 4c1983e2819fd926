pub mod Jobs
pub mod Hauls
pub mod Places
pub mod Doubles
