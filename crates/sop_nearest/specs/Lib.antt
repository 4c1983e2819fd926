pub mod Places
pub mod PlainScan
pub mod Cells
