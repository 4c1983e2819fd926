mod Examples
pub mod Sums
pub mod Ordered
pub mod Scan
pub mod Grid
pub mod Asked
pub mod Reading
