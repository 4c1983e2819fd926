pub mod Arithmetic
pub mod Numbers
pub mod Numerals
pub mod Roots
